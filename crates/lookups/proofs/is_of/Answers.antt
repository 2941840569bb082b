-- The definition goes by the sorts, as the code does.
use mathlib.Core.Path.{refl}
use Rattle.lookups.specs.Find.{is_of}
use Rattle.lookups.proofs.is_of.Goals as goal

pub returns-in-Object : goal.returns-in-Object
unfolding is_of
returns-in-Object c = rw c.in-Object.is c.is_object.ensures

pub returns-in-Class : goal.returns-in-Class
unfolding is_of
returns-in-Class c = rw c.in-Class.is c.is_class.ensures

pub returns-in-Library : goal.returns-in-Library
unfolding is_of
returns-in-Library c = rw c.in-Library.is refl
