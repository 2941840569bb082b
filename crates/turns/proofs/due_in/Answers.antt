-- Each arm is a clause of `due_of`.
use Rattle.turns.specs.Due.{due_of}
use Rattle.turns.proofs.due_in.Goals as goal

pub returns-in-Primitive : goal.returns-in-Primitive
unfolding due_of
returns-in-Primitive c = rw c.in-Primitive.is

pub returns-in-Text : goal.returns-in-Text
unfolding due_of
returns-in-Text c = rw c.in-Text.is

pub returns-in-Object : goal.returns-in-Object
unfolding due_of
returns-in-Object c = rw c.in-Object.is

pub returns-in-SystemClass : goal.returns-in-SystemClass
unfolding due_of
returns-in-SystemClass c = rw c.in-SystemClass.is

pub returns-in-Class : goal.returns-in-Class
unfolding due_of
returns-in-Class c = rw c.in-Class.is

pub returns-in-ObjectArray : goal.returns-in-ObjectArray
unfolding due_of
returns-in-ObjectArray c = rw c.in-ObjectArray.is

pub returns-in-StringArray : goal.returns-in-StringArray
unfolding due_of
returns-in-StringArray c = rw c.in-StringArray.is

pub returns-in-PrimitiveArray : goal.returns-in-PrimitiveArray
unfolding due_of
returns-in-PrimitiveArray c = rw c.in-PrimitiveArray.is
