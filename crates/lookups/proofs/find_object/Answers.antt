-- The answer of `find` at this sort.
use Rattle.format.specs.Rows.{object_row}
use Rattle.lookups.specs.Find.{id_of, is_of, named}
use Rattle.lookups.proofs.find_object.Goals as goal

pub returns : goal.returns
unfolding object_row named id_of is_of
returns c = c.find.ensures
