-- The row and the type of the first member are what the callees promise.
use Rattle.class_by_id.proofs.of_class.Goals as goal

pub returns : goal.returns
returns c = rw (c.first_type-first.ensures, c.row_at-class.ensures)
