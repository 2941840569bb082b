-- The definition asks for 0, and then for the row.
use borrow.Author.Tests.{ne_eqb}
use Rattle.classes.proofs.is_free_class_id.Goals as goal

pub returns-then-id-eq0 : goal.returns-then-id-eq0
returns-then-id-eq0 c = rw c.if-id-eq0.true

pub returns : goal.returns
returns c = rw (c.find_object-row.ensures, ne_eqb _ _ c.if-id-eq0.false)
