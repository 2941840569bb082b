-- The definition asks for the sign, and then for an object of this number.
use Rattle.arrays.proofs.is_free_id.Goals as goal

pub returns-then-is_positive : goal.returns-then-is_positive
returns-then-is_positive c = rw (c.find_object.ensures, ← c.is_positive.ensures, c.if-is_positive.true)

pub returns : goal.returns
returns c = rw (← c.is_positive.ensures, c.if-is_positive.false)
