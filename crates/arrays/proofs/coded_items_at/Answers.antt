-- What follows the code is a function by cases of what the code answers.
use Rattle.std.proofs.Common.{rules}
use Rattle.arrays.proofs.coded_items_at.Goals as goal

pub returns : goal.returns
returns c = rw (← c.code_at.ensures, c.in_ok-p.was, ← c.byte_at.ensures, ← c.primitive_of.ensures, ← c.coded_of-code.ensures) c.with_items.ensures

pub returns-in_err-p : goal.returns-in_err-p
returns-in_err-p c = rw (← c.code_at.ensures, c.in_err-p.was) (search rules)
