-- The definition asks for 0, and then for the sign.
use borrow.Author.Tests.{ne_eqb}
use Rattle.types.proofs.is_positive.Goals as goal

pub returns-then-n-eq0 : goal.returns-then-n-eq0
returns-then-n-eq0 c = rw c.if-n-eq0.true

pub returns : goal.returns
returns c = rw (c.is_negative-negative.ensures, ne_eqb _ _ c.if-n-eq0.false)
