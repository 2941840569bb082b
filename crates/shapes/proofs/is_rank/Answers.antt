-- The definition asks for the array type, and then for both bounds.
use borrow.Author.Tests.{eq-eqb, ne_eqb, le-leb, lt-leb}
use Rattle.shapes.proofs.is_rank.Goals as goal

pub returns-then-kind-ne2 : goal.returns-then-kind-ne2
returns-then-kind-ne2 c = rw (ne_eqb _ _ c.if-kind-ne2.true)

pub returns-then-rank-lt-LEAST_RANK : goal.returns-then-rank-lt-LEAST_RANK
returns-then-rank-lt-LEAST_RANK c = rw (eq-eqb _ _ c.if-kind-ne2.false, lt-leb 2 _ c.if-rank-lt-LEAST_RANK.true)

pub returns : goal.returns
returns c = rw (eq-eqb _ _ c.if-kind-ne2.false, le-leb 2 _ c.if-rank-lt-LEAST_RANK.false)
