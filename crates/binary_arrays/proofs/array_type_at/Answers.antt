-- The definition asks what the code asks.
use borrow.Author.Tests.{lt-ltb, le-ltb, le-leb, lt-leb}
use Rattle.binary_arrays.proofs.array_type_at.Goals as goal

pub returns-then-s-at : goal.returns-then-s-at
returns-then-s-at c = rw (le-ltb _ _ c.if-s-at.true)

pub returns-then-kind-le2 : goal.returns-then-kind-le2
returns-then-kind-le2 c = rw (lt-ltb _ _ c.if-s-at.false, le-leb _ 2 c.if-kind-le2.true) c.rank_at.ensures

pub returns-then-kind-le5 : goal.returns-then-kind-le5
returns-then-kind-le5 c = rw (lt-ltb _ _ c.if-s-at.false, lt-leb _ 2 c.if-kind-le2.false, le-leb _ 5 c.if-kind-le5.true)

pub returns : goal.returns
returns c = rw (lt-ltb _ _ c.if-s-at.false, lt-leb _ 2 c.if-kind-le2.false, lt-leb _ 5 c.if-kind-le5.false)
