-- The definition asks whether the place has 32 bits.
use borrow.Author.Tests.{le-leb, lt-leb}
use Rattle.book.proofs.kept_at.Goals as goal

pub returns-then-end-gt4294967295 : goal.returns-then-end-gt4294967295
returns-then-end-gt4294967295 c = rw (lt-leb _ 4294967295 c.if-end-gt4294967295.true)

pub returns : goal.returns
returns c = rw (le-leb _ 4294967295 c.if-end-gt4294967295.false)
