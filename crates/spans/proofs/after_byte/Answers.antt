-- The definition asks what the code asks.
use borrow.Author.Tests.{lt-ltb, le-ltb}
use Rattle.spans.proofs.after_byte.Goals as goal

pub returns-then-at-s : goal.returns-then-at-s
returns-then-at-s c = rw (lt-ltb _ _ c.if-at-s.true)

pub returns : goal.returns
returns c = rw (le-ltb _ _ c.if-at-s.false)
