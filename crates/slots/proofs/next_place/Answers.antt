-- The definition asks what the code asks.
use borrow.Author.Tests.{lt-ltb, le-ltb}
use Rattle.slots.proofs.next_place.Goals as goal

pub returns-then-p-s : goal.returns-then-p-s
returns-then-p-s c = rw (lt-ltb _ _ c.if-p-s.true)

pub returns : goal.returns
returns c = rw (le-ltb _ _ c.if-p-s.false)
