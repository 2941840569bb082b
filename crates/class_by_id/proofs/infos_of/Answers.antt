-- The definition asks what the code asks.
use borrow.Author.Tests.{lt-ltb, le-ltb}
use Rattle.class_by_id.proofs.infos_of.Goals as goal

pub returns-then-s-p : goal.returns-then-s-p
returns-then-s-p c = rw (lt-ltb _ _ c.if-s-p.true)

pub returns : goal.returns
returns c = rw (le-ltb _ _ c.if-s-p.false)
