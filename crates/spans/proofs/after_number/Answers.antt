-- The definition asks for the four bytes alone; a place past the end has none of them.
use native.Mathlib.Omega.{arith}
use borrow.Author.Tests.{le-leb, lt-leb}
use lib.ListN.{length}
use Prim.Native.Nat.{◌+◌}
use Rattle.spans.proofs.after_number.Goals as goal

pub returns-then-at-s-2 : goal.returns-then-at-s-2
returns-then-at-s-2 c = rw (le-leb _ _ c.if-at-s-2.true)

pub returns-else-at-s-2 : goal.returns-else-at-s-2
returns-else-at-s-2 c = rw (lt-leb _ _ c.if-at-s-2.false)

pub returns-else-at-s : goal.returns-else-at-s
returns-else-at-s c = rw (lt-leb (c.args.at + 4) (length c.args.s.now) (omega arith))
