-- Where there is room the groups are laid over the front, else nothing is: the two ways that a writer ends.
use native.Mathlib.Omega.{arith}
use Rattle.prefix.specs.Writing.{written_none, written_all}
use Rattle.prefix.proofs.put_prefix.Goals as goal

pub returns-then-out-len : goal.returns-then-out-len
returns-then-out-len c = rw c.prefix_len-len.ensures (written_none _ _ (omega arith))

pub returns : goal.returns
returns c = rw (c.prefix_len-len.ensures, c.put_groups.ensures) (written_all _ _ (omega arith))
