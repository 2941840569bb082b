-- The formula is the count of groups; it answers nothing of use for 0, which has one group.
use native.Mathlib.Omega.{arith}
use mathlib.Core.Path.{sym}
use lib.Count.{leading_le}
use Rattle.prefix.specs.Groups.{groups_last, bytes_count}
use Rattle.prefix.proofs.prefix_len.Goals as goal

pub returns-then-n-eq0 : goal.returns-then-n-eq0
returns-then-n-eq0 c = rw (groups_last 4 c.args.n (omega arith))

pub overflow_sub-result : goal.overflow_sub-result
overflow_sub-result c = omega (arith, leading_le 32 c.args.n)

pub returns : goal.returns
returns c = sym (bytes_count _ (omega arith) (omega arith))
