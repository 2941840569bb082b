-- A byte below 128 is the whole prefix (`last`); else it is `groups`.
use native.Mathlib.Omega.{arith}
use mathlib.Core.Path.{sym}
use Rattle.prefix.specs.Laws.{last, later_most}
use Rattle.prefix.proofs.prefix_at.Goals as goal

pub returns-then-b-lt128 : goal.returns-then-b-lt128
returns-then-b-lt128 c = rw c.last_group.ensures (sym (last 0 _ _ _ (omega arith) (omega arith) 4 (omega arith) (omega arith)))

pub groups-r-requires : goal.groups-r-requires
groups-r-requires c = omega (arith, c.later_least.ensures, later_most c.args.setting)

pub returns : goal.returns
returns c = rw (c.groups-r.ensures, c.later_least.ensures)
