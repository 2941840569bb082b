-- One law for each answer.
use Rattle.std.proofs.Common.{arith}
use Rattle.members.specs.Laws.{last_in, last_past}
use Rattle.members.proofs.last_of.Goals as goal

pub returns-in-Some : goal.returns-in-Some
returns-in-Some c = let w = c.in-Some.ensures in rw c.saturating_sub.ensures (last_in _ _ (omega arith))

pub returns-in-None : goal.returns-in-None
returns-in-None c = last_past _ _ (omega arith)
