-- One law for one more byte, one for the end.
use Rattle.std.proofs.Common.{arith}
use Rattle.traces.specs.Laws.{hashed_more, hashed_all}
use Rattle.traces.proofs.bytes.Goals as goal

pub loop-b-preserved : goal.loop-b-preserved
loop-b-preserved c = hashed_more _ _ _ _ c.loop-b.invariant (omega arith) (rw c.from.ensures at c.stir-l.ensures)

pub returns : goal.returns
returns c = hashed_all _ _ _ c.loop-b.invariant (omega arith)
