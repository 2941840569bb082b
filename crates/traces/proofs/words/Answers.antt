-- One law for one more word, one for the end.
use Rattle.std.proofs.Common.{arith}
use Rattle.traces.specs.Laws.{hashed_more, hashed_all}
use Rattle.traces.proofs.words.Goals as goal

pub loop-w-preserved : goal.loop-w-preserved
loop-w-preserved c = hashed_more _ _ _ _ c.loop-w.invariant (omega arith) c.stir-l.ensures

pub returns : goal.returns
returns c = hashed_all _ _ _ c.loop-w.invariant (omega arith)
