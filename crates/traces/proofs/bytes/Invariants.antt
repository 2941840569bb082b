-- Invariant: the lanes are the hash of the first bytes.
use Rattle.traces.specs.Laws.{Hashed}
use Rattle.traces.proofs.bytes.Given as goal

abbrev pub invariant-loop-b : goal.invariant-loop-b
invariant-loop-b l = Hashed l.out l.b-index l.l
