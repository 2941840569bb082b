-- Invariant: the lanes are the hash of the first words.
use Rattle.traces.specs.Laws.{Hashed}
use Rattle.traces.proofs.words.Given as goal

abbrev pub invariant-loop-w : goal.invariant-loop-w
invariant-loop-w l = Hashed l.table l.w-index l.l
