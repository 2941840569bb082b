-- The place stays within the text; the measure is what is left.
use Rattle.std.specs.Prelude.{length, ◌-◌, ◌≤◌}
use Rattle.spelling.proofs.text.Given as goal

abbrev pub invariant-loop-at : goal.invariant-loop-at
invariant-loop-at l = l.at ≤ length l.s

abbrev pub decreases-loop-at : goal.decreases-loop-at
decreases-loop-at l = length l.s - l.at
