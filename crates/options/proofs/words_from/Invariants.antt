-- The measure is how many words are left; an option takes at least one.
use Rattle.std.specs.Prelude.{◌-◌}
use Rattle.options.proofs.words_from.Given as goal

abbrev pub invariant-loop-i : goal.invariant-loop-i
invariant-loop-i g l = Unit {0}

abbrev pub decreases-loop-i : goal.decreases-loop-i
decreases-loop-i g l = l.n - l.i
