-- The invariant: all of s is text exactly when what is left of it behind the first n bytes is. The measure: the bytes left.
use Prim.Native.Nat.{◌≤◌, ◌-◌}
use mathlib.Core.Path.{◌≡◌}
use lib.ListN.{length, drop}
use Rattle.format.specs.Text.{well_formed}
use Rattle.text.proofs.plain.Given as goal

abbrev pub invariant-loop-n : goal.invariant-loop-n
invariant-loop-n l = (l.n ≤ length l.s) × (well_formed l.s ≡ well_formed (drop l.n l.s))

abbrev pub decreases-loop-n : goal.decreases-loop-n
decreases-loop-n l = length l.s - l.n
