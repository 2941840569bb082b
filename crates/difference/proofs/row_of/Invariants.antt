-- Invariant: no row before row i ends past the place.
use Prim.Native.Nat.{◌≤◌}
use Rattle.difference.specs.Difference.{row_holding}
use Rattle.difference.proofs.row_of.Given as goal

abbrev pub invariant-loop-i : goal.invariant-loop-i
invariant-loop-i l = l.i ≤ row_holding l.table l.end l.place
