-- The place after all details is that after those left; the measure is how many are left.
use Prim.Native.Nat.{◌≤◌, ◌-◌}
use mathlib.Core.Path.{◌≡◌}
use Rattle.members.specs.Members.{detail_from}
use Rattle.members.proofs.detail_of.Given as goal

abbrev pub invariant-loop-i : goal.invariant-loop-i
invariant-loop-i l = (l.i ≤ l.k) × (detail_from l.k l.s l.types 0 l.details ≡ detail_from (l.k - l.i) l.s l.types l.i l.at)
