-- The owners that are counted and those that may still come; the measure is how many may.
use Prim.Native.Nat.{◌≤◌, ◌+◌, ◌-◌}
use mathlib.Core.Path.{◌≡◌}
use Rattle.members.specs.Members.{depth_from}
use Rattle.members.proofs.depth_of.Given as goal

abbrev pub invariant-loop-depth : goal.invariant-loop-depth
invariant-loop-depth l = (l.depth ≤ 64) × (depth_from 64 l.table l.owner ≡ l.depth + depth_from (64 - l.depth) l.table l.w)
