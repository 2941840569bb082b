-- The loop keeps what closing the full objects will leave; each end of it is one law of `close`.
use mathlib.Core.Path.{◌≡◌}
use Prim.Native.Nat.{◌≤◌}
use Rattle.format.specs.Machine.{close}
use Rattle.frames.specs.Frames.{saved}
use Rattle.frames.proofs.settle.Given as goal

abbrev pub invariant-loop-depth : goal.invariant-loop-depth
invariant-loop-depth l = (l.depth ≤ l.m.depth) × (close l.m.top (saved l.frames l.m.depth) ≡ close l.top (saved l.frames l.depth))

abbrev pub decreases-loop-depth : goal.decreases-loop-depth
decreases-loop-depth l = l.depth
