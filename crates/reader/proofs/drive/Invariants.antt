-- The invariant: what is left to run gives the whole (`Runs`). The measure is what is left of the stream, which each step shortens.
use mathlib.Core.Path.{◌≡◌}
use Prim.Native.Nat.{◌-◌}
use lib.ListN.{length}
use Rattle.format.specs.Terms.{terms}
use Rattle.format.specs.Rows.{room_of}
use Rattle.format.specs.Machine.{stream_of}
use Rattle.reader.specs.Loop.{Runs}
use Rattle.reader.proofs.drive.Given as goal

abbrev pub invariant-loop-n : goal.invariant-loop-n
invariant-loop-n l = (length l.table ≡ length l.initial.table) × Runs (terms l.setting l.book) l.s (room_of l.initial.table) (stream_of (terms l.setting l.book) l.s (room_of l.initial.table)) l.table l.frames l.m

abbrev pub decreases-loop-n : goal.decreases-loop-n
decreases-loop-n l = length l.s - l.m.at
