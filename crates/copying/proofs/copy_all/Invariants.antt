-- The invariant: what is written and the copy of the rows still left are the whole copy; a run is short, since each row adds a word to it at most.
use Prim.Native.Nat.{◌≤◌, ◌-◌, ◌*◌}
use lib.ListN.{drop}
use Rattle.format.specs.Rows.{rows_of}
use Rattle.put.specs.Put.{Along}
use Rattle.pieces.specs.Copy.{copy_from, copy_of}
use Rattle.copying.proofs.copy_all.Given as goal

abbrev pub invariant-loop-i : goal.invariant-loop-i
invariant-loop-i l = (l.i ≤ l.n) × (l.w.count ≤ 4294967296 * l.i) × Along (copy_of l.anew l.s (rows_of l.n l.table)) (copy_from l.anew l.s (rows_of l.n l.table) l.i l.w (drop l.i (rows_of l.n l.table))) l.initial.out l.out l.at

abbrev pub decreases-loop-i : goal.decreases-loop-i
decreases-loop-i l = l.n - l.i
