-- Invariant: the pass is at row i (`Passing`).
use lib.ListN.{length}
use Rattle.format.specs.Rows.{rows_of}
use Rattle.marks.specs.Marks.{place_one}
use Rattle.marking.specs.Sweeps.{Passing}
use Rattle.marking.proofs.place_all.Given as goal

abbrev pub invariant-loop-i : goal.invariant-loop-i
invariant-loop-i l = Passing (place_one l.s) l.n l.initial.table (rows_of l.n l.initial.table) l.i (length l.table) (rows_of l.n l.table)
