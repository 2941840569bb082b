-- Invariant: the pass is at row i (`Passing`).
use lib.ListN.{length}
use Rattle.format.specs.Rows.{rows_of}
use Rattle.marks.specs.Marks.{pass, number_one}
use Rattle.marking.specs.Sweeps.{Passing}
use Rattle.marking.proofs.number_all.Given as goal

abbrev pub invariant-loop-i : goal.invariant-loop-i
invariant-loop-i l = Passing number_one l.n l.initial.table (pass 0 (rows_of l.n l.initial.table)) l.i (length l.table) (pass l.last.0 (rows_of l.n l.table))
