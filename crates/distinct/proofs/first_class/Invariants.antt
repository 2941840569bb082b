-- One scan: the answer is that of the first row which passes.
use Rattle.format.specs.Rows.{rows_of}
use Rattle.lookups.specs.Find.{Scan}
use Rattle.marks.specs.Marks.{same_class_row}
use Rattle.distinct.proofs.first_class.Given as goal

abbrev pub invariant-loop-i : goal.invariant-loop-i
invariant-loop-i l = Scan (same_class_row l.s (rows_of l.n l.table) l.r) l.n l.table l.i
