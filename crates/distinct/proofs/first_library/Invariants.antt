-- One scan: the answer is that of the first row which passes.
use Rattle.lookups.specs.Find.{Scan}
use Rattle.marks.specs.Marks.{same_name}
use Rattle.distinct.proofs.first_library.Given as goal

abbrev pub invariant-loop-i : goal.invariant-loop-i
invariant-loop-i l = Scan (same_name l.s l.r) l.n l.table l.i
