-- One scan: the answer is that of the first row which passes.
use Rattle.lookups.specs.Find.{id_of, is_of, named, Scan}
use Rattle.lookups.proofs.find.Given as goal

abbrev pub invariant-loop-i : goal.invariant-loop-i
invariant-loop-i l = Scan (named (is_of l.what) (id_of l.what)) l.n l.table l.i
