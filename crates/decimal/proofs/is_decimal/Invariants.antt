-- The invariant: what is left of s from b on leads from the limbs' reading to where all of s leads from the beginning.
use Rattle.std.proofs.Common.{◌≡◌}
use Rattle.format.specs.Values.{begun}
use Rattle.decimal.specs.Limbs.{Fine, read}
use Rattle.decimal.specs.Run.{run_from}
use Rattle.decimal.proofs.is_decimal.Given as goal

abbrev pub invariant-loop-b : goal.invariant-loop-b
invariant-loop-b l = Fine l.st × (run_from begun l.s 0 ≡ run_from (read l.st) l.s l.b-index)
