-- Each return is one law of `same_part`: a part that is not there, or what `==` says of the two parts.
use Rattle.std.proofs.Common.{sym, arith}
use Rattle.std.proofs.lemmas.Bool.Decides.{Decides-eqb}
use Rattle.std.proofs.lemmas.Slice.Eq.{slice_eq-Decides}
use Rattle.same.specs.Laws.{part_short_a, part_short_b, part_whole}
use Rattle.same.proofs.same_part.Goals as goal
use Rattle.same.proofs.same_part.Goals.{then-s-a-via-then-s-a, then-s-a-via-else-s-a+then-s-a-2, then-s-a-via-else-s-a+else-s-a-2+then-s-b, then-s-a-via-else-s-a+else-s-a-2+else-s-b+then-s-b-2}

pub returns-then-s-a : goal.returns-then-s-a
returns-then-s-a c =
    elim c.then-s-a.branch [
      | then-s-a-via-then-s-a w ↦ sym (part_short_a _ _ _ _ (omega arith))
      | then-s-a-via-else-s-a+then-s-a-2 w ↦ sym (part_short_a _ _ _ _ (omega arith))
      | then-s-a-via-else-s-a+else-s-a-2+then-s-b w ↦ sym (part_short_b _ _ _ _ (omega arith) (omega arith))
      | then-s-a-via-else-s-a+else-s-a-2+else-s-b+then-s-b-2 w ↦ sym (part_short_b _ _ _ _ (omega arith) (omega arith))
    ]

pub returns : goal.returns
returns c = part_whole _ _ _ _ _ (omega arith) (omega arith) (slice_eq-Decides Decides-eqb _ _ _ c.eq.ensures)
