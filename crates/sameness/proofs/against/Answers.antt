-- The tidying says what the output holds; its front is the copy of the second list.
use Rattle.std.specs.Prelude.{◌≡◌, ◌-◌}
use Rattle.std.proofs.Common.{arith}
use Rattle.std.proofs.lemmas.Bool.Decides.{Decides-eqb}
use Rattle.std.proofs.lemmas.Slice.Eq.{slice_eq-Decides}
use Rattle.sameness.proofs.Laws.{second_written, kept, told}
use Rattle.sameness.proofs.against.Goals as goal

pub returns : goal.returns
returns c =
    let h = kept c.tidy.result c.in_ok-n.n c.in_ok-n.ensures.cases in
    let k : c.in_ok-n.n - 0 ≡ c.in_ok-n.n = omega arith in
    second_written _ _ _ _ _ _ _ c.tidy.result c.tidy.ensures c.in_ok-n.n h _ (rw k (told _ _ _ (slice_eq-Decides Decides-eqb _ _ _ c.eq.ensures)))
