-- One law for each answer, from the rank that is read.
use Rattle.std.specs.Prelude.{Err}
use Rattle.std.proofs.Common.{rules}
use Rattle.fields.specs.Tried.{found, missing}
use mathlib.Core.Path.{sym, ◌∙◌, ◌≡◌, ap}
use Rattle.arrays.specs.Stages.{rank_short, rank_good, rank_bad}
use Rattle.binary_arrays.proofs.rank_at.Goals as goal

pub returns-in_err-rank : goal.returns-in_err-rank
returns-in_err-rank c =
    let w = missing _ c.u32_at.ensures c.in_err-rank.ensures.value in
    let r : c.from_residual.result ≡ Err c.in_err-rank.field-0.0 = search rules in
    r ∙ (ap Err w.1 ∙ sym (rank_short _ _ _ _ _ _ w.0))

pub returns-then-is_rank : goal.returns-then-is_rank
returns-then-is_rank c =
    c.shape_at.ensures
    ∙ sym (rank_good _ _ _ _ _ _ _ _ (found _ c.u32_at.ensures c.in_ok-rank.ensures.value) (sym c.is_rank.ensures ∙ c.if-is_rank.true))

pub returns : goal.returns
returns c = sym (rank_bad _ _ _ _ _ _ _ _ (found _ c.u32_at.ensures c.in_ok-rank.ensures.value) (sym c.is_rank.ensures ∙ c.if-is_rank.false))
