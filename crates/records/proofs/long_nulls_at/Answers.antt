-- The number is judged, and what follows it is read where it is good.
use Rattle.std.specs.Prelude.{Err}
use Rattle.std.proofs.Common.{rules}
use Rattle.fields.specs.Tried.{found, missing}
use mathlib.Core.Path.{sym, ◌∙◌, ◌≡◌, ap}
use Rattle.records.specs.Stages.{judged_short, judged_good, judged_bad, nulls_parts}
use Rattle.records.proofs.long_nulls_at.Goals as goal

pub returns-in_err-count : goal.returns-in_err-count
returns-in_err-count c =
    let w = missing _ c.u32_at.ensures c.in_err-count.ensures.value in
    let r : c.from_residual.result ≡ Err c.in_err-count.field-0.0 = search rules in
    r ∙ (ap Err w.1 ∙ sym (nulls_parts _ _ ∙ judged_short _ _ _ _ w.0))

pub returns-then-is_positive : goal.returns-then-is_positive
returns-then-is_positive c = c.plain_head.ensures ∙ sym (nulls_parts _ _ ∙ judged_good _ _ _ _ _ _ (found _ c.u32_at.ensures c.in_ok-count.ensures.value) (sym c.is_positive.ensures ∙ c.if-is_positive.true))

pub returns : goal.returns
returns c = sym (nulls_parts _ _ ∙ judged_bad _ _ _ _ _ _ (found _ c.u32_at.ensures c.in_ok-count.ensures.value) (sym c.is_positive.ensures ∙ c.if-is_positive.false))
