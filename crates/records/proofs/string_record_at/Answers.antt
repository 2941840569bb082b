-- The number is judged, and what follows it is read where it is good.
use Rattle.std.specs.Prelude.{Err}
use Rattle.std.proofs.Common.{rules}
use Rattle.fields.specs.Tried.{found, missing}
use mathlib.Core.Path.{sym, ◌∙◌, ◌≡◌, ap}
use Rattle.records.specs.Stages.{judged_short, judged_good, judged_bad, string_parts}
use Rattle.records.proofs.string_record_at.Goals as goal

pub returns-in_err-id : goal.returns-in_err-id
returns-in_err-id c =
    let w = missing _ c.u32_at.ensures c.in_err-id.ensures.value in
    let r : c.from_residual.result ≡ Err c.in_err-id.field-0.0 = search rules in
    r ∙ (ap Err w.1 ∙ sym (string_parts _ _ _ _ ∙ judged_short _ _ _ _ w.0))

pub returns-then-is_free_id : goal.returns-then-is_free_id
returns-then-is_free_id c = c.named_at.ensures ∙ sym (string_parts _ _ _ _ ∙ judged_good _ _ _ _ _ _ (found _ c.u32_at.ensures c.in_ok-id.ensures.value) (sym c.is_free_id.ensures ∙ c.if-is_free_id.true))

pub returns : goal.returns
returns c = sym (string_parts _ _ _ _ ∙ judged_bad _ _ _ _ _ _ (found _ c.u32_at.ensures c.in_ok-id.ensures.value) (sym c.is_free_id.ensures ∙ c.if-is_free_id.false))
