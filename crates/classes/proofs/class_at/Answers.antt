-- One law for each answer.
use Rattle.std.specs.Prelude.{Err}
use Rattle.std.proofs.Common.{rules}
use Rattle.fields.specs.Tried.{found, missing}
use mathlib.Core.Path.{sym, ◌∙◌, ◌≡◌, ap}
use Rattle.class_info.specs.Stages.{class_short, class_used, class_free}
use Rattle.classes.proofs.class_at.Goals as goal

pub returns-in_err-id : goal.returns-in_err-id
returns-in_err-id c =
    let w = missing _ c.u32_at.ensures c.in_err-id.ensures.value in
    let r : c.from_residual.result ≡ Err c.in_err-id.field-0.0 = search rules in
    r ∙ (ap Err w.1 ∙ sym (class_short _ _ _ _ _ w.0))

pub returns-then-is_free_class_id : goal.returns-then-is_free_class_id
returns-then-is_free_class_id c =
    c.named_class_at.ensures
    ∙ sym (class_free _ _ _ _ _ _ _
    (found _ c.u32_at.ensures c.in_ok-id.ensures.value)
    (sym c.is_free_class_id.ensures ∙ c.if-is_free_class_id.true))

pub returns : goal.returns
returns c =
    sym (class_used _ _ _ _ _ _ _
    (found _ c.u32_at.ensures c.in_ok-id.ensures.value)
    (sym c.is_free_class_id.ensures ∙ c.if-is_free_class_id.false))
