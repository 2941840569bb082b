-- One law for each answer: the place, the kind byte, the ObjectId, its sign, then the string.
use Rattle.std.specs.Prelude.{Err}
use Rattle.std.proofs.Common.{rules}
use Rattle.fields.specs.Tried.{found, missing}
use mathlib.Core.Path.{refl, sym, ap, ◌≡◌, ◌∙◌}
use Rattle.view.specs.Laws.{record_past, record_other, record_short, record_id, record_string}
use Rattle.view.proofs.record_text.Goals as goal

pub returns-then-s-at : goal.returns-then-s-at
returns-then-s-at c = record_past _ _ _ c.if-s-at.true

pub returns-then-s-at-ne6 : goal.returns-then-s-at-ne6
returns-then-s-at-ne6 c = record_other _ _ _ c.if-s-at.false c.if-s-at-ne6.true

pub returns-then-is_positive : goal.returns-then-is_positive
returns-then-is_positive c =
    c.string_at.ensures
    ∙ record_string _ _ _ c.if-s-at.false c.if-s-at-ne6.false _ refl _ _ (found _ c.u32_at.ensures c.in_ok-id.ensures.value)
    (sym c.is_positive.ensures ∙ c.if-is_positive.true)

pub returns : goal.returns
returns c =
    record_id _ _ _ c.if-s-at.false c.if-s-at-ne6.false _ refl _ _ (found _ c.u32_at.ensures c.in_ok-id.ensures.value)
    (sym c.is_positive.ensures ∙ c.if-is_positive.false)

pub returns-in_err-id : goal.returns-in_err-id
returns-in_err-id c =
    let w = missing _ c.u32_at.ensures c.in_err-id.ensures.value in
    let r : c.from_residual.result ≡ Err c.in_err-id.field-0.0 = search rules in
    r ∙ (ap Err w.1 ∙ record_short _ _ _ c.if-s-at.false c.if-s-at-ne6.false _ refl w.0)
