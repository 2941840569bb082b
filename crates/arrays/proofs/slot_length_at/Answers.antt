-- One law for each answer, from the number that is read.
use Rattle.std.specs.Prelude.{Err}
use Rattle.std.proofs.Common.{rules}
use Rattle.fields.specs.Tried.{found, missing}
use mathlib.Core.Path.{sym, ◌∙◌, ◌≡◌, ap}
use Rattle.arrays.specs.Stages.{length_short, length_bad, length_good}
use Rattle.arrays.proofs.slot_length_at.Goals as goal

pub returns-in_err-count : goal.returns-in_err-count
returns-in_err-count c =
    let w = missing _ c.u32_at.ensures c.in_err-count.ensures.value in
    let r : c.from_residual.result ≡ Err c.in_err-count.field-0.0 = search rules in
    r ∙ (ap Err w.1 ∙ sym (length_short _ _ w.0))

pub returns-then-is_negative : goal.returns-then-is_negative
returns-then-is_negative c = sym (length_bad _ _ _ _ (found _ c.u32_at.ensures c.in_ok-count.ensures.value) (sym c.is_negative.ensures ∙ c.if-is_negative.true))

pub returns : goal.returns
returns c =
    c.slotted_head.ensures
    ∙ sym (length_good _ _ _ _ (found _ c.u32_at.ensures c.in_ok-count.ensures.value) (sym c.is_negative.ensures ∙ c.if-is_negative.false))
