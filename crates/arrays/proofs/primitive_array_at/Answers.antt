-- One law for each answer, from the id that is read.
use Rattle.std.specs.Prelude.{Err}
use Rattle.std.proofs.Common.{rules}
use Rattle.fields.specs.Tried.{found, missing}
use mathlib.Core.Path.{sym, ◌∙◌, ◌≡◌, ap}
use Rattle.arrays.specs.Stages.{id_short, id_bad, id_free, primitive_array_is}
use Rattle.arrays.proofs.primitive_array_at.Goals as goal

pub returns-in_err-id : goal.returns-in_err-id
returns-in_err-id c =
    let w = missing _ c.u32_at.ensures c.in_err-id.ensures.value in
    let r : c.from_residual.result ≡ Err c.in_err-id.field-0.0 = search rules in
    r ∙ (ap Err w.1 ∙ sym (primitive_array_is _ _ _ _ ∙ id_short _ _ _ w.0))

pub returns-then-is_free_id : goal.returns-then-is_free_id
returns-then-is_free_id c =
    c.primitive_length_at.ensures
    ∙ sym (primitive_array_is _ _ _ _ ∙ id_free _ _ _ _ _ (found _ c.u32_at.ensures c.in_ok-id.ensures.value) (sym c.is_free_id.ensures ∙ c.if-is_free_id.true))

pub returns : goal.returns
returns c = sym (primitive_array_is _ _ _ _ ∙ id_bad _ _ _ _ _ (found _ c.u32_at.ensures c.in_ok-id.ensures.value) (sym c.is_free_id.ensures ∙ c.if-is_free_id.false))
