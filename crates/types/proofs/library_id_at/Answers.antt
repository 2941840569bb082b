-- One law for each answer, from the number that is read.
use Rattle.std.specs.Prelude.{Err}
use Rattle.std.proofs.Common.{rules}
use Rattle.fields.specs.Tried.{found, missing}
use mathlib.Core.Path.{sym, ◌∙◌, ◌≡◌, ap}
use Rattle.codes.specs.Ends.{library_short, library_end, library_bad}
use Rattle.types.proofs.library_id_at.Goals as goal

pub returns-then-is_positive : goal.returns-then-is_positive
returns-then-is_positive c = sym (library_end _ _ _ _ (found _ c.u32_at.ensures c.in_ok-id.ensures.value) (sym c.is_positive.ensures ∙ c.if-is_positive.true))

pub returns : goal.returns
returns c = sym (library_bad _ _ _ _ (found _ c.u32_at.ensures c.in_ok-id.ensures.value) (sym c.is_positive.ensures ∙ c.if-is_positive.false))

pub returns-in_err-id : goal.returns-in_err-id
returns-in_err-id c =
    let w = missing _ c.u32_at.ensures c.in_err-id.ensures.value in
    let r : c.from_residual.result ≡ Err c.in_err-id.field-0.0 = search rules in
    r ∙ (ap Err w.1 ∙ sym (library_short _ _ w.0))
