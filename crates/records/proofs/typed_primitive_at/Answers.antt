-- One law for each answer of the code and of the value.
use Rattle.std.specs.Prelude.{Err}
use Rattle.std.proofs.Common.{rules}
use mathlib.Core.Path.{sym, ap, ◌∙◌, ◌≡◌}
use Rattle.format.specs.Types.{primitive_of, coded}
use Rattle.records.specs.Laws.{code_bad, value_bad, value_end_lem}
use Rattle.records.proofs.typed_primitive_at.Goals as goal

pub returns : goal.returns
returns c = c.plain_head.ensures ∙ sym (value_end_lem _ _ _ _ (sym c.code_at.ensures ∙ c.in_ok-p.was) _ (c.coded_of-code.ensures ∙ ap coded (c.primitive_of.ensures ∙ ap primitive_of c.byte_at.ensures)) _ (sym c.value_soon.ensures ∙ c.in_ok-end.was))

pub returns-in_err-end : goal.returns-in_err-end
returns-in_err-end c =
    let r : c.from_residual-in_err-end.result ≡ Err c.in_err-end.field-0.0 = search rules in
    r ∙ sym (value_bad _ _ _ _ (sym c.code_at.ensures ∙ c.in_ok-p.was) _ (c.coded_of-code.ensures ∙ ap coded (c.primitive_of.ensures ∙ ap primitive_of c.byte_at.ensures)) _ (sym c.value_soon.ensures ∙ c.in_err-end.was))

pub returns-in_err-p : goal.returns-in_err-p
returns-in_err-p c =
    let r : c.from_residual.result ≡ Err c.in_err-p.field-0.0 = search rules in
    r ∙ sym (code_bad _ _ _ _ (sym c.code_at.ensures ∙ c.in_err-p.was))
