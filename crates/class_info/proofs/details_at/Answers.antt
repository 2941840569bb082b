-- One law for each answer.
use Rattle.std.specs.Prelude.{Err}
use Rattle.std.proofs.Common.{rules}
use mathlib.Core.Path.{sym, ◌∙◌, ◌≡◌}
use Rattle.class_info.specs.Stages.{details_own, details_end, details_bad}
use Rattle.class_info.proofs.details_at.Goals as goal

pub returns-then-own : goal.returns-then-own
returns-then-own c =
    c.own_library_at.ensures
    ∙ sym (details_own _ _ _ _ _ _ _ _ c.if-own.true
    (sym c.infos_at.ensures ∙ c.in_ok-p.was))

pub returns : goal.returns
returns c = sym (details_end _ _ _ _ _ _ _ _ c.if-own.false (sym c.infos_at.ensures ∙ c.in_ok-p.was))

pub returns-in_err-p : goal.returns-in_err-p
returns-in_err-p c =
    let r : c.from_residual.result ≡ Err c.in_err-p.field-0.0 = search rules in
    r ∙ sym (details_bad _ _ _ _ _ _ _ _ (sym c.infos_at.ensures ∙ c.in_err-p.was))
