-- One law for each answer of the name.
use Rattle.std.specs.Prelude.{Err}
use Rattle.std.proofs.Common.{rules}
use mathlib.Core.Path.{sym, ◌∙◌, ◌≡◌}
use Rattle.records.specs.Laws.{named_end, named_bad}
use Rattle.records.proofs.named_at.Goals as goal

pub returns : goal.returns
returns c = c.plain_head.ensures ∙ sym (named_end _ _ _ _ _ (sym c.name_at.ensures ∙ c.in_ok-end.was))

pub returns-in_err-end : goal.returns-in_err-end
returns-in_err-end c =
    let r : c.from_residual.result ≡ Err c.in_err-end.field-0.0 = search rules in
    r ∙ sym (named_bad _ _ _ _ _ (sym c.name_at.ensures ∙ c.in_err-end.was))
