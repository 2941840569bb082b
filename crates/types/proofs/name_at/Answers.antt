-- One law for each answer of the string.
use Rattle.std.specs.Prelude.{Err}
use Rattle.std.proofs.Common.{rules}
use mathlib.Core.Path.{sym, ◌∙◌, ◌≡◌}
use Rattle.codes.specs.Ends.{name_end, name_bad}
use Rattle.types.proofs.name_at.Goals as goal

pub returns : goal.returns
returns c = sym (name_end _ _ _ _ _ (sym c.string_at.ensures ∙ c.in_ok-text.was))

pub returns-in_err-text : goal.returns-in_err-text
returns-in_err-text c =
    let r : c.from_residual.result ≡ Err c.in_err-text.field-0.0 = search rules in
    r ∙ sym (name_bad _ _ _ _ (sym c.string_at.ensures ∙ c.in_err-text.was))
