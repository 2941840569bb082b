-- One law for each answer of the lengths.
use Rattle.std.specs.Prelude.{Err}
use Rattle.std.proofs.Common.{rules}
use mathlib.Core.Path.{sym, ◌∙◌, ◌≡◌}
use Rattle.arrays.specs.Stages.{shape_good, shape_bad}
use Rattle.binary_arrays.proofs.shape_at.Goals as goal

pub returns : goal.returns
returns c = c.item_type_at.ensures ∙ sym (shape_good _ _ _ _ _ _ _ _ (sym c.lengths_at.ensures ∙ c.in_ok-count.was))

pub returns-in_err-count : goal.returns-in_err-count
returns-in_err-count c =
    let r : c.from_residual.result ≡ Err c.in_err-count.field-0.0 = search rules in
    r ∙ sym (shape_bad _ _ _ _ _ _ _ (sym c.lengths_at.ensures ∙ c.in_err-count.was))
