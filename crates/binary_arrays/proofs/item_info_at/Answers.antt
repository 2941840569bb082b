-- One law for each answer of the detail; its slot type is that of the two bytes.
use Rattle.std.specs.Prelude.{Err}
use Rattle.std.proofs.Common.{rules}
use mathlib.Core.Path.{sym, ◌∙◌, ◌≡◌}
use Rattle.arrays.specs.Stages.{item_info_good, item_info_bad}
use Rattle.binary_arrays.proofs.item_info_at.Goals as goal

pub returns : goal.returns
returns c =
    c.items_of.ensures
    ∙ sym (item_info_good _ _ _ _ _ _ _ _ c.byte_at-kind.ensures _ _ _ (sym c.info_known.ensures ∙ c.in_ok-end.was) c.byte_at.ensures c.slot_of-slot.ensures)

pub returns-in_err-end : goal.returns-in_err-end
returns-in_err-end c =
    let r : c.from_residual.result ≡ Err c.in_err-end.field-0.0 = search rules in
    r ∙ sym (item_info_bad _ _ _ _ _ _ _ _ c.byte_at-kind.ensures _ (sym c.info_known.ensures ∙ c.in_err-end.was))
