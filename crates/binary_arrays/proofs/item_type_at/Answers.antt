-- One law for each answer of the type byte, which ends within the stream.
use Rattle.std.specs.Prelude.{Err}
use Rattle.std.proofs.Common.{rules}
use mathlib.Core.Path.{sym, ◌∙◌, ◌≡◌}
use native.Mathlib.Omega.{arith}
use Rattle.types.specs.Keeps.{type_moves}
use Rattle.arrays.specs.Stages.{item_type_good, item_type_bad}
use Rattle.binary_arrays.proofs.item_type_at.Goals as goal

pub item_info_at-requires : goal.item_info_at-requires
item_info_at-requires c = omega (arith, type_moves _ _ _ (sym c.type_byte_at.ensures ∙ c.in_ok-infos.was))

pub returns : goal.returns
returns c = c.item_info_at.ensures ∙ sym (item_type_good _ _ _ _ _ _ _ (sym c.type_byte_at.ensures ∙ c.in_ok-infos.was))

pub returns-in_err-infos : goal.returns-in_err-infos
returns-in_err-infos c =
    let r : c.from_residual.result ≡ Err c.in_err-infos.field-0.0 = search rules in
    r ∙ sym (item_type_bad _ _ _ _ _ _ _ (sym c.type_byte_at.ensures ∙ c.in_err-infos.was))
