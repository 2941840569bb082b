-- One law for each answer, from the part that is there.
use Rattle.std.specs.Prelude.{◌≡◌, ◌+◌, ◌-◌, Err}
use Rattle.std.proofs.Common.{rules, sym, ap, ◌∙◌, arith}
use Rattle.fields.specs.Parted.{part_missing, part_found}
use Rattle.value_forms.specs.Ends.{scalar_short, scalar_end, scalar_bad}
use Rattle.value_forms.proofs.scalar_at.Goals as goal

pub returns-in_err-scalar : goal.returns-in_err-scalar
returns-in_err-scalar c =
    let w = part_missing _ _ _ _ c.part_at.ensures.there _ c.in_err-scalar.ensures.value in
    let r : c.from_residual.result ≡ Err c.in_err-scalar.field-0.0 = search rules in
    r ∙ (ap Err w.1 ∙ sym (scalar_short _ _ _ w.0))

pub returns-then-well_formed : goal.returns-then-well_formed
returns-then-well_formed c =
    let w = part_found _ _ _ _ c.part_at.ensures.there c.part_at.ensures.part _ c.in_ok-scalar.ensures.value in
    let k : c.args.at + c.args.size - c.args.at ≡ c.args.size = omega arith in
    sym (scalar_end _ _ _ w.0 (rw (k, sym w.1) (sym c.well_formed-2.ensures ∙ c.if-well_formed.true)))

pub returns-else-well_formed : goal.returns-else-well_formed
returns-else-well_formed c =
    let w = part_found _ _ _ _ c.part_at.ensures.there c.part_at.ensures.part _ c.in_ok-scalar.ensures.value in
    let k : c.args.at + c.args.size - c.args.at ≡ c.args.size = omega arith in
    sym (scalar_bad _ _ _ w.0 (rw (k, sym w.1) (sym c.well_formed-2.ensures ∙ c.if-well_formed.false)))
