-- One law for each answer, from the part that is there.
use Rattle.std.specs.Prelude.{◌≡◌, ◌+◌, ◌-◌, Err}
use Rattle.std.proofs.Common.{rules, sym, ap, ◌∙◌, arith}
use Rattle.fields.specs.Parted.{part_missing, part_found}
use Rattle.text.specs.Laws.{text_short, text_good, text_bad}
use Rattle.text.proofs.text_at.Goals as goal

pub returns-in_err-text : goal.returns-in_err-text
returns-in_err-text c =
    let w = part_missing _ _ _ _ c.part_at.ensures.there _ c.in_err-text.ensures.value in
    let r : c.from_residual.result ≡ Err c.in_err-text.field-0.0 = search rules in
    r ∙ (ap Err w.1 ∙ sym (text_short _ _ _ w.0))

pub returns-then-well_formed : goal.returns-then-well_formed
returns-then-well_formed c =
    let w = part_found _ _ _ _ c.part_at.ensures.there c.part_at.ensures.part _ c.in_ok-text.ensures.value in
    let k : c.args.at + c.args.n - c.args.at ≡ c.args.n = omega arith in
    sym (text_good _ _ _ w.0 (rw (k, sym w.1) (sym c.well_formed-2.ensures ∙ c.if-well_formed.true)))

pub returns-else-well_formed : goal.returns-else-well_formed
returns-else-well_formed c =
    let w = part_found _ _ _ _ c.part_at.ensures.there c.part_at.ensures.part _ c.in_ok-text.ensures.value in
    let k : c.args.at + c.args.n - c.args.at ≡ c.args.n = omega arith in
    sym (text_bad _ _ _ w.0 (rw (k, sym w.1) (sym c.well_formed-2.ensures ∙ c.if-well_formed.false)))
