-- One law for each answer, from the part that is there.
use Rattle.std.specs.Prelude.{◌≡◌, ◌+◌, ◌-◌, Err}
use Rattle.std.proofs.Common.{rules, sym, ap, ◌∙◌, arith}
use Rattle.fields.specs.Parted.{part_missing, part_found}
use Rattle.value_forms.specs.Ends.{decimal_short, decimal_end, decimal_bad}
use Rattle.value_forms.proofs.decimal_text.Goals as goal

pub returns-in_err-digits : goal.returns-in_err-digits
returns-in_err-digits c =
    let w = part_missing _ _ _ _ c.part_at.ensures.there _ c.in_err-digits.ensures.value in
    let r : c.from_residual.result ≡ Err c.in_err-digits.field-0.0 = search rules in
    r ∙ (ap Err w.1 ∙ sym (decimal_short _ _ _ w.0))

pub returns-then-is_decimal : goal.returns-then-is_decimal
returns-then-is_decimal c =
    let w = part_found _ _ _ _ c.part_at.ensures.there c.part_at.ensures.part _ c.in_ok-digits.ensures.value in
    let k : c.args.at + c.args.count - c.args.at ≡ c.args.count = omega arith in
    sym (decimal_end _ _ _ w.0 (rw (k, sym w.1) (sym c.is_decimal.ensures ∙ c.if-is_decimal.true)))

pub returns-else-is_decimal : goal.returns-else-is_decimal
returns-else-is_decimal c =
    let w = part_found _ _ _ _ c.part_at.ensures.there c.part_at.ensures.part _ c.in_ok-digits.ensures.value in
    let k : c.args.at + c.args.count - c.args.at ≡ c.args.count = omega arith in
    sym (decimal_bad _ _ _ w.0 (rw (k, sym w.1) (sym c.is_decimal.ensures ∙ c.if-is_decimal.false)))
