-- One law for each answer, from the part that is there.
use Rattle.std.specs.Prelude.{◌≡◌, Err}
use Rattle.std.proofs.Common.{rules, sym, ap, ◌∙◌}
use Rattle.fields.specs.Parted.{part_missing, part_found}
use Rattle.value_forms.specs.Ends.{bytes_short, bytes_end}
use Rattle.value_forms.proofs.bytes_at.Goals as goal

pub returns-in_err-ok_or : goal.returns-in_err-ok_or
returns-in_err-ok_or c =
    let w = part_missing _ _ _ _ c.part_at.ensures.there _ c.in_err-ok_or.ensures.value in
    let r : c.from_residual.result ≡ Err c.in_err-ok_or.field-0.0 = search rules in
    r ∙ (ap Err w.1 ∙ sym (bytes_short _ _ _ w.0))

pub returns : goal.returns
returns c = sym (bytes_end _ _ _ (part_found _ _ _ _ c.part_at.ensures.there c.part_at.ensures.part _ c.in_ok-ok_or.ensures.value).0)
