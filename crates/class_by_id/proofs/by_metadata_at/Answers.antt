-- One law for each answer; a row that is found is one of the rows.
use Rattle.std.specs.Prelude.{Err}
use Rattle.std.proofs.Common.{rules}
use Rattle.fields.specs.Tried.{found, missing}
use mathlib.Core.Path.{sym, ◌∙◌, ◌≡◌, ap}
use native.Mathlib.Omega.{arith}
use Rattle.class_info.specs.Stages.{metadata_short, class_lost, class_found, class_inside}
use Rattle.class_by_id.proofs.by_metadata_at.Goals as goal

pub returns-in_err-class : goal.returns-in_err-class
returns-in_err-class c =
    let w = missing _ c.u32_at.ensures c.in_err-class.ensures.value in
    let r : c.from_residual.result ≡ Err c.in_err-class.field-0.0 = search rules in
    r ∙ (ap Err w.1 ∙ sym (metadata_short _ _ _ _ _ w.0))

pub returns-then-row-eq0 : goal.returns-then-row-eq0
returns-then-row-eq0 c =
    sym (class_lost _ _ _ _ _ _ _
    (found _ c.u32_at.ensures c.in_ok-class.ensures.value)
    (sym c.class_row-row.ensures ∙ c.if-row-eq0.true))

pub of_class-requires : goal.of_class-requires
of_class-requires c =
    let h = class_inside c.in_ok-class.class c.args.n c.args.table.now in
    let e = c.class_row-row.ensures in
    (c.requires.0, c.requires.1, c.requires.2, omega arith, omega (arith, h, e))

pub returns : goal.returns
returns c =
    c.of_class.ensures
    ∙ rw c.class_row-row.ensures
    (sym (class_found _ _ _ _ _ _ _
    (found _ c.u32_at.ensures c.in_ok-class.ensures.value)
    (λ z. c.if-row-eq0.false (c.class_row-row.ensures ∙ z))))
