-- One law for each answer: major, then minor.
use Rattle.std.specs.Prelude.{Err}
use Rattle.std.proofs.Common.{rules}
use Rattle.fields.specs.Tried.{found, missing}
use mathlib.Core.Path.{sym, ◌∙◌, ◌≡◌, ap}
use Rattle.records.specs.Laws.{major_short, major_bad, minor_short, minor_bad, version_end}
use Rattle.records.proofs.version_at.Goals as goal

pub returns-in_err-major : goal.returns-in_err-major
returns-in_err-major c =
    let w = missing _ c.u32_at.ensures c.in_err-major.ensures.value in
    let r : c.from_residual.result ≡ Err c.in_err-major.field-0.0 = search rules in
    r ∙ (ap Err w.1 ∙ sym (major_short _ _ _ w.0))

pub returns-then-major-ne1 : goal.returns-then-major-ne1
returns-then-major-ne1 c = sym (major_bad _ _ _ _ _ (found _ c.u32_at.ensures c.in_ok-major.ensures.value) c.if-major-ne1.true)

pub returns-in_err-minor : goal.returns-in_err-minor
returns-in_err-minor c =
    let w = missing _ c.u32_at-2.ensures c.in_err-minor.ensures.value in
    let r : c.from_residual-in_err-minor.result ≡ Err c.in_err-minor.field-0.0 = search rules in
    r ∙ (ap Err w.1 ∙ sym (minor_short _ _ _ _ _ (found _ c.u32_at.ensures c.in_ok-major.ensures.value) c.if-major-ne1.false w.0))

pub returns-then-minor-ne0 : goal.returns-then-minor-ne0
returns-then-minor-ne0 c = sym (minor_bad _ _ _ _ _ (found _ c.u32_at.ensures c.in_ok-major.ensures.value) c.if-major-ne1.false _ _ (found _ c.u32_at-2.ensures c.in_ok-minor.ensures.value) c.if-minor-ne0.true)

pub returns : goal.returns
returns c = c.plain_head.ensures ∙ sym (version_end _ _ _ _ _ (found _ c.u32_at.ensures c.in_ok-major.ensures.value) c.if-major-ne1.false _ _ (found _ c.u32_at-2.ensures c.in_ok-minor.ensures.value) c.if-minor-ne0.false)
