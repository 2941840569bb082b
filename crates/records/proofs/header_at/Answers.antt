-- Two numbers, then the version.
use Rattle.std.specs.Prelude.{Err}
use Rattle.std.proofs.Common.{rules}
use Rattle.fields.specs.Tried.{found, missing}
use mathlib.Core.Path.{sym, ◌∙◌, ◌≡◌, ap}
use Rattle.records.specs.Laws.{root_short, header_short, header_version}
use Rattle.records.proofs.header_at.Goals as goal

pub returns-in_err-root : goal.returns-in_err-root
returns-in_err-root c =
    let w = missing _ c.u32_at.ensures c.in_err-root.ensures.value in
    let r : c.from_residual.result ≡ Err c.in_err-root.field-0.0 = search rules in
    r ∙ (ap Err w.1 ∙ sym (root_short _ _ w.0))

pub returns-in_err-q : goal.returns-in_err-q
returns-in_err-q c =
    let w = missing _ c.u32_at-2.ensures c.in_err-q.ensures.value in
    let r : c.from_residual-in_err-q.result ≡ Err c.in_err-q.field-0.0 = search rules in
    r ∙ (ap Err w.1 ∙ sym (header_short _ _ _ _ (found _ c.u32_at.ensures c.in_ok-root.ensures.value) w.0))

pub returns : goal.returns
returns c = c.version_at.ensures ∙ sym (header_version _ _ _ _ (found _ c.u32_at.ensures c.in_ok-root.ensures.value) _ _ (found _ c.u32_at-2.ensures c.in_ok-q.ensures.value))
