-- One law for each answer; the four bytes are there, so the number is not short.
use Rattle.std.specs.Prelude.{Err}
use Rattle.std.proofs.Common.{rules}
use Rattle.fields.specs.Tried.{found, missing}
use mathlib.Core.Path.{sym, ◌∙◌, ◌≡◌, ap}
use Rattle.class_info.specs.Stages.{four_there, known_lost, known_end}
use Rattle.class_info.proofs.known_library.Goals as goal

pub returns-in_err-id : goal.returns-in_err-id
returns-in_err-id c =
    let w = missing _ c.u32_at.ensures c.in_err-id.ensures.value in
    let r : c.from_residual.result ≡ Err c.in_err-id.field-0.0 = search rules in
    r ∙ (ap Err w.1 ∙ absurd (four_there _ _ c.requires.1 c.requires.2
    w.0))

pub returns-then-row-eq0 : goal.returns-then-row-eq0
returns-then-row-eq0 c =
    sym (known_lost _ _ _ _ _
    (found _ c.u32_at.ensures c.in_ok-id.ensures.value)
    (sym c.find_library-row.ensures ∙ c.if-row-eq0.true))

pub returns : goal.returns
returns c =
    sym (known_end _ _ _ _ _
    (found _ c.u32_at.ensures c.in_ok-id.ensures.value)
    (λ z. c.if-row-eq0.false (c.find_library-row.ensures ∙ z)))
