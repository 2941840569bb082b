-- One law for each answer; the details begin where the type bytes end, which is within the stream.
use Rattle.std.specs.Prelude.{Err}
use Rattle.std.proofs.Common.{rules}
use mathlib.Core.Path.{sym, ◌∙◌, ◌≡◌}
use native.Mathlib.Omega.{arith}
use Rattle.class_info.specs.Moves.{types_there}
use Rattle.class_info.specs.Stages.{types_bad, members_details_bad, members_end}
use Rattle.class_info.proofs.typed_members_at.Goals as goal

pub details_at-requires : goal.details_at-requires
details_at-requires c =
    let w = types_there _ _ _ _ c.requires.2
    (sym c.type_bytes_at.ensures ∙ c.in_ok-infos.was) in
    (c.requires.0, omega arith)

pub overflow_cast-infos : goal.overflow_cast-infos
overflow_cast-infos c =
    let w = types_there _ _ _ _ c.requires.2
    (sym c.type_bytes_at.ensures ∙ c.in_ok-infos.was) in
    omega arith

pub returns : goal.returns
returns c =
    rw c.typed_at-first.ensures (sym (members_end _ _ _ _ _ _ _ _
    (sym c.type_bytes_at.ensures ∙ c.in_ok-infos.was) _
    (sym c.details_at.ensures ∙ c.in_ok-end.was)))

pub returns-in_err-end : goal.returns-in_err-end
returns-in_err-end c =
    let r : c.from_residual-in_err-end.result ≡ Err c.in_err-end.field-0.0 = search rules in
    r ∙ sym (members_details_bad _ _ _ _ _ _ _ _
    (sym c.type_bytes_at.ensures ∙ c.in_ok-infos.was) _
    (sym c.details_at.ensures ∙ c.in_err-end.was))

pub returns-in_err-infos : goal.returns-in_err-infos
returns-in_err-infos c =
    let r : c.from_residual.result ≡ Err c.in_err-infos.field-0.0 = search rules in
    r ∙ sym (types_bad _ _ _ _ _ _ _ _ (sym c.type_bytes_at.ensures ∙ c.in_err-infos.was))
