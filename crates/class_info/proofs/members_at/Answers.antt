-- One law for each answer; the type bytes begin where the names end, which is within the stream.
use Rattle.std.specs.Prelude.{Err}
use Rattle.std.proofs.Common.{rules}
use mathlib.Core.Path.{sym, ◌∙◌, ◌≡◌}
use Rattle.class_info.specs.Moves.{names_there}
use Rattle.class_info.specs.Stages.{names_end, names_bad}
use Rattle.class_info.proofs.members_at.Goals as goal

pub typed_members_at-requires : goal.typed_members_at-requires
typed_members_at-requires c =
    let w = names_there _ _ _ _ _ c.requires.2
    (sym c.names_at.ensures ∙ c.in_ok-types.was) in
    (c.requires.0, c.requires.1, w.1)

pub returns : goal.returns
returns c =
    c.typed_members_at.ensures
    ∙ sym (names_end _ _ _ _ _ _ _ _
    (sym c.names_at.ensures ∙ c.in_ok-types.was))

pub returns-in_err-types : goal.returns-in_err-types
returns-in_err-types c =
    let r : c.from_residual.result ≡ Err c.in_err-types.field-0.0 = search rules in
    r ∙ sym (names_bad _ _ _ _ _ _ _ _ (sym c.names_at.ensures ∙ c.in_err-types.was))
