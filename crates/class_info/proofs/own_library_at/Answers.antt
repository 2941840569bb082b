-- One law for each answer; where the LibraryId ends, its four bytes stand before.
use Rattle.std.specs.Prelude.{Err}
use Rattle.std.proofs.Common.{rules}
use mathlib.Core.Path.{sym, ◌∙◌, ◌≡◌}
use Rattle.class_info.specs.Stages.{library_before, own_library_end, own_library_bad}
use Rattle.class_info.proofs.own_library_at.Goals as goal

pub known_library-requires : goal.known_library-requires
known_library-requires c =
    let w = library_before _ _ _ (sym c.library_id_at.ensures ∙ c.in_ok-end.was) in
    (c.requires, w.0, w.1)

pub returns : goal.returns
returns c =
    c.known_library.ensures
    ∙ sym (own_library_end _ _ _ _
    (sym c.library_id_at.ensures ∙ c.in_ok-end.was))

pub returns-in_err-end : goal.returns-in_err-end
returns-in_err-end c =
    let r : c.from_residual.result ≡ Err c.in_err-end.field-0.0 = search rules in
    r ∙ sym (own_library_bad _ _ _ _ (sym c.library_id_at.ensures ∙ c.in_err-end.was))
