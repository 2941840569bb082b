-- One law for each answer; where the detail of type 4 ends, its LibraryId stands before.
use Rattle.std.specs.Prelude.{Err}
use Rattle.std.proofs.Common.{rules}
use mathlib.Core.Path.{sym, ◌∙◌, ◌≡◌}
use Rattle.class_info.specs.Stages.{info_before, info_class_known, info_other_known, info_known_bad}
use Rattle.class_info.proofs.info_known.Goals as goal

pub known_library-requires : goal.known_library-requires
known_library-requires c =
    let w = info_before _ _ _ _ _ c.if-kind-eq4.true (sym c.info_at.ensures ∙ c.in_ok-end.was) in
    (c.requires, w.0, w.1)

pub returns-then-kind-eq4 : goal.returns-then-kind-eq4
returns-then-kind-eq4 c =
    c.known_library.ensures
    ∙ sym (info_class_known _ _ _ _ _ _
    (sym c.info_at.ensures ∙ c.in_ok-end.was) c.if-kind-eq4.true)

pub returns : goal.returns
returns c = sym (info_other_known _ _ _ _ _ _ (sym c.info_at.ensures ∙ c.in_ok-end.was) c.if-kind-eq4.false)

pub returns-in_err-end : goal.returns-in_err-end
returns-in_err-end c =
    let r : c.from_residual.result ≡ Err c.in_err-end.field-0.0 = search rules in
    r ∙ sym (info_known_bad _ _ _ _ _ _ (sym c.info_at.ensures ∙ c.in_err-end.was))
