-- One law for each answer; the members begin where the count ends, which is within the stream.
use Rattle.std.specs.Prelude.{Err}
use Rattle.std.proofs.Common.{rules}
use Rattle.fields.specs.Tried.{found, missing}
use mathlib.Core.Path.{sym, ◌∙◌, ◌≡◌, ap}
use Rattle.class_info.specs.Ends.{number_moves}
use Rattle.class_info.specs.Stages.{name_bad, count_short, count_bad, count_good}
use Rattle.classes.proofs.named_class_at.Goals as goal

pub returns-in_err-q : goal.returns-in_err-q
returns-in_err-q c =
    let r : c.from_residual.result ≡ Err c.in_err-q.field-0.0 = search rules in
    r ∙ sym (name_bad _ _ _ _ _ _ _ (sym c.name_at.ensures ∙ c.in_err-q.was))

pub returns-in_err-count : goal.returns-in_err-count
returns-in_err-count c =
    let w = missing _ c.u32_at.ensures c.in_err-count.ensures.value in
    let r : c.from_residual-in_err-count.result ≡ Err c.in_err-count.field-0.0 = search rules in
    r ∙ (ap Err w.1 ∙ sym (count_short _ _ _ _ _ _ _
    (sym c.name_at.ensures ∙ c.in_ok-q.was)
    w.0))

pub returns-then-is_negative : goal.returns-then-is_negative
returns-then-is_negative c =
    sym (count_bad _ _ _ _ _ _ _
    (sym c.name_at.ensures ∙ c.in_ok-q.was) _ _
    (found _ c.u32_at.ensures c.in_ok-count.ensures.value)
    (sym c.is_negative.ensures ∙ c.if-is_negative.true))

pub members_at-requires : goal.members_at-requires
members_at-requires c =
    let w = number_moves _ _ _ _ (found _ c.u32_at.ensures c.in_ok-count.ensures.value) in
    (c.requires.0, c.requires.1, w.1)

pub returns : goal.returns
returns c =
    c.members_at.ensures
    ∙ sym (count_good _ _ _ _ _ _ _
    (sym c.name_at.ensures ∙ c.in_ok-q.was) _ _
    (found _ c.u32_at.ensures c.in_ok-count.ensures.value)
    (sym c.is_negative.ensures ∙ c.if-is_negative.false))
