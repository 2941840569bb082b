-- What is left of the word behind the option is compared with the ends.
use Rattle.std.proofs.Common.{sym, ◌∙◌, None, Some}
use Rattle.std.proofs.lemmas.Bool.Decides.{Decides-eqb}
use Rattle.std.proofs.lemmas.Slice.Eq.{strip_prefix_is, slice_eq-Decides}
use Rattle.options.specs.Laws.{compared, empty, option_none, end_both, end_first, end_second}
use Rattle.options.proofs.lists_of.Goals as goal

pub returns-in_err-end : goal.returns-in_err-end
returns-in_err-end c = c.from_residual.ensures ∙ sym (option_none _ _ (strip_prefix_is Decides-eqb _ _ None c.in_err-end.ensures.cases))

pub returns-then-is_empty : goal.returns-then-is_empty
returns-then-is_empty c =
    let h = strip_prefix_is Decides-eqb _ _ (Some c.in_ok-end.end) c.in_ok-end.ensures.cases in
    end_both _ _ _ h (sym (c.is_empty.ensures ∙ empty _) ∙ c.if-is_empty.true)

pub returns-then-eq : goal.returns-then-eq
returns-then-eq c =
    let h = strip_prefix_is Decides-eqb _ _ (Some c.in_ok-end.end) c.in_ok-end.ensures.cases in
    let e = rw c.as_slice.ensures at c.eq.ensures in
    end_first _ _ _ h (sym (c.is_empty.ensures ∙ empty _) ∙ c.if-is_empty.false) (sym (compared _ _ _ (slice_eq-Decides Decides-eqb _ _ _ e)) ∙ c.if-eq.true)

pub returns : goal.returns
returns c =
    let h = strip_prefix_is Decides-eqb _ _ (Some c.in_ok-end.end) c.in_ok-end.ensures.cases in
    let e = rw c.as_slice.ensures at c.eq.ensures in
    let f = rw c.as_slice-2.ensures at c.eq-2.ensures in
    let i = sym (c.is_empty.ensures ∙ empty _) ∙ c.if-is_empty.false in
    let j = sym (compared _ _ _ (slice_eq-Decides Decides-eqb _ _ _ e)) ∙ c.if-eq.false in
    c.then_some.ensures ∙ end_second _ _ _ h _ i j (sym (compared _ _ _ (slice_eq-Decides Decides-eqb _ _ _ f)))
