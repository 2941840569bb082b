-- One law for each answer; the size is what the first byte announces.
use mathlib.Core.Path.{sym, ◌∙◌}
use native.Mathlib.Omega.{arith}
use Rattle.value_forms.specs.Ends.{char_short, char_bad, char_scalar}
use Rattle.value_forms.proofs.char_at.Goals as goal

pub returns-then-s-at : goal.returns-then-s-at
returns-then-s-at c = sym (char_short _ _ (omega arith))

pub returns-then-more-eq4 : goal.returns-then-more-eq4
returns-then-more-eq4 c = sym (char_bad _ _ (omega arith) (sym c.need_of-more.ensures ∙ c.if-more-eq4.true))

pub returns : goal.returns
returns c =
    let n = c.need_of-more.ensures in
    rw (c.scalar_at.ensures, n) (sym (char_scalar _ _ (omega arith) (λ e. c.if-more-eq4.false (n ∙ e))))
