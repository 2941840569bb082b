-- One law for each answer.
use mathlib.Core.Path.{sym}
use native.Mathlib.Omega.{arith}
use Rattle.value_forms.specs.Ends.{boolean_short, boolean_bad, boolean_end}
use Rattle.value_forms.proofs.boolean_at.Goals as goal

pub returns-then-s-at : goal.returns-then-s-at
returns-then-s-at c = sym (boolean_short _ _ (omega arith))

pub returns-then-s-at-gt1 : goal.returns-then-s-at-gt1
returns-then-s-at-gt1 c = sym (boolean_bad _ _ (omega arith) (omega arith))

pub returns : goal.returns
returns c = sym (boolean_end _ _ (omega arith) (omega arith))
