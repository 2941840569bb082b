-- One law for each answer.
use mathlib.Core.Path.{sym, ◌∙◌}
use native.Mathlib.Omega.{arith}
use Rattle.codes.specs.Ends.{code_short, code_end_lem, code_bad}
use Rattle.codes.proofs.code_at.Goals as goal

pub returns-then-s-at : goal.returns-then-s-at
returns-then-s-at c = sym (code_short _ _ (omega arith))

pub returns-in-Some : goal.returns-in-Some
returns-in-Some c = sym (code_end_lem _ _ (omega arith) _ (sym c.primitive_of.ensures ∙ c.in-Some.is))

pub returns-in-None : goal.returns-in-None
returns-in-None c = sym (code_bad _ _ (omega arith) (sym c.primitive_of.ensures ∙ c.in-None.is))
