-- A step goes by what `any_byte` ensures; at the end nothing is left of s, and the two ends are one law each.
use Rattle.std.proofs.Common.{◌∙◌, arith}
use Rattle.decimal.specs.Run.{run_step, run_end, whole_end, fraction_end}
use Rattle.decimal.proofs.is_decimal.Goals as goal

pub loop-b-preserved : goal.loop-b-preserved
loop-b-preserved c = (c.any_byte-st.ensures.fine, rw c.any_byte-st.ensures.same (c.loop-b.invariant.1 ∙ run_step _ _ _ (omega arith)))

pub returns-then-st-eq2 : goal.returns-then-st-eq2
returns-then-st-eq2 c = whole_end _ _ (c.loop-b.invariant.1 ∙ run_end _ _ _ (omega arith)) (omega arith)

pub returns-else-st-eq2 : goal.returns-else-st-eq2
returns-else-st-eq2 c = fraction_end _ _ (c.loop-b.invariant.1 ∙ run_end _ _ _ (omega arith)) (omega arith)
