-- Invariant: the pass is at row i (`Passing`).
use Rattle.marks.specs.Marks.{first_one, firsts}
use Rattle.marking.specs.Sweeps.{pass_start, pass_more, pass_end}
use Rattle.marking.proofs.first_all.Goals as goal

pub loop-i-init : goal.loop-i-init
unfolding firsts
loop-i-init c = pass_start _ _ _ _

pub loop-i-preserved : goal.loop-i-preserved
unfolding firsts
loop-i-preserved c = pass_more _ _ _ _ _ _ _ c.loop-i.invariant _ _ c.loop-i-test.true c.first_one.auto.table c.first_one.ensures

pub returns : goal.returns
unfolding firsts
returns c = pass_end _ _ _ _ _ _ _ c.loop-i.invariant c.loop-i-test.false
