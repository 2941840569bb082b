-- Invariant: the pass is at row i (`Passing`).
use Rattle.marks.specs.Marks.{place_one, placed}
use Rattle.marking.specs.Sweeps.{pass_start, pass_more, pass_end}
use Rattle.marking.proofs.place_all.Goals as goal

pub loop-i-init : goal.loop-i-init
unfolding placed
loop-i-init c = pass_start _ _ _ _

pub loop-i-preserved : goal.loop-i-preserved
unfolding placed
loop-i-preserved c = pass_more _ _ _ _ _ _ _ c.loop-i.invariant _ _ c.loop-i-test.true c.place_one.auto.table c.place_one.ensures

pub returns : goal.returns
unfolding placed
returns c = pass_end _ _ _ _ _ _ _ c.loop-i.invariant c.loop-i-test.false
