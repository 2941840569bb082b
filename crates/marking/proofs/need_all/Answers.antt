-- Invariant: the pass is at row i (`Passing`).
use Rattle.marks.specs.Marks.{needed}
use Rattle.marking.specs.Sweeps.{pass_start, pass_more, rows_end}
use Rattle.marking.proofs.need_all.Goals as goal

pub loop-i-init : goal.loop-i-init
unfolding needed
loop-i-init c = pass_start _ _ _ _

pub loop-i-preserved : goal.loop-i-preserved
unfolding needed
loop-i-preserved c = pass_more _ _ _ _ _ _ _ c.loop-i.invariant _ _ c.loop-i-test.true c.need_one-last.auto.table c.need_one-last.ensures

pub returns : goal.returns
unfolding needed
returns c = rows_end _ _ _ _ _ _ _ _ c.loop-i.invariant c.loop-i-test.false
