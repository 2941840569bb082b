-- Invariant: the pass is at row i (`Passing`).
use Rattle.marks.specs.Marks.{numbered}
use Rattle.marking.specs.Sweeps.{pass_start, pass_more, rows_end}
use Rattle.marking.proofs.number_all.Goals as goal

pub loop-i-init : goal.loop-i-init
unfolding numbered
loop-i-init c = pass_start _ _ _ _

pub loop-i-preserved : goal.loop-i-preserved
unfolding numbered
loop-i-preserved c = pass_more _ _ _ _ _ _ _ c.loop-i.invariant _ _ c.loop-i-test.true c.number_one-last.auto.table c.number_one-last.ensures

pub returns : goal.returns
unfolding numbered
returns c = rows_end _ _ _ _ _ _ _ _ c.loop-i.invariant c.loop-i-test.false
