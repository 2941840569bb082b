-- The invariant: what is written and the details still left are all the details.
use Rattle.std.proofs.Common.{arith}
use Rattle.put.specs.Put.{along_more, along_end}
use Rattle.pieces.specs.Laws.{infos_start, infos_more, infos_end}
use Rattle.details_out.proofs.put_infos.Goals as goal

pub loop-i-init : goal.loop-i-init
loop-i-init c = infos_start _ _ _ _ _ _

pub slice_bounds-put_info-count : goal.slice_bounds-put_info-count
slice_bounds-put_info-count c = omega (arith, c.least-from.ensures.within)

pub slice_bounds-put_info-start : goal.slice_bounds-put_info-start
slice_bounds-put_info-start c = omega (arith, c.least-from.ensures.within)

pub slice_bounds-put_info-end : goal.slice_bounds-put_info-end
slice_bounds-put_info-end c = omega (arith, c.least-from.ensures.within)

pub loop-i-preserved : goal.loop-i-preserved
loop-i-preserved c = along_more _ _ _ _ _ _ _ _ _ c.loop-i.invariant c.least-from.ensures c.add_up-at.ensures _ _ (infos_more _ _ _ _ _ _ _ _ c.loop-i-test.true c.byte_at-kind.ensures c.after_info-e.ensures) c.put_info-b.auto.out c.put_info-b.ensures

pub shape_of-out : goal.shape_of-out
shape_of-out c = c.loop-i.invariant.sized

pub returns : goal.returns
returns c = along_end _ _ _ _ _ c.loop-i.invariant (infos_end _ _ _ _ _ _ (omega arith))
