-- The loop keeps what closing the full objects will leave; each end of it is one law of `close`.
use Rattle.std.proofs.Common.{refl, sym, ◌∙◌, arith}
use Rattle.frames.specs.Laws.{close_end, close_stop, close_pop}
use Rattle.frames.proofs.settle.Goals as goal

pub loop-depth-preserved : goal.loop-depth-preserved
loop-depth-preserved c =
    (omega arith, c.loop-depth.invariant.1 ∙ close_pop c.loop-depth.top _ _ c.loop-depth.depth c.loop-depth-test.true c.if-top-eq0.true c.frame_at-top.ensures)

pub returns-else-top-eq0 : goal.returns-else-top-eq0
returns-else-top-eq0 c =
    record {
      stack = close_stop c.loop-depth.top _ c.loop-depth.depth c.if-top-eq0.false ∙ sym c.loop-depth.invariant.1;
      place = refl;
      rows = refl;
      shallow = c.loop-depth.invariant.0;
    }

pub returns-after-loop-depth : goal.returns-after-loop-depth
returns-after-loop-depth c =
    record {
      stack = close_end c.loop-depth.top _ c.loop-depth.depth c.loop-depth-test.false ∙ sym c.loop-depth.invariant.1;
      place = refl;
      rows = refl;
      shallow = c.loop-depth.invariant.0;
    }
