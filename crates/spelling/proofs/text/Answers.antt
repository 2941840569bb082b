-- The end of the plain characters lies behind the place, and within the text.
use Rattle.std.proofs.Common.{arith}
use Rattle.peeking.specs.Laws.{plain_within}
use Rattle.spelling.proofs.text.Goals as goal

pub slice_bounds-shown-count : goal.slice_bounds-shown-count
slice_bounds-shown-count c = omega (arith, plain_within _ _ _ c.plain_end-end.ensures (omega arith))

pub slice_bounds-shown-start : goal.slice_bounds-shown-start
slice_bounds-shown-start c = omega (arith, plain_within _ _ _ c.plain_end-end.ensures (omega arith))

pub slice_bounds-shown-end : goal.slice_bounds-shown-end
slice_bounds-shown-end c = omega (arith, plain_within _ _ _ c.plain_end-end.ensures (omega arith))

pub loop-at-smaller : goal.loop-at-smaller
loop-at-smaller c = omega (arith, c.character-at.ensures.0, plain_within _ _ _ c.plain_end-end.ensures (omega arith))
