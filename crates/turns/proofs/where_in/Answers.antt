-- A depth of 0 is the top level.
use mathlib.Core.Path.{sym}
use Rattle.frames.specs.Laws.{where_top, where_inside}
use Rattle.turns.proofs.where_in.Goals as goal

pub returns-then-depth-eq0 : goal.returns-then-depth-eq0
returns-then-depth-eq0 c = λ f. sym (where_top f _ _ c.if-depth-eq0.true)

pub returns : goal.returns
returns c = λ f. sym (where_inside f _ _ c.if-depth-eq0.false)
