-- A character that is hidden has a byte or more, so the place moves on.
use Rattle.std.proofs.Common.{arith}
use Rattle.peeking.specs.Laws.{onward_on}
use Rattle.spelling.proofs.character.Goals as goal

pub returns : goal.returns
returns c = onward_on _ _ _ _ c.on-2.ensures (omega arith) (omega (arith, c.if-n-eq0.false))
