-- Within the stream, or past it.
use Rattle.std.proofs.Common.{◌∙◌, le-ltb}
use Rattle.kinds.specs.Kinds.{brief_there, brief_past}
use Rattle.kinds.proofs.is_brief_at.Goals as goal

pub returns-then-at-s : goal.returns-then-at-s
returns-then-at-s c = brief_there _ _ _ _ c.if-at-s.true c.is_brief_in.ensures

pub returns-else-at-s : goal.returns-else-at-s
returns-else-at-s c = le-ltb _ _ c.if-at-s.false ∙ brief_past _ _ _ c.if-at-s.false
