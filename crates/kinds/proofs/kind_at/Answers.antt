-- One law for each answer.
use mathlib.Core.Path.{sym, ◌∙◌}
use Rattle.kinds.specs.Kinds.{kind_there, kind_short}
use Rattle.kinds.proofs.kind_at.Goals as goal

pub returns-then-at-s : goal.returns-then-at-s
returns-then-at-s c = c.kind_of.ensures ∙ sym (kind_there _ _ _ c.if-at-s.true)

pub returns : goal.returns
returns c = sym (kind_short _ _ _ c.if-at-s.false)
