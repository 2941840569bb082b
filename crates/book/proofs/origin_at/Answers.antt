-- The definition asks for a first byte of 1.
use mathlib.Core.Path.{sym, ◌∙◌}
use Rattle.book.specs.Moves.{origin_library, origin_none}
use Rattle.book.proofs.origin_at.Goals as goal

pub returns-then-first-eq1 : goal.returns-then-first-eq1
returns-then-first-eq1 c = c.name_at.ensures ∙ sym (origin_library _ _ _ c.if-first-eq1.true)

pub returns : goal.returns
returns c = sym (origin_none _ _ _ c.if-first-eq1.false)
