-- One law for each answer.
use mathlib.Core.Path.{sym, ◌∙◌}
use native.Mathlib.Omega.{arith}
use Rattle.book.specs.Moves.{counted_short, counted_members}
use Rattle.book.proofs.counted_at.Goals as goal

pub returns-then-book-at : goal.returns-then-book-at
returns-then-book-at c = sym (counted_short _ _ c.if-book-at.true)

pub returns : goal.returns
returns c = c.all_described_at.ensures ∙ sym (counted_members _ _ (omega arith))
