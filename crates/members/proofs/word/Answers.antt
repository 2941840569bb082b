-- One law for each answer.
use Rattle.std.proofs.Common.{arith, inl, inr}
use Rattle.members.specs.Laws.{word_out, word_none, word_in}
use Rattle.members.proofs.word.Goals as goal

pub returns-then-k-lt8 : goal.returns-then-k-lt8
returns-then-k-lt8 c = word_in _ _ _ (omega arith) (omega arith)

pub returns-else-row-table : goal.returns-else-row-table
returns-else-row-table c = elim c.else-row-table.either [ inl w ↦ word_none _ _ _ w.0 w.1 | inr w ↦ word_out _ _ _ w ]
