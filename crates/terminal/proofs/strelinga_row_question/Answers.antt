-- The number is that of the reply of `row_question`.
use Rattle.terminal.specs.Terminal.{row_told}
use borrow.Author.Rules.{rules}
use Rattle.terminal.proofs.strelinga_row_question.Goals as goal

pub returns : goal.returns
returns c = search (row_told, rules)
