-- The place and the length are those of `row_text`.
use Rattle.terminal.specs.Terminal.{shown}
use borrow.Author.Rules.{rules}
use Rattle.terminal.proofs.strelinga_text_view.Goals as goal

pub returns : goal.returns
returns c = search (shown, rules)
