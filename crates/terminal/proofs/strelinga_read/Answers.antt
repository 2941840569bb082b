-- The reply and the table are those of `read`.
use Rattle.terminal.specs.Terminal.{read_told, read_left}
use borrow.Author.Rules.{rules}
use Rattle.terminal.proofs.strelinga_read.Goals as goal

pub returns : goal.returns
returns c = search (read_told, read_left, rules)
