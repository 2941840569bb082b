-- The reply, the table and the output are those of `tidy`.
use Rattle.terminal.specs.Terminal.{tidied}
use borrow.Author.Rules.{rules}
use Rattle.terminal.proofs.strelinga_tidy.Goals as goal

pub returns : goal.returns
returns c = search (tidied, rules)
