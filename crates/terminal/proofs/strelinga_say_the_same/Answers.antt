-- The answer, the table and the outputs are those of `say_the_same`; the reply is that of the tidying that ends it.
use Rattle.terminal.specs.Terminal.{compared}
use borrow.Author.Rules.{rules}
use Rattle.terminal.proofs.strelinga_say_the_same.Goals as goal

pub returns : goal.returns
returns c = search (compared, rules)
