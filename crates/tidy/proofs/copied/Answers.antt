-- The copy with the code that the setting names.
use Rattle.tidy.specs.Top.{anew_short, anew_answer, anew_output}
use borrow.Author.Rules.{rules}
use Rattle.tidy.proofs.copied.Goals as goal

pub copied-requires : goal.copied-requires
copied-requires c = search (anew_short, rules)

pub returns : goal.returns
returns c = search (anew_answer, anew_output, rules)
