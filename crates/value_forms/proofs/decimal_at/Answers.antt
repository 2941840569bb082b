-- The definition is a function by cases of what the prefix answers.
use Rattle.std.proofs.Common.{rules}
use Rattle.format.specs.Values.{decimal_at}
use Rattle.value_forms.proofs.decimal_at.Goals as goal

pub returns : goal.returns
unfolding decimal_at
returns c = rw (← c.prefix_at.ensures, c.in_ok-n.was) c.decimal_text.ensures

pub returns-in_err-n : goal.returns-in_err-n
unfolding decimal_at
returns-in_err-n c = rw (← c.prefix_at.ensures, c.in_err-n.was) (search rules)
