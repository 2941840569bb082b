-- What follows the name is a function by cases of what the name answers.
use Rattle.std.proofs.Common.{rules}
use Rattle.types.proofs.class_at.Goals as goal

pub returns : goal.returns
returns c = rw (← c.name_at.ensures, c.in_ok-next.was) c.library_id_at.ensures

pub returns-in_err-next : goal.returns-in_err-next
returns-in_err-next c = rw (← c.name_at.ensures, c.in_err-next.was) (search rules)
