-- What follows the names is a function by cases of what the names answer.
use Rattle.std.proofs.Common.{rules}
use Rattle.book.proofs.content_at.Goals as goal

pub returns : goal.returns
returns c = rw (← c.class_at.ensures, c.in_ok-next.was) c.counted_at.ensures

pub returns-in_err-next : goal.returns-in_err-next
returns-in_err-next c = rw (← c.class_at.ensures, c.in_err-next.was) (search rules)
