-- What the record says is a function by cases of what the items answer.
use Rattle.std.proofs.Common.{rules}
use Rattle.arrays.proofs.with_items.Goals as goal

pub returns : goal.returns
returns c = rw (← c.items_at.ensures, c.in_ok-end.was) c.plain_head.ensures

pub returns-in_err-end : goal.returns-in_err-end
returns-in_err-end c = rw (← c.items_at.ensures, c.in_err-end.was) (search rules)
