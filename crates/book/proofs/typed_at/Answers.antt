-- What follows the type byte is a function by cases of what the type byte answers.
use Rattle.std.proofs.Common.{rules}
use Rattle.book.proofs.typed_at.Goals as goal

pub returns : goal.returns
returns c = rw (← c.type_byte_at.ensures, c.in_ok-next.was, ← c.byte_at-kind.ensures) c.coded_info_at.ensures

pub returns-in_err-next : goal.returns-in_err-next
returns-in_err-next c = rw (← c.type_byte_at.ensures, c.in_err-next.was) (search rules)
