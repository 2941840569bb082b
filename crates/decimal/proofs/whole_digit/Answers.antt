-- Both limbs stay linear in the old ones, so omega carries the carry; each return is one law of `whole_digit`.
use Rattle.std.proofs.Common.{sym, arith}
use Rattle.decimal.specs.Limbs.{becomes}
use Rattle.decimal.specs.Laws.{whole_over, whole_on}
use Rattle.decimal.proofs.whole_digit.Goals as goal

pub returns-then-hi-gt79228162514264 : goal.returns-then-hi-gt79228162514264
returns-then-hi-gt79228162514264 c = becomes c.refuse.ensures (whole_over _ _ (omega arith))

pub returns : goal.returns
returns c = record { same = sym (whole_on _ _ _ (omega arith) (omega arith)); fine = omega arith }
