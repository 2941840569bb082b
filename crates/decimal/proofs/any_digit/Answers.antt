-- Each return is one law of `digit`, over what the callee ensures.
use Rattle.std.proofs.Common.{arith}
use Rattle.decimal.specs.Limbs.{becomes}
use Rattle.decimal.specs.Laws.{digit_whole, digit_fraction, digit_late}
use Rattle.decimal.proofs.any_digit.Goals as goal

pub returns-in-0-to-2 : goal.returns-in-0-to-2
returns-in-0-to-2 c = becomes c.whole_digit.ensures (digit_whole _ _ (omega arith))

pub returns-in-3-to-4 : goal.returns-in-3-to-4
returns-in-3-to-4 c = becomes c.fraction_digit.ensures (digit_fraction _ _ (omega arith) (omega arith))

pub returns-in_default : goal.returns-in_default
returns-in_default c = becomes c.refuse.ensures (digit_late _ _ (omega arith))
