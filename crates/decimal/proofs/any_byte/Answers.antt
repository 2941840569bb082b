-- Each return is one law of `decimal_byte`, over what the callee ensures.
use Rattle.std.proofs.Common.{sym, arith}
use Rattle.decimal.specs.Limbs.{becomes}
use Rattle.decimal.specs.Laws.{byte_digit, byte_minus, byte_point, byte_high, minus_late, point_late, byte_other}
use Rattle.decimal.proofs.any_byte.Goals as goal
use Rattle.decimal.proofs.any_byte.Goals.{in_default-via-in-45+else-st-eq0, in_default-via-in-46+else-st-eq2, in_default-via-in_default+then-b-lt48, in_default-via-in_default+else-b-lt48+else-b-lt58}

pub returns-in-48-to-57 : goal.returns-in-48-to-57
returns-in-48-to-57 c = becomes c.any_digit.ensures (byte_digit _ _ (omega arith) (omega arith))

pub returns-in-45 : goal.returns-in-45
returns-in-45 c = record { same = sym (byte_minus _ _ (omega arith) (omega arith)); fine = omega arith }

pub returns-in-46 : goal.returns-in-46
returns-in-46 c = record { same = sym (byte_point _ _ (omega arith) (omega arith)); fine = omega arith }

pub returns-in_default : goal.returns-in_default
returns-in_default c =
    elim c.in_default.branch [
      | in_default-via-in-45+else-st-eq0 w ↦ becomes c.refuse.ensures (minus_late _ _ (omega arith) (omega arith))
      | in_default-via-in-46+else-st-eq2 w ↦ becomes c.refuse.ensures (point_late _ _ (omega arith) (omega arith))
      | in_default-via-in_default+then-b-lt48 w ↦ becomes c.refuse.ensures (byte_other _ _ (omega arith) (omega arith) (omega arith))
      | in_default-via-in_default+else-b-lt48+else-b-lt58 w ↦ becomes c.refuse.ensures (byte_high _ _ (omega arith))
    ]
