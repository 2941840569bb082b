-- Each return is one law of `fraction_digit`.
use Rattle.std.proofs.Common.{sym, arith}
use Rattle.decimal.specs.Limbs.{becomes}
use Rattle.decimal.specs.Laws.{fraction_zero, fraction_on, fraction_over}
use Rattle.decimal.proofs.fraction_digit.Goals as goal
use Rattle.decimal.proofs.fraction_digit.Goals.{else-d-ne0-via-then-d-ne0+then-st-eq79228162514264+else-st-eq337593543950335, else-d-ne0-via-then-d-ne0+else-st-eq79228162514264, else-d-ne0-via-else-d-ne0}

pub returns-then-st-eq337593543950335 : goal.returns-then-st-eq337593543950335
returns-then-st-eq337593543950335 c = becomes c.refuse.ensures (fraction_over _ _ (omega arith) (omega arith))

pub returns : goal.returns
returns c =
    elim c.else-d-ne0.branch [
      | else-d-ne0-via-then-d-ne0+then-st-eq79228162514264+else-st-eq337593543950335 w ↦ record { same = sym (fraction_on _ _ (omega arith) (omega arith)); fine = omega arith }
      | else-d-ne0-via-then-d-ne0+else-st-eq79228162514264 w ↦ record { same = sym (fraction_on _ _ (omega arith) (omega arith)); fine = omega arith }
      | else-d-ne0-via-else-d-ne0 w ↦ record { same = sym (fraction_zero _ _ (omega arith)); fine = omega arith }
    ]
