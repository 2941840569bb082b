-- One law for each kind of value.
use native.Mathlib.Omega.{arith}
use Rattle.peeking.specs.Laws.{value_char, value_decimal, value_fixed}
use Rattle.peeking.proofs.after_value.Goals as goal

pub returns-in-3 : goal.returns-in-3
returns-in-3 c = rw (c.on.ensures, c.char_size.ensures, c.byte_at.ensures) (value_char _ _ _ c.in-3.is)

pub returns-in-5 : goal.returns-in-5
returns-in-5 c = rw c.after_string.ensures (value_decimal _ _ _ c.in-5.is)

pub returns-in_default : goal.returns-in_default
returns-in_default c = rw (c.on-in_default.ensures, c.fixed_size.ensures) (value_fixed _ _ _ (λ e. omega arith) (λ e. omega arith))
