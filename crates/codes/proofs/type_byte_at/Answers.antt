-- One law for each answer.
use mathlib.Core.Path.{sym}
use native.Mathlib.Omega.{arith}
use Rattle.codes.specs.Ends.{type_short, type_bad, type_end}
use Rattle.codes.proofs.type_byte_at.Goals as goal

pub returns-then-s-at : goal.returns-then-s-at
returns-then-s-at c = sym (type_short _ _ (omega arith))

pub returns-then-s-at-gt7 : goal.returns-then-s-at-gt7
returns-then-s-at-gt7 c = sym (type_bad _ _ (omega arith) (omega arith))

pub returns : goal.returns
returns c = sym (type_end _ _ (omega arith) (omega arith))
