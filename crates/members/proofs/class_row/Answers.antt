-- One law for each answer.
use native.Mathlib.Omega.{arith}
use Rattle.members.specs.Laws.{fields_named, fields_own}
use Rattle.members.proofs.class_row.Goals as goal

pub returns-then-r-eq1 : goal.returns-then-r-eq1
returns-then-r-eq1 c = rw (c.row_at.ensures, c.named_row.ensures) (fields_named _ _ (omega arith))

pub returns : goal.returns
returns c = fields_own _ _ (λ e. omega arith)
