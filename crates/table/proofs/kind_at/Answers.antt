-- The word is row i's (`row-in`).
use mathlib.Core.Path.{ap}
use native.Mathlib.Omega.{arith}
use Rattle.format.specs.declared.Row.{Row}
use Rattle.table.specs.Rows.{row_in_lem}
use Rattle.table.proofs.kind_at.Goals as goal

pub returns : goal.returns
returns c = ap (λ (r : Row). r.kind) (row_in_lem _ _ _ (omega arith))
