-- Eight words are row i (`row_front`); past the first n it is the blank row (`row_out_lem`).
use Rattle.table.specs.Rows.{row_front, row_out_lem}
use native.Mathlib.Omega.{arith}
use Rattle.table.proofs.row_at.Goals as goal

pub returns-then-n-i : goal.returns-then-n-i
returns-then-n-i c = row_out_lem _ _ _ (omega arith)

pub returns : goal.returns
returns c = row_front _ _ _ (omega arith)
