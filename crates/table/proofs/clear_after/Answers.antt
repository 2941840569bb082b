-- The part from row n on is cleared (`cleared`).
use Rattle.table.specs.Rows.{cleared}
use native.Mathlib.Omega.{arith}
use Rattle.table.proofs.clear_after.Goals as goal

pub returns : goal.returns
returns c =
    let a = c.args in
    cleared a.n a.table.now _ (omega arith) c.clear.ensures
