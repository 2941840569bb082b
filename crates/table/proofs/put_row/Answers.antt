-- The row after the first n is written over, which is one row more (`row_more`).
use Rattle.table.specs.Rows.{row_more}
use Rattle.table.proofs.put_row.Goals as goal

pub returns : goal.returns
returns c =
    let a = c.args in
    row_more a.n a.table.now _ a.r c.put_at.ensures
