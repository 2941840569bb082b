-- A word less 1 is the row's number.
use Rattle.format.specs.Rows.{rows_of}
use Rattle.marks.specs.Rows.{row_is}
use Rattle.marks.proofs.row_named.Goals as goal

pub returns : goal.returns
returns c = row_is (rows_of c.args.n c.args.table.now) c.args.f _ _ c.less.ensures c.row_at.ensures
