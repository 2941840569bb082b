-- The eight words that were copied are row i (`row_written`).
use Rattle.std.proofs.Common.{arith}
use Rattle.table.specs.Rows.{row_written}
use Rattle.table.proofs.put_at.Goals as goal

pub returns : goal.returns
returns c = row_written _ _ _ _ c.args.r (omega arith) (omega arith) c.copy_from_slice.ensures.after
