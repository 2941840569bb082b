-- The nulls before the row, then its record.
use Rattle.put.specs.Put.{joined_as}
use Rattle.copying.specs.Laws.{row_is}
use Rattle.copying.proofs.put_row.Goals as goal

pub returns : goal.returns
returns c = joined_as _ _ _ _ _ _ _ _ _ _ (row_is _ _ _ _ _ _) c.put_before-a.auto.out c.least-from.ensures c.put_before-a.ensures c.put_record-b.ensures c.add_up.ensures
