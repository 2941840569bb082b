-- Kind and code, then the value.
use Rattle.put.specs.Put.{joined_as}
use Rattle.arrays_out.specs.Laws.{typed_is}
use Rattle.one_row.proofs.put_typed.Goals as goal

pub returns : goal.returns
returns c = joined_as _ _ _ _ _ _ _ _ _ _ (typed_is _ _ _ _ c.byte_at.ensures) c.put_part-a.auto.out c.least-from.ensures c.put_part-a.ensures c.put_value-b.ensures c.add_up.ensures
