-- Length and code, then the items.
use Rattle.put.specs.Put.{joined_as}
use Rattle.arrays_out.specs.Laws.{primitive_items_is}
use Rattle.one_row.proofs.put_primitive_items.Goals as goal

pub returns : goal.returns
returns c = joined_as _ _ _ _ _ _ _ _ _ _ (primitive_items_is _ _ _ _ c.byte_at.ensures) c.put_part-a.auto.out c.least-from.ensures c.put_part-a.ensures c.put_values-b.ensures c.add_up.ensures
