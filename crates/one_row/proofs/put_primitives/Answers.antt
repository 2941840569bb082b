-- The kind and the new number, then the items.
use Rattle.put.specs.Put.{joined_as}
use Rattle.arrays_out.specs.Laws.{primitives_is}
use Rattle.one_row.proofs.put_primitives.Goals as goal

pub returns : goal.returns
returns c = joined_as _ _ _ _ _ _ _ _ _ _ (primitives_is _ _ _) c.put_object_head-a.auto.out c.least-from.ensures c.put_object_head-a.ensures c.put_primitive_items-b.ensures c.add_up.ensures
