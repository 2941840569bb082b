-- The detail of the item type, then the items that are primitive.
use Rattle.put.specs.Put.{joined_as}
use Rattle.arrays_out.specs.Laws.{items_is}
use Rattle.arrays_out.proofs.put_items.Goals as goal

pub returns : goal.returns
returns c = joined_as _ _ _ _ _ _ _ _ _ _ (items_is _ _ _ _ _ _ _ c.byte_at-kind.ensures _ c.are_anew-prefixed.ensures) c.put_info-a.auto.out c.least-from.ensures c.put_info-a.ensures c.put_values-b.ensures c.add_up.ensures
