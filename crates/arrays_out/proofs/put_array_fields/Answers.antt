-- What is kept, then the item type's detail and the items.
use Rattle.put.specs.Put.{joined}
use Rattle.arrays_out.proofs.put_array_fields.Goals as goal

pub returns : goal.returns
returns c = joined _ _ _ _ _ _ _ _ _ c.put_part-a.auto.out c.least-from.ensures c.put_part-a.ensures c.put_items-b.ensures c.add_up.ensures
