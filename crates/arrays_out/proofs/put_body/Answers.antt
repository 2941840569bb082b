-- The kind and the new number, then the fields.
use Rattle.put.specs.Put.{joined_as}
use Rattle.arrays_out.specs.Laws.{body_is}
use Rattle.arrays_out.proofs.put_body.Goals as goal

pub returns : goal.returns
returns c = joined_as _ _ _ _ _ _ _ _ _ _ (body_is _ _ _ _ _ _) c.put_object_head-a.auto.out c.least-from.ensures c.put_object_head-a.ensures c.put_array_fields-b.ensures c.add_up.ensures
