-- The kind and the new number, then the fields.
use Rattle.put.specs.Put.{joined_as}
use Rattle.pieces.specs.Laws.{class_is}
use Rattle.writing.proofs.put_class.Goals as goal

pub returns : goal.returns
returns c = joined_as _ _ _ _ _ _ _ _ _ _ (class_is _ _ _) c.put_object_head-a.auto.out c.least-from.ensures c.put_object_head-a.ensures c.put_class_fields-b.ensures c.add_up.ensures
