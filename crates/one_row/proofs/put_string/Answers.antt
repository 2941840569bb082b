-- The kind and the new number, then the text.
use Rattle.put.specs.Put.{joined_as}
use Rattle.arrays_out.specs.Laws.{string_is}
use Rattle.one_row.proofs.put_string.Goals as goal

pub returns : goal.returns
returns c = joined_as _ _ _ _ _ _ _ _ _ _ (string_is _ _) c.put_object_head-a.auto.out c.least-from.ensures c.put_object_head-a.ensures c.put_text-b.ensures c.add_up.ensures
