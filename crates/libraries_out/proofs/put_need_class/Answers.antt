-- The records for the members, then the one for the class itself.
use Rattle.put.specs.Put.{joined_as}
use Rattle.pieces.specs.Laws.{need_class_is}
use Rattle.libraries_out.proofs.put_need_class.Goals as goal

pub returns : goal.returns
returns c = joined_as _ _ _ _ _ _ _ _ _ _ (need_class_is _ _ _) c.put_need_infos-a.auto.out c.least-from.ensures c.put_need_infos-a.ensures c.put_need_own-b.ensures c.add_up.ensures
