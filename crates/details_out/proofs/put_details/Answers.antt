-- The members' details, then the class's own library.
use Rattle.put.specs.Put.{joined_as}
use Rattle.pieces.specs.Laws.{details_is}
use Rattle.details_out.proofs.put_details.Goals as goal

pub returns : goal.returns
returns c = joined_as _ _ _ _ _ _ _ _ _ _ (details_is _ _ _) c.put_infos-a.auto.out c.least-from.ensures c.put_infos-a.ensures c.put_own-b.ensures c.add_up.ensures
