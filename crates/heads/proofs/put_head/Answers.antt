-- The kind byte, then the number.
use Rattle.put.specs.Put.{joined_as}
use Rattle.put.specs.Pieces.{head_is}
use Rattle.heads.proofs.put_head.Goals as goal

pub returns : goal.returns
returns c = joined_as _ _ _ _ _ _ _ _ _ _ (head_is _ _) c.put_byte-a.auto.out c.least-from.ensures c.put_byte-a.ensures c.put_number-b.ensures c.add_up.ensures
