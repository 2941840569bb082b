-- Kind 1 and two numbers.
use Rattle.put.specs.Put.{became}
use Rattle.put.specs.Pieces.{by_id_is}
use Rattle.heads.proofs.put_by_id.Goals as goal

pub returns : goal.returns
returns c = became _ _ _ _ _ (by_id_is _ _) c.put_heads.ensures
