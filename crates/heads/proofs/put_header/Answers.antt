-- Kind 0 and the root twice, then the version.
use Rattle.put.specs.Put.{joined_as}
use Rattle.put.specs.Pieces.{header_is}
use Rattle.heads.proofs.put_header.Goals as goal

pub returns : goal.returns
returns c = joined_as _ _ _ _ _ _ _ _ _ _ (header_is _) c.put_heads-a.auto.out c.least-from.ensures c.put_heads-a.ensures c.put_numbers-b.ensures c.add_up.ensures
