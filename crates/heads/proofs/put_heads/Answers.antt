-- The kind byte with the first number, then the second.
use Rattle.put.specs.Put.{joined}
use Rattle.heads.proofs.put_heads.Goals as goal

pub returns : goal.returns
returns c = joined _ _ _ _ _ _ _ _ _ c.put_head-a.auto.out c.least-from.ensures c.put_head-a.ensures c.put_number-b.ensures c.add_up.ensures
