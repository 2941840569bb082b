-- Two numbers, one after the other.
use Rattle.put.specs.Put.{joined}
use Rattle.heads.proofs.put_numbers.Goals as goal

pub returns : goal.returns
returns c = joined _ _ _ _ _ _ _ _ _ c.put_number-a.auto.out c.least-from.ensures c.put_number-a.ensures c.put_number-b.ensures c.add_up.ensures
