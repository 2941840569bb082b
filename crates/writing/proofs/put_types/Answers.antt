-- The type bytes, then the details.
use Rattle.put.specs.Put.{joined}
use Rattle.writing.proofs.put_types.Goals as goal

pub returns : goal.returns
returns c = joined _ _ _ _ _ _ _ _ _ c.put_part-a.auto.out c.least-from.ensures c.put_part-a.ensures c.put_details-b.ensures c.add_up.ensures
