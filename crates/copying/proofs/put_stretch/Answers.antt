-- The nulls, then the part of the stream.
use Rattle.put.specs.Put.{joined}
use Rattle.copying.proofs.put_stretch.Goals as goal

pub returns : goal.returns
returns c = joined _ _ _ _ _ _ _ _ _ c.put_run-a.auto.out c.least-from.ensures c.put_run-a.ensures c.put_part-b.ensures c.add_up.ensures
