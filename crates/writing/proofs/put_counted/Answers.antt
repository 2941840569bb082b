-- The member count, then the members.
use Rattle.put.specs.Put.{joined}
use Rattle.writing.proofs.put_counted.Goals as goal

pub returns : goal.returns
returns c = joined _ _ _ _ _ _ _ _ _ c.put_number-a.auto.out c.least-from.ensures c.put_number-a.ensures c.put_members-b.ensures c.add_up.ensures
