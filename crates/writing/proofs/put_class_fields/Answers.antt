-- The name, then the members.
use Rattle.put.specs.Put.{joined}
use Rattle.writing.proofs.put_class_fields.Goals as goal

pub returns : goal.returns
returns c = joined _ _ _ _ _ _ _ _ _ c.put_text-a.auto.out c.least-from.ensures c.put_text-a.ensures c.put_counted-b.ensures c.add_up.ensures
