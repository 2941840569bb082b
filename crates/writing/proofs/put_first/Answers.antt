-- The libraries that are needed, then the class.
use Rattle.put.specs.Put.{joined}
use Rattle.writing.proofs.put_first.Goals as goal

pub returns : goal.returns
returns c = joined _ _ _ _ _ _ _ _ _ c.put_need_class-a.auto.out c.least-from.ensures c.put_need_class-a.ensures c.put_class-b.ensures c.add_up.ensures
