-- The kind and the new number, then the name.
use Rattle.put.specs.Put.{joined_as}
use Rattle.pieces.specs.Laws.{library_is}
use Rattle.libraries_out.proofs.put_library.Goals as goal

pub returns : goal.returns
returns c = joined_as _ _ _ _ _ _ _ _ _ _ (library_is _ _) c.put_library_head-a.auto.out c.least-from.ensures c.put_library_head-a.ensures c.put_text-b.ensures c.add_up.ensures
