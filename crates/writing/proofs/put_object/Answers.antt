-- In full, or by the first object of the class.
use Rattle.put.specs.Put.{became}
use Rattle.pieces.specs.Laws.{object_first, object_later}
use Rattle.writing.proofs.put_object.Goals as goal

pub returns-then-is_first : goal.returns-then-is_first
returns-then-is_first c = became _ _ _ _ _ (object_first _ _ _ _ _ c.is_first.ensures c.if-is_first.true) c.put_first.ensures

pub returns : goal.returns
returns c = became _ _ _ _ _ (object_later _ _ _ _ _ _ c.is_first.ensures c.if-is_first.false c.row_named-t.ensures) c.put_by_id.ensures
