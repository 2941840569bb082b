-- One law for a class's first row, one for a BinaryArray, one for any other row.
use Rattle.needs.specs.Laws.{one_class, one_array, one_none}
use Rattle.needs.proofs.need_one.Goals as goal

pub returns-then-is_first : goal.returns-then-is_first
returns-then-is_first c = one_class _ _ _ _ _ _ c.row_at-r.ensures c.is_first.ensures _ c.if-is_first.true c.need_class.ensures

pub returns-then-r-eq7 : goal.returns-then-r-eq7
returns-then-r-eq7 c = one_array _ _ _ _ _ _ c.row_at-r.ensures c.is_first.ensures _ c.if-is_first.false c.if-r-eq7.true c.need_array.ensures

pub returns : goal.returns
returns c = one_none _ _ _ _ _ _ c.row_at-r.ensures c.is_first.ensures c.if-is_first.false c.if-r-eq7.false
