-- The library's record, if its mark is this field.
use Rattle.put.specs.Put.{became, nothing}
use Rattle.pieces.specs.Laws.{need_here, need_none}
use Rattle.libraries_out.proofs.put_need.Goals as goal

pub returns-then-g-mark : goal.returns-then-g-mark
returns-then-g-mark c = became _ _ _ _ _ (need_here _ _ _ _ _ _ c.library_at-f.ensures c.row_named-g.ensures c.word-mark.ensures c.if-g-mark.true) c.put_library.ensures

pub returns : goal.returns
returns c = nothing _ _ (need_none _ _ _ _ _ _ c.library_at-f.ensures c.row_named-g.ensures c.word-mark.ensures c.if-g-mark.false)
