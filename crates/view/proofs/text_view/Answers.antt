-- The part is that of `row_text`, which lies in the stream (`row_inside`).
use native.Mathlib.Omega.{arith}
use Rattle.view.specs.Laws.{row_inside, view_part, view_fault}
use Rattle.view.proofs.text_view.Goals as goal

pub slice_bounds-result-count : goal.slice_bounds-result-count
slice_bounds-result-count c = omega (arith, row_inside _ _ _ _ _ _ _ c.row_text.ensures c.in-Ok.is)

pub slice_bounds-result-start : goal.slice_bounds-result-start
slice_bounds-result-start c = omega (arith, row_inside _ _ _ _ _ _ _ c.row_text.ensures c.in-Ok.is)

pub slice_bounds-result-end : goal.slice_bounds-result-end
slice_bounds-result-end c = omega (arith, row_inside _ _ _ _ _ _ _ c.row_text.ensures c.in-Ok.is)

pub returns-in-Ok : goal.returns-in-Ok
returns-in-Ok c = view_part _ _ _ _ _ c.row_text.ensures _ _ c.in-Ok.is

pub returns-in-Err : goal.returns-in-Err
returns-in-Err c = view_fault _ _ _ _ _ c.row_text.ensures _ c.in-Err.is
