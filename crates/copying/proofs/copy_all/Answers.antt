-- The invariant: what is written and the copy of the rows still left are the whole copy; a run is short, since each row adds a word to it at most.
use Prim.Native.Nat.{◌-◌}
use mathlib.Core.Path.{refl, sym, ◌∙◌}
use native.Mathlib.Omega.{arith}
use lib.ListN.{length}
use borrow.Rule.Slice.PartMut.{same_len_mid}
use Rattle.format.specs.Rows.{rows_of}
use Rattle.table.specs.Rows.{length_rows_of}
use Rattle.put.specs.Put.{along_last, became}
use Rattle.copying.specs.Laws.{copy_start, row_skipped, row_copied, copy_end}
use Rattle.copying.specs.Kept.{stretch_copied}
use Rattle.copying.proofs.copy_all.Goals as goal

pub loop-i-init : goal.loop-i-init
loop-i-init c = (omega arith, omega arith, copy_start _ _ _ _)

pub overflow_add-w : goal.overflow_add-w
overflow_add-w c = omega (arith, c.loop-i.invariant.1, c.loop-i-test.true, c.requires.1, c.count_at.type_inv)

pub overflow_add-i : goal.overflow_add-i
overflow_add-i c = omega (arith, c.loop-i-test.true, c.requires.1)

pub loop-i-smaller-then-is_more : goal.loop-i-smaller-then-is_more
loop-i-smaller-then-is_more c = omega (arith, c.loop-i-test.true)

pub loop-i-preserved-then-is_more : goal.loop-i-preserved-then-is_more
loop-i-preserved-then-is_more c = row_skipped _ c.args.s.now _ _ (rows_of c.args.n c.args.table.now) _ _ _ _ _ _ _ _ (length_rows_of c.args.n c.args.table.now) c.loop-i-test.true c.kind_at-kind.ensures c.owner_at-owner.ensures c.count_at.ensures (omega (arith, c.count_at.type_inv)) (sym c.is_more.ensures ∙ c.if-is_more.true) refl c.loop-i.invariant.1 c.loop-i.invariant.2

pub stretch_from-kept-requires : goal.stretch_from-kept-requires
stretch_from-kept-requires c = (omega (arith, c.loop-i-test.true), c.requires.0)

pub slice_bounds-put_stretch-count : goal.slice_bounds-put_stretch-count
slice_bounds-put_stretch-count c = omega (arith, c.least-from.ensures.within)

pub slice_bounds-put_stretch-start : goal.slice_bounds-put_stretch-start
slice_bounds-put_stretch-start c = omega (arith, c.least-from.ensures.within)

pub slice_bounds-put_stretch-end : goal.slice_bounds-put_stretch-end
slice_bounds-put_stretch-end c = omega (arith, c.least-from.ensures.within)

pub loop-i-smaller-then-i-kept : goal.loop-i-smaller-then-i-kept
loop-i-smaller-then-i-kept c = omega (arith, c.loop-i-test.true, c.if-i-kept.true)

pub loop-i-preserved-then-i-kept : goal.loop-i-preserved-then-i-kept
loop-i-preserved-then-i-kept c = stretch_copied _ c.args.s.now _ _ _ (rows_of c.args.n c.args.table.now) _ _ _ _ _ _ _ _ _ _ (length_rows_of c.args.n c.args.table.now) c.loop-i-test.true c.stretch_from-kept.ensures c.if-i-kept.true refl c.loop-i.invariant.2 c.least-from.ensures c.add_up-at.ensures c.put_stretch-b.auto.out c.put_stretch-b.ensures

pub slice_bounds-put_row-count : goal.slice_bounds-put_row-count
slice_bounds-put_row-count c = omega (arith, c.least-from.ensures.within)

pub slice_bounds-put_row-start : goal.slice_bounds-put_row-start
slice_bounds-put_row-start c = omega (arith, c.least-from.ensures.within)

pub slice_bounds-put_row-end : goal.slice_bounds-put_row-end
slice_bounds-put_row-end c = omega (arith, c.least-from.ensures.within)

pub put_row-b-requires : goal.put_row-b-requires
put_row-b-requires c = (c.requires.0, omega arith, omega (arith, c.loop-i-test.true))

pub run_after-w-requires : goal.run_after-w-requires
run_after-w-requires c = omega (arith, c.loop-i.invariant.1, c.loop-i-test.true, c.requires.1)

pub overflow_add-i-in-loop-i : goal.overflow_add-i-in-loop-i
overflow_add-i-in-loop-i c = omega (arith, c.loop-i-test.true, c.requires.1)

pub loop-i-smaller : goal.loop-i-smaller
loop-i-smaller c = omega (arith, c.loop-i-test.true)

pub loop-i-preserved : goal.loop-i-preserved
loop-i-preserved c = row_copied _ c.args.s.now _ _ _ (rows_of c.args.n c.args.table.now) _ _ _ _ _ _ _ _ _ (length_rows_of c.args.n c.args.table.now) c.loop-i-test.true c.row_at-r.ensures (omega (arith, c.row_at-r.type_inv)) c.run_after-w.ensures c.loop-i.invariant.1 c.loop-i.invariant.2 c.least-from.ensures c.add_up-at-in-loop-i.ensures c.put_row-b.auto.out c.put_row-b.ensures

pub slice_bounds-put_run-count : goal.slice_bounds-put_run-count
slice_bounds-put_run-count c = omega (arith, c.least-from-2.ensures.within)

pub slice_bounds-put_run-start : goal.slice_bounds-put_run-start
slice_bounds-put_run-start c = omega (arith, c.least-from-2.ensures.within)

pub slice_bounds-put_run-end : goal.slice_bounds-put_run-end
slice_bounds-put_run-end c = omega (arith, c.least-from-2.ensures.within)

pub shape_of-out : goal.shape_of-out
shape_of-out c =
    let x = c.loop-i.out in
    let m = c.least-from-2.result in
    same_len_mid m (length x - m) x c.put_run-b.new.out c.put_run-b.auto.out ∙ c.loop-i.invariant.2.sized

pub returns : goal.returns
returns c =
    let l = length_rows_of c.args.n c.args.table.now in
    along_last _ _ _ _ _ _ _ _ _ c.loop-i.invariant.2 c.least-from-2.ensures c.add_up.ensures (became _ _ _ _ _ (copy_end _ _ _ _ _ (omega arith)) c.put_run-b.ensures)
