-- The invariant: what is written and the strings that are left are all of them.
use Rattle.std.proofs.Common.{◌≡◌, ◌+◌, ◌-◌, refl, arith}
use Rattle.put.specs.Put.{along_start, along_more, along_end}
use Rattle.put.specs.Pieces.{texts_more, texts_end}
use Rattle.put.proofs.put_texts.Goals as goal

pub loop-init : goal.loop-init
loop-init c = let z : c.args.n - 0 ≡ c.args.n = omega arith in rw z (along_start _ _ _ refl)

pub slice_bounds-put_text-count : goal.slice_bounds-put_text-count
slice_bounds-put_text-count c = omega (arith, c.least-from.ensures.within)

pub slice_bounds-put_text-start : goal.slice_bounds-put_text-start
slice_bounds-put_text-start c = omega (arith, c.least-from.ensures.within)

pub slice_bounds-put_text-end : goal.slice_bounds-put_text-end
slice_bounds-put_text-end c = omega (arith, c.least-from.ensures.within)

pub loop-preserved : goal.loop-preserved
loop-preserved c =
    let m : c.args.n - (c.loop.counter + 1) ≡ c.args.n - c.loop.counter - 1 = omega arith in
    rw m (along_more _ _ _ _ _ _ _ _ _ c.loop.invariant c.least-from.ensures c.add_up-at.ensures _ _ (texts_more _ _ _ _ (omega arith) c.after_text-q.ensures) c.put_text-b.auto.out c.put_text-b.ensures)

pub shape_of-out : goal.shape_of-out
shape_of-out c = c.loop.invariant.sized

pub returns : goal.returns
returns c = along_end _ _ _ _ _ c.loop.invariant (texts_end _ _ _ (omega arith))
