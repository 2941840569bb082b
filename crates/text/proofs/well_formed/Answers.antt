-- The invariant: all of s is text exactly when what is left of it from i on is. The measure: the bytes left.
use mathlib.Core.Path.{sym, ◌∙◌}
use native.Mathlib.Omega.{arith}
use Rattle.text.specs.Left.{scalar_on, plain_behind, scalar_none, nothing_left}
use Rattle.text.proofs.well_formed.Goals as goal

pub loop-i-init : goal.loop-i-init
loop-i-init c = c.plain-i.ensures

pub returns-then-n-eq0 : goal.returns-then-n-eq0
returns-then-n-eq0 c = sym (c.loop-i.invariant.1 ∙ scalar_none _ _ _ c.width_at-n.ensures c.if-n-eq0.true (omega arith))

pub overflow_add-i : goal.overflow_add-i
overflow_add-i c = let w = scalar_on _ _ _ c.width_at-n.ensures c.if-n-eq0.false (omega arith) in omega (arith, w.0)

pub loop-i-smaller : goal.loop-i-smaller
loop-i-smaller c = let w = scalar_on _ _ _ c.width_at-n.ensures c.if-n-eq0.false (omega arith) in omega (arith, w.0)

pub loop-i-preserved : goal.loop-i-preserved
loop-i-preserved c = let w = scalar_on _ _ _ c.width_at-n.ensures c.if-n-eq0.false (omega arith) in (w.0, c.loop-i.invariant.1 ∙ w.1)

pub loop-i-preserved-then-n-eq1 : goal.loop-i-preserved-then-n-eq1
loop-i-preserved-then-n-eq1 c =
    let w = scalar_on _ _ _ c.width_at-n.ensures c.if-n-eq0.false (omega arith) in
    let p = plain_behind _ _ _ w.0 c.plain-i-then-n-eq1.ensures in
    (p.0, c.loop-i.invariant.1 ∙ (w.1 ∙ p.1))

pub slice_bounds-plain-count : goal.slice_bounds-plain-count
slice_bounds-plain-count c = (scalar_on _ _ _ c.width_at-n.ensures c.if-n-eq0.false (omega arith)).0

pub slice_bounds-plain-start : goal.slice_bounds-plain-start
slice_bounds-plain-start c = (scalar_on _ _ _ c.width_at-n.ensures c.if-n-eq0.false (omega arith)).0

pub returns : goal.returns
returns c = sym (c.loop-i.invariant.1 ∙ nothing_left _ c.loop-i.i (omega arith))
