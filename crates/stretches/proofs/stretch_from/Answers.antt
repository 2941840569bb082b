-- The invariant: the stretch is what the rows from i on give at the place that is reached.
use Rattle.std.proofs.Common.{refl, sym, ◌∙◌, arith}
use Rattle.stretches.specs.Stretches.{stretch_all, stretch_stops, stretch_goes}
use Rattle.stretches.proofs.stretch_from.Goals as goal

pub loop-i-init : goal.loop-i-init
loop-i-init c = refl

pub returns-then-not-is_next : goal.returns-then-not-is_next
returns-then-not-is_next c =
    sym (c.loop-i.invariant ∙ stretch_stops _ _ _ _ _ _ _ c.loop-i-test.true c.row_at-r.ensures (sym c.is_next.ensures ∙ c.if-not-is_next.true))

pub loop-i-preserved : goal.loop-i-preserved
loop-i-preserved c =
    c.loop-i.invariant ∙ stretch_goes _ _ _ _ _ _ _ c.loop-i-test.true c.row_at-r.ensures (sym c.is_next.ensures ∙ c.if-not-is_next.false)

pub returns : goal.returns
returns c = sym (c.loop-i.invariant ∙ stretch_all _ _ _ _ _ _ (omega arith))
