-- The invariant: the slots that are left, from u on, answer what all of them answer.
use Rattle.std.specs.Prelude.{◌≡◌, ◌+◌, ◌-◌}
use Rattle.std.proofs.Common.{sym, ◌∙◌, arith}
use Rattle.slots.specs.Slots.{passed_alike, passed_walk, passed_none, passed_crossed, passed_step}
use Rattle.slots.proofs.pass.Goals as goal

pub returns-then-types-eq0 : goal.returns-then-types-eq0
returns-then-types-eq0 c = sym (passed_alike _ _ _ _ c.if-types-eq0.true)

pub loop-init : goal.loop-init
loop-init c = let e : c.args.n - 0 ≡ c.args.n = omega arith in rw e

pub returns-then-is_primitive : goal.returns-then-is_primitive
returns-then-is_primitive c =
    sym (passed_walk _ _ _ _ c.if-types-eq0.false
    ∙ (c.loop.invariant ∙ passed_crossed _ _ _ _ (omega arith) (sym c.is_primitive.ensures ∙ c.if-is_primitive.true)))

pub loop-preserved : goal.loop-preserved
loop-preserved c =
    let k : c.args.n - (c.loop.counter + 1) ≡ c.args.n - c.loop.counter - 1 = omega arith in
    c.loop.invariant ∙ rw (k, c.move_on-u.ensures) (passed_step _ _ _ _ (omega arith) (sym c.is_primitive.ensures ∙ c.if-is_primitive.false))

pub returns : goal.returns
returns c = sym (passed_walk _ _ _ _ c.if-types-eq0.false ∙ (c.loop.invariant ∙ passed_none _ _ _ _ (omega arith)))
