-- The invariant: the lengths that are left, from p on, over the product so far answer what all of them answer.
use Rattle.std.specs.Prelude.{◌≡◌, ◌+◌, ◌-◌, Err}
use Rattle.std.proofs.Common.{rules, ap, sym, ◌∙◌, arith}
use Rattle.fields.specs.Tried.{found, missing}
use Rattle.shapes.specs.Lengths.{capped_within, lengths_none, lengths_short, lengths_bad, lengths_step}
use Rattle.shapes.proofs.lengths_at.Goals as goal

pub loop-init : goal.loop-init
loop-init c = (omega arith, let e : c.args.rank - 0 ≡ c.args.rank = omega arith in rw e)

pub returns-in_err-count : goal.returns-in_err-count
returns-in_err-count c =
    let w = missing _ c.u32_at.ensures c.in_err-count.ensures.value in
    let r : c.from_residual.result ≡ Err c.in_err-count.field-0.0 = search rules in
    r ∙ (ap Err w.1 ∙ sym (c.loop.invariant.1 ∙ lengths_short _ _ _ _ (omega arith) w.0))

pub returns-then-is_negative : goal.returns-then-is_negative
returns-then-is_negative c =
    sym (c.loop.invariant.1
    ∙ lengths_bad _ _ _ _ (omega arith) _ _ (found _ c.u32_at.ensures c.in_ok-count.ensures.value) (sym c.is_negative.ensures ∙ c.if-is_negative.true))

pub loop-preserved : goal.loop-preserved
loop-preserved c =
    let k : c.args.rank - (c.loop.counter + 1) ≡ c.args.rank - c.loop.counter - 1 = omega arith in (
      rw c.times_length-product.ensures (capped_within _),
      c.loop.invariant.1
          ∙ rw (k, c.times_length-product.ensures)
          (lengths_step _ _ _ _ (omega arith) _ _ (found _ c.u32_at.ensures c.in_ok-count.ensures.value) (sym c.is_negative.ensures ∙ c.if-is_negative.false)),
    )

pub returns : goal.returns
returns c = c.judge.ensures ∙ sym (c.loop.invariant.1 ∙ lengths_none _ _ _ _ (omega arith))
