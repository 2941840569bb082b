-- The invariant: the values that are left, from p on, answer what all of them answer.
use Rattle.std.specs.Prelude.{◌≡◌, Err}
use Rattle.std.proofs.Common.{rules, sym, ◌∙◌, arith}
use Rattle.fields.specs.Sequence.{turn_first, turn_more, turn_fault, turn_last}
use Rattle.items.proofs.each_at.Goals as goal

pub loop-init : goal.loop-init
loop-init c = turn_first _ _ _

pub returns-in_err-p : goal.returns-in_err-p
returns-in_err-p c =
    let r : c.from_residual.result ≡ Err c.in_err-p.field-0.0 = search rules in
    r ∙ sym (c.loop.invariant ∙ turn_fault _ _ _ _ _ _ (omega arith) c.value_at.ensures c.in_err-p.was)

pub loop-preserved : goal.loop-preserved
loop-preserved c = c.loop.invariant ∙ turn_more _ _ _ _ _ _ (omega arith) c.value_at.ensures c.in_ok-p.was

pub returns : goal.returns
returns c = sym (c.loop.invariant ∙ turn_last _ _ _ _ (omega arith))
