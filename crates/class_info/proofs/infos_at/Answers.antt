-- The invariant: the details that are left, from p on, answer what all of them answer.
use Rattle.std.specs.Prelude.{◌≡◌, ◌+◌, ◌-◌, Err}
use Rattle.std.proofs.Common.{rules, sym, ◌∙◌, arith}
use Rattle.class_info.specs.Stages.{infos_none, infos_step}
use Rattle.class_info.proofs.infos_at.Goals as goal

pub loop-t-init : goal.loop-t-init
loop-t-init c = let e : c.args.types + c.args.count - c.args.types ≡ c.args.count = omega arith in rw e

pub returns-in_err-p : goal.returns-in_err-p
returns-in_err-p c =
    let r : c.from_residual.result ≡ Err c.in_err-p.field-0.0 = search rules in
    r ∙ sym (c.loop-t.invariant ∙ (infos_step _ _ _ _ _ _ (omega arith) ∙ rw (← c.info_known.ensures, c.in_err-p.was)))

pub loop-t-preserved : goal.loop-t-preserved
loop-t-preserved c =
    let k : c.args.types + c.args.count - (c.loop-t.t + 1) ≡ c.args.types + c.args.count - c.loop-t.t - 1 = omega arith in
    c.loop-t.invariant ∙ (infos_step _ _ _ _ _ _ (omega arith) ∙ rw (← c.info_known.ensures, c.in_ok-p.was, k))

pub returns : goal.returns
returns c = sym (c.loop-t.invariant ∙ infos_none _ _ _ _ _ _ (omega arith))
