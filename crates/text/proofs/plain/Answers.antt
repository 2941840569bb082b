-- The invariant: all of s is text exactly when what is left of it behind the first n bytes is. Four bytes of row 1 stand there in each step.
use Rattle.std.proofs.Common.{◌∙◌, arith, refl}
use Rattle.text.specs.Left.{plain_or}
use Rattle.text.proofs.plain.Goals as goal

pub loop-n-init : goal.loop-n-init
loop-n-init c = (omega arith, refl)

pub loop-n-preserved : goal.loop-n-preserved
loop-n-preserved c =
    let p = plain_or c.args.s.now c.loop-n.n c.in-len4-up.len_at_least c.if-a-b-gt127.false in
    (p.0, c.loop-n.invariant.1 ∙ p.1)
