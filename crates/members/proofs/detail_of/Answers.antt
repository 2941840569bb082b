-- The place after all details is that after those left; the measure is how many are left.
use mathlib.Core.Path.{sym, ◌∙◌}
use native.Mathlib.Nat.{sub-zero}
use native.Mathlib.Omega.{arith}
use Rattle.members.specs.Laws.{details_none, details_on}
use Rattle.members.proofs.detail_of.Goals as goal

pub loop-i-init : goal.loop-i-init
loop-i-init c = (omega arith, rw sub-zero)

pub loop-i-preserved : goal.loop-i-preserved
loop-i-preserved c =
    let f = rw (c.byte_at.ensures, c.on.ensures) at c.after_detail-at.ensures in
    (omega arith, c.loop-i.invariant.1 ∙ details_on _ _ _ _ _ _ _ (omega arith) (omega arith) f)

pub returns : goal.returns
returns c = sym (c.loop-i.invariant.1 ∙ details_none _ _ _ _ _ (omega arith))
