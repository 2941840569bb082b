-- Invariant: the details that are left, from p on, lead where all of them lead; the slice keeps its length.
use Rattle.std.proofs.Common.{◌≡◌, ◌+◌, ◌-◌, refl, sym, ◌∙◌, arith}
use Rattle.needs.specs.Laws.{infos_none, infos_need}
use Rattle.needs.proofs.need_infos.Goals as goal

pub loop-i-init : goal.loop-i-init
loop-i-init c =
    let z : c.args.count - 0 ≡ c.args.count = omega arith in
    let w : c.args.types + 0 ≡ c.args.types = omega arith in
    (refl, rw (z, w))

pub loop-i-preserved : goal.loop-i-preserved
loop-i-preserved c =
    let m : c.args.count - (c.loop-i.i + 1) ≡ c.args.count - c.loop-i.i - 1 = omega arith in
    let t : c.args.types + (c.loop-i.i + 1) ≡ c.args.types + c.loop-i.i + 1 = omega arith in (
      c.need_info-number.auto.table ∙ c.loop-i.invariant.0,
      rw (m, t) (sym (infos_need _ _ _ _ _ _ _ _ (omega arith) c.byte_at-kind.ensures c.after_info-end.ensures c.need_info-number.ensures) ∙ c.loop-i.invariant.1),
    )

pub shape_of-table : goal.shape_of-table
shape_of-table c = c.loop-i.invariant.0

pub returns : goal.returns
returns c = sym (infos_none _ _ _ _ _ (omega arith)) ∙ c.loop-i.invariant.1
