-- The rank is below 2^32, so the place after the item type fits (`item-below`); then the definition, at what was read.
use native.Mathlib.Omega.{arith}
use Rattle.marks.specs.Places.{item_below}
use Rattle.needs.specs.Laws.{array_needs}
use Rattle.needs.proofs.need_array.Goals as goal

pub overflow_add-p : goal.overflow_add-p
overflow_add-p c = omega (arith, item_below c.args.s.now c.args.r (λ i. omega (arith, c.shared_slice_known-1.given i)) (omega arith), c.item_type-p.ensures)

pub returns : goal.returns
returns c = array_needs _ _ _ _ _ _ _ c.item_type-p.ensures c.byte_at-kind.ensures c.after_info.ensures c.need_info.ensures
