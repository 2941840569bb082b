-- The library that the item type needs, then the array. The place of the item type is small, since the rank is a number of four bytes.
use native.Mathlib.Omega.{arith}
use Rattle.put.specs.Put.{joined_as}
use Rattle.marks.specs.Places.{item_below}
use Rattle.arrays_out.specs.Laws.{array_is}
use borrow.Author.Rules.{rules}
use Rattle.arrays_out.proofs.put_array.Goals as goal

pub overflow_add-p : goal.overflow_add-p
overflow_add-p c = omega (arith, c.item_type-p.ensures, item_below c.args.s.now c.args.r (λ i. omega (arith, c.shared_slice_known-1.given i)) (omega arith))

pub put_body-b-requires : goal.put_body-b-requires
put_body-b-requires c = (search rules, search rules, omega (arith, c.item_type-p.ensures, item_below c.args.s.now c.args.r (λ i. omega (arith, c.shared_slice_known-1.given i)) (omega arith)))

pub returns : goal.returns
returns c = joined_as _ _ _ _ _ _ _ _ _ _ (array_is _ _ _ _ _ _ _ c.byte_at-kind.ensures c.item_type-p.ensures c.after_info-e.ensures) c.put_need_info-a.auto.out c.least-from.ensures c.put_need_info-a.ensures c.put_body-b.ensures c.add_up.ensures
