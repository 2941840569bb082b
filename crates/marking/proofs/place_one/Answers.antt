-- One law for a library, one for a class, one for any other row.
use Rattle.marking.specs.Steps.{place_library, place_class, place_other}
use Rattle.marking.proofs.place_one.Goals as goal

pub returns-then-r-eq12 : goal.returns-then-r-eq12
returns-then-r-eq12 c = place_library _ _ _ _ c.row_at-r.ensures _ _ _ c.if-r-eq12.true c.first_library-first.ensures c.with_count.ensures c.put_named.ensures

pub returns-then-is_class : goal.returns-then-is_class
returns-then-is_class c = place_class _ _ _ _ c.row_at-r.ensures _ c.if-r-eq12.false c.is_class.ensures _ _ c.if-is_class.true c.with_slot.ensures c.put_named-then-is_class.ensures

pub returns-else-is_class : goal.returns-else-is_class
returns-else-is_class c = place_other _ _ _ _ c.row_at-r.ensures _ c.if-r-eq12.false c.is_class.ensures c.if-is_class.false
