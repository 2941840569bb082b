-- One law for an object, one for any other row.
use Rattle.marking.specs.Steps.{number_object, number_other}
use Rattle.marking.proofs.number_one.Goals as goal

pub returns-then-is_object : goal.returns-then-is_object
returns-then-is_object c = number_object _ _ _ _ _ c.row_at-r.ensures c.is_object.ensures _ _ _ c.if-is_object.true c.next_object-number.ensures c.with_object_no.ensures c.put_named.ensures

pub returns : goal.returns
returns c = number_other _ _ _ _ _ c.row_at-r.ensures c.is_object.ensures c.if-is_object.false
