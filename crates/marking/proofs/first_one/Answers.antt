-- One law for a class, one for any other row.
use Rattle.marking.specs.Steps.{first_class_lem, first_other}
use Rattle.marking.proofs.first_one.Goals as goal

pub returns-then-is_class : goal.returns-then-is_class
returns-then-is_class c = first_class_lem _ _ _ _ _ c.row_at-r.ensures c.is_class.ensures _ _ _ c.if-is_class.true c.first_class-first.ensures c.with_first_row.ensures c.put_named.ensures

pub returns-else-is_class : goal.returns-else-is_class
returns-else-is_class c = first_other _ _ _ _ _ c.row_at-r.ensures c.is_class.ensures c.if-is_class.false
