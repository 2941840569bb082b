-- One clause for each kind.
use Rattle.std.proofs.Common.{arith}
use Rattle.put.specs.Put.{became, nothing}
use Rattle.pieces.specs.Laws.{record_as_lem}
use Rattle.arrays_out.specs.Laws.{record_0, record_1, record_9, record_class, record_kept, record_passed, record_other}
use Rattle.one_row.proofs.put_record.Goals as goal

pub returns-in-0 : goal.returns-in-0
returns-in-0 c = became _ _ _ _ _ (record_0 _ _ _ _ _ _ c.in-0.is c.row_named-t.ensures) c.put_header.ensures

pub returns-in-1 : goal.returns-in-1
returns-in-1 c = became _ _ _ _ _ (record_1 _ _ _ _ _ _ _ c.in-1.is c.row_named-c.ensures c.row_named-t-in-1.ensures) c.put_by_id.ensures

pub returns-in-4 : goal.returns-in-4
returns-in-4 c = became _ _ _ _ _ (record_class _ _ _ _ _ (omega arith) (omega arith)) c.put_object.ensures

pub returns-in-6 : goal.returns-in-6
returns-in-6 c = became _ _ _ _ _ (record_as_lem _ _ _ _ _ 6 c.in-6.is) c.put_string.ensures

pub returns-in-7 : goal.returns-in-7
returns-in-7 c = became _ _ _ _ _ (record_as_lem _ _ _ _ _ 7 c.in-7.is) c.put_array.ensures

pub returns-in-8 : goal.returns-in-8
returns-in-8 c = became _ _ _ _ _ (record_as_lem _ _ _ _ _ 8 c.in-8.is) c.put_typed.ensures

pub returns-in-9 : goal.returns-in-9
returns-in-9 c = became _ _ _ _ _ (record_9 _ _ _ _ _ _ c.in-9.is c.row_named-t-in-9.ensures) c.put_reference.ensures

pub returns-in-10 : goal.returns-in-10
returns-in-10 c = nothing _ _ (record_as_lem _ _ _ _ _ 10 c.in-10.is)

pub returns-in-10-2 : goal.returns-in-10-2
returns-in-10-2 c = nothing _ _ (record_passed _ _ _ _ _ (omega arith) (omega arith))

pub returns-in-15 : goal.returns-in-15
returns-in-15 c = became _ _ _ _ _ (record_as_lem _ _ _ _ _ 15 c.in-15.is) c.put_primitives.ensures

pub returns-in-16 : goal.returns-in-16
returns-in-16 c = became _ _ _ _ _ (record_kept _ _ _ _ _ (omega arith) (omega arith)) c.put_kept.ensures

pub returns-in-32 : goal.returns-in-32
returns-in-32 c = became _ _ _ _ _ (record_as_lem _ _ _ _ _ 32 c.in-32.is) c.put_member.ensures

pub returns-in_default : goal.returns-in_default
returns-in_default c = became _ _ _ _ _ (record_other _ _ _ _ _ (grind arith) (grind arith) (grind arith) (grind arith) (grind arith) (grind arith) (grind arith) (grind arith) (grind arith) (grind arith) (grind arith) (grind arith) (grind arith) (grind arith) (grind arith) (grind arith)) c.put_part.ensures
