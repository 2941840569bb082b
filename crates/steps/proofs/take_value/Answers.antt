-- The value's end bounds the row; the callee's slots are the definition's.
use mathlib.Core.Path.{◌∙◌}
use Rattle.format.specs.Terms.{terms}
use Rattle.format.specs.Rows.{room_of}
use Rattle.adding.specs.Held.{state_of}
use Rattle.adding.specs.Laws.{value_took, value_short, value_bad}
use Rattle.steps.proofs.take_value.Goals as goal

pub take_slots-requires : goal.take_slots-requires
take_slots-requires c = (c.requires.0, value_short (terms c.args.setting c.args.book.now) c.args.s.now (room_of c.args.table.now) (state_of c.args.table.now c.args.frames.now c.args.m) c.args.code c.value_at-v.result c.value_at-v.ensures _ c.value_head-h.result c.in-Ok.is c.value_head-h.ensures c.requires.2, c.requires.1)

pub returns-in-Ok : goal.returns-in-Ok
returns-in-Ok c = c.take_slots.ensures ∙ value_took (terms c.args.setting c.args.book.now) c.args.s.now (room_of c.args.table.now) (state_of c.args.table.now c.args.frames.now c.args.m) c.args.code c.value_at-v.result c.value_at-v.ensures _ c.move_on-t.result c.value_head-h.result c.in-Ok.is c.value_head-h.ensures c.move_on-t.ensures

pub returns-in-Err : goal.returns-in-Err
returns-in-Err c = value_bad (terms c.args.setting c.args.book.now) c.args.s.now (room_of c.args.table.now) (state_of c.args.table.now c.args.frames.now c.args.m) c.args.code c.value_at-v.result c.value_at-v.ensures _ c.in-Err.is
