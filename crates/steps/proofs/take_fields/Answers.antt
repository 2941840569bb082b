-- The clause of `act` for each kind, after what the callee ensures.
use mathlib.Core.Path.{sym, ◌∙◌}
use Rattle.format.specs.Rows.{room_of}
use Rattle.adding.specs.Held.{state_of}
use Rattle.adding.specs.Laws.{act_13, act_14, act_12, act_11, act_object, act_plain}
use Rattle.steps.proofs.take_fields.Goals as goal

pub returns-then-kind-eq13 : goal.returns-then-kind-eq13
returns-then-kind-eq13 c = (c.take_run.ensures ∙ act_13 c.args.book.now c.args.s.now (room_of c.args.table.now) (state_of c.args.table.now c.args.frames.now c.args.m) c.args.h c.args.kind c.if-kind-eq13.true, c.requires.2)

pub returns-then-kind-eq14 : goal.returns-then-kind-eq14
returns-then-kind-eq14 c = (c.take_run-then-kind-eq14.ensures ∙ act_14 c.args.book.now c.args.s.now (room_of c.args.table.now) (state_of c.args.table.now c.args.frames.now c.args.m) c.args.h c.args.kind c.if-kind-eq14.true, c.requires.2)

pub returns-then-kind-eq12 : goal.returns-then-kind-eq12
returns-then-kind-eq12 c = (c.take_library.ensures c.args.frames.now ∙ act_12 c.args.book.now c.args.s.now (room_of c.args.table.now) (state_of c.args.table.now c.args.frames.now c.args.m) c.args.h c.args.kind c.if-kind-eq12.true, c.requires.2)

pub returns-then-kind-eq11 : goal.returns-then-kind-eq11
returns-then-kind-eq11 c = (c.take_end.ensures c.args.frames.now ∙ act_11 c.args.book.now c.args.s.now (room_of c.args.table.now) (state_of c.args.table.now c.args.frames.now c.args.m) c.args.h c.args.kind c.if-kind-eq11.true, c.requires.2)

pub returns-then-is_object : goal.returns-then-is_object
returns-then-is_object c = (c.take_object.ensures.0 ∙ act_object c.args.book.now c.args.s.now (room_of c.args.table.now) (state_of c.args.table.now c.args.frames.now c.args.m) c.args.h c.args.kind c.move_on-t.result c.move_on-t.ensures (sym c.is_object.ensures ∙ c.if-is_object.true), c.take_object.ensures.1)

pub returns : goal.returns
returns c = (c.take_slots.ensures ∙ act_plain c.args.book.now c.args.s.now (room_of c.args.table.now) (state_of c.args.table.now c.args.frames.now c.args.m) c.args.h c.args.kind c.move_on-t.result c.move_on-t.ensures (sym c.is_object.ensures ∙ c.if-is_object.false) c.if-kind-eq13.false c.if-kind-eq14.false c.if-kind-eq12.false c.if-kind-eq11.false, c.requires.2)
