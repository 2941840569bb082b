-- A heading is good or bad; `act` is handed on by what it is known to be.
use mathlib.Core.Path.{◌∙◌}
use Rattle.format.specs.Rows.{room_of}
use Rattle.adding.specs.Held.{state_of}
use Rattle.adding.specs.Laws.{act_as, act_bad, short_of}
use Rattle.steps.proofs.take.Goals as goal

pub take_fields-requires : goal.take_fields-requires
take_fields-requires c = (c.requires.0, short_of _ _ c.in-Ok.is c.requires.1, c.requires.2, c.requires.3, c.requires.4)

pub returns-in-Ok : goal.returns-in-Ok
returns-in-Ok c = (c.take_fields.ensures.0 ∙ act_as c.args.book.now c.args.s.now (room_of c.args.table.now) (state_of c.args.table.now c.args.frames.now c.args.m) c.args.kind c.args.heading _ c.in-Ok.is, c.take_fields.ensures.1)

pub returns-in-Err : goal.returns-in-Err
returns-in-Err c = (act_bad c.args.book.now c.args.s.now (room_of c.args.table.now) (state_of c.args.table.now c.args.frames.now c.args.m) c.args.kind _ ∙ act_as c.args.book.now c.args.s.now (room_of c.args.table.now) (state_of c.args.table.now c.args.frames.now c.args.m) c.args.kind c.args.heading _ c.in-Err.is, c.requires.2)
