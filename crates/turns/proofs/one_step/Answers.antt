-- What the next slot waits for decides which of the two steps it is.
use mathlib.Core.Path.{ap, ◌∙◌}
use Rattle.format.specs.Terms.{terms}
use Rattle.format.specs.Rows.{room_of}
use Rattle.adding.specs.Held.{state_of}
use Rattle.format.specs.declared.Where.{Where}
use Rattle.format.specs.Machine.{record_step}
use Rattle.turns.specs.Due.{due_step}
use Rattle.turns.proofs.one_step.Goals as goal

pub returns-in-Value : goal.returns-in-Value
returns-in-Value c = (c.take_value.ensures ∙ due_step _ c.args.s.now (room_of c.args.table.now) (state_of c.args.table.now c.args.frames.now c.args.m) c.due_in-d.result _ c.due_in-d.ensures c.in-Value.is, c.requires.1)

pub returns-in-Record : goal.returns-in-Record
returns-in-Record c = (c.record_step.ensures.0 ∙ ap (λ (z : Where). record_step (terms c.args.setting c.args.book.now) c.args.s.now (room_of c.args.table.now) (state_of c.args.table.now c.args.frames.now c.args.m) z) (c.where_in-v.ensures c.args.frames.now) ∙ due_step _ c.args.s.now (room_of c.args.table.now) (state_of c.args.table.now c.args.frames.now c.args.m) c.due_in-d.result _ c.due_in-d.ensures c.in-Record.is, c.record_step.ensures.1)
