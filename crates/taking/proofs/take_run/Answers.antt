-- The test of the slots left, then what `pass` found.
use mathlib.Core.Path.{◌∙◌}
use Rattle.format.specs.Rows.{room_of}
use Rattle.adding.specs.Held.{state_of}
use Rattle.adding.specs.Laws.{run_long, run_over_lem, run_crossed}
use Rattle.taking.proofs.take_run.Goals as goal

pub returns-then-m-n : goal.returns-then-m-n
returns-then-m-n c = run_long c.args.book.now c.args.s.now (room_of c.args.table.now) (state_of c.args.table.now c.args.frames.now c.args.m) c.args.kind c.args.h c.if-m-n.true

pub returns-in-Some : goal.returns-in-Some
returns-in-Some c = c.take_slots.ensures ∙ run_over_lem c.args.book.now c.args.s.now (room_of c.args.table.now) (state_of c.args.table.now c.args.frames.now c.args.m) c.args.kind c.args.h c.if-m-n.false c.pass-p.result c.pass-p.ensures _ c.in-Some.is

pub returns-in-None : goal.returns-in-None
returns-in-None c = run_crossed c.args.book.now c.args.s.now (room_of c.args.table.now) (state_of c.args.table.now c.args.frames.now c.args.m) c.args.kind c.args.h c.if-m-n.false c.pass-p.result c.pass-p.ensures c.in-None.is
