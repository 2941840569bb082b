-- One law for a table with room, one for a full one.
use mathlib.Core.List.{[]}
use native.Mathlib.Omega.{arith}
use Rattle.format.specs.Rows.{room_of}
use Rattle.adding.specs.Laws.{end_room, end_full}
use Rattle.taking.proofs.take_end.Goals as goal

pub returns-then-rows-room : goal.returns-then-rows-room
returns-then-rows-room c = λ f. end_room (room_of c.args.table.now) c.args.table.now c.put_row.new.table f c.args.m c.args.h (omega arith) c.row_in-r.result (c.row_in-r.ensures c.args.table.now f) c.put_row.ensures

pub returns : goal.returns
returns c = λ f. end_full (room_of c.args.table.now) c.args.table.now [] f c.args.m c.args.h (omega arith)
