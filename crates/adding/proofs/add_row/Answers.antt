-- One law for a table with room, one for a full one.
use mathlib.Core.List.{[]}
use native.Mathlib.Omega.{arith}
use Rattle.format.specs.Rows.{room_of}
use Rattle.adding.specs.Laws.{add_room, add_full}
use Rattle.adding.proofs.add_row.Goals as goal

pub returns-then-rows-room : goal.returns-then-rows-room
returns-then-rows-room c = λ f g. add_room (room_of c.args.table.now) c.args.table.now c.put_row.new.table f g c.args.m c.args.next c.args.r (omega arith) c.put_row.ensures

pub returns : goal.returns
returns c = λ f g. add_full (room_of c.args.table.now) c.args.table.now [] f g c.args.m c.args.next c.args.r (omega arith)
