-- The row apart and the added row, put together by one law.
use Rattle.format.specs.Rows.{room_of}
use Rattle.adding.specs.Laws.{took_library}
use Rattle.taking.proofs.take_library.Goals as goal

pub returns : goal.returns
returns c = λ f. took_library (room_of c.args.table.now) c.args.table.now f c.args.m c.args.kind c.args.h c.add_row.new.table c.add_row.result c.row_apart-r.result (c.row_apart-r.ensures c.args.table.now f) (c.add_row.ensures f f)
