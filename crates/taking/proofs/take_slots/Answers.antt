-- The row, the filled slots and the added row, put together by one law.
use Rattle.format.specs.Rows.{room_of}
use Rattle.adding.specs.Laws.{took_slots}
use Rattle.taking.proofs.take_slots.Goals as goal

pub returns : goal.returns
returns c =
    let f = c.args.frames.now in
    took_slots (room_of c.args.table.now) c.args.table.now c.add_row.new.table f f c.args.m c.fill_soon-next.result c.add_row.result c.row_in-r.result c.args.kind c.args.h c.args.t c.args.k (c.row_in-r.ensures c.args.table.now f) c.fill_soon-next.ensures.stack (c.add_row.ensures f f)
