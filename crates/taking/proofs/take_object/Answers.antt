-- One law for each way: no slots, opened, too deep; each takes the row, the stack and the added row from its callee.
use Rattle.format.specs.Rows.{room_of}
use Rattle.adding.specs.Laws.{took_hollow, took_open, too_deep}
use Rattle.taking.proofs.take_object.Goals as goal

pub returns-then-slots-eq0 : goal.returns-then-slots-eq0
returns-then-slots-eq0 c =
    let f = c.args.frames.now in
    (took_hollow (room_of c.args.table.now) c.args.table.now c.add_row.new.table f f c.args.m c.fill-next.result c.add_row.result c.row_in-r.result c.args.kind c.args.h c.args.t c.if-slots-eq0.true (c.row_in-r.ensures c.args.table.now f) c.fill-next.ensures.stack (c.add_row.ensures f f), c.requires.2)

pub returns-then-m-lt-OPEN : goal.returns-then-m-lt-OPEN
returns-then-m-lt-OPEN c =
    let f = c.args.frames.now in
    (took_open (room_of c.args.table.now) c.args.table.now c.add_row-then-m-lt-OPEN.new.table f c.open_object-next.new.frames c.args.m c.open_object-next.result c.add_row-then-m-lt-OPEN.result c.row_in-r.result c.args.kind c.args.h c.args.t c.if-slots-eq0.false c.if-m-lt-OPEN.true (c.row_in-r.ensures c.args.table.now f) c.open_object-next.ensures.stack (c.add_row-then-m-lt-OPEN.ensures f c.open_object-next.new.frames), c.open_object-next.ensures.sized)

pub returns : goal.returns
returns c = (too_deep (room_of c.args.table.now) c.args.table.now c.args.frames.now c.args.m c.args.kind c.args.h c.args.t c.if-slots-eq0.false c.if-m-lt-OPEN.false, c.requires.2)
