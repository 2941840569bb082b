-- One law for each answer: the room, the kind word, the record, then the end word.
use Rattle.view.specs.Laws.{row_past, row_other, row_fault, row_part, row_elsewhere}
use Rattle.view.proofs.row_text.Goals as goal

pub returns-then-n-row : goal.returns-then-n-row
returns-then-n-row c = row_past _ _ _ _ _ c.room-n.ensures c.if-n-row.true

pub returns-then-r-ne6 : goal.returns-then-r-ne6
returns-then-r-ne6 c = row_other _ _ _ _ _ c.room-n.ensures c.if-n-row.false _ c.row_at-r.ensures c.if-r-ne6.true

pub returns-in_default : goal.returns-in_default
returns-in_default c =
    row_fault _ _ _ _ _ c.room-n.ensures c.if-n-row.false _ c.row_at-r.ensures c.if-r-ne6.false _ c.record_text.ensures _
    c.in_default.is

pub returns-then-text-end : goal.returns-then-text-end
returns-then-text-end c =
    row_part _ _ _ _ _ c.room-n.ensures c.if-n-row.false _ c.row_at-r.ensures c.if-r-ne6.false _ c.record_text.ensures _ _
    c.in-Ok.is c.if-text-end.true

pub returns : goal.returns
returns c =
    row_elsewhere _ _ _ _ _ c.room-n.ensures c.if-n-row.false _ c.row_at-r.ensures c.if-r-ne6.false _ c.record_text.ensures _ _
    c.in-Ok.is c.if-text-end.false
