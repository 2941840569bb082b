-- The four bytes as the code joins them (`number_is`), of which those past the end are 0.
use Rattle.marks.specs.Places.{number_past, number_is}
use Rattle.marks.proofs.number_from.Goals as goal

pub returns-then-s-p : goal.returns-then-s-p
returns-then-s-p c = number_past _ _ c.if-s-p.true

pub returns : goal.returns
returns c = number_is c.args.s.now c.args.p _ _ _ _ _ c.byte_at.ensures c.byte_at-2.ensures c.byte_at-3.ensures c.byte_at-4.ensures c.joined.ensures
