-- The new number of the library, for kind 5.
use Rattle.format.specs.Rows.{rows_of}
use Rattle.put.specs.Put.{became, nothing}
use Rattle.pieces.specs.Laws.{own_5, own_none}
use Rattle.details_out.proofs.put_own.Goals as goal

pub returns-then-r-eq5 : goal.returns-then-r-eq5
returns-then-r-eq5 c = became _ _ _ _ _ (own_5 c.args.s.now (rows_of c.args.n c.args.table.now) c.args.r _ _ c.if-r-eq5.true c.less-p.ensures c.library_number-l.ensures) c.put_library_no.ensures

pub returns : goal.returns
returns c = nothing _ _ (own_none c.args.s.now (rows_of c.args.n c.args.table.now) c.args.r c.if-r-eq5.false)
