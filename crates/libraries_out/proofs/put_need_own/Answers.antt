-- Only a class of kind 5 names a library.
use Rattle.format.specs.Rows.{rows_of}
use Rattle.put.specs.Put.{became, nothing}
use Rattle.pieces.specs.Laws.{need_own_5, need_own_none}
use Rattle.libraries_out.proofs.put_need_own.Goals as goal

pub returns-then-r-eq5 : goal.returns-then-r-eq5
returns-then-r-eq5 c = became _ _ _ _ _ (need_own_5 c.args.s.now (rows_of c.args.n c.args.table.now) c.args.r _ c.if-r-eq5.true c.less-p.ensures) c.put_need.ensures

pub returns : goal.returns
returns c = nothing _ _ (need_own_none c.args.s.now (rows_of c.args.n c.args.table.now) c.args.r c.if-r-eq5.false)
