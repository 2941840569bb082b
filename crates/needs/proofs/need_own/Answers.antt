-- One law for a class from a library, one for a class from the system.
use Rattle.needs.specs.Laws.{own_needs, own_none}
use Rattle.needs.proofs.need_own.Goals as goal

pub returns-then-r-eq5 : goal.returns-then-r-eq5
returns-then-r-eq5 c = own_needs _ _ c.args.r _ _ c.if-r-eq5.true c.less.ensures c.need.ensures

pub returns : goal.returns
returns c = own_none _ _ c.args.r c.if-r-eq5.false
