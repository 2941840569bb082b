-- One law for a detail that names a library, one for any other.
use Rattle.needs.specs.Laws.{info_needs, info_none}
use Rattle.needs.proofs.need_info.Goals as goal

pub returns-then-kind-eq4 : goal.returns-then-kind-eq4
returns-then-kind-eq4 c = info_needs _ _ _ _ _ _ c.if-kind-eq4.true c.less.ensures c.need.ensures

pub returns : goal.returns
returns c = info_none _ _ _ _ c.if-kind-eq4.false
