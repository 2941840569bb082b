-- Only a detail of type 4 names a library.
use Rattle.put.specs.Put.{became, nothing}
use Rattle.pieces.specs.Laws.{need_info_4, need_info_none}
use Rattle.libraries_out.proofs.put_need_info.Goals as goal

pub returns-then-kind-eq4 : goal.returns-then-kind-eq4
returns-then-kind-eq4 c = became _ _ _ _ _ (need_info_4 _ _ _ _ _ c.if-kind-eq4.true c.less-p.ensures) c.put_need.ensures

pub returns : goal.returns
returns c = nothing _ _ (need_info_none _ _ _ _ c.if-kind-eq4.false)
