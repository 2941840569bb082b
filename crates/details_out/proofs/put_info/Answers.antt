-- The class name and the library's new number, the class name alone, or all of it as it stands.
use Rattle.put.specs.Put.{became, joined_as}
use Rattle.pieces.specs.Laws.{info_4, info_3, info_none}
use Rattle.details_out.proofs.put_info.Goals as goal

pub returns-then-kind-eq4 : goal.returns-then-kind-eq4
returns-then-kind-eq4 c = joined_as _ _ _ _ _ _ _ _ _ _ (info_4 _ _ _ _ _ _ _ c.if-kind-eq4.true c.less-m.ensures c.library_number-l.ensures) c.put_text-a.auto.out c.least-from.ensures c.put_text-a.ensures c.put_library_no-b.ensures c.add_up.ensures

pub returns-then-kind-eq3 : goal.returns-then-kind-eq3
returns-then-kind-eq3 c = became _ _ _ _ _ (info_3 _ _ _ _ _ c.if-kind-eq3.true) c.put_text.ensures

pub returns : goal.returns
returns c = became _ _ _ _ _ (info_none _ _ _ _ _ c.if-kind-eq4.false c.if-kind-eq3.false) c.put_part.ensures
