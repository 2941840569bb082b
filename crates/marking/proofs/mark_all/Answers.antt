-- The four passes, put together by one law.
use Rattle.marking.specs.Steps.{marked_is}
use Rattle.marking.proofs.mark_all.Goals as goal

pub returns : goal.returns
returns c = marked_is _ _ _ _ _ _ c.number_all.ensures c.place_all.ensures c.first_all.ensures c.need_all.ensures
