-- The definition, at the rank that was read.
use Rattle.marks.specs.Places.{item_is}
use Rattle.marks.proofs.item_type.Goals as goal

pub returns : goal.returns
returns c = item_is _ _ _ c.number_from-rank.ensures
