-- Each return is one case of `hidden_by`.
use Rattle.peeking.specs.Peeking.{hidden_by}
use Rattle.peeking.specs.Laws.{auto}
use Rattle.peeking.proofs.hidden.Goals as goal

pub returns-in-0-to-12746751 : goal.returns-in-0-to-12746751
unfolding hidden_by
returns-in-0-to-12746751 c = search auto depth 9

pub returns-in-12746752-to-12754943 : goal.returns-in-12746752-to-12754943
unfolding hidden_by
returns-in-12746752-to-12754943 c = search auto depth 9

pub returns-in-14844072-to-14844078 : goal.returns-in-14844072-to-14844078
unfolding hidden_by
returns-in-14844072-to-14844078 c = search auto depth 9

pub returns-in-14844326-to-14844329 : goal.returns-in-14844326-to-14844329
unfolding hidden_by
returns-in-14844326-to-14844329 c = search auto depth 9

pub returns-in_default : goal.returns-in_default
unfolding hidden_by
returns-in_default c = search auto depth 9

pub returns-in_default-2 : goal.returns-in_default-2
unfolding hidden_by
returns-in_default-2 c = search auto depth 9

pub returns-in_default-3 : goal.returns-in_default-3
unfolding hidden_by
returns-in_default-3 c = search auto depth 9
