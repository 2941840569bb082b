-- Each return is one case of `after_detail`.
use Rattle.peeking.specs.Laws.{auto}
use Rattle.members.specs.Members.{after_detail}
use Rattle.members.proofs.after_detail.Goals as goal

pub returns-in-0 : goal.returns-in-0
unfolding after_detail
returns-in-0 c = search auto depth 9

pub returns-in-3 : goal.returns-in-3
unfolding after_detail
returns-in-3 c = search auto depth 9

pub returns-in-4 : goal.returns-in-4
unfolding after_detail
returns-in-4 c = search auto depth 9

pub returns-in_default : goal.returns-in_default
unfolding after_detail
returns-in_default c = search auto depth 9
