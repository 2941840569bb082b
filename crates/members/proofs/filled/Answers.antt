-- Each return is one case of `slots_filled`.
use Rattle.peeking.specs.Laws.{auto}
use Rattle.members.specs.Members.{slots_filled}
use Rattle.members.proofs.filled.Goals as goal

pub returns-in-13 : goal.returns-in-13
unfolding slots_filled
returns-in-13 c = search auto depth 9

pub returns-in_default : goal.returns-in_default
unfolding slots_filled
returns-in_default c = search auto depth 9

pub returns-in_default-2 : goal.returns-in_default-2
unfolding slots_filled
returns-in_default-2 c = search auto depth 9
