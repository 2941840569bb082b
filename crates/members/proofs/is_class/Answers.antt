-- Each return is one case of `has_members`.
use Rattle.peeking.specs.Laws.{auto}
use Rattle.members.specs.Members.{has_members}
use Rattle.members.proofs.is_class.Goals as goal

pub returns-in_default : goal.returns-in_default
unfolding has_members
returns-in_default c = search auto depth 9

pub returns-in_default-2 : goal.returns-in_default-2
unfolding has_members
returns-in_default-2 c = search auto depth 9

pub returns-in-1 : goal.returns-in-1
unfolding has_members
returns-in-1 c = search auto depth 9

pub returns-in-1-2 : goal.returns-in-1-2
unfolding has_members
returns-in-1-2 c = search auto depth 9
