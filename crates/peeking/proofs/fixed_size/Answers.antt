-- Each return is one case of `fixed_size`.
use Rattle.peeking.specs.Peeking.{fixed_size}
use Rattle.peeking.specs.Laws.{auto}
use Rattle.peeking.proofs.fixed_size.Goals as goal

pub returns-in-7 : goal.returns-in-7
unfolding fixed_size
returns-in-7 c = search auto depth 9

pub returns-in-8 : goal.returns-in-8
unfolding fixed_size
returns-in-8 c = search auto depth 9

pub returns-in_default : goal.returns-in_default
unfolding fixed_size
returns-in_default c = search auto depth 9

pub returns-in_default-2 : goal.returns-in_default-2
unfolding fixed_size
returns-in_default-2 c = search auto depth 9

pub returns-in-1 : goal.returns-in-1
unfolding fixed_size
returns-in-1 c = search auto depth 9

pub returns-in-1-2 : goal.returns-in-1-2
unfolding fixed_size
returns-in-1-2 c = search auto depth 9
