-- Each return is one case of `char_size`.
use Rattle.peeking.specs.Peeking.{char_size}
use Rattle.peeking.specs.Laws.{auto}
use Rattle.peeking.proofs.char_size.Goals as goal

pub returns-in-0-to-127 : goal.returns-in-0-to-127
unfolding char_size
returns-in-0-to-127 c = search auto depth 9

pub returns-in-128-to-223 : goal.returns-in-128-to-223
unfolding char_size
returns-in-128-to-223 c = search auto depth 9

pub returns-in-224-to-239 : goal.returns-in-224-to-239
unfolding char_size
returns-in-224-to-239 c = search auto depth 9

pub returns-in_default : goal.returns-in_default
unfolding char_size
returns-in_default c = search auto depth 9
