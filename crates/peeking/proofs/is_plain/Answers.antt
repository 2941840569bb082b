-- The bytes of the pattern are those that the definition tests.
use Rattle.peeking.specs.Peeking.{is_plain}
use Rattle.peeking.specs.Laws.{auto}
use Rattle.peeking.proofs.is_plain.Goals as goal

pub returns : goal.returns
unfolding is_plain
returns c = search auto depth 9
