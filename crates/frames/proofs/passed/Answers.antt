-- The difference is that of `less`.
use Rattle.frames.proofs.passed.Goals as goal

pub returns : goal.returns
returns c = rw c.less-left.ensures
