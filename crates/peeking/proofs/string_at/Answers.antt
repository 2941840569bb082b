-- What was judged before, at a place that is not past the end.
use Rattle.peeking.specs.Peeking.{string_span}
use Rattle.peeking.proofs.string_at.Goals as goal

pub returns : goal.returns
unfolding string_span
returns c = rw (c.span_at.ensures, c.on.ensures)
