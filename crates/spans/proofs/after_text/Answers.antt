-- Where the span ends.
use Rattle.spans.proofs.after_text.Goals as goal

pub returns : goal.returns
returns c = rw c.span_at-span.ensures
