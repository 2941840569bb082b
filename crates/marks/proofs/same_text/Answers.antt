-- The bytes of the two spans.
use Rattle.marks.specs.Places.{text_same}
use Rattle.marks.proofs.same_text.Goals as goal

pub returns : goal.returns
returns c = text_same _ _ _ _ _ _ c.span_at-one.ensures c.span_at-other.ensures c.same_between.ensures
