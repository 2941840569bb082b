-- The span's end.
use mathlib.Core.Path.{ap}
use Rattle.format.specs.declared.Span.{Span}
use Rattle.peeking.specs.Peeking.{after_string}
use Rattle.peeking.proofs.after_string.Goals as goal

pub returns : goal.returns
unfolding after_string
returns c = ap (λ (t : Span). t.to) c.string_at-t.ensures
