-- The prefix of the length, which fits it (`span_small`), then the text.
use native.Mathlib.Omega.{arith}
use Rattle.spans.specs.Spans.{span_within}
use Rattle.put.specs.Put.{written_filled, joined_as}
use Rattle.put.specs.Pieces.{span_small, text_is}
use Rattle.put.proofs.put_text.Goals as goal

pub overflow_sub-n : goal.overflow_sub-n
overflow_sub-n c = rw c.span_at-span.ensures (span_within c.args.s.now c.args.p).rises

pub overflow_cast-n : goal.overflow_cast-n
overflow_cast-n c = rw c.span_at-span.ensures (omega (arith, span_small c.args.s.now c.args.p))

pub returns : goal.returns
returns c = joined_as _ _ _ _ _ _ _ _ _ _ (text_is _ _ _ c.span_at-span.ensures) c.put_prefix-a.auto.out c.least-from.ensures (written_filled _ _ _ _ (omega arith) c.put_prefix-a.ensures) c.put_part-b.ensures c.add_up.ensures
