-- One law for each answer; the sum fits, since a prefix ends within the stream and its number has 31 bits.
use native.Mathlib.Omega.{arith}
use mathlib.Core.Path.{sym, ◌∙◌}
use Rattle.format.specs.declared.Setting.TheVariants as Q
use Rattle.prefix.specs.Laws.{moves}
use Rattle.spans.specs.Spans.{span_there, span_cut, span_none}
use Rattle.spans.proofs.span_at.Goals as goal

pub overflow_add-to : goal.overflow_add-to
overflow_add-to c = omega (arith, moves Q.Lenient _ _ _ _ (sym c.prefix_at.ensures ∙ c.in-Ok.is))

pub returns-then-to-s : goal.returns-then-to-s
returns-then-to-s c = sym (span_there _ _ _ _ (sym c.prefix_at.ensures ∙ c.in-Ok.is) (omega arith))

pub returns-else-to-s : goal.returns-else-to-s
returns-else-to-s c = sym (span_cut _ _ _ _ (sym c.prefix_at.ensures ∙ c.in-Ok.is) (omega arith))

pub returns-in-Err : goal.returns-in-Err
returns-in-Err c = sym (span_none _ _ _ (sym c.prefix_at.ensures ∙ c.in-Err.is))
