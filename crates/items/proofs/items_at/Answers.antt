-- One law for each way; the product fits because no size is over 8.
use mathlib.Core.Path.{sym, ◌∙◌}
use native.Mathlib.Omega.{arith}
use Rattle.value_forms.specs.Ends.{size_times, items_each, items_bytes_lem}
use Rattle.items.proofs.items_at.Goals as goal

pub returns-then-size-eq0 : goal.returns-then-size-eq0
returns-then-size-eq0 c = c.each_at.ensures ∙ sym (items_each _ _ _ _ _ _ c.size_of-size.ensures c.if-size-eq0.true)

pub overflow_mul-size : goal.overflow_mul-size
overflow_mul-size c = omega (arith, size_times c.args.code c.size_of-size.result c.args.n c.size_of-size.ensures)

pub returns : goal.returns
returns c = c.bytes_at.ensures ∙ sym (items_bytes_lem _ _ _ _ _ _ c.size_of-size.ensures c.if-size-eq0.false)
