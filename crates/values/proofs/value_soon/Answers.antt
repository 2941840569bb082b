-- A code that has a size: so many bytes are its value. Else the answer is that of `value_at`.
use mathlib.Core.Path.{◌∙◌}
use Rattle.value_forms.specs.Ends.{value_sized}
use Rattle.values.proofs.value_soon.Goals as goal

pub returns-then-size-ne0 : goal.returns-then-size-ne0
returns-then-size-ne0 c = c.bytes_at.ensures ∙ value_sized _ _ _ _ _ c.size_of-size.ensures c.if-size-ne0.true
