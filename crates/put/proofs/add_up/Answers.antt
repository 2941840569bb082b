-- The sum, capped (`capped_min`).
use Rattle.std.proofs.Common.{◌+◌, ◌∙◌}
use Rattle.put.specs.Put.{capped_min}
use Rattle.put.proofs.add_up.Goals as goal

pub returns : goal.returns
returns c = c.saturating_add.ensures ∙ capped_min (c.args.a + c.args.b)
