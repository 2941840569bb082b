-- The heading is short, since the kind's byte is within the stream; then `act` by what `heading_at` answered.
use Rattle.std.specs.Prelude.{Result}
use Rattle.format.specs.declared.Refusal.{Refusal}
use Rattle.format.specs.declared.Head.{Head}
use mathlib.Core.Path.{ap, ◌∙◌}
use Rattle.format.specs.Rows.{room_of}
use Rattle.format.specs.Machine.{act}
use Rattle.adding.specs.Held.{state_of}
use Rattle.turns.specs.Records.{heading_short}
use Rattle.turns.proofs.long_step.Goals as goal

pub take-requires : goal.take-requires
take-requires c = (c.requires.0, heading_short _ c.args.s.now _ _ c.args.m.at c.heading_at-h.result c.heading_at-h.ensures c.requires.1 c.requires.3, c.requires.2, c.requires.3, c.requires.4)

pub returns : goal.returns
returns c = (c.take.ensures.0 ∙ ap (λ (y : Result Head Refusal). act c.args.book.now c.args.s.now (room_of c.args.table.now) (state_of c.args.table.now c.args.frames.now c.args.m) c.args.kind y) c.heading_at-h.ensures, c.take.ensures.1)
