-- The kind's byte is within the stream; then the definition goes by what each call answered.
use mathlib.Core.Path.{refl, sym, ◌∙◌}
use Rattle.format.specs.declared.Where.TheVariants as W
use Rattle.format.specs.Rows.{room_of}
use Rattle.adding.specs.Held.{state_of}
use Rattle.kinds.specs.Kinds.{kind_within, taken_long, header_long}
use Rattle.turns.specs.Records.{record_on, record_off}
use Rattle.turns.proofs.header_step.Goals as goal

pub long_step-requires : goal.long_step-requires
long_step-requires c =
    let q = sym c.kind_at-k.ensures ∙ c.in-Ok.is in
    (c.requires.0, kind_within c.args.s.now W.Start c.args.m.at _ q, c.requires.1, c.requires.2, c.requires.3, taken_long c.args.s.now W.Start c.args.m.at (header_long c.args.s.now c.args.m.at) _ q)

pub returns-in-Ok : goal.returns-in-Ok
returns-in-Ok c = (c.long_step.ensures.0 ∙ record_on _ c.args.s.now (room_of c.args.table.now) (state_of c.args.table.now c.args.frames.now c.args.m) W.Start c.kind_at-k.result c.kind_at-k.ensures _ _ c.in-Ok.is refl, c.long_step.ensures.1)

pub returns-in-Err : goal.returns-in-Err
returns-in-Err c = (record_off _ c.args.s.now (room_of c.args.table.now) (state_of c.args.table.now c.args.frames.now c.args.m) W.Start c.kind_at-k.result c.kind_at-k.ensures _ c.in-Err.is, c.requires.1)
