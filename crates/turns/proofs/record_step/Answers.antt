-- A brief record stands within the stream, so its heading ends within it; then the definition goes by what each call answered.
use mathlib.Core.Path.{refl, sym, ◌∙◌}
use native.Mathlib.Omega.{arith}
use Rattle.format.specs.Rows.{room_of}
use Rattle.adding.specs.Held.{state_of}
use Rattle.format.specs.Records.{kind_at}
use Rattle.kinds.specs.Kinds.{kind_within, brief_within, brief_is, brief_taken, taken_long}
use Rattle.turns.specs.Records.{heading_short, record_on, record_off}
use Rattle.turns.proofs.record_step.Goals as goal

pub bounds-s-at : goal.bounds-s-at
bounds-s-at c = brief_within c.args.s.now c.args.w c.args.m.at (sym c.is_brief_at.ensures ∙ c.if-is_brief_at.true)

pub brief_at-h-requires : goal.brief_at-h-requires
brief_at-h-requires c =
    let q = sym c.is_brief_at.ensures ∙ c.if-is_brief_at.true in
    (brief_is c.args.s.now c.args.w c.args.m.at q, c.requires.0.roomy, brief_within c.args.s.now c.args.w c.args.m.at q)

pub overflow_cast-kind : goal.overflow_cast-kind
overflow_cast-kind c = omega (arith, c.shared_slice_known-then-is_brief_at-1.given c.args.m.at)

pub take_brief-requires : goal.take_brief-requires
take_brief-requires c =
    let q = sym c.is_brief_at.ensures ∙ c.if-is_brief_at.true in
    (c.requires.0, heading_short _ c.args.s.now _ _ c.args.m.at c.brief_at-h.result c.brief_at-h.ensures.0 (brief_within c.args.s.now c.args.w c.args.m.at q) c.requires.2, c.brief_at-h.ensures.1, brief_is c.args.s.now c.args.w c.args.m.at q, c.requires.1, c.requires.2, c.requires.3)

pub returns-then-is_brief_at : goal.returns-then-is_brief_at
returns-then-is_brief_at c =
    let q = sym c.is_brief_at.ensures ∙ c.if-is_brief_at.true in
    (c.take_brief.ensures ∙ record_on _ c.args.s.now (room_of c.args.table.now) (state_of c.args.table.now c.args.frames.now c.args.m) c.args.w (kind_at c.args.s.now c.args.w c.args.m.at) refl _ c.brief_at-h.result (brief_taken c.args.s.now c.args.w c.args.m.at q) c.brief_at-h.ensures.0, c.requires.1)

pub long_step-q-requires : goal.long_step-q-requires
long_step-q-requires c =
    let q = sym c.kind_at-k.ensures ∙ c.in-Ok.is in
    (c.requires.0, kind_within c.args.s.now c.args.w c.args.m.at _ q, c.requires.1, c.requires.2, c.requires.3, taken_long c.args.s.now c.args.w c.args.m.at (sym c.is_brief_at.ensures ∙ c.if-is_brief_at.false) _ q)

pub returns-in-Ok : goal.returns-in-Ok
returns-in-Ok c = (c.long_step-q.ensures.0 ∙ record_on _ c.args.s.now (room_of c.args.table.now) (state_of c.args.table.now c.args.frames.now c.args.m) c.args.w c.kind_at-k.result c.kind_at-k.ensures _ _ c.in-Ok.is refl, c.long_step-q.ensures.1)

pub returns-in-Err : goal.returns-in-Err
returns-in-Err c = (record_off _ c.args.s.now (room_of c.args.table.now) (state_of c.args.table.now c.args.frames.now c.args.m) c.args.w c.kind_at-k.result c.kind_at-k.ensures _ c.in-Err.is, c.requires.1)
