-- The invariant: what is left to run gives the whole (`Runs`). The measure is what is left of the stream, which each step shortens.
use mathlib.Core.Path.{◌≡◌, refl, ap, ◌∙◌}
use Rattle.std.specs.Prelude.{Ok, Err}
use Rattle.std.proofs.Common.{rules}
use Prim.Native.Nat.{◌-◌}
use native.Mathlib.Omega.{arith}
use lib.ListN.{length}
use Rattle.format.specs.Rows.{room_of}
use Rattle.adding.specs.Held.{state_of, after}
use Rattle.reader.specs.Loop.{held, same_room, held_room, moves_on, gone, ends, ends_roomy, refuses}
use Rattle.reader.specs.Ends.{end_by, within_room}
use Rattle.reader.proofs.drive.Goals as goal

pub loop-n-init : goal.loop-n-init
loop-n-init c = (refl, c.requires.0)

pub one_step-requires : goal.one_step-requires
one_step-requires c = (held_room c.loop-n.table c.args.table.now c.loop-n.m c.loop-n.invariant.0 (held c.args.s.now c.loop-n.table c.loop-n.frames (room_of c.args.table.now) c.loop-n.m c.requires.1 c.loop-n.invariant.1.fine), c.loop-n.invariant.1.framed, c.requires.1, c.requires.2)

pub loop-n-smaller : goal.loop-n-smaller
loop-n-smaller c =
    let u = c.one_step.new.table in
    let g = c.one_step.new.frames in
    let e = same_room _ c.loop-n.table c.args.table.now c.args.s.now (state_of c.loop-n.table c.loop-n.frames c.loop-n.m) (after u g c.one_step.result) c.loop-n.invariant.0 c.one_step.ensures.0 in
    let w = moves_on _ c.loop-n.invariant.1 u g c.one_step.result e _ (c.in_ok-n.was ∙ ap Ok c.in-Go.is) in
    omega arith

pub loop-n-preserved : goal.loop-n-preserved
loop-n-preserved c =
    let u = c.one_step.new.table in
    let g = c.one_step.new.frames in
    let e = same_room _ c.loop-n.table c.args.table.now c.args.s.now (state_of c.loop-n.table c.loop-n.frames c.loop-n.m) (after u g c.one_step.result) c.loop-n.invariant.0 c.one_step.ensures.0 in
    (c.one_step.auto.table ∙ c.loop-n.invariant.0, gone _ c.loop-n.invariant.1 u g c.one_step.result e _ (c.in_ok-n.was ∙ ap Ok c.in-Go.is) c.one_step.ensures.1)

pub finish_rows-requires : goal.finish_rows-requires
finish_rows-requires c =
    let u = c.one_step.new.table in
    let g = c.one_step.new.frames in
    let e = same_room _ c.loop-n.table c.args.table.now c.args.s.now (state_of c.loop-n.table c.loop-n.frames c.loop-n.m) (after u g c.one_step.result) c.loop-n.invariant.0 c.one_step.ensures.0 in
    let w = ends_roomy _ c.loop-n.invariant.1 u g c.one_step.result e _ _ (c.in_ok-n.was ∙ ap Ok c.in-Ended.is) in
    let l : length u ≡ length c.args.table.now = c.one_step.auto.table ∙ c.loop-n.invariant.0 in
    (omega arith, omega arith)

pub shape_of-table-in-Ended : goal.shape_of-table-in-Ended
shape_of-table-in-Ended c = c.finish_rows.auto.table ∙ c.one_step.auto.table ∙ c.loop-n.invariant.0

pub returns-in-Ended : goal.returns-in-Ended
returns-in-Ended c =
    let u = c.one_step.new.table in
    let g = c.one_step.new.frames in
    let e = same_room _ c.loop-n.table c.args.table.now c.args.s.now (state_of c.loop-n.table c.loop-n.frames c.loop-n.m) (after u g c.one_step.result) c.loop-n.invariant.0 c.one_step.ensures.0 in
    (c.finish_rows.ensures.0 ∙ ap (end_by c.args.keep) (ends _ c.loop-n.invariant.1 u g c.one_step.result e _ _ (c.in_ok-n.was ∙ ap Ok c.in-Ended.is)), within_room u c.args.table.now c.finish_rows.result (c.one_step.auto.table ∙ c.loop-n.invariant.0) c.finish_rows.ensures.1)

pub returns-in_err-n : goal.returns-in_err-n
returns-in_err-n c =
    let u = c.one_step.new.table in
    let g = c.one_step.new.frames in
    let e = same_room _ c.loop-n.table c.args.table.now c.args.s.now (state_of c.loop-n.table c.loop-n.frames c.loop-n.m) (after u g c.one_step.result) c.loop-n.invariant.0 c.one_step.ensures.0 in
    let r : c.from_residual.result ≡ Err c.in_err-n.field-0.0 = search rules in
    rw r (ap (end_by c.args.keep) (refuses _ c.loop-n.invariant.1 u g c.one_step.result e _ _ c.in_err-n.was), tt)
