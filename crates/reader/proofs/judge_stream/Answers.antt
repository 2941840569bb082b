-- The header's step begins the run; each answer of it is an end or the start of the loop.
use Rattle.std.specs.Prelude.{Ok, Err}
use Rattle.std.proofs.Common.{rules}
use mathlib.Core.Path.{◌≡◌, ap, ◌∙◌}
use native.Mathlib.Omega.{arith}
use lib.ListN.{length}
use Rattle.format.specs.Rows.{room_of}
use Rattle.reader.specs.Ends.{end_by, fresh_held, runs_room, answered_room, within_room, head_on, head_end, head_roomy, head_bad}
use Rattle.reader.proofs.judge_stream.Goals as goal

pub header_step-requires : goal.header_step-requires
header_step-requires c = (fresh_held (room_of c.args.table.now) c.fresh-fresh.result c.fresh-fresh.ensures, ap length c.frames-frames.ensures, c.requires.0, c.requires.1)

pub drive-requires : goal.drive-requires
drive-requires c =
    let u = c.header_step.new.table in
    let g = c.header_step.new.frames in
    let f = c.frames-frames.result in
    (runs_room _ c.args.s.now c.args.table.now u g _ c.header_step.auto.table (head_on _ c.args.s.now c.args.table.now u f g c.fresh-fresh.result c.fresh-fresh.ensures c.header_step.result c.header_step.ensures.0 _ (c.in_ok-m.was ∙ ap Ok c.in-Go.is) c.header_step.ensures.1), c.requires.0, c.requires.1)

pub finish_rows-requires : goal.finish_rows-requires
finish_rows-requires c =
    let u = c.header_step.new.table in
    let g = c.header_step.new.frames in
    let f = c.frames-frames.result in
    let w = head_roomy _ c.args.s.now c.args.table.now u f g c.fresh-fresh.result c.fresh-fresh.ensures c.header_step.result c.header_step.ensures.0 _ _ (c.in_ok-m.was ∙ ap Ok c.in-Ended.is) in
    let k : length u ≡ length c.args.table.now = c.header_step.auto.table in
    (omega arith, omega arith)

pub returns-in-Go : goal.returns-in-Go
returns-in-Go c =
    let u = c.header_step.new.table in
    answered_room _ c.args.keep c.args.s.now c.args.table.now u c.drive.new.table c.drive.result c.header_step.auto.table c.drive.ensures

pub returns-in-Ended : goal.returns-in-Ended
returns-in-Ended c =
    let u = c.header_step.new.table in
    let g = c.header_step.new.frames in
    let f = c.frames-frames.result in
    (c.finish_rows.ensures.0 ∙ ap (end_by c.args.keep) (head_end _ c.args.s.now c.args.table.now u f g c.fresh-fresh.result c.fresh-fresh.ensures c.header_step.result c.header_step.ensures.0 _ _ (c.in_ok-m.was ∙ ap Ok c.in-Ended.is)), within_room u c.args.table.now c.finish_rows.result c.header_step.auto.table c.finish_rows.ensures.1)

pub returns-in_err-m : goal.returns-in_err-m
returns-in_err-m c =
    let u = c.header_step.new.table in
    let g = c.header_step.new.frames in
    let f = c.frames-frames.result in
    let r : c.from_residual.result ≡ Err c.in_err-m.field-0.0 = search rules in
    rw r (ap (end_by c.args.keep) (head_bad _ c.args.s.now c.args.table.now u f g c.fresh-fresh.result c.fresh-fresh.ensures c.header_step.result c.header_step.ensures.0 _ _ c.in_err-m.was), tt)
