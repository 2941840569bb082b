-- The reading says which rows there are; the copy of the marked rows is the tidy copy of what they say.
use native.Mathlib.Omega.{arith}
use Rattle.table.specs.Rows.{room_kept}
use Rattle.standing.specs.Accepted.{raw_good}
use Rattle.tidy.specs.Top.{read_of_lem, refused_read, copy_short, tidied, untidied}
use mathlib.Core.Path.{ap, ◌∙◌}
use lib.ListN.{replicate}
use Rattle.tidy.proofs.tidy.Goals as goal

pub mark_all-requires : goal.mark_all-requires
mark_all-requires c =
    let w = read_of_lem _ c.args.s.now c.args.table.now c.judge-a.new.table c.judge-a.result c.judge-a.auto.table c.judge-a.ensures.0 _ c.in-Ok.is in
    (w.roomy, omega (arith, w.few))

pub copied-q-requires : goal.copied-q-requires
copied-q-requires c =
    let w = read_of_lem _ c.args.s.now c.args.table.now c.judge-a.new.table c.judge-a.result c.judge-a.auto.table c.judge-a.ensures.0 _ c.in-Ok.is in
    let k = room_kept c.judge-a.new.table c.mark_all.new.table c.mark_all.auto.table in
    (omega (arith, k, w.roomy), w.few, copy_short _ _ _ _ _ _ (λ i. (c.shared_slice_known-1.given i).fits) w c.mark_all.ensures (λ i. (c.slice_known-in-Ok-1.given i).fits))

pub restore-requires : goal.restore-requires
restore-requires c =
    let w = read_of_lem _ c.args.s.now c.args.table.now c.judge-a.new.table c.judge-a.result c.judge-a.auto.table c.judge-a.ensures.0 _ c.in-Ok.is in
    raw_good _ _ _ _ w.reads

pub returns-in-Ok : goal.returns-in-Ok
returns-in-Ok c =
    let w = read_of_lem _ c.args.s.now c.args.table.now c.judge-a.new.table c.judge-a.result c.judge-a.auto.table c.judge-a.ensures.0 _ c.in-Ok.is in
    let l = c.mark_all.auto.table ∙ c.judge-a.auto.table in
    tidied _ _ _ _ _ _ (λ i. (c.shared_slice_known-1.given i).fits) w c.mark_all.ensures _ _ c.restore.new.table _ c.copied-q.ensures.0 c.copied-q.ensures.1 l c.restore.ensures

pub returns-in-Err : goal.returns-in-Err
returns-in-Err c =
    let o = refused_read _ c.args.s.now c.args.table.now c.judge-a.new.table c.judge-a.result c.judge-a.auto.table c.judge-a.ensures.0 _ _ c.in-Err.is in
    untidied _ c.args.s.now c.args.table.now c.clear.new.table _ _ _ o (c.clear.ensures ∙ ap (λ n. replicate n 0) c.judge-a.auto.table)
