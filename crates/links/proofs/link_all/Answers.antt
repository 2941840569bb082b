-- Invariant: the rows before i have their links, none of them is lost, and the slice has its length.
use Rattle.std.proofs.Common.{refl, sym, ◌∙◌, arith}
use Rattle.lookups.specs.Find.{scan_start, scan_miss}
use Rattle.links.specs.Links.{half_none, this_row, lost_told, half_step, half_there, there_found, all_linked, one_lost}
use Rattle.links.proofs.link_all.Goals as goal
use Rattle.links.proofs.link_all.Goals.{then-not-has_link+else-is_lost, else-not-has_link}

pub loop-i-init : goal.loop-i-init
loop-i-init c = (scan_start _ _ _, refl, half_none _ _)

pub returns-then-is_lost : goal.returns-then-is_lost
returns-then-is_lost c =
    let h = c.loop-i-test.true in
    let x = c.row_at-r.ensures in
    let f = c.link_of-link.ensures in
    let r = this_row c.args.keep c.args.n c.loop-i.i c.args.table.now _ _ h c.loop-i.invariant.2 x in
    one_lost c.args.keep c.args.n c.args.table.now _ c.loop-i.i c.loop-i.invariant.2 c.loop-i.invariant.0 _ _ h r (c.is_lost.ensures ∙ lost_told c.args.keep c.args.n c.loop-i.i c.args.table.now _ _ h c.loop-i.invariant.2 x _ f) c.if-is_lost.true

pub loop-i-preserved : goal.loop-i-preserved
loop-i-preserved c =
    let h = c.loop-i-test.true in
    let x = c.row_at-r.ensures in
    elim c.if-not-has_link.branch [
      | then-not-has_link+else-is_lost w ↦ (
          let f = w.link_of-link.ensures in
          let k = sym c.has_link.ensures ∙ w.if-not-has_link.true in
          let r = this_row c.args.keep c.args.n c.loop-i.i c.args.table.now _ _ h c.loop-i.invariant.2 x in
          rw w.table-is (
            scan_miss _ _ _ c.loop-i.i c.loop-i.invariant.0 h _ r _ (w.is_lost.ensures ∙ lost_told c.args.keep c.args.n c.loop-i.i c.args.table.now _ _ h c.loop-i.invariant.2 x _ f) w.if-is_lost.false,
            w.set_link.auto.table ∙ c.loop-i.invariant.1,
            half_step c.args.keep c.args.n c.loop-i.i c.args.table.now _ _ h c.loop-i.invariant.2 x _ f k _ w.set_link.ensures,
          ))
      | else-not-has_link w ↦ (
          let k = sym c.has_link.ensures ∙ w.if-not-has_link.false in
          rw w.table-is (there_found _ _ _ _ _ _ h c.loop-i.invariant.2 x k c.loop-i.invariant.0, c.loop-i.invariant.1, half_there _ _ _ _ _ _ h c.loop-i.invariant.2 x k))
    ]

pub returns : goal.returns
returns c = all_linked _ _ _ _ _ c.loop-i.invariant.2 c.loop-i.invariant.0 (omega (arith, c.loop-i-test.false))
