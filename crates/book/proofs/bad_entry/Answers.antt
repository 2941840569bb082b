-- The invariant: the entries from p on answer what all of them answer. The measure: how many bytes are left.
use Prim.Native.Nat.{◌-◌}
use mathlib.Core.Path.{sym, ◌∙◌}
use native.Mathlib.Omega.{arith}
use Rattle.book.specs.Moves.{entry_moves, bad_whole, bad_none, bad_more, bad_here}
use Rattle.book.proofs.bad_entry.Goals as goal

pub loop-p-init : goal.loop-p-init
loop-p-init c = bad_whole _

pub loop-p-smaller : goal.loop-p-smaller
loop-p-smaller c =
    let m = entry_moves _ _ _ (sym c.entry_at.ensures ∙ c.in-Ok.is) in
    omega (arith, m.0, m.1, c.loop-p-test.true)

pub loop-p-preserved : goal.loop-p-preserved
loop-p-preserved c = c.loop-p.invariant ∙ bad_more _ _ _ (omega arith) c.entry_at.ensures _ c.in-Ok.is

pub returns-in-Err : goal.returns-in-Err
returns-in-Err c = sym (c.loop-p.invariant ∙ bad_here _ _ _ (omega arith) c.entry_at.ensures _ c.in-Err.is)

pub returns : goal.returns
returns c = sym (c.loop-p.invariant ∙ bad_none _ _ _ (omega arith))
