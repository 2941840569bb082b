-- Nothing, no room, or a copy of the part that there is.
use native.Mathlib.Omega.{arith}
use mathlib.Core.Path.{◌≡◌, sym}
use Prim.Native.Nat.{◌-◌}
use Rattle.put.specs.Pieces.{part_empty, part_unfilled, part_filled}
use Rattle.put.specs.Out.{between}
use Rattle.fields.specs.Parts.{length_part}
use lib.ListN.{length}
use Rattle.std.proofs.Common.{take_all}
use Rattle.put.proofs.put_part.Goals as goal

pub returns-then-end-a : goal.returns-then-end-a
returns-then-end-a c = part_empty _ _ _ _ c.least-end.ensures _ (omega arith)

pub returns-then-out-n : goal.returns-then-out-n
returns-then-out-n c = part_unfilled _ _ _ _ c.least-end.ensures _ (omega arith) (omega arith)

pub returns : goal.returns
returns c =
    let s = c.args.s.now in
    let a = c.args.a in
    let m = c.least-end.result in
    let n : length (between s a m) ≡ m - a = length_part s a (m - a) (omega (arith, c.least-end.ensures.within)) in
    part_filled _ _ _ _ c.least-end.ensures _ _ _ (omega arith) (sym n) (rw (n, c.copy_from_slice.ensures.after, take_all (m - a) (between s a m) (omega (arith, n))))
