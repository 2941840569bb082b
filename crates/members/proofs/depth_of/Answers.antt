-- The owners that are counted and those that may still come; the measure is how many may.
use Prim.Native.Nat.{◌+◌, ◌-◌}
use native.Mathlib.Omega.{arith}
use Rattle.members.specs.Laws.{depth_top, depth_most, depth_on}
use Rattle.members.proofs.depth_of.Goals as goal

pub loop-depth-init : goal.loop-depth-init
loop-depth-init c = (omega arith, omega arith)

pub returns-then-w-eq0 : goal.returns-then-w-eq0
returns-then-w-eq0 c =
    let t = c.args.table.now in
    omega (arith, depth_top (64 - c.loop-depth.depth) t c.loop-depth.w (omega arith))

pub loop-depth-preserved : goal.loop-depth-preserved
loop-depth-preserved c =
    let t = c.args.table.now in
    let f = rw c.named_row.ensures at c.word-w.ensures in
    (omega arith, omega (arith, depth_on (64 - c.loop-depth.depth) (64 - (c.loop-depth.depth + 1)) t c.loop-depth.w c.word-w.result (omega arith) (omega arith) (λ e. omega arith) f))

pub returns : goal.returns
returns c =
    let t = c.args.table.now in
    omega (arith, depth_most (64 - c.loop-depth.depth) t c.loop-depth.w (omega arith))
