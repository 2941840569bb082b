-- The same traversal measures over an empty part, which nothing can change, and writes where there is room.
use native.Mathlib.Omega.{arith}
use Rattle.format.specs.Rows.{rows_of}
use Rattle.pieces.specs.Copy.{copy_of}
use Rattle.copying.specs.Laws.{dry, full_room, full_limit, copied_all}
use Rattle.copying.proofs.copied.Goals as goal

pub returns-then-out-total : goal.returns-then-out-total
returns-then-out-total c = full_room (copy_of _ c.args.s.now (rows_of c.args.n c.args.table.now)) c.args.out.now _ _ c.requires.2 c.copy_all-total.ensures.total (dry c.args.out.now c.copy_all-total.new.out c.copy_all-total.auto.out) (omega arith)

pub returns-then-total-gt-LIMIT : goal.returns-then-total-gt-LIMIT
returns-then-total-gt-LIMIT c = full_limit (copy_of _ c.args.s.now (rows_of c.args.n c.args.table.now)) c.args.out.now _ _ c.requires.2 c.copy_all-total.ensures.total (dry c.args.out.now c.copy_all-total.new.out c.copy_all-total.auto.out) (omega arith) c.if-total-gt-LIMIT.true

pub returns : goal.returns
returns c = copied_all (copy_of _ c.args.s.now (rows_of c.args.n c.args.table.now)) c.args.out.now _ _ c.requires.2 c.copy_all-total.ensures.total (dry c.args.out.now c.copy_all-total.new.out c.copy_all-total.auto.out) _ _ (omega arith) c.if-total-gt-LIMIT.false c.copy_all.ensures
