-- One law for the first need of a library, one for a later one.
use native.Mathlib.Omega.{arith}
use Rattle.needs.specs.Laws.{need_first, need_again}
use Rattle.needs.proofs.need.Goals as goal

pub put_named-requires : goal.put_named-requires
put_named-requires c = omega (arith, c.requires)

pub returns-then-g-eq0 : goal.returns-then-g-eq0
returns-then-g-eq0 c = need_first _ _ _ _ _ _ c.library_at-f.ensures c.row_named-g.ensures _ _ _ _ _ _ _ c.if-g-eq0.true c.next_library-number.ensures c.word.ensures c.plus.ensures c.with_slot-placed.ensures c.with_library_no.ensures c.less.ensures c.put_named.ensures

pub returns : goal.returns
returns c = need_again _ _ _ _ _ _ c.library_at-f.ensures c.row_named-g.ensures c.if-g-eq0.false
