-- One scan: the answer is that of the first row which passes.
use Rattle.lookups.specs.Find.{scan_start, scan_end, scan_hit, scan_miss}
use Rattle.marks.specs.Marks.{same_name, first_library}
use Rattle.distinct.proofs.first_library.Goals as goal

pub loop-i-init : goal.loop-i-init
unfolding first_library
loop-i-init c = scan_start _ _ _

pub returns-then-same_name : goal.returns-then-same_name
unfolding first_library
returns-then-same_name c = scan_hit _ _ _ _ c.loop-i.invariant c.loop-i-test.true _ c.row_at-other.ensures _ c.same_name.ensures c.if-same_name.true

pub loop-i-preserved : goal.loop-i-preserved
unfolding first_library
loop-i-preserved c = scan_miss _ _ _ _ c.loop-i.invariant c.loop-i-test.true _ c.row_at-other.ensures _ c.same_name.ensures c.if-same_name.false

pub returns : goal.returns
unfolding first_library
returns c = scan_end _ _ _ _ c.loop-i.invariant c.loop-i-test.false
