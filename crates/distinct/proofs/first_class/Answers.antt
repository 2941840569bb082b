-- One scan: the answer is that of the first row which passes.
use Rattle.lookups.specs.Find.{scan_start, scan_end, scan_hit, scan_miss}
use Rattle.marks.specs.Marks.{same_class_row, first_class}
use Rattle.distinct.proofs.first_class.Goals as goal

pub loop-i-init : goal.loop-i-init
unfolding first_class
loop-i-init c = scan_start _ _ _

pub returns-then-same_class_row : goal.returns-then-same_class_row
unfolding first_class
returns-then-same_class_row c = scan_hit _ _ _ _ c.loop-i.invariant c.loop-i-test.true _ c.row_at-other.ensures _ c.same_class_row.ensures c.if-same_class_row.true

pub loop-i-preserved : goal.loop-i-preserved
unfolding first_class
loop-i-preserved c = scan_miss _ _ _ _ c.loop-i.invariant c.loop-i-test.true _ c.row_at-other.ensures _ c.same_class_row.ensures c.if-same_class_row.false

pub returns : goal.returns
unfolding first_class
returns c = scan_end _ _ _ _ c.loop-i.invariant c.loop-i-test.false
