-- One scan: the answer is that of the first row which passes.
use Rattle.std.proofs.Common.{refl}
use Rattle.lookups.specs.Find.{scan_start, scan_end, scan_hit, scan_miss}
use Rattle.lookups.proofs.find.Goals as goal

pub loop-i-init : goal.loop-i-init
loop-i-init c = scan_start _ _ _

pub returns-then-names : goal.returns-then-names
returns-then-names c = scan_hit _ _ _ _ c.loop-i.invariant c.loop-i-test.true _ refl _ c.names.ensures c.if-names.true

pub loop-i-preserved : goal.loop-i-preserved
loop-i-preserved c = scan_miss _ _ _ _ c.loop-i.invariant c.loop-i-test.true _ refl _ c.names.ensures c.if-names.false

pub returns : goal.returns
returns c = scan_end _ _ _ _ c.loop-i.invariant c.loop-i-test.false
