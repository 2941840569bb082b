-- Invariant: no row before row i ends past the place.
use native.Mathlib.Omega.{arith}
use borrow.Author.Rules.{rules}
use Rattle.difference.specs.Laws.{row_here, row_on, row_none}
use Rattle.difference.proofs.row_of.Goals as goal

pub loop-i-init : goal.loop-i-init
loop-i-init c = omega arith

pub returns-then-place-r : goal.returns-then-place-r
returns-then-place-r c = row_here _ _ _ _ (search rules) _ c.row_at-r.ensures (search rules)

pub loop-i-preserved : goal.loop-i-preserved
loop-i-preserved c = row_on _ _ _ _ (search rules) _ c.row_at-r.ensures (search rules) (search rules)

pub returns : goal.returns
returns c = row_none _ _ _ c.loop-i.i (search rules) (search rules)
