-- The place after all strings is that after those left.
use Rattle.std.proofs.Common.{sym, ◌∙◌, arith}
use native.Mathlib.Nat.{sub-zero}
use Rattle.members.specs.Laws.{strings_none, strings_on}
use Rattle.members.proofs.after_strings.Goals as goal

pub loop-init : goal.loop-init
loop-init c = (omega arith, rw sub-zero)

pub loop-preserved : goal.loop-preserved
loop-preserved c = (omega arith, c.loop.invariant.1 ∙ strings_on _ _ _ _ _ (omega arith) (omega arith) c.after_string-at.ensures)

pub returns : goal.returns
returns c = sym (c.loop.invariant.1 ∙ strings_none _ _ _ (omega arith))
