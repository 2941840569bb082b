-- One law for each answer.
use Prim.Native.Nat.{◌+◌}
use mathlib.Core.Path.{sym, ◌∙◌}
use native.Mathlib.Omega.{arith}
use Rattle.records.specs.Laws.{run_end, run_short}
use Rattle.records.proofs.nulls_at.Goals as goal

pub overflow_cast-s : goal.overflow_cast-s
overflow_cast-s c = omega (arith, c.shared_slice_known-then-at-s-1.given (c.args.at + 1))

pub returns-then-at-s : goal.returns-then-at-s
returns-then-at-s c = c.plain_head.ensures ∙ sym (run_end _ _ c.if-at-s.true)

pub returns : goal.returns
returns c = sym (run_short _ _ c.if-at-s.false)
