-- The number after its low group fits a u32, because the groups that follow are below 2 ^ 24.
use native.Mathlib.Omega.{arith}
use Rattle.std.proofs.Common.{rules}
use Rattle.prefix.proofs.onto_group.Goals as goal

pub overflow_mul-result : goal.overflow_mul-result
overflow_mul-result c = omega (arith, rw c.in_ok-n.was at c.requires)

pub overflow_add-result : goal.overflow_add-result
overflow_add-result c = omega (arith, rw c.in_ok-n.was at c.requires)

pub returns-in_err-n : goal.returns-in_err-n
returns-in_err-n c = rw c.in_err-n.was (search rules)

pub returns : goal.returns
returns c = rw c.in_ok-n.was
