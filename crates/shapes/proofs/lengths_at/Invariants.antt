-- The invariant: the lengths that are left, from p on, over the product so far answer what all of them answer.
use Rattle.std.specs.Prelude.{◌≡◌, ◌≤◌, ◌-◌}
use Rattle.format.specs.Records.{lengths_at}
use Rattle.shapes.proofs.lengths_at.Given as goal

abbrev pub invariant-loop : goal.invariant-loop
invariant-loop l = (l.product ≤ 2147483648) × (lengths_at l.s l.rank 1 l.at ≡ lengths_at l.s (l.rank - l.counter) l.product l.p)
