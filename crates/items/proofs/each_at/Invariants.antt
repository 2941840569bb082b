-- The invariant: the values that are left, from p on, answer what all of them answer.
use Rattle.std.specs.Prelude.{◌≡◌, ◌-◌}
use Rattle.format.specs.Values.{times}
use Rattle.format.specs.Values.{value_at}
use Rattle.items.proofs.each_at.Given as goal

abbrev pub invariant-loop : goal.invariant-loop
invariant-loop l = times (value_at l.setting l.s l.code) l.n l.at ≡ times (value_at l.setting l.s l.code) (l.n - l.counter) l.p
