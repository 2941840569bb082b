-- The invariant: the names that are left, from p on, answer what all of them answer.
use Rattle.std.specs.Prelude.{◌≡◌, ◌-◌}
use Rattle.format.specs.Values.{times}
use Rattle.format.specs.Types.{name_at}
use Rattle.types.proofs.names_at.Given as goal

abbrev pub invariant-loop : goal.invariant-loop
invariant-loop l = times (name_at l.setting l.s) l.n l.at ≡ times (name_at l.setting l.s) (l.n - l.counter) l.p
