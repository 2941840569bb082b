-- The invariant: the type bytes that are left, from p on, answer what all of them answer.
use Rattle.std.specs.Prelude.{◌≡◌, ◌-◌}
use Rattle.format.specs.Values.{times}
use Rattle.format.specs.Types.{type_byte_at}
use Rattle.types.proofs.type_bytes_at.Given as goal

abbrev pub invariant-loop : goal.invariant-loop
invariant-loop l = times (type_byte_at l.s) l.n l.at ≡ times (type_byte_at l.s) (l.n - l.counter) l.p
