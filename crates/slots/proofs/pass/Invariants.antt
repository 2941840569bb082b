-- The invariant: the slots that are left, from u on, answer what all of them answer.
use Rattle.std.specs.Prelude.{◌≡◌, ◌-◌}
use Rattle.format.specs.Types.{passed}
use Rattle.slots.proofs.pass.Given as goal

abbrev pub invariant-loop : goal.invariant-loop
invariant-loop l = passed l.book l.s l.initial.u l.n ≡ passed l.book l.s l.u (l.n - l.counter)
