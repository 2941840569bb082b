-- The invariant: the members that are left, from p on, answer what all of them answer.
use Rattle.std.specs.Prelude.{◌≡◌, ◌-◌}
use Rattle.format.specs.Values.{times}
use Rattle.format.specs.Entries.{described_at}
use Rattle.book.proofs.all_described_at.Given as goal

abbrev pub invariant-loop : goal.invariant-loop
invariant-loop l = times (described_at l.book) l.n l.at ≡ times (described_at l.book) (l.n - l.counter) l.p
