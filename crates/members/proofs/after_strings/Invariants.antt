-- The place after all strings is that after those left.
use Rattle.std.proofs.Common.{◌≡◌, ◌≤◌, ◌-◌}
use Rattle.members.specs.Members.{after_strings}
use Rattle.members.proofs.after_strings.Given as goal

abbrev pub invariant-loop : goal.invariant-loop
invariant-loop l = (l.counter ≤ l.n) × (after_strings l.n l.s l.from ≡ after_strings (l.n - l.counter) l.s l.at)
