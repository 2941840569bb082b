-- Invariant: the members that are left answer what all of them answer; the place of a type byte is one further with each.
use Rattle.std.proofs.Common.{◌≡◌, ◌+◌, ◌-◌}
use Rattle.format.specs.Rows.{rows_of}
use Rattle.distinct.specs.Members.{same_members}
use Rattle.distinct.proofs.same_members.Given as goal

abbrev pub invariant-loop : goal.invariant-loop
invariant-loop l = (l.one.kind ≡ l.fn.a.kind + l.counter) × (l.other.kind ≡ l.fn.b.kind + l.counter) × (same_members l.s (rows_of l.n l.table) (l.count - l.counter) l.one l.other ≡ same_members l.s (rows_of l.n l.table) l.count l.fn.a l.fn.b)
