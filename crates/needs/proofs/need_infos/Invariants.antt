-- Invariant: the details that are left, from p on, lead where all of them lead; the slice keeps its length.
use Rattle.std.proofs.Common.{◌≡◌, ◌+◌, ◌-◌, length}
use Rattle.format.specs.Rows.{rows_of}
use Rattle.marks.specs.Marks.{pass, need_infos}
use Rattle.needs.proofs.need_infos.Given as goal

abbrev pub invariant-loop-i : goal.invariant-loop-i
invariant-loop-i l = (length l.table ≡ length l.initial.table) × (need_infos l.s (l.count - l.i) (l.types + l.i) l.p (pass l.number.0 (rows_of l.n l.table)) ≡ need_infos l.s l.count l.types l.infos (pass l.initial.number.0 (rows_of l.n l.initial.table)))
