-- The invariant: the details that are left, from p on, answer what all of them answer.
use Rattle.std.specs.Prelude.{◌≡◌, ◌+◌, ◌-◌}
use Rattle.format.specs.Rows.{rows_of}
use Rattle.format.specs.Records.{infos_at}
use Rattle.class_info.proofs.infos_at.Given as goal

abbrev pub invariant-loop-t : goal.invariant-loop-t
invariant-loop-t l = infos_at l.setting l.s (rows_of l.n l.table) l.count l.types l.at ≡ infos_at l.setting l.s (rows_of l.n l.table) (l.types + l.count - l.t) l.t l.p
