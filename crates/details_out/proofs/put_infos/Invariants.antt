-- The invariant: what is written and the details still left are all the details.
use Rattle.std.proofs.Common.{◌+◌, ◌-◌}
use Rattle.format.specs.Rows.{rows_of}
use Rattle.put.specs.Put.{Along}
use Rattle.pieces.specs.Copy.{infos_out}
use Rattle.details_out.proofs.put_infos.Given as goal

abbrev pub invariant-loop-i : goal.invariant-loop-i
invariant-loop-i l = Along (infos_out l.s (rows_of l.n l.table) l.count l.kinds (l.kinds + l.count)) (infos_out l.s (rows_of l.n l.table) (l.count - l.i) (l.kinds + l.i) l.p) l.initial.out l.out l.at
