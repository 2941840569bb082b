-- The invariant: the stretch is what the rows from i on give at the place that is reached.
use mathlib.Core.Path.{◌≡◌}
use lib.ListN.{drop}
use Rattle.format.specs.Rows.{rows_of}
use Rattle.stretches.specs.Stretches.{stretch}
use Rattle.stretches.proofs.stretch_from.Given as goal

abbrev pub invariant-loop-i : goal.invariant-loop-i
invariant-loop-i l = stretch l.anew l.s l.first l.place (drop l.first (rows_of l.n l.table)) ≡ stretch l.anew l.s l.i l.end (drop l.i (rows_of l.n l.table))
