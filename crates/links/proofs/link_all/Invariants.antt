-- Invariant: the rows before i have their links, none of them is lost, and the slice has its length.
use mathlib.Core.Path.{◌≡◌}
use lib.ListN.{length}
use Rattle.format.specs.Rows.{rows_of, is_lost}
use Rattle.lookups.specs.Find.{Scan}
use Rattle.links.specs.Links.{half}
use Rattle.links.proofs.link_all.Given as goal

abbrev pub invariant-loop-i : goal.invariant-loop-i
invariant-loop-i l = Scan (is_lost (rows_of l.n l.initial.table)) l.n l.initial.table l.i × (length l.table ≡ length l.initial.table) × (rows_of l.n l.table ≡ half l.keep l.i (rows_of l.n l.initial.table))
