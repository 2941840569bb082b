-- The invariant: the entries from p on answer what all of them answer. The measure: how many bytes are left.
use Prim.Native.Nat.{◌-◌}
use mathlib.Core.Path.{◌≡◌}
use lib.ListN.{length}
use Rattle.format.specs.Entries.{bad_from, bad_entry}
use Rattle.book.proofs.bad_entry.Given as goal

abbrev pub invariant-loop-p : goal.invariant-loop-p
invariant-loop-p l = bad_entry l.book ≡ bad_from (length l.book) l.book l.p

abbrev pub decreases-loop-p : goal.decreases-loop-p
decreases-loop-p l = length l.book - l.p
