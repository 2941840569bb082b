-- The bytes before the index are those of the places.
use Rattle.std.proofs.Common.{◌≡◌, ℕ, ◌<◌, length, get_or}
use Rattle.peeking.specs.Peeking.{onward, byte_at}
use Rattle.peeking.proofs.bytes_at.Given as goal

abbrev pub invariant-loop-i : goal.invariant-loop-i
invariant-loop-i g l = (length l.bytes ≡ g.row.N) × ((k : ℕ) → k < l.i → get_or l.bytes k 0 ≡ byte_at l.s (onward l.s l.at k))
