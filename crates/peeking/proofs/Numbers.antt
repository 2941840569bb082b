-- Bytes from a place on, one by one, make the numbers that the definitions make by halves.
use Rattle.std.specs.Prelude.{ℕ, ◌+◌, ◌-◌, ◌^◌, min, ◌≤◌, ◌<◌, ◌≡◌, List, length, get_or}
use Rattle.std.proofs.Common.{sym, ◌∙◌, arith, add-zero}
use Rattle.std.proofs.Math.Decide.{dec_lt}
use Rattle.std.specs.Int.{w16, w32, w64, from_le_bytes}
use Rattle.peeking.specs.Peeking.{onward, byte_at, two_at, four_at, eight_at}
use Rattle.peeking.specs.Laws.{onward_in, onward_end, onward_past, byte_past}

-- the lesser of the end and of a place that may be past the largest number
pub onward_least : (s : List ℕ) (at n a r : ℕ) → length s < 2 ^ 64 → a ≡ min (at + n) (2 ^ 64 - 1) → r ≡ min a (length s) → r ≡ onward s at n
onward_least s at n a r l e f = go (dec_lt (length s) (at + n))
  where
    go : Dec (length s < at + n) → r ≡ onward s at n
    go (yes h) = omega (arith, onward_past s at n h)
    go (no h) = omega (arith, onward_in s at n (omega arith))

pub onward_within : (s : List ℕ) (at n : ℕ) → onward s at n ≤ length s
onward_within s at n = go (dec_lt (length s) (at + n))
  where
    go : Dec (length s < at + n) → onward s at n ≤ length s
    go (yes h) = omega (arith, onward_past s at n h)
    go (no h) = omega (arith, onward_in s at n (omega arith))

pub onward_twice : (s : List ℕ) (at m n : ℕ) → onward s (onward s at m) n ≡ onward s at (m + n)
onward_twice s at m n = go (dec_lt (length s) (at + m)) (dec_lt (length s) (at + (m + n)))
  where
    go : Dec (length s < at + m) → Dec (length s < at + (m + n)) → onward s (onward s at m) n ≡ onward s at (m + n)
    go (yes h) (yes g) = rw (← onward_past s at m h) (omega (arith, onward_end s (length s) n (omega arith), onward_past s at (m + n) g))
    go (yes h) (no g) = absurd (omega arith)
    go (no h) (yes g) = rw (← onward_in s at m (omega arith)) (omega (arith, onward_past s (at + m) n (omega arith), onward_past s at (m + n) g))
    go (no h) (no g) = rw (← onward_in s at m (omega arith)) (omega (arith, onward_in s (at + m) n (omega arith), onward_in s at (m + n) (omega arith)))

pub byte_here : (s : List ℕ) (at : ℕ) → byte_at s (onward s at 0) ≡ byte_at s at
byte_here s at = go (dec_lt (length s) (at + 0))
  where
    go : Dec (length s < at + 0) → byte_at s (onward s at 0) ≡ byte_at s at
    go (yes h) = rw (← onward_past s at 0 h) (sym (byte_past s (length s) (omega arith)) ∙ byte_past s at (omega arith))
    go (no h) = rw (← onward_in s at 0 (omega arith), add-zero)

module _ (s bs : List ℕ) (at r : ℕ) where
  pub two_told : r ≡ from_le_bytes w16 bs → ((i : ℕ) → i < 2 → get_or bs i 0 ≡ byte_at s (onward s at i)) → r ≡ two_at s at
  unfolding two_at
  two_told e h = omega (arith, h 0 (omega arith), h 1 (omega arith), byte_here s at)

  pub four_told : r ≡ from_le_bytes w32 bs → ((i : ℕ) → i < 4 → get_or bs i 0 ≡ byte_at s (onward s at i)) → r ≡ four_at s at
  unfolding two_at four_at
  four_told e h =
      rw (onward_twice s at 2 1)
      (omega (arith, h 0 (omega arith), h 1 (omega arith), h 2 (omega arith), h 3 (omega arith), byte_here s at))

  pub eight_told : r ≡ from_le_bytes w64 bs → ((i : ℕ) → i < 8 → get_or bs i 0 ≡ byte_at s (onward s at i)) → r ≡ eight_at s at
  unfolding two_at four_at eight_at
  eight_told e h =
      rw (onward_twice s at 2 1, onward_twice s at 4 1, onward_twice s at 4 2, onward_twice s at 6 1)
      (omega (
        arith,
        h 0 (omega arith),
        h 1 (omega arith),
        h 2 (omega arith),
        h 3 (omega arith),
        h 4 (omega arith),
        h 5 (omega arith),
        h 6 (omega arith),
        h 7 (omega arith),
        byte_here s at,
      ))
