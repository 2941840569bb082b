-- Numbers (01, Field rules): little-endian, kept as unsigned bits.
use Rattle.std.specs.Prelude.{ℕ, zero, suc, ◌+◌, ◌*◌, ◌/◌, ◌%◌, Bool, List, [], ◌∷◌, length, leb, Option, Some, None}
use Rattle.format.specs.Bytes.{pick, part}

-- the number that bytes say, the low byte first
unfoldable pub le : List ℕ → ℕ
le [] = 0
le (b ∷ bs) = b + 256 * le bs

-- the number of k bytes at a place, and the place after it
abbrev pub number_at : ℕ → List ℕ → ℕ → Option (ℕ × ℕ)
number_at k s at = pick (leb (at + k) (length s)) (Some (le (part s at k), at + k)) None

-- of two, four and eight bytes
unfoldable pub u16_at : List ℕ → ℕ → Option (ℕ × ℕ)
u16_at s at = number_at 2 s at

unfoldable pub u32_at : List ℕ → ℕ → Option (ℕ × ℕ)
u32_at s at = number_at 4 s at

unfoldable pub u64_at : List ℕ → ℕ → Option (ℕ × ℕ)
u64_at s at = number_at 8 s at

-- the sign of an INT32, by its unsigned bits
abbrev pub negative : ℕ → Bool
negative n = leb 2147483648 n

-- how a number is written: its k low bytes, the low one first
unfoldable pub le_bytes : ℕ → ℕ → List ℕ
le_bytes zero n = []
le_bytes (suc k) n = (n % 256) ∷ le_bytes k (n / 256)
