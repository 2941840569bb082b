-- The length prefix (2.1.1.6; 01, Field rules): seven bits a byte, the low group first, in the shortest form or, lenient, in any of at most five bytes whose
-- fifth is at most 7.
use Rattle.std.specs.Prelude.{ℕ, zero, suc, ◌+◌, ◌*◌, ◌/◌, ◌%◌, List, [], ◌∷◌, length, get_or, leb, ltb, Result, Ok, Err}
use Rattle.format.specs.declared.Refusal.{Refusal}
use Rattle.format.specs.declared.Refusal.TheVariants as R
use Rattle.format.specs.declared.Setting.{Setting}
use Rattle.format.specs.declared.Setting.TheVariants as Q
use Rattle.format.specs.Bytes.{pick}

-- one group below those that follow it
abbrev pub onto : ℕ → Result (ℕ × ℕ) Refusal → Result (ℕ × ℕ) Refusal
onto g (Ok (n, next)) = Ok (g + 128 * n, next)
onto g (Err f) = Err f

-- The groups from p on. k bytes may follow this one; least is the smallest last group in this byte, later the smallest in a later one.
unfoldable pub prefix_in : ℕ → ℕ → ℕ → List ℕ → ℕ → Result (ℕ × ℕ) Refusal
prefix_in zero least later s p =
    pick (ltb p (length s))
    (pick (leb least (get_or s p 0)) (pick (ltb (get_or s p 0) 8) (Ok (get_or s p 0, p + 1)) (Err R.BadLength)) (Err R.BadLength))
    (Err R.CutShort)
prefix_in (suc k) least later s p =
    pick (ltb p (length s))
    (pick (leb least (get_or s p 0))
    (pick (ltb (get_or s p 0) 128) (Ok (get_or s p 0, p + 1)) (onto (get_or s p 0 % 128) (prefix_in k later later s (p + 1))))
    (Err R.BadLength))
    (Err R.CutShort)

-- the smallest last group in a later byte: a 0 there is a longer form
abbrev pub later_least : Setting → ℕ
later_least Q.Strict = 1
later_least Q.Lenient = 0

-- the number at a place, and the place after its bytes
abbrev pub prefix_at : Setting → List ℕ → ℕ → Result (ℕ × ℕ) Refusal
prefix_at σ s p = prefix_in 4 0 (later_least σ) s p

-- how a number is written: its groups, of which at most k follow the first
unfoldable pub groups_of : ℕ → ℕ → List ℕ
groups_of zero n = n ∷ []
groups_of (suc k) n = pick (ltb n 128) (n ∷ []) ((128 + n % 128) ∷ groups_of k (n / 128))

abbrev pub prefix_bytes : ℕ → List ℕ
prefix_bytes n = groups_of 4 n

-- a number in groups of which exactly k follow the first
unfoldable pub groups_in : ℕ → ℕ → List ℕ
groups_in zero n = n ∷ []
groups_in (suc k) n = (128 + n % 128) ∷ groups_in k (n / 128)

-- a number in a prefix of so many bytes; 0 bytes are no prefix
unfoldable pub prefix_of : ℕ → ℕ → List ℕ
prefix_of zero n = []
prefix_of (suc k) n = groups_in k n
