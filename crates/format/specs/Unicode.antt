-- UTF-8 in Unicode's words (Unicode 5.0, section 3.9): scalar values, and their bytes by the bit distribution of table 3-6.
use Rattle.std.specs.Prelude.{ℕ, ◌+◌, ◌/◌, ◌%◌, ◌≤◌, ◌<◌, ◌≡◌, List, [], ◌∷◌, ◌++◌, ltb}
use Rattle.format.specs.Bytes.{pick}

-- a scalar value (D76): a code point that is no surrogate
pub record Scalar (c : ℕ) : Type 0 where
  pub code_point : c < 0x110000
  pub no_surrogate : 0xD800 ≤ c → c ≤ 0xDFFF → ⊥

-- each of a list is one
abbrev pub Scalars : List ℕ → Type 0
Scalars [] = Unit {0}
Scalars (c ∷ cs) = Scalar c × Scalars cs

-- ---- the bit distribution: 7, 11, 16 or 21 bits, six of them in each byte after the first

abbrev pub one : ℕ → List ℕ
one c = c ∷ []

abbrev pub two : ℕ → List ℕ
two c = (0xC0 + c / 64) ∷ (0x80 + c % 64) ∷ []

abbrev pub three : ℕ → List ℕ
three c = (0xE0 + c / 4096) ∷ (0x80 + (c / 64) % 64) ∷ (0x80 + c % 64) ∷ []

abbrev pub four : ℕ → List ℕ
four c = (0xF0 + c / 262144) ∷ (0x80 + (c / 4096) % 64) ∷ (0x80 + (c / 64) % 64) ∷ (0x80 + c % 64) ∷ []

-- from here on a scalar value has two bytes, three, four
abbrev pub from_two : ℕ
from_two = 0x80

abbrev pub from_three : ℕ
from_three = 0x800

abbrev pub from_four : ℕ
from_four = 0x10000

-- the bytes of a scalar value
unfoldable pub encode : ℕ → List ℕ
encode c = pick (ltb c from_two) (one c) (pick (ltb c from_three) (two c) (pick (ltb c from_four) (three c) (four c)))

-- those of several, one after the other
abbrev pub encoded : List ℕ → List ℕ
encoded [] = []
encoded (c ∷ cs) = encode c ++ encoded cs

-- bytes are the UTF-8 form of scalar values
pub record Encodes (cs l : List ℕ) : Type 0 where
  pub scalars : Scalars cs
  pub bytes : encoded cs ≡ l
