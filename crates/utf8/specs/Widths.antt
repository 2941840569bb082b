-- The bytes of a scalar value by their number: what holds of each width holds of all, which scalar value has given bytes, and that the first byte
-- tells the width.
use Rattle.std.specs.Prelude.{ℕ, ◌+◌, ◌-◌, ◌*◌, ◌≤◌, ◌<◌, ◌≡◌, refl, List, [], ◌∷◌, ◌++◌, length, get_or, ltb}
use Rattle.std.proofs.Common.{ap, ap₂, arith}
use borrow.Author.Tests.{ltb-true, ltb-false, lt-ltb, le-ltb}
use Rattle.format.specs.Bytes.{pick}
use Rattle.format.specs.Text.{need_of}
use Rattle.fields.specs.Judged.{picked}
use Rattle.format.specs.Unicode.{Scalar, one, two, three, four, from_two, from_three, from_four, encode}
use Rattle.text.specs.Steps.{need_none, need_one_lem, need_two, need_three}

-- what holds of the bytes of each width
pub by_width : (P : List ℕ → Type 0) (c : ℕ) → (c < from_two → P (one c)) → (from_two ≤ c → c < from_three → P (two c))
    → (from_three ≤ c → c < from_four → P (three c)) → (from_four ≤ c → P (four c)) → P (encode c)
unfolding encode
by_width P c f1 f2 f3 f4 =
    picked P (ltb c from_two) (λ t. f1 (ltb-true c from_two t))
    (λ t. picked P (ltb c from_three) (λ u. f2 (ltb-false c from_two t) (ltb-true c from_three u))
    (λ u. picked P (ltb c from_four) (λ v. f3 (ltb-false c from_three u) (ltb-true c from_four v)) (λ v. f4 (ltb-false c from_four v))))

pub some_bytes : (c : ℕ) → 0 < length (encode c)
some_bytes c = by_width (λ m. 0 < length m) c (λ h. omega arith) (λ h g. omega arith) (λ h g. omega arith) (λ h. omega arith)

-- a byte after the first
abbrev pub Tail : ℕ → Type 0
Tail x = (0x80 ≤ x) × (x ≤ 0xBF)

-- ---- which scalar value has given bytes: their sum, six bits apart, less what a scalar value of 0 would make of them

abbrev pub sum_two : ℕ → ℕ → ℕ
sum_two b x = b * 64 + x

abbrev pub sum_three : ℕ → ℕ → ℕ → ℕ
sum_three b x y = b * 4096 + x * 64 + y

abbrev pub sum_four : ℕ → ℕ → ℕ → ℕ → ℕ
sum_four b x y z = b * 262144 + x * 4096 + y * 64 + z

abbrev pub zero_two : ℕ
zero_two = sum_two 0xC0 0x80

abbrev pub zero_three : ℕ
zero_three = sum_three 0xE0 0x80 0x80

abbrev pub zero_four : ℕ
zero_four = sum_four 0xF0 0x80 0x80 0x80

cons : {x y : ℕ} {l m : List ℕ} → x ≡ y → l ≡ m → x ∷ l ≡ y ∷ m
cons e f = ap₂ (λ (x : ℕ) (l : List ℕ). x ∷ l) e f

module _ (c : ℕ) where
  pub one_byte : c < from_two → encode c ≡ c ∷ []
  unfolding encode
  one_byte h = rw (lt-ltb c from_two h)

  pub two_bytes : (b x : ℕ) → Tail x → c + zero_two ≡ sum_two b x → from_two ≤ c → c < from_three → encode c ≡ b ∷ x ∷ []
  unfolding encode
  two_bytes b x t e l h = rw (le-ltb c from_two l, lt-ltb c from_three h) (cons (omega arith) (cons (omega arith) refl))

  pub three_bytes : (b x y : ℕ) → Tail x → Tail y → c + zero_three ≡ sum_three b x y → from_three ≤ c → c < from_four → encode c ≡ b ∷ x ∷ y ∷ []
  unfolding encode
  three_bytes b x y t u e l h =
      rw (le-ltb c from_two (omega arith), le-ltb c from_three l, lt-ltb c from_four h) (cons (omega arith) (cons (omega arith) (cons (omega arith) refl)))

  pub four_bytes : (b x y z : ℕ) → Tail x → Tail y → Tail z → c + zero_four ≡ sum_four b x y z → from_four ≤ c → encode c ≡ b ∷ x ∷ y ∷ z ∷ []
  unfolding encode
  four_bytes b x y z t u v e l =
      rw (le-ltb c from_two (omega arith), le-ltb c from_three (omega arith), le-ltb c from_four l)
      (cons (omega arith) (cons (omega arith) (cons (omega arith) (cons (omega arith) refl))))

-- ---- which scalar value bytes begin with

unfoldable pub first_of : ℕ → ℕ → ℕ → ℕ → ℕ
first_of b x y z =
    pick (ltb b 0x80) b (pick (ltb b 0xE0) (sum_two b x - zero_two) (pick (ltb b 0xF0) (sum_three b x y - zero_three) (sum_four b x y z - zero_four)))

abbrev pub first_in : List ℕ → ℕ
first_in l = first_of (get_or l 0 0) (get_or l 1 0) (get_or l 2 0) (get_or l 3 0)

module _ (c b x y z : ℕ) where
  of_one : b < 0x80 → first_of b x y z ≡ b
  unfolding first_of
  of_one h = rw (lt-ltb b 0x80 h)

  of_two : 0x80 ≤ b → b < 0xE0 → c + zero_two ≡ sum_two b x → first_of b x y z ≡ c
  unfolding first_of
  of_two h g e = rw (le-ltb b 0x80 h, lt-ltb b 0xE0 g) (omega arith)

  of_three : 0xE0 ≤ b → b < 0xF0 → c + zero_three ≡ sum_three b x y → first_of b x y z ≡ c
  unfolding first_of
  of_three h g e = rw (le-ltb b 0x80 (omega arith), le-ltb b 0xE0 h, lt-ltb b 0xF0 g) (omega arith)

  of_four : 0xF0 ≤ b → c + zero_four ≡ sum_four b x y z → first_of b x y z ≡ c
  unfolding first_of
  of_four h e = rw (le-ltb b 0x80 (omega arith), le-ltb b 0xE0 (omega arith), le-ltb b 0xF0 h) (omega arith)

-- whatever follows it
pub first_again : (c : ℕ) (l : List ℕ) → first_in (encode c ++ l) ≡ c
first_again c l =
    by_width (λ m. first_in (m ++ l) ≡ c) c (λ h. of_one c c _ _ _ (omega arith)) (λ h g. of_two c _ _ _ _ (omega arith) (omega arith) (omega arith))
    (λ h g. of_three c _ _ _ _ (omega arith) (omega arith) (omega arith)) (λ h. of_four c _ _ _ _ (omega arith) (omega arith))

-- ---- the first byte tells the width

pub width_told : (c : ℕ) → Scalar c → (l : List ℕ) → (need_of (get_or (encode c ++ l) 0 0) + 1 ≡ length (encode c)) × (length (encode c) ≤ 4)
width_told c i l =
    let j = i.code_point in
    by_width (λ m. (need_of (get_or (m ++ l) 0 0) + 1 ≡ length m) × (length m ≤ 4)) c (λ h. (after (need_none _ (omega arith)), omega arith))
    (λ h g. (after (need_one_lem _ (omega arith) (omega arith)), omega arith)) (λ h g. (after (need_two _ (omega arith) (omega arith)), omega arith))
    (λ h. (after (need_three _ (omega arith) (omega arith)), omega arith))
  where
    after : {n k : ℕ} → n ≡ k → n + 1 ≡ k + 1
    after e = ap (λ (n : ℕ). n + 1) e
