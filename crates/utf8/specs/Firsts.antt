-- Well-formed text begins with the bytes of a scalar value, and well-formed text follows.
use Rattle.std.specs.Prelude.{ℕ, ◌+◌, ◌-◌, ◌≤◌, ◌<◌, ◌≡◌, refl, List, [], ◌∷◌, ◌++◌, eqb}
use Rattle.std.proofs.Common.{sym, ap, ◌∙◌, arith}
use Rattle.format.specs.Bytes.{pick}
use Rattle.format.specs.Text.{lo_of, hi_of, lead_of, broken, between, step_of, after}
use Rattle.format.specs.Unicode.{Scalar, from_three, from_four, encode}
use Rattle.text.specs.Steps.{waits, by_lead, by_second, begins, not_broken, has_next}
use Rattle.utf8.specs.Widths.{Tail, sum_two, sum_three, sum_four, zero_two, zero_three, zero_four, one_byte, two_bytes, three_bytes, four_bytes}

-- the scalar value, and what follows its bytes
pub record First (l : List ℕ) : Type 0 where
  pub scalar : ℕ
  pub rest : List ℕ
  pub is : Scalar scalar
  pub bytes : l ≡ encode scalar ++ rest
  pub good : (after between rest).need ≡ 0

-- the bounds of the second byte keep out overlong forms, surrogates and what is no code point
module _ (b x : ℕ) (low : lo_of b ≤ x) (high : x ≤ hi_of b) where
  second : Tail x
  second =
      by_second (λ lo hi. lo ≤ x → x ≤ hi → Tail x) b (λ e. omega arith) (λ e. omega arith) (λ e. omega arith) (λ e. omega arith)
      (λ m n o p. omega arith) low high

  second_three : (y c : ℕ) → c + zero_three ≡ sum_three b x y → Tail y → 0xE0 ≤ b → b < 0xF0 → (from_three ≤ c) × Scalar c
  second_three y c q t h g =
      by_second (λ lo hi. lo ≤ x → x ≤ hi → (from_three ≤ c) × Scalar c) b (λ e. omega arith) (λ e. omega arith) (λ e. omega arith) (λ e. omega arith)
      (λ m n o p. omega arith) low high

  second_four : (y z c : ℕ) → c + zero_four ≡ sum_four b x y z → Tail y → Tail z → 0xF0 ≤ b → b < 0xF5 → (from_four ≤ c) × Scalar c
  second_four y z c q t u h g =
      by_second (λ lo hi. lo ≤ x → x ≤ hi → (from_four ≤ c) × Scalar c) b (λ e. omega arith) (λ e. omega arith) (λ e. omega arith) (λ e. omega arith)
      (λ m n o p. omega arith) low high

-- one more byte in front
more : (b : ℕ) {l m : List ℕ} → l ≡ m → b ∷ l ≡ b ∷ m
more b e = ap (λ (m : List ℕ). b ∷ m) e

module _ (b : ℕ) (l : List ℕ) where
  -- the bytes m of c, and what follows them
  of : (c : ℕ) (m rest : List ℕ) → Scalar c → encode c ≡ m → b ∷ l ≡ m ++ rest → (after between rest).need ≡ 0 → First (b ∷ l)
  of c m rest i q e g = record { scalar = c; rest = rest; is = i; bytes = e ∙ rw q; good = g }

  first_one_lem : b < 0x80 → (after (waits 0 (lo_of b) (hi_of b)) l).need ≡ 0 → First (b ∷ l)
  first_one_lem h e = of b (b ∷ []) l (omega arith) (one_byte b (omega arith)) refl (sym (begins (lo_of b) (hi_of b) l) ∙ e)

  first_two : 0xC2 ≤ b → b < 0xE0 → (after (waits 1 (lo_of b) (hi_of b)) l).need ≡ 0 → First (b ∷ l)
  first_two h g e =
      let w = has_next 0 (lo_of b) (hi_of b) l e in
      let x : ℕ = w.byte in
      let c : ℕ = sum_two b x - zero_two in
      let t : Tail x = second b x w.low w.high in
      of c (b ∷ x ∷ []) w.rest (omega arith) (two_bytes c b x t (omega arith) (omega arith) (omega arith)) (more b w.split) w.on

  first_three : 0xE0 ≤ b → b < 0xF0 → (after (waits 2 (lo_of b) (hi_of b)) l).need ≡ 0 → First (b ∷ l)
  first_three h g e =
      let w = has_next 1 (lo_of b) (hi_of b) l e in
      let v = has_next 0 0x80 0xBF w.rest w.on in
      let x : ℕ = w.byte in
      let y : ℕ = v.byte in
      let c : ℕ = sum_three b x y - zero_three in
      let t : Tail x = second b x w.low w.high in
      let u : Tail y = (v.low, v.high) in
      let q : c + zero_three ≡ sum_three b x y = omega arith in
      let i = second_three b x w.low w.high y c q u h g in
      of c (b ∷ x ∷ y ∷ []) v.rest i.1 (three_bytes c b x y t u q i.0 (omega arith)) (more b (w.split ∙ more x v.split)) v.on

  first_four : 0xF0 ≤ b → b < 0xF5 → (after (waits 3 (lo_of b) (hi_of b)) l).need ≡ 0 → First (b ∷ l)
  first_four h g e =
      let w = has_next 2 (lo_of b) (hi_of b) l e in
      let v = has_next 1 0x80 0xBF w.rest w.on in
      let r = has_next 0 0x80 0xBF v.rest v.on in
      let x : ℕ = w.byte in
      let y : ℕ = v.byte in
      let z : ℕ = r.byte in
      let c : ℕ = sum_four b x y z - zero_four in
      let t : Tail x = second b x w.low w.high in
      let u : Tail y = (v.low, v.high) in
      let k : Tail z = (r.low, r.high) in
      let q : c + zero_four ≡ sum_four b x y z = omega arith in
      let i = second_four b x w.low w.high y z c q u k h g in
      of c (b ∷ x ∷ y ∷ z ∷ []) r.rest i.1 (four_bytes c b x y z t u k q i.0) (more b (w.split ∙ more x (v.split ∙ more y r.split))) r.on

  pub first : (after between (b ∷ l)).need ≡ 0 → First (b ∷ l)
  unfolding after step_of lead_of
  first =
      by_lead (λ n. (after (pick (eqb n 4) broken (waits n (lo_of b) (hi_of b))) l).need ≡ 0 → First (b ∷ l)) b
      first_one_lem first_two first_three first_four (not_broken l)
