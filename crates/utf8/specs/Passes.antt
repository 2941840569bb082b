-- The bytes of a scalar value lead the machine from between two scalars to between two scalars.
use Rattle.std.specs.Prelude.{ℕ, suc, ◌+◌, ◌≤◌, ◌<◌, ◌≡◌, refl, List, [], ◌∷◌, ◌++◌}
use Rattle.std.proofs.Common.{ap, ◌∙◌, arith}
use Rattle.std.proofs.Math.Decide.{dec_lt}
use Rattle.format.specs.declared.Utf8.{Utf8}
use Rattle.format.specs.Text.{need_of, lo_of, hi_of, between, after}
use Rattle.format.specs.Unicode.{Scalar, Scalars, from_three, from_four, encode, encoded}
use Rattle.text.specs.Steps.{waits, by_second, need_none, need_one_lem, need_two, need_three, lead, begins, along, next}
use Rattle.utf8.specs.Widths.{by_width, Tail, sum_three, sum_four, zero_three, zero_four}

-- a second byte that its first allows
abbrev Second : ℕ → ℕ → Type 0
Second b x = (lo_of b ≤ x) × (x ≤ hi_of b)

module _ (l : List ℕ) where
  -- after the bytes m the machine does with l what it does between two scalars
  abbrev Through : List ℕ → Type 0
  Through m = (after between (m ++ l)).need ≡ (after between l).need

  need : {st u : Utf8} → st ≡ u → st.need ≡ u.need
  need e = ap (λ (v : Utf8). v.need) e

  last : (x : ℕ) → Tail x → after (waits 1 0x80 0xBF) (x ∷ l) ≡ after between l
  last x t = along (waits 1 0x80 0xBF) between x l (next 0 0x80 0xBF x t.0 t.1)

  last_two : (x y : ℕ) → Tail x → Tail y → after (waits 2 0x80 0xBF) (x ∷ y ∷ l) ≡ after between l
  last_two x y t u = along (waits 2 0x80 0xBF) (waits 1 0x80 0xBF) x (y ∷ l) (next 1 0x80 0xBF x t.0 t.1) ∙ last y u

  -- a first byte that k + 1 bytes follow, and the second
  begun : (b k x : ℕ) (m : List ℕ) → need_of b ≡ suc k → k < 3 → Second b x → after between (b ∷ x ∷ m) ≡ after (waits k 0x80 0xBF) m
  begun b k x m e h t =
      along between (waits (suc k) (lo_of b) (hi_of b)) b (x ∷ m) (lead b (suc k) e (omega arith))
      ∙ along (waits (suc k) (lo_of b) (hi_of b)) (waits k 0x80 0xBF) x m (next k (lo_of b) (hi_of b) x t.0 t.1)

  pass_one : (c : ℕ) → c < 0x80 → Through (c ∷ [])
  pass_one c h = need (along between (waits 0 (lo_of c) (hi_of c)) c l (lead c 0 (need_none c h) (omega arith))) ∙ begins (lo_of c) (hi_of c) l

  pass_two : (b x : ℕ) → 0xC2 ≤ b → b < 0xE0 → Tail x → Through (b ∷ x ∷ [])
  pass_two b x h g t = need (begun b 0 x l (need_one_lem b h g) (omega arith) s)
    where
      s : Second b x
      s = by_second (λ lo hi. (lo ≤ x) × (x ≤ hi)) b (λ e. omega arith) (λ e. omega arith) (λ e. omega arith) (λ e. omega arith) (λ m n o p. omega arith)

  -- no surrogate: after ED the second byte ends at 9F
  pass_three : (c b x y : ℕ) → c + zero_three ≡ sum_three b x y → Tail x → Tail y → from_three ≤ c → c < from_four → Scalar c → Through (b ∷ x ∷ y ∷ [])
  pass_three c b x y q t u h g i = need (begun b 1 x (y ∷ l) (need_two b (omega arith) (omega arith)) (omega arith) s ∙ last y u)
    where
      ed : b ≡ 0xED → Dec (0x9F < x) → (0x80 ≤ x) × (x ≤ 0x9F)
      ed e (yes a) = absurd (i.no_surrogate (omega arith) (omega arith))
      ed e (no a) = omega arith

      s : Second b x
      s =
          by_second (λ lo hi. (lo ≤ x) × (x ≤ hi)) b (λ e. omega arith) (λ e. ed e (dec_lt 0x9F x)) (λ e. omega arith) (λ e. omega arith)
          (λ m n o p. omega arith)

  pass_four : (c b x y z : ℕ) → c + zero_four ≡ sum_four b x y z → Tail x → Tail y → Tail z → from_four ≤ c → Scalar c → Through (b ∷ x ∷ y ∷ z ∷ [])
  pass_four c b x y z q t u v h i = need (begun b 2 x (y ∷ z ∷ l) (need_three b (omega arith) (omega arith)) (omega arith) s ∙ last_two y z u v)
    where
      s : Second b x
      s = by_second (λ lo hi. (lo ≤ x) × (x ≤ hi)) b (λ e. omega arith) (λ e. omega arith) (λ e. omega arith) (λ e. omega arith) (λ m n o p. omega arith)

  passes : (c : ℕ) → Scalar c → Through (encode c)
  passes c i =
      by_width Through c (λ h. pass_one c (omega arith)) (λ h g. pass_two _ _ (omega arith) (omega arith) (omega arith))
      (λ h g. pass_three c _ _ _ (omega arith) (omega arith) (omega arith) h g i)
      (λ h. pass_four c _ _ _ _ (omega arith) (omega arith) (omega arith) (omega arith) h i)

-- the bytes of scalar values, one after the other
pub all_pass : (cs : List ℕ) → Scalars cs → (after between (encoded cs)).need ≡ 0
unfolding after
all_pass [] s = refl
all_pass (c ∷ cs) s = passes (encoded cs) c s.0 ∙ all_pass cs s.1
