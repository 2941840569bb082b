-- The product of the lengths in numbers that do not wrap: above the most slots every product answers alike.
use Prim.Native.Nat.{ℕ, zero, suc, ◌-◌, ◌*◌, ◌≤◌, ◌<◌}
use Rattle.std.specs.Prelude.{◌≡◌, Bool, List, Option, Some, None, Result, Ok, Err}
use Rattle.format.specs.declared.Refusal.{Refusal}
use Rattle.std.proofs.Math.Path.{refl}
use Rattle.std.proofs.Common.{sym, ap, ◌∙◌, mul-le-mul}
use Rattle.std.proofs.Math.Bool.{true, false}
use native.Mathlib.Omega.{arith}
use Rattle.std.proofs.Math.Dec.{leb}
use borrow.Author.Tests.{lt-leb, leb-true, leb-false}
use Rattle.format.specs.declared.Refusal.TheVariants as R
use Rattle.format.specs.Bytes.{pick}
use Rattle.format.specs.Numbers.{u32_at, negative}
use Rattle.format.specs.Records.{on_length, lengths_at}

-- the product itself where an array may have so many slots, and else one number for all
unfoldable pub capped : ℕ → ℕ
capped n = pick (leb n 2147483647) n 2147483648

abbrev pub judged : ℕ → ℕ → Result (ℕ × ℕ) Refusal
judged product at = pick (leb product 2147483647) (Ok (product, at)) (Err R.BadCount)

pub capped_within : (n : ℕ) → capped n ≤ 2147483648
unfolding capped
capped_within n = go (leb n 2147483647) refl
  where
    go : (t : Bool) → leb n 2147483647 ≡ t → pick t n 2147483648 ≤ 2147483648
    go true e = let h = leb-true n 2147483647 e in omega arith
    go false e = omega arith

-- so small a product and a length fit eight bytes together
pub product_fits : (p n : ℕ) → p ≤ 2147483648 → n ≤ 4294967295 → p * n ≤ 9223372034707292160
product_fits p n h g = mul-le-mul {n₁ = p} {m₁ = n} {n₂ = 2147483648} {m₂ = 4294967295} h g

-- a factor that is not 0 leaves it above
above : (p n : ℕ) → 2147483647 < p → 2147483647 < p * suc n
above p n h = let w : p * 1 ≤ p * suc n = mul-le-mul {n₁ = p} {m₁ = 1} {n₂ = p} {m₂ = suc n} (omega arith) (omega arith) in omega arith

module _ (s : List ℕ) where
  pub above_alike : (k p q at : ℕ) → 2147483647 < p → 2147483647 < q → lengths_at s k p at ≡ lengths_at s k q at
  unfolding lengths_at
  above_alike zero p q at h g = rw (lt-leb p 2147483647 h, lt-leb q 2147483647 g)
  above_alike (suc k) p q at h g = go (λ n next. above_alike k (p * suc n) (q * suc n) next (above p n h) (above q n g)) (u32_at s at)
    where
      each : ((n next : ℕ) → lengths_at s k (p * suc n) next ≡ lengths_at s k (q * suc n) next) → (n next : ℕ) → lengths_at s k (p * n) next ≡ lengths_at s k (q * n) next
      each more zero next = let e : p * 0 ≡ q * 0 = omega arith in rw e
      each more (suc n) next = more n next

      go : ((n next : ℕ) → lengths_at s k (p * suc n) next ≡ lengths_at s k (q * suc n) next) → (r : Option (ℕ × ℕ))
          → on_length (λ n next. lengths_at s k (p * n) next) r ≡ on_length (λ n next. lengths_at s k (q * n) next) r
      go more (Some (n, next)) = ap (λ (x : Result (ℕ × ℕ) Refusal). pick (negative n) (Err R.BadCount) x) (each more n next)
      go more None = refl

  pub capped_alike : (k p at : ℕ) → lengths_at s k (capped p) at ≡ lengths_at s k p at
  unfolding capped
  capped_alike k p at = go (leb p 2147483647) refl
    where
      go : (t : Bool) → leb p 2147483647 ≡ t → lengths_at s k (pick t p 2147483648) at ≡ lengths_at s k p at
      go true e = refl
      go false e = let h = leb-false p 2147483647 e in above_alike k 2147483648 p at (omega arith) (omega arith)

  -- ---- for the loop: no length is left, or one more is read

  pub lengths_none : (k p at : ℕ) → k ≤ 0 → lengths_at s k p at ≡ judged p at
  unfolding lengths_at
  lengths_none zero p at h = refl
  lengths_none (suc k) p at h = absurd (omega arith)

  module _ (k p at : ℕ) (h : 0 < k) where
    step : lengths_at s k p at ≡ on_length (λ n next. lengths_at s (k - 1) (p * n) next) (u32_at s at)
    unfolding lengths_at
    step = go k h
      where
        go : (k : ℕ) → 0 < k → lengths_at s k p at ≡ on_length (λ n next. lengths_at s (k - 1) (p * n) next) (u32_at s at)
        go zero h = absurd (omega arith)
        go (suc k) h = let d : suc k - 1 ≡ k = omega arith in rw d

    pub lengths_short : u32_at s at ≡ None → lengths_at s k p at ≡ Err R.CutShort
    lengths_short e = step ∙ rw e

    module _ (n next : ℕ) (e : u32_at s at ≡ Some (n, next)) where
      pub lengths_bad : negative n ≡ true → lengths_at s k p at ≡ Err R.BadCount
      lengths_bad g = step ∙ rw (e, g)

      pub lengths_step : negative n ≡ false → lengths_at s k p at ≡ lengths_at s (k - 1) (capped (p * n)) next
      lengths_step g = step ∙ (rw (e, g) (sym (capped_alike (k - 1) (p * n) next)))
