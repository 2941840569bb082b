-- The scalar at a place: how many bytes it has by `format`'s definitions, asked byte by byte.
use Prim.Native.Nat.{ℕ, suc, ◌+◌, ◌≤◌, ◌<◌}
use Rattle.std.specs.Prelude.{◌≡◌, refl, Bool, true, false, List, length, ltb, leb, eqb}
use native.Mathlib.Omega.{arith}
use Rattle.std.proofs.Math.ListN.{get_or}
use Rattle.std.proofs.Common.{drop_of_length-le}
use borrow.Author.Tests.{ltb-true, ltb-false, leb-true, leb-false, ne_eqb}
use Rattle.format.specs.declared.Utf8.{Utf8}
use Rattle.format.specs.Bytes.{pick, part}
use Rattle.format.specs.Text.{need_of, broken, between, step_of, after}
use Rattle.fields.specs.Judged.{picked}
use Rattle.fields.specs.Parts.{part_cons}
use Rattle.text.specs.Steps.{waits, next, stays_broken, too_low, too_high}

-- whether s has a byte at i, from lo to hi
unfoldable pub has_at : List ℕ → ℕ → ℕ → ℕ → Bool
has_at s i lo hi = pick (ltb i (length s)) (pick (ltb (get_or s i 0) lo) false (leb (get_or s i 0) hi)) false

-- whether the k bytes at i are what st waits for
unfoldable pub ends_at : Utf8 → List ℕ → ℕ → ℕ → Bool
ends_at st s i k = eqb (after st (part s i k)).need 0

-- how many bytes a scalar at i has of which k follow the first, the next from lo to hi; 0 where other bytes stand there, or too few
unfoldable pub width_of : List ℕ → ℕ → ℕ → ℕ → ℕ → ℕ
width_of s i k lo hi = pick (ends_at (waits k lo hi) s (i + 1) k) (k + 1) 0

-- how many bytes the scalar at i has: as many as its first byte says; 0 where none stands there
unfoldable pub width_at : List ℕ → ℕ → ℕ
width_at s i = pick (ends_at between s i (need_of (get_or s i 0) + 1)) (need_of (get_or s i 0) + 1) 0

-- ---- the bytes that follow a first one

module _ (s : List ℕ) (i k lo hi : ℕ) where
  -- one more byte in front of k, or none
  first_there : i < length s → after (waits (suc k) lo hi) (part s i (suc k)) ≡ after (step_of (waits (suc k) lo hi) (get_or s i 0)) (part s (i + 1) k)
  unfolding after
  first_there h = rw (part_cons s i k h)

  none_there : length s ≤ i → ends_at (waits (suc k) lo hi) s i (suc k) ≡ false
  unfolding ends_at after
  none_there h = rw (drop_of_length-le s h) (ne_eqb (suc k) 0 (omega arith))

  breaks : i < length s → step_of (waits (suc k) lo hi) (get_or s i 0) ≡ broken → ends_at (waits (suc k) lo hi) s i (suc k) ≡ false
  unfolding ends_at
  breaks h e = rw (first_there h, e, stays_broken)

  goes_on : i < length s → lo ≤ get_or s i 0 → get_or s i 0 ≤ hi → ends_at (waits (suc k) lo hi) s i (suc k) ≡ ends_at (waits k 0x80 0xBF) s (i + 1) k
  unfolding ends_at
  goes_on h g f = rw (first_there h, next k lo hi (get_or s i 0) g f)

  -- the bytes from i on are waited for, where the one at i lies in its bounds
  abbrev Next : Bool → Type 0
  Next v = ends_at (waits (suc k) lo hi) s i (suc k) ≡ pick v (ends_at (waits k 0x80 0xBF) s (i + 1) k) false

  in_bounds : i < length s → lo ≤ get_or s i 0 → (v : Bool) → leb (get_or s i 0) hi ≡ v → Next v
  in_bounds h g true e = goes_on h g (leb-true (get_or s i 0) hi e)
  in_bounds h g false e = breaks h (too_high k lo hi (get_or s i 0) g (leb-false (get_or s i 0) hi e))

  ends_next : Next (has_at s i lo hi)
  unfolding has_at
  ends_next =
      let b : ℕ = get_or s i 0 in
      picked Next (ltb i (length s))
      (λ t. let h = ltb-true i (length s) t in
      picked Next (ltb b lo) (λ u. breaks h (too_low k lo hi b (ltb-true b lo u))) (λ u. in_bounds h (ltb-false b lo u) (leb b hi) refl))
      (λ t. none_there (ltb-false i (length s) t))

pub ends_none : (s : List ℕ) (i lo hi : ℕ) → ends_at (waits 0 lo hi) s i 0 ≡ true
unfolding ends_at after
ends_none s i lo hi = refl

through : {A : Type 0} (t r : Bool) (a b : A) → pick (pick t r false) a b ≡ pick t (pick r a b) b
through true r a b = refl
through false r a b = refl

-- the same, where the code asks byte by byte
module _ (s : List ℕ) (i lo hi : ℕ) where
  pub of_two : width_of s i 1 lo hi ≡ pick (has_at s (i + 1) lo hi) 2 0
  unfolding width_of
  of_two = rw (ends_next s (i + 1) 0 lo hi, through, ends_none)

  pub of_three : width_of s i 2 lo hi ≡ pick (has_at s (i + 1) lo hi) (pick (has_at s (i + 2) 0x80 0xBF) 3 0) 0
  unfolding width_of
  of_three =
      let third : i + 1 + 1 ≡ i + 2 = omega arith in
      rw (ends_next s (i + 1) 1 lo hi, through, third, ends_next s (i + 2) 0 0x80 0xBF, through, ends_none)

  pub of_four : width_of s i 3 lo hi ≡ pick (has_at s (i + 1) lo hi) (pick (has_at s (i + 2) 0x80 0xBF) (pick (has_at s (i + 3) 0x80 0xBF) 4 0) 0) 0
  unfolding width_of
  of_four =
      let third : i + 1 + 1 ≡ i + 2 = omega arith in
      let fourth : i + 2 + 1 ≡ i + 3 = omega arith in
      rw (ends_next s (i + 1) 2 lo hi, through, third, ends_next s (i + 2) 1 0x80 0xBF, through, fourth, ends_next s (i + 3) 0 0x80 0xBF, through, ends_none)
