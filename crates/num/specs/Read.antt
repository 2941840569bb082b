-- What is read at a place, whatever the width: one record says it, and the laws of the three widths cite it.
use Rattle.std.specs.Prelude.{ℕ, zero, suc, ◌+◌, ◌*◌, ◌^◌, ◌≤◌, ◌<◌, ◌≡◌, refl, Bool, true, false, List, [], ◌∷◌, ◌++◌, length, get_or, drop, leb, Option, Some, None}
use Rattle.std.proofs.Common.{sym, arith, le-leb, leb-true, get_or-drop, drop-drop}
use Rattle.std.proofs.lemmas.Bool.{lt-leb}
use Rattle.std.proofs.lemmas.List.{drop_all}
use Rattle.format.specs.Bytes.{pick, part}
use Rattle.format.specs.Numbers.{le, le_bytes, number_at, u16_at, u32_at, u64_at}
use Rattle.fields.specs.Parts.{length_part, stands_at, there}
use Rattle.fields.specs.Judged.{told}
use Rattle.fields.specs.Pairs.{some_pair}
use Rattle.num.specs.Le.{Bytes, bytes_part, le_below, length_le_bytes, le_le_bytes}

-- the k bytes at p say v, and e is the place after them
pub record Says (s : List ℕ) (p k v e : ℕ) : Type 0 where
  pub within : p + k ≤ length s
  pub next : e ≡ p + k
  pub value : v ≡ le (part s p k)

-- the k bytes at a place, where they are there
abbrev pub bytes_at : ℕ → List ℕ → ℕ → Option (List ℕ)
bytes_at k s at = pick (leb (at + k) (length s)) (Some (part s at k)) None

-- ---- the laws of a width

pub says_below : (s : List ℕ) (p k v e : ℕ) → Bytes s → Says s p k v e → v < 256 ^ k
says_below s p k v e b w =
    let l = length_part s p k w.within in
    rw w.value (rw l at (le_below (part s p k) (bytes_part s p k b)))

-- the number depends only on its bytes
pub says_only : (s t rest : List ℕ) (p q k v e : ℕ) → Says s p k v e → 0 < k → drop q t ≡ part s p k ++ rest → Says t q k v (q + k)
says_only s t rest p q k v e w z d =
    let l = length_part s p k w.within in
    let h = stands_at t (part s p k) rest q k l (there t (part s p k) rest q (rw l z) d) d in
    record { within = h.room; next = refl; value = rw h.same w.value }

-- a number that is written is read
pub says_written : (s rest : List ℕ) (p k n : ℕ) → n < 256 ^ k → 0 < k → drop p s ≡ le_bytes k n ++ rest → Says s p k n (p + k)
says_written s rest p k n b z d =
    let l = length_le_bytes k n in
    let h = stands_at s (le_bytes k n) rest p k l (there s (le_bytes k n) rest p (rw l z) d) d in
    record { within = h.room; next = refl; value = rw h.same (sym (le_le_bytes k n b)) }

-- ---- two, four and eight bytes

module _ (s : List ℕ) (p k : ℕ) where
  number_short : length s < p + k → number_at k s p ≡ None
  number_short h = simp lt-leb

  number_value : (v e : ℕ) → Says s p k v e → number_at k s p ≡ Some (v, e)
  number_value v e w = rw (le-leb (p + k) (length s) w.within, w.value, w.next)

  number_says : (v e : ℕ) → number_at k s p ≡ Some (v, e) → Says s p k v e
  number_says v e q =
      let w = told (leb (p + k) (length s)) (Some (le (part s p k), p + k)) None (Some (v, e)) q (λ z. let y : ◌≡◌ {A = ℕ} 0 1 = cc in omega arith) in
      let x = some_pair w.1 in
      record { within = leb-true (p + k) (length s) w.0; next = sym x.1; value = sym x.0 }

pub u16_short : (s : List ℕ) (p : ℕ) → length s < p + 2 → u16_at s p ≡ None
unfolding u16_at
u16_short s p h = number_short s p 2 h

pub u16_value : (s : List ℕ) (p v e : ℕ) → Says s p 2 v e → u16_at s p ≡ Some (v, e)
unfolding u16_at
u16_value s p v e w = number_value s p 2 v e w

pub u16_says : (s : List ℕ) (p v e : ℕ) → u16_at s p ≡ Some (v, e) → Says s p 2 v e
unfolding u16_at
u16_says s p v e q = number_says s p 2 v e q

pub u32_short : (s : List ℕ) (p : ℕ) → length s < p + 4 → u32_at s p ≡ None
unfolding u32_at
u32_short s p h = number_short s p 4 h

pub u32_value : (s : List ℕ) (p v e : ℕ) → Says s p 4 v e → u32_at s p ≡ Some (v, e)
unfolding u32_at
u32_value s p v e w = number_value s p 4 v e w

pub u32_says : (s : List ℕ) (p v e : ℕ) → u32_at s p ≡ Some (v, e) → Says s p 4 v e
unfolding u32_at
u32_says s p v e q = number_says s p 4 v e q

pub u64_short : (s : List ℕ) (p : ℕ) → length s < p + 8 → u64_at s p ≡ None
unfolding u64_at
u64_short s p h = number_short s p 8 h

pub u64_value : (s : List ℕ) (p v e : ℕ) → Says s p 8 v e → u64_at s p ≡ Some (v, e)
unfolding u64_at
u64_value s p v e w = number_value s p 8 v e w

pub u64_says : (s : List ℕ) (p v e : ℕ) → u64_at s p ≡ Some (v, e) → Says s p 8 v e
unfolding u64_at
u64_says s p v e q = number_says s p 8 v e q

-- ---- the bytes first, then the number that they say

module _ (s : List ℕ) (p k : ℕ) where
  pub no_bytes : None ≡ bytes_at k s p → number_at k s p ≡ None
  no_bytes = go (leb (p + k) (length s))
    where
      go : (t : Bool) → None ≡ pick t (Some (part s p k)) None → pick {A = Option (ℕ × ℕ)} t (Some (le (part s p k), p + k)) None ≡ None
      go true q = absurd (let z : ◌≡◌ {A = ℕ} 0 1 = cc in omega arith)
      go false q = refl

  pub bytes_there : (b : List ℕ) → Some b ≡ bytes_at k s p → (length b ≡ k) × (number_at k s p ≡ Some (le b, p + k))
  bytes_there b q =
      let w = told (leb (p + k) (length s)) (Some (part s p k)) None (Some b) (sym q) (λ z. let y : ◌≡◌ {A = ℕ} 0 1 = cc in omega arith) in
      let e = w.1 in
      let same : part s p k ≡ b = cc in
      let h = leb-true (p + k) (length s) w.0 in
      (rw same at (length_part s p k h), rw (le-leb (p + k) (length s) h, same) refl)

-- what the k bytes from the i-th on say
abbrev sum_from : List ℕ → ℕ → ℕ → ℕ
sum_from b i zero = 0
sum_from b i (suc k) = get_or b i 0 + 256 * sum_from b (i + 1) k

le_first : (b : List ℕ) → le b ≡ get_or b 0 0 + 256 * le (drop 1 b)
unfolding le
le_first [] = refl
le_first (x ∷ b) = refl

le_sum : (b : List ℕ) (i k : ℕ) → length b ≤ i + k → le (drop i b) ≡ sum_from b i k
unfolding le
le_sum b i zero h = rw (drop_all i b (omega arith)) refl
le_sum b i (suc k) h =
    let e : i + 0 ≡ i = omega arith in
    rw (le_first (drop i b), get_or-drop, drop-drop, le_sum b (i + 1) k (omega arith), e) refl

-- as the library's conversions have them
pub two_bytes : (b : List ℕ) → length b ≡ 2 → get_or b 0 0 + get_or b 1 0 * 256 ≡ le b
two_bytes b h = let w = le_sum b 0 2 (omega arith) in omega arith

pub four_bytes : (b : List ℕ) → length b ≡ 4 → get_or b 0 0 + get_or b 1 0 * 256 + get_or b 2 0 * 65536 + get_or b 3 0 * 16777216 ≡ le b
four_bytes b h = let w = le_sum b 0 4 (omega arith) in omega arith

pub eight_bytes : (b : List ℕ) → length b ≡ 8
    → get_or b 0 0 + get_or b 1 0 * 256 + get_or b 2 0 * 65536 + get_or b 3 0 * 16777216 + get_or b 4 0 * 4294967296 + get_or b 5 0 * 1099511627776
    + get_or b 6 0 * 281474976710656 + get_or b 7 0 * 72057594037927936 ≡ le b
eight_bytes b h = let w = le_sum b 0 8 (omega arith) in omega arith

-- ---- an INT32 where the same bytes stand, and one that is written

pub u32_only : (s t rest : List ℕ) (p q v e : ℕ) → u32_at s p ≡ Some (v, e) → drop q t ≡ part s p 4 ++ rest → u32_at t q ≡ Some (v, q + 4)
u32_only s t rest p q v e h d = u32_value t q v (q + 4) (says_only s t rest p q 4 v e (u32_says s p v e h) (omega arith) d)

pub u32_written : (s rest : List ℕ) (p n : ℕ) → n < 4294967296 → drop p s ≡ le_bytes 4 n ++ rest → u32_at s p ≡ Some (n, p + 4)
u32_written s rest p n h d = u32_value s p n (p + 4) (says_written s rest p 4 n h (omega arith) d)
