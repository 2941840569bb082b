-- Laws of the reader's definition: one for each way that it ends, the bound of its number, and where it ends.
use Prim.Native.Nat.{ℕ, zero, suc, ◌+◌, ◌*◌, ◌-◌, ◌%◌, ◌≤◌, ◌<◌, ◌^◌}
use Rattle.std.specs.Prelude.{◌≡◌, Bool, true, false, List, length, get_or, leb, ltb, Result, Ok, Err}
use Rattle.std.proofs.Math.Path.{refl}
use native.Mathlib.Omega.{arith}
use Rattle.std.proofs.Common.{pow-suc}
use Rattle.std.proofs.Math.Nat.{one-le-pow, pow-le-pow_right}
use borrow.Author.Tests.{ltb-true, ltb-false, leb-true, le-leb, lt-leb, lt-ltb, le-ltb}
use Rattle.format.specs.declared.Refusal.{Refusal}
use Rattle.format.specs.declared.Refusal.TheVariants as R
use Rattle.format.specs.declared.Setting.{Setting}
use Rattle.format.specs.declared.Setting.TheVariants as S
use Rattle.format.specs.Bytes.{pick}
use Rattle.format.specs.Prefix.{prefix_in, later_least, prefix_at, onto}
use Rattle.fields.specs.Judged.{picked}

-- ---- the ways that the groups end
module _ (least later : ℕ) (s : List ℕ) (p : ℕ) where
  pub short : (k : ℕ) → length s ≤ p → prefix_in k least later s p ≡ Err R.CutShort
  unfolding prefix_in
  short zero h = simp le-ltb
  short (suc k) h = simp le-ltb

  module _ (i : p < length s) where
    pub low : (k : ℕ) → get_or s p 0 < least → prefix_in k least later s p ≡ Err R.BadLength
    unfolding prefix_in
    low zero h = simp (lt-ltb, lt-leb)
    low (suc k) h = simp (lt-ltb, lt-leb)

    module _ (l : least ≤ get_or s p 0) where
      pub fifth_high : (k : ℕ) → k ≡ 0 → 8 ≤ get_or s p 0 → prefix_in k least later s p ≡ Err R.BadLength
      unfolding prefix_in
      fifth_high zero e h = simp (lt-ltb, le-leb, le-ltb)
      fifth_high (suc k) e h = absurd (omega arith)

      pub fifth : (k : ℕ) → k ≡ 0 → get_or s p 0 < 8 → prefix_in k least later s p ≡ Ok (get_or s p 0, p + 1)
      unfolding prefix_in
      fifth zero e h = simp (lt-ltb, le-leb)
      fifth (suc k) e h = absurd (omega arith)

      pub last : (k : ℕ) → 0 < k → get_or s p 0 < 128 → prefix_in k least later s p ≡ Ok (get_or s p 0, p + 1)
      unfolding prefix_in
      last zero e h = absurd (omega arith)
      last (suc k) e h = simp (lt-ltb, le-leb)

      pub more : (k : ℕ) → 0 < k → 128 ≤ get_or s p 0
          → prefix_in k least later s p ≡ onto (get_or s p 0 % 128) (prefix_in (k - 1) later later s (p + 1))
      unfolding prefix_in
      more zero e h = absurd (omega arith)
      more (suc k) e h =
          let d : suc k - 1 ≡ k = omega arith in
          simp (lt-ltb, le-leb, le-ltb, d)

-- ---- a property of every number that is read

-- Q holds of the number and the place after it, where the answer has them
abbrev pub Holds : (ℕ → ℕ → Type 0) → Result (ℕ × ℕ) Refusal → Type 0
Holds Q (Ok (n, e)) = Q n e
Holds Q (Err f) = Unit {0}

holds_onto : (A B : ℕ → ℕ → Type 0) (g : ℕ) (r : Result (ℕ × ℕ) Refusal) → ((m e : ℕ) → A m e → B (g + 128 * m) e) → Holds A r → Holds B (onto g r)
holds_onto A B g (Ok (m, e)) f a = f m e a
holds_onto A B g (Err x) f a = tt

-- Q speaks of k, least, the place, the number and the place after it. It holds for a last group:
abbrev pub One : List ℕ → (ℕ → ℕ → ℕ → ℕ → ℕ → Type 0) → Type 0
One s Q = (k least p : ℕ) → p < length s → least ≤ get_or s p 0 → get_or s p 0 < 128 → (k ≡ 0 → get_or s p 0 < 8) → Q k least p (get_or s p 0) (p + 1)

-- and for a group before those that it holds for:
abbrev pub On : ℕ → List ℕ → (ℕ → ℕ → ℕ → ℕ → ℕ → Type 0) → Type 0
On later s Q =
    (k least p m e : ℕ) → p < length s → least ≤ get_or s p 0 → 128 ≤ get_or s p 0 → Q k later (p + 1) m e
    → Q (suc k) least p (get_or s p 0 % 128 + 128 * m) e

-- then for every number that is read.
module _ (later : ℕ) (s : List ℕ) (Q : ℕ → ℕ → ℕ → ℕ → ℕ → Type 0) (one : One s Q) (on : On later s Q) where
  pub every : (k least p : ℕ) → Holds (Q k least p) (prefix_in k least later s p)
  unfolding prefix_in
  every zero least p =
      let H = Holds (Q 0 least p) in
      picked H (ltb p (length s))
      (λ i. picked H (leb least (get_or s p 0))
      (λ l. picked H (ltb (get_or s p 0) 8)
      (λ h.
      let b = ltb-true (get_or s p 0) 8 h in
      one 0 least p (ltb-true p (length s) i) (leb-true least (get_or s p 0) l) (omega arith) (λ z. b))
      (λ h. tt))
      (λ l. tt))
      (λ i. tt)
  every (suc k) least p =
      let H = Holds (Q (suc k) least p) in
      picked H (ltb p (length s))
      (λ i. picked H (leb least (get_or s p 0))
      (λ l. picked H (ltb (get_or s p 0) 128)
      (λ h. one (suc k) least p (ltb-true p (length s) i) (leb-true least (get_or s p 0) l) (ltb-true (get_or s p 0) 128 h) (λ z. absurd (omega arith)))
      (λ h.
      holds_onto (Q k later (p + 1)) (Q (suc k) least p) (get_or s p 0 % 128) (prefix_in k later later s (p + 1))
      (λ m e. on k least p m e (ltb-true p (length s) i) (leb-true least (get_or s p 0) l) (ltb-false (get_or s p 0) 128 h))
      (every k later (p + 1))))
      (λ l. tt))
      (λ i. tt)

-- ---- the number: with k bytes after the first it is below 8 * 128 ^ k
pub bounded : (k least later : ℕ) (s : List ℕ) (p : ℕ) → Holds (λ n e. n < 8 * 128 ^ k) (prefix_in k least later s p)
bounded k least later s p = every later s Q one on k least p
  where
    Q : ℕ → ℕ → ℕ → ℕ → ℕ → Type 0
    Q k least p n e = n < 8 * 128 ^ k

    one : One s Q
    one zero least p i l h f = f refl
    one (suc k) least p i l h f = rw pow-suc (omega (arith, one-le-pow k 128 (omega arith)))

    on : On later s Q
    on k least p m e i l h b = rw pow-suc (omega arith)

-- the number is below m, where there is one
abbrev pub Below : ℕ → Result (ℕ × ℕ) Refusal → Type 0
Below m = Holds (λ n e. n < m)

below_mono : (a b : ℕ) (r : Result (ℕ × ℕ) Refusal) → a ≤ b → Below a r → Below b r
below_mono a b (Ok (n, next)) h l = omega arith
below_mono a b (Err f) h l = tt

-- what follows a first group leaves room for it in a u32
pub small : (k least later : ℕ) (s : List ℕ) (p : ℕ) → k ≤ 3 → Below 16777216 (prefix_in k least later s p)
small k least later s p h =
    let b : 128 ^ k ≤ 2097152 = pow-le-pow_right (omega arith) h in
    below_mono (8 * 128 ^ k) 16777216 (prefix_in k least later s p) (omega arith) (bounded k least later s p)

-- ---- the place after it: k + 1 bytes at most, within the stream
pub within : (k least later : ℕ) (s : List ℕ) (p : ℕ) → Holds (λ n e. (p < e) × (e ≤ length s) × (e ≤ p + suc k)) (prefix_in k least later s p)
within k least later s p =
    every later s (λ k least p n e. (p < e) × (e ≤ length s) × (e ≤ p + suc k)) (λ k least p i l h f. omega arith) (λ k least p m e i l h w. omega arith) k least p

-- ---- what is read with a greater least group is read with a smaller one, alike

-- the same number and the same place, where the first answer has them
abbrev Keeps : Result (ℕ × ℕ) Refusal → Result (ℕ × ℕ) Refusal → Type 0
Keeps (Ok (n, e)) r = r ≡ Ok (n, e)
Keeps (Err f) r = Unit {0}

keeps_onto : (g : ℕ) (a b : Result (ℕ × ℕ) Refusal) → Keeps a b → Keeps (onto g a) (onto g b)
keeps_onto g (Ok (n, e)) b h = rw h
keeps_onto g (Err f) b h = tt

keeps_narrow : (t u : Bool) (a b : Result (ℕ × ℕ) Refusal) (f g : Refusal) → (t ≡ true → (u ≡ true) × Keeps a b) → Keeps (pick t a (Err f)) (pick u b (Err g))
keeps_narrow true u a b f g h = let w = h refl in rw w.0 w.1
keeps_narrow false u a b f g h = tt

keeps_either : (t : Bool) (a b c d : Result (ℕ × ℕ) Refusal) → Keeps a b → Keeps c d → Keeps (pick t a c) (pick t b d)
keeps_either true a b c d x y = x
keeps_either false a b c d x y = y

-- a byte within the greater bound is within the smaller one
leb_falls : (least low b : ℕ) → low ≤ least → leb least b ≡ true → leb low b ≡ true
leb_falls least low b h t =
    let l = leb-true least b t in
    le-leb low b (omega arith)

module _ (later lower : ℕ) (s : List ℕ) (l : lower ≤ later) where
  falls : (k least low p : ℕ) → low ≤ least → Keeps (prefix_in k least later s p) (prefix_in k low lower s p)
  unfolding prefix_in
  falls zero least low p h =
      keeps_narrow (ltb p (length s)) (ltb p (length s)) _ _ R.CutShort R.CutShort
      (λ i. (
        i,
        keeps_narrow (leb least (get_or s p 0)) (leb low (get_or s p 0)) _ _ R.BadLength R.BadLength
            (λ t. (
              leb_falls least low (get_or s p 0) h t,
              keeps_either (ltb (get_or s p 0) 8) (Ok (get_or s p 0, p + 1)) (Ok (get_or s p 0, p + 1)) (Err R.BadLength) (Err R.BadLength) refl tt,
            )),
      ))
  falls (suc k) least low p h =
      keeps_narrow (ltb p (length s)) (ltb p (length s)) _ _ R.CutShort R.CutShort
      (λ i. (
        i,
        keeps_narrow (leb least (get_or s p 0)) (leb low (get_or s p 0)) _ _ R.BadLength R.BadLength
            (λ t. (
              leb_falls least low (get_or s p 0) h t,
              keeps_either (ltb (get_or s p 0) 128) (Ok (get_or s p 0, p + 1)) (Ok (get_or s p 0, p + 1)) _ _ refl
                  (keeps_onto (get_or s p 0 % 128) (prefix_in k later later s (p + 1)) (prefix_in k lower lower s (p + 1)) (falls k later lower (p + 1) l)),
            )),
      ))

-- ---- for a caller that has matched on the answer
module _ (σ : Setting) (s : List ℕ) (p n e : ℕ) (q : prefix_at σ s p ≡ Ok (n, e)) where
  pub moves : (p < e) × (e ≤ length s) × (e ≤ p + 5)
  moves = rw q at (within 4 0 (later_least σ) s p)

  pub bound : n < 2147483648
  bound = rw q at (bounded 4 0 (later_least σ) s p)

-- a later last group is asked to be 1 at most
pub later_most : (σ : Setting) → later_least σ ≤ 1
later_most S.Strict = omega arith
later_most S.Lenient = omega arith

-- what is read under either setting, lenient reads alike
pub lenient_alike : (σ : Setting) (s : List ℕ) (p n e : ℕ) → prefix_at σ s p ≡ Ok (n, e) → prefix_at S.Lenient s p ≡ Ok (n, e)
lenient_alike S.Strict s p n e q = rw q at (falls 1 0 s (omega arith) 4 0 0 p (omega arith))
lenient_alike S.Lenient s p n e q = q
