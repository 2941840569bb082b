-- n bytes at a place that a test judges: the shape of text, scalars, Decimal text and every value. One law for each answer, where it
-- ends, and `Local`.
use Rattle.std.specs.Prelude.{ℕ, ◌+◌, ◌-◌, ◌≤◌, ◌<◌, ◌≡◌, refl, Bool, true, false, List, ◌++◌, length, get_or, drop, leb, Result, Ok, Err}
use Rattle.std.proofs.Common.{sym, ap, ◌∙◌, arith}
use Rattle.std.proofs.Math.Nat.{add-sub_cancel_left}
use borrow.Author.Tests.{le-leb, lt-leb, leb-true}
use Rattle.format.specs.declared.Refusal.{Refusal}
use Rattle.format.specs.declared.Refusal.TheVariants as R
use Rattle.format.specs.Bytes.{pick, part}
use Rattle.format.specs.Local.{Local}
use Rattle.fields.specs.Parts.{length_part, part_first, stands_at, there}

-- what holds of both choices holds of the pick
pub picked : {A : Type 0} (P : A → Type 0) (t : Bool) {a b : A} → (t ≡ true → P a) → (t ≡ false → P b) → P (pick t a b)
picked P true f g = f refl
picked P false f g = g refl

-- a pick with an answer that its second choice cannot give
pub told : {A : Type 0} (t : Bool) (a b c : A) → pick t a b ≡ c → (b ≡ c → ⊥) → (t ≡ true) × (a ≡ c)
told true a b c e n = (refl, e)
told false a b c e n = absurd (n e)

-- and one that its first choice cannot give
pub other : {A : Type 0} (t : Bool) (a b c : A) → pick t a b ≡ c → (a ≡ c → ⊥) → (t ≡ false) × (b ≡ c)
other true a b c e n = absurd (n e)
other false a b c e n = (refl, e)

pub passes : (t r : Bool) → pick t false r ≡ true → (t ≡ false) × (r ≡ true)
passes t r e = other t false r true e no
  where
    no : false ≡ true → ⊥
    no f = let z : ◌≡◌ {A = ℕ} 0 1 = cc in omega arith

pub no_end : (f : Refusal) (e : ℕ) → Err f ≡ Ok e → ⊥
no_end f e q = let z : ◌≡◌ {A = ℕ} 0 1 = cc in omega arith

module _ (test : List ℕ → Bool) where
  -- what an end says
  pub record Taken (s : List ℕ) (at n e : ℕ) : Type 0 where
    pub ends : e ≡ at + n
    pub room : at + n ≤ length s
    pub good : test (part s at n) ≡ true

  pub taken_only : (s t rest : List ℕ) (p q n e : ℕ) → Taken s p n e → q ≤ length t → drop q t ≡ part s p n ++ rest → Taken t q n (q + n)
  taken_only s t rest p q n e w h d =
      let x = stands_at t (part s p n) rest q n (length_part s p n w.room) h d in
      record { ends = refl; room = x.room; good = rw x.same w.good }

  -- a field of some bytes, how many its first byte tells, looks at no others
  pub local_of : (width : ℕ → ℕ) (field : List ℕ → ℕ → Result ℕ Refusal) → ((b : ℕ) → 0 < width b)
      → ((s : List ℕ) (p e : ℕ) → field s p ≡ Ok e → Taken s p (width (get_or s p 0)) e)
      → ((s : List ℕ) (p e : ℕ) → Taken s p (width (get_or s p 0)) e → field s p ≡ Ok e)
      → Local field
  local_of width field some reads end =
      record {
        moves = λ s p e q. let w = reads s p e q in (omega arith, omega arith);
        only = λ s t rest p q e h d. go s t rest p q e (reads s p e h) d;
      }
    where
      go : (s t rest : List ℕ) (p q e : ℕ) → Taken s p (width (get_or s p 0)) e → drop q t ≡ part s p (e - p) ++ rest
          → field t q ≡ Ok (q + (e - p))
      go s t rest p q e w d =
          let n = width (get_or s p 0) in
          let i = some (get_or s p 0) in
          let a : e - p ≡ n = omega arith in
          let d2 : drop q t ≡ part s p n ++ rest = rw a at d in
          let l = length_part s p n w.room in
          let h = there t (part s p n) rest q (rw l i) d2 in
          let x = stands_at t (part s p n) rest q n l h d2 in
          let f : get_or t q 0 ≡ get_or s p 0 = sym (part_first t q n i) ∙ (ap (λ (r : List ℕ). get_or r 0 0) x.same ∙ part_first s p n i) in
          rw a (end t q (q + n) (rw f (taken_only s t rest p q n e w h d2)))

  module _ (refusal : Refusal) where
    unfoldable pub judged_at : List ℕ → ℕ → ℕ → Result ℕ Refusal
    judged_at s at n = pick (leb (at + n) (length s)) (pick (test (part s at n)) (Ok (at + n)) (Err refusal)) (Err R.CutShort)

    pub judged_short : (s : List ℕ) (at n : ℕ) → length s < at + n → judged_at s at n ≡ Err R.CutShort
    unfolding judged_at
    judged_short s at n h = simp lt-leb

    -- the part as code has it, from at to at + n
    module _ (s : List ℕ) (at n : ℕ) (h : at + n ≤ length s) where
      pub judged_good : test (part s at (at + n - at)) ≡ true → judged_at s at n ≡ Ok (at + n)
      unfolding judged_at
      judged_good g = simp (le-leb, rw add-sub_cancel_left at g)

      pub judged_bad : test (part s at (at + n - at)) ≡ false → judged_at s at n ≡ Err refusal
      unfolding judged_at
      judged_bad g = simp (le-leb, rw add-sub_cancel_left at g)

    pub judged_end : (s : List ℕ) (at n e : ℕ) → Taken s at n e → judged_at s at n ≡ Ok e
    unfolding judged_at
    judged_end s at n e w = rw (le-leb (at + n) (length s) w.room, w.good, w.ends)

    pub judged_taken : (s : List ℕ) (at n e : ℕ) → judged_at s at n ≡ Ok e → Taken s at n e
    unfolding judged_at
    judged_taken s at n e q =
        let inner = pick (test (part s at n)) (Ok (at + n)) (Err refusal) in
        let w = told (leb (at + n) (length s)) inner (Err R.CutShort) (Ok e) q (no_end R.CutShort e) in
        let v = told (test (part s at n)) (Ok (at + n)) (Err refusal) (Ok e) w.1 (no_end refusal e) in
        let x = v.1 in
        record { ends = cc; room = leb-true (at + n) (length s) w.0; good = v.0 }

    -- also where n is 0, at a place that the stream has
    pub judged_only : (s t rest : List ℕ) (p q n e : ℕ) → judged_at s p n ≡ Ok e → q ≤ length t → drop q t ≡ part s p (e - p) ++ rest
        → judged_at t q n ≡ Ok (q + (e - p))
    judged_only s t rest p q n e f h d =
        let w = judged_taken s p n e f in
        let k : e - p ≡ n = omega arith in
        rw k (judged_end t q n (q + n) (taken_only s t rest p q n e w h (rw k at d)))

    pub judged_local : (n : ℕ) → 0 < n → Local (λ s p. judged_at s p n)
    judged_local n h = local_of (λ b. n) (λ s p. judged_at s p n) (λ b. h) (λ s p e q. judged_taken s p n e q) (λ s p e w. judged_end s p n e w)
