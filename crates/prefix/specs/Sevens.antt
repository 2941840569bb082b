-- When a prefix is refused: with 2 or with 7; in lenient with 7 only for a fifth byte over 7; and where strict does not answer 7, lenient answers the same.
use Prim.Native.Nat.{ℕ, zero, suc, ◌+◌, ◌-◌, ◌*◌, ◌%◌, ◌≤◌, ◌<◌}
use Rattle.std.specs.Prelude.{◌≡◌, refl, ◌↔◌, ◌⊎◌, List, length, get_or, leb, ltb, Result, Ok, Err}
use Rattle.std.proofs.Common.{sym, ◌∙◌, inl, inr, arith}
use Rattle.std.proofs.Math.Decide.{dec_lt}
use Rattle.format.specs.declared.Refusal.{Refusal}
use Rattle.format.specs.declared.Refusal.TheVariants as R
use Rattle.format.specs.declared.Setting.{Setting}
use Rattle.format.specs.declared.Setting.TheVariants as S
use Rattle.format.specs.Prefix.{prefix_in, later_least, prefix_at, onto}
use Rattle.fields.specs.Judged.{picked}
use Rattle.prefix.specs.Laws.{short, low, fifth_high, fifth, last, more}

-- ---- answers told apart
no_fault : (n e : ℕ) (f : Refusal) → ◌≡◌ {A = Result (ℕ × ℕ) Refusal} (Ok (n, e)) (Err f) → ⊥
no_fault n e f q = let z : ◌≡◌ {A = ℕ} 0 1 = cc in omega arith

no_seven : ◌≡◌ {A = Result (ℕ × ℕ) Refusal} (Err R.CutShort) (Err R.BadLength) → ⊥
no_seven q = let z : ◌≡◌ {A = ℕ} 0 1 = cc in omega arith

-- groups are refused as those after the first are
onto_fault : (g : ℕ) (r : Result (ℕ × ℕ) Refusal) (f : Refusal) → onto g r ≡ Err f → r ≡ Err f
onto_fault g (Ok (n, e)) f q = absurd (no_fault (g + 128 * n) e f q)
onto_fault g (Err x) f q = q

-- ---- 7 in lenient

-- five bytes are there, more follow each of the first four, and the fifth is over 7
pub record FifthOver (s : List ℕ) (p : ℕ) : Type 0 where
  pub there : p + 4 < length s
  pub first : (i : ℕ) → i < 4 → 128 ≤ get_or s (p + i) 0
  pub over : 8 ≤ get_or s (p + 4) 0

module _ (s : List ℕ) where
  -- so many groups that more follow from p on, and then a byte over 7
  record Over (k p : ℕ) : Type 0 where
    there : p + k < length s
    first : (q : ℕ) → p ≤ q → q < p + k → 128 ≤ get_or s q 0
    over : (q : ℕ) → q ≡ p + k → 8 ≤ get_or s q 0

  over_none : (p : ℕ) → p < length s → 8 ≤ get_or s p 0 → Over 0 p
  over_none p i h = record { there = omega arith; first = λ q a b. absurd (omega arith); over = λ q e. let d : q ≡ p = omega arith in rw d h }

  over_more : (k p : ℕ) → 128 ≤ get_or s p 0 → Over k (p + 1) → Over (suc k) p
  over_more k p h w = record { there = omega (arith, w.there); first = λ q a b. go q a b (dec_lt p q); over = λ q e. w.over q (omega arith) }
    where
      go : (q : ℕ) → p ≤ q → q < p + suc k → Dec (p < q) → 128 ≤ get_or s q 0
      go q a b (yes y) = w.first q (omega arith) (omega arith)
      go q a b (no y) = let d : q ≡ p = omega arith in rw d h

  seven_over : (k p : ℕ) → prefix_in k 0 0 s p ≡ Err R.BadLength → Over k p
  seven_over zero p q = go (dec_lt p (length s)) (dec_lt (get_or s p 0) 8)
    where
      go : Dec (p < length s) → Dec (get_or s p 0 < 8) → Over 0 p
      go (yes i) (yes h) = absurd (no_fault _ _ _ (sym (fifth 0 0 s p i (omega arith) 0 refl h) ∙ q))
      go (yes i) (no h) = over_none p i (omega arith)
      go (no i) h = absurd (no_seven (sym (short 0 0 s p 0 (omega arith)) ∙ q))
  seven_over (suc k) p q = go (seven_over k (p + 1)) (dec_lt p (length s)) (dec_lt (get_or s p 0) 128)
    where
      go : (prefix_in k 0 0 s (p + 1) ≡ Err R.BadLength → Over k (p + 1)) → Dec (p < length s) → Dec (get_or s p 0 < 128) → Over (suc k) p
      go again (yes i) (yes h) = absurd (no_fault _ _ _ (sym (last 0 0 s p i (omega arith) (suc k) (omega arith) h) ∙ q))
      go again (yes i) (no h) =
          let d : suc k - 1 ≡ k = omega arith in
          let m = rw d at (more 0 0 s p i (omega arith) (suc k) (omega arith) (omega arith)) in
          over_more k p (omega arith) (again (onto_fault (get_or s p 0 % 128) _ R.BadLength (sym m ∙ q)))
      go again (no i) h = absurd (no_seven (sym (short 0 0 s p (suc k) (omega arith)) ∙ q))

  over_seven : (k p : ℕ) → Over k p → prefix_in k 0 0 s p ≡ Err R.BadLength
  over_seven zero p w = fifth_high 0 0 s p (omega (arith, w.there)) (omega arith) 0 refl (w.over p (omega arith))
  over_seven (suc k) p w =
      let d : suc k - 1 ≡ k = omega arith in
      let r = over_seven k (p + 1) (record { there = omega (arith, w.there); first = λ q a b. w.first q (omega arith) (omega arith); over = λ q e. w.over q (omega arith) }) in
      rw (more 0 0 s p (omega (arith, w.there)) (omega arith) (suc k) (omega arith) (w.first p (omega arith) (omega arith)), d, r)

-- for every stream and place: lenient answers 7 exactly for a fifth byte over 7
pub lenient_seven : (s : List ℕ) (p : ℕ) → (prefix_at S.Lenient s p ≡ Err R.BadLength) ↔ FifthOver s p
lenient_seven s p = (λ q. there (seven_over s 4 p q), λ w. over_seven s 4 p (back w))
  where
    there : Over s 4 p → FifthOver s p
    there w = record { there = w.there; first = λ i h. w.first (p + i) (omega arith) (omega arith); over = w.over (p + 4) refl }

    back : FifthOver s p → Over s 4 p
    back w = record { there = w.there; first = first; over = λ q e. rw e w.over }
      where
        first : (q : ℕ) → p ≤ q → q < p + 4 → 128 ≤ get_or s q 0
        first q a b = let d : p + (q - p) ≡ q = omega arith in rw d at (w.first (q - p) (omega arith))

-- ---- 2 or 7, and no other refusal

abbrev Known : Result (ℕ × ℕ) Refusal → Type 0
Known r = (f : Refusal) → r ≡ Err f → (f ≡ R.CutShort) ⊎ (f ≡ R.BadLength)

same_fault : (f g : Refusal) → ◌≡◌ {A = Result (ℕ × ℕ) Refusal} (Err f) (Err g) → g ≡ f
same_fault f g q = cc

known_short : Known (Err R.CutShort)
known_short f q = inl (same_fault R.CutShort f q)

known_bad : Known (Err R.BadLength)
known_bad f q = inr (same_fault R.BadLength f q)

known_length : (n e : ℕ) → Known (Ok (n, e))
known_length n e f q = absurd (no_fault n e f q)

module _ (later : ℕ) (s : List ℕ) where
  known : (k least p : ℕ) → Known (prefix_in k least later s p)
  unfolding prefix_in
  known zero least p =
      picked Known (ltb p (length s))
      (λ i. picked Known (leb least (get_or s p 0))
      (λ l. picked Known (ltb (get_or s p 0) 8) (λ h. known_length (get_or s p 0) (p + 1)) (λ h. known_bad))
      (λ l. known_bad))
      (λ i. known_short)
  known (suc k) least p =
      picked Known (ltb p (length s))
      (λ i. picked Known (leb least (get_or s p 0))
      (λ l. picked Known (ltb (get_or s p 0) 128)
      (λ h. known_length (get_or s p 0) (p + 1))
      (λ h f q. known k later (p + 1) f (onto_fault (get_or s p 0 % 128) (prefix_in k later later s (p + 1)) f q)))
      (λ l. known_bad))
      (λ i. known_short)

-- for every setting, stream and place: what is refused is cut short or has a bad length
pub two_or_seven : (σ : Setting) (s : List ℕ) (p : ℕ) (f : Refusal) → prefix_at σ s p ≡ Err f → (f ≡ R.CutShort) ⊎ (f ≡ R.BadLength)
two_or_seven σ s p = known (later_least σ) s 4 0 p

-- ---- where strict does not answer 7, lenient answers the same

-- the first answer is 7, or the second is the first
abbrev Alike : Result (ℕ × ℕ) Refusal → Result (ℕ × ℕ) Refusal → Type 0
Alike a b = (a ≡ Err R.BadLength) ⊎ (b ≡ a)

alike_onto : (g : ℕ) (a b : Result (ℕ × ℕ) Refusal) → Alike a b → Alike (onto g a) (onto g b)
alike_onto g a b (inl e) = inl (rw e refl)
alike_onto g a b (inr e) = inr (rw e refl)

-- of groups whose last one is bounded below by more in the first reading than in the second
module _ (later lower : ℕ) (s : List ℕ) (l : lower ≤ later) where
  reads_alike : (k least lesser p : ℕ) → lesser ≤ least → Alike (prefix_in k least later s p) (prefix_in k lesser lower s p)
  reads_alike zero least lesser p h = go (dec_lt p (length s)) (dec_lt (get_or s p 0) least) (dec_lt (get_or s p 0) 8)
    where
      go : Dec (p < length s) → Dec (get_or s p 0 < least) → Dec (get_or s p 0 < 8) → Alike (prefix_in 0 least later s p) (prefix_in 0 lesser lower s p)
      go (no i) a b = inr (short lesser lower s p 0 (omega arith) ∙ sym (short least later s p 0 (omega arith)))
      go (yes i) (yes a) b = inl (low least later s p i 0 a)
      go (yes i) (no a) (yes b) = inr (fifth lesser lower s p i (omega arith) 0 refl b ∙ sym (fifth least later s p i (omega arith) 0 refl b))
      go (yes i) (no a) (no b) = inl (fifth_high least later s p i (omega arith) 0 refl (omega arith))
  reads_alike (suc k) least lesser p h = go (reads_alike k later lower (p + 1) l) (dec_lt p (length s)) (dec_lt (get_or s p 0) least) (dec_lt (get_or s p 0) 128)
    where
      Again : Type 0
      Again = Alike (prefix_in k later later s (p + 1)) (prefix_in k lower lower s (p + 1))

      go : Again → Dec (p < length s) → Dec (get_or s p 0 < least) → Dec (get_or s p 0 < 128) → Alike (prefix_in (suc k) least later s p) (prefix_in (suc k) lesser lower s p)
      go again (no i) a b = inr (short lesser lower s p (suc k) (omega arith) ∙ sym (short least later s p (suc k) (omega arith)))
      go again (yes i) (yes a) b = inl (low least later s p i (suc k) a)
      go again (yes i) (no a) (yes b) =
          inr (last lesser lower s p i (omega arith) (suc k) (omega arith) b ∙ sym (last least later s p i (omega arith) (suc k) (omega arith) b))
      go again (yes i) (no a) (no b) =
          let d : suc k - 1 ≡ k = omega arith in
          rw (more least later s p i (omega arith) (suc k) (omega arith) (omega arith), more lesser lower s p i (omega arith) (suc k) (omega arith) (omega arith), d)
          (alike_onto (get_or s p 0 % 128) _ _ again)

-- for every stream and place: strict answers 7, or lenient answers what strict does
pub strict_or_alike : (s : List ℕ) (p : ℕ) → (prefix_at S.Strict s p ≡ Err R.BadLength) ⊎ (prefix_at S.Lenient s p ≡ prefix_at S.Strict s p)
strict_or_alike s p = reads_alike 1 0 s (omega arith) 4 0 0 p (omega arith)

pub strict_alike : (s : List ℕ) (p : ℕ) → (prefix_at S.Strict s p ≡ Err R.BadLength → ⊥) → prefix_at S.Lenient s p ≡ prefix_at S.Strict s p
strict_alike s p n = go (strict_or_alike s p)
  where
    go : (prefix_at S.Strict s p ≡ Err R.BadLength) ⊎ (prefix_at S.Lenient s p ≡ prefix_at S.Strict s p) → prefix_at S.Lenient s p ≡ prefix_at S.Strict s p
    go (inl e) = absurd (n e)
    go (inr e) = e
