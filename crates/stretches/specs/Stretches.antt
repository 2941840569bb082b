-- Rows that are kept and follow one another, and the laws of a loop over them.
use Rattle.std.specs.Prelude.{ℕ, ◌+◌, ◌≤◌, ◌<◌, ◌≡◌, Bool, true, false, ◌&&◌, List, [], ◌∷◌, get_or, drop, eqb, leb}
use Rattle.std.proofs.Common.{◌∙◌, arith, add-one, drop_of_length-le, drop-cons}
use borrow.Author.Tests.{eq-eqb, ne_eqb, le-leb, lt-leb}
use Rattle.format.specs.declared.Row.{Row}
use Rattle.format.specs.Bytes.{pick}
use Rattle.format.specs.Rows.{blank, rows_of}
use Rattle.table.specs.Rows.{length_rows_of}
use Rattle.stretches.specs.declared.Stretch.{Stretch}

-- MemberPrimitiveTyped whose value, after its kind and its code, is not of the code that is written anew (δ)
abbrev pub is_plain : ℕ → List ℕ → Row → Bool
is_plain δ s r = pick (eqb (get_or s (r.offset + 1) 0) δ) false (leb (r.offset + 2) r.end)

-- any other value keeps all its bytes; the link of a member value's row is the number of its code
abbrev pub is_kept : ℕ → List ℕ → Row → Bool
is_kept δ s r = pick (eqb r.kind 32) (pick (eqb r.link δ) false true) (pick (eqb r.kind 8) (is_plain δ s r) false)

-- row r is kept, and its bytes begin at p
unfoldable pub is_next : ℕ → List ℕ → ℕ → Row → Bool
is_next δ s p r = eqb r.offset p && (leb p r.end && is_kept δ s r)

-- of rows from number i on, those first ones that are kept and follow one another from p on
unfoldable pub stretch : ℕ → List ℕ → ℕ → ℕ → List Row → Stretch
stretch δ s i p [] = record { next = i; end = p }
stretch δ s i p (r ∷ more) = pick (is_next δ s p r) (stretch δ s (i + 1) r.end more) (record { next = i; end = p })

-- ---- one row

module _ (δ : ℕ) (s : List ℕ) (r : Row) where
  module _ (code : ℕ) (x : code ≡ get_or s (r.offset + 1) 0) where
    pub plain_anew : code ≡ δ → false ≡ is_plain δ s r
    plain_anew h = rw (← x, eq-eqb _ _ h)

    pub plain_other : (code ≡ δ → ⊥) → leb (r.offset + 2) r.end ≡ is_plain δ s r
    plain_other h = rw (← x, ne_eqb _ _ h)

  pub kept_value : r.kind ≡ 32 → (r.link ≡ δ → ⊥) → true ≡ is_kept δ s r
  kept_value h k = rw (eq-eqb _ _ h, ne_eqb _ _ k)

  pub kept_anew : r.kind ≡ 32 → r.link ≡ δ → false ≡ is_kept δ s r
  kept_anew h k = rw (eq-eqb _ _ h, eq-eqb _ _ k)

  pub kept_typed : (q : Bool) → r.kind ≡ 8 → q ≡ is_plain δ s r → q ≡ is_kept δ s r
  kept_typed q h e = e ∙ rw h

  pub kept_none : (r.kind ≡ 32 → ⊥) → (r.kind ≡ 8 → ⊥) → false ≡ is_kept δ s r
  kept_none h k = rw (ne_eqb _ _ h, ne_eqb _ _ k)

module _ (δ : ℕ) (s : List ℕ) (p : ℕ) (r : Row) where
  pub next_known : (q : Bool) → q ≡ is_kept δ s r → r.offset ≡ p → p ≤ r.end → q ≡ is_next δ s p r
  unfolding is_next
  next_known q k h j = rw (eq-eqb _ _ h, le-leb _ _ j) k

  pub next_before : r.offset ≡ p → r.end < p → false ≡ is_next δ s p r
  unfolding is_next
  next_before h j = rw (eq-eqb _ _ h, lt-leb _ _ j)

  pub next_elsewhere : (r.offset ≡ p → ⊥) → false ≡ is_next δ s p r
  unfolding is_next
  next_elsewhere h = rw (ne_eqb _ _ h)

-- ---- the loop

module _ (δ : ℕ) (s : List ℕ) (n : ℕ) (t : List ℕ) (i p : ℕ) where
  pub stretch_end : n ≤ i → stretch δ s i p (drop i (rows_of n t)) ≡ record { next = i; end = p }
  unfolding stretch
  stretch_end h =
      let l = length_rows_of n t in
      rw (drop_of_length-le (rows_of n t) {i = i} (omega arith))

  pub stretch_all : n ≡ i → stretch δ s i p (drop i (rows_of n t)) ≡ record { next = n; end = p }
  unfolding stretch
  stretch_all e =
      let l = length_rows_of n t in
      rw (drop_of_length-le (rows_of n t) {i = i} (omega arith), e)

  module _ (r : Row) (h : i < n) (x : r ≡ get_or (rows_of n t) i blank) where
    here : drop i (rows_of n t) ≡ r ∷ drop (i + 1) (rows_of n t)
    here = let l = length_rows_of n t in rw (x, add-one) (drop-cons (rows_of n t) i blank (omega arith))

    pub stretch_stops : is_next δ s p r ≡ false → stretch δ s i p (drop i (rows_of n t)) ≡ record { next = i; end = p }
    unfolding stretch
    stretch_stops k = rw (here, k)

    pub stretch_goes : is_next δ s p r ≡ true → stretch δ s i p (drop i (rows_of n t)) ≡ stretch δ s (i + 1) r.end (drop (i + 1) (rows_of n t))
    unfolding stretch
    stretch_goes k = rw (here, k)
