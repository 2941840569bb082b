-- The scalar at a place by its first byte and by what is left of the stream behind that: rows whose bytes stand there, and rows whose bytes do not.
use Rattle.std.specs.Prelude.{ℕ, ◌+◌, ◌-◌, ◌≤◌, ◌<◌, ◌≡◌, refl, Bool, true, false, List, length, get_or, take, drop}
use Rattle.std.proofs.Common.{sym, ◌∙◌, arith, lt-ltb, le-ltb, le-leb, length-drop}
use Rattle.std.proofs.Math.Decide.{dec_lt}
use Rattle.std.proofs.Math.Seq.{take-length}
use Rattle.std.proofs.lemmas.Bool.{lt-leb}
use Rattle.std.proofs.lemmas.List.{get_or-drop}
use Rattle.format.specs.Bytes.{pick}
use Rattle.text.specs.Scalars.{has_at, width_at, of_two, of_three, of_four}
use Rattle.text.specs.Rows.{Row, by_row_lem}

-- what is left from place i on, as code has it
abbrev pub rest : List ℕ → ℕ → List ℕ
rest s i = take (length s - i) (drop i s)

-- byte k of l is there and lies from lo to hi
abbrev pub In : List ℕ → ℕ → ℕ → ℕ → Type 0
In l k lo hi = (k < length l) × ((lo ≤ get_or l k 0) × (get_or l k 0 ≤ hi))

has_in : (s : List ℕ) (i lo hi : ℕ) → In s i lo hi → has_at s i lo hi ≡ true
unfolding has_at
has_in s i lo hi (h, (l, u)) = rw (lt-ltb i (length s) h, le-ltb (get_or s i 0) lo l, le-leb (get_or s i 0) hi u)

in_has : (s : List ℕ) (i lo hi : ℕ) → has_at s i lo hi ≡ true → In s i lo hi
unfolding has_at
in_has s i lo hi e = go (dec_lt i (length s)) (dec_lt (get_or s i 0) lo) (dec_lt hi (get_or s i 0))
  where
    go : Dec (i < length s) → Dec (get_or s i 0 < lo) → Dec (hi < get_or s i 0) → In s i lo hi
    go (no h) b c = absurd (let z : false ≡ true = rw (le-ltb i (length s) (omega arith)) at e in cc)
    go (yes h) (yes l) c = absurd (let z : false ≡ true = rw (lt-ltb i (length s) h, lt-ltb (get_or s i 0) lo l) at e in cc)
    go (yes h) (no l) (yes u) = absurd (let z : false ≡ true = rw (lt-ltb i (length s) h, le-ltb (get_or s i 0) lo (omega arith), lt-leb (get_or s i 0) hi u) at e in cc)
    go (yes h) (no l) (no u) = (h, (omega arith, omega arith))

module _ (s : List ℕ) (i : ℕ) where
  pub rest_is : rest s i ≡ drop i s
  rest_is = rw length-drop at (take-length (drop i s))

  -- a byte of what is left is one of all
  pub of_all : (k j lo hi : ℕ) → j ≡ i + k → In (rest s i) k lo hi → In s j lo hi
  of_all k j lo hi e p =
      let q : In (drop i s) k lo hi = rw rest_is at p in
      let g : get_or (drop i s) k 0 ≡ get_or s (i + k) 0 = get_or-drop i s k 0 in
      rw e (omega (arith, length-drop i s), (rw (← g) q.1.0, rw (← g) q.1.1))

  of_rest : (k j lo hi : ℕ) → j ≡ i + k → In s j lo hi → In (rest s i) k lo hi
  of_rest k j lo hi e p =
      let q : In s (i + k) lo hi = rw e at p in
      let g : get_or (drop i s) k 0 ≡ get_or s (i + k) 0 = get_or-drop i s k 0 in
      rw rest_is (omega (arith, length-drop i s), (rw g q.1.0, rw g q.1.1))

  has_rest : (k j lo hi : ℕ) → j ≡ i + k → In (rest s i) k lo hi → has_at s j lo hi ≡ true
  has_rest k j lo hi e p = has_in s j lo hi (of_all k j lo hi e p)

  rest_has : (k j lo hi : ℕ) → j ≡ i + k → has_at s j lo hi ≡ true → In (rest s i) k lo hi
  rest_has k j lo hi e p = of_rest k j lo hi e (in_has s j lo hi p)

-- the rows: `there` where the bytes behind the first one lie in their bounds, `gone` where one of them does not
module _ (s : List ℕ) (i : ℕ) (h : i < length s) {lo hi : ℕ} where
  pub two_there : Row (get_or s i 0) 1 lo hi → In (rest s (i + 1)) 0 lo hi → 2 ≡ width_at s i
  two_there r p = sym (rw (of_two s i lo hi, has_rest s (i + 1) 0 (i + 1) lo hi (omega arith) p)) ∙ by_row_lem s i h r (omega arith)

  pub two_gone : Row (get_or s i 0) 1 lo hi → (In (rest s (i + 1)) 0 lo hi → ⊥) → 0 ≡ width_at s i
  two_gone r n = sym (rw (of_two s i lo hi) (go (has_at s (i + 1) lo hi) refl)) ∙ by_row_lem s i h r (omega arith)
    where
      go : (v : Bool) → has_at s (i + 1) lo hi ≡ v → ◌≡◌ {A = ℕ} (pick v 2 0) 0
      go true e = absurd (n (rest_has s (i + 1) 0 (i + 1) lo hi (omega arith) e))
      go false e = refl

  pub three_there : Row (get_or s i 0) 2 lo hi → In (rest s (i + 1)) 0 lo hi → In (rest s (i + 1)) 1 0x80 0xBF → 3 ≡ width_at s i
  three_there r p q =
      sym (rw (of_three s i lo hi, has_rest s (i + 1) 0 (i + 1) lo hi (omega arith) p, has_rest s (i + 1) 1 (i + 2) 0x80 0xBF (omega arith) q)) ∙ by_row_lem s i h r (omega arith)

  pub three_gone : Row (get_or s i 0) 2 lo hi → (In (rest s (i + 1)) 0 lo hi → In (rest s (i + 1)) 1 0x80 0xBF → ⊥) → 0 ≡ width_at s i
  three_gone r n = sym (rw (of_three s i lo hi) (go (has_at s (i + 1) lo hi) (has_at s (i + 2) 0x80 0xBF) refl refl)) ∙ by_row_lem s i h r (omega arith)
    where
      go : (v w : Bool) → has_at s (i + 1) lo hi ≡ v → has_at s (i + 2) 0x80 0xBF ≡ w → ◌≡◌ {A = ℕ} (pick v (pick w 3 0) 0) 0
      go true true e f = absurd (n (rest_has s (i + 1) 0 (i + 1) lo hi (omega arith) e) (rest_has s (i + 1) 1 (i + 2) 0x80 0xBF (omega arith) f))
      go true false e f = refl
      go false w e f = refl

  pub four_there : Row (get_or s i 0) 3 lo hi → In (rest s (i + 1)) 0 lo hi → In (rest s (i + 1)) 1 0x80 0xBF → In (rest s (i + 1)) 2 0x80 0xBF → 4 ≡ width_at s i
  four_there r p q t =
      sym (rw (of_four s i lo hi, has_rest s (i + 1) 0 (i + 1) lo hi (omega arith) p, has_rest s (i + 1) 1 (i + 2) 0x80 0xBF (omega arith) q, has_rest s (i + 1) 2 (i + 3) 0x80 0xBF (omega arith) t))
      ∙ by_row_lem s i h r (omega arith)

  pub four_gone : Row (get_or s i 0) 3 lo hi → (In (rest s (i + 1)) 0 lo hi → In (rest s (i + 1)) 1 0x80 0xBF → In (rest s (i + 1)) 2 0x80 0xBF → ⊥) → 0 ≡ width_at s i
  four_gone r n =
      sym (rw (of_four s i lo hi) (go (has_at s (i + 1) lo hi) (has_at s (i + 2) 0x80 0xBF) (has_at s (i + 3) 0x80 0xBF) refl refl refl)) ∙ by_row_lem s i h r (omega arith)
    where
      go : (v w x : Bool) → has_at s (i + 1) lo hi ≡ v → has_at s (i + 2) 0x80 0xBF ≡ w → has_at s (i + 3) 0x80 0xBF ≡ x → ◌≡◌ {A = ℕ} (pick v (pick w (pick x 4 0) 0) 0) 0
      go true true true e f g = absurd (n (rest_has s (i + 1) 0 (i + 1) lo hi (omega arith) e) (rest_has s (i + 1) 1 (i + 2) 0x80 0xBF (omega arith) f) (rest_has s (i + 1) 2 (i + 3) 0x80 0xBF (omega arith) g))
      go true true false e f g = refl
      go true false x e f g = refl
      go false w x e f g = refl
