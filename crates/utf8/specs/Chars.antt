-- A Char, where it is read, is the UTF-8 form of one scalar value.
use Rattle.std.specs.Prelude.{ℕ, ◌+◌, ◌≤◌, ◌<◌, ◌≡◌, refl, ◌↔◌, true, List, [], ◌∷◌, ◌++◌, length, get_or, eqb, Ok}
use Rattle.std.proofs.Common.{sym, ap, ◌∙◌, append-nil, arith, length-append, length-take, length-drop, eqb-true, ne_eqb}
use Rattle.format.specs.Bytes.{part}
use Rattle.format.specs.Text.{need_of, between, after, well_formed}
use Rattle.format.specs.Values.{char_at}
use Rattle.fields.specs.Parts.{length_part, part_first}
use Rattle.fields.specs.Judged.{passes}
use Rattle.items.specs.Judged.{char_taken, char_of}
use Rattle.format.specs.Unicode.{Scalar, encode, Encodes}
use Rattle.utf8.specs.Widths.{some_bytes, width_told}
use Rattle.utf8.specs.Firsts.{first}
use Rattle.utf8.specs.Exactly.{utf8_exactly}

-- the bytes of c stand at a place, and end at e
pub record Char (c : ℕ) (s : List ℕ) (at e : ℕ) : Type 0 where
  pub scalar : Scalar c
  pub bytes : part s at (length (encode c)) ≡ encode c
  pub ends : e ≡ at + length (encode c)

-- ---- well-formed text as long as its first byte announces is one scalar

one_scalar_lem : (l : List ℕ) → well_formed l ≡ true → length l ≡ need_of (get_or l 0 0) + 1 → (c : ℕ) × (Scalar c × (l ≡ encode c))
unfolding well_formed
one_scalar_lem [] e h = absurd (omega arith)
one_scalar_lem (b ∷ l) e h =
    let w = first b l (eqb-true (after between (b ∷ l)).need 0 e) in
    let c : ℕ = w.scalar in
    let t = width_told c w.is w.rest in
    let f : need_of (get_or (encode c ++ w.rest) 0 0) ≡ need_of b = ap (λ (m : List ℕ). need_of (get_or m 0 0)) (sym w.bytes) in
    let n = simp length-append at (ap length w.bytes) in
    (c, (w.is, w.bytes ∙ (ap (λ (m : List ℕ). encode c ++ m) (none w.rest (omega arith)) ∙ append-nil (encode c))))
  where
    none : (m : List ℕ) → length m ≡ 0 → m ≡ []
    none [] h = refl
    none (x ∷ m) h = absurd (omega arith)

-- and the other way round
module _ (c : ℕ) (i : Scalar c) where
  scalar_good : well_formed (encode c) ≡ true
  scalar_good =
      let w : Encodes (c ∷ []) (encode c) = record { scalars = (i, tt); bytes = append-nil (encode c) } in
      (utf8_exactly (encode c)).1 (c ∷ [], w)

  scalar_width : (need_of (get_or (encode c) 0 0) + 1 ≡ length (encode c)) × (need_of (get_or (encode c) 0 0) < 4)
  scalar_width =
      let t = width_told c i [] in
      let n : need_of (get_or (encode c) 0 0) + 1 ≡ length (encode c) = rw (append-nil (encode c)) at t.0 in
      (n, omega arith)

-- ---- read at a place

module _ (s : List ℕ) (at e : ℕ) where
  char_stands : (n : ℕ) → e ≡ at + n → length (part s at n) ≡ n → (c : ℕ) × (Scalar c × (part s at n ≡ encode c)) → (c : ℕ) × Char c s at e
  char_stands n f h (c, (i, q)) =
      let k : length (encode c) ≡ n = rw q at h in
      (c, record { scalar = i; bytes = rw k q; ends = omega arith })

  char_bytes : char_at s at ≡ Ok e → (c : ℕ) × Char c s at e
  char_bytes q =
      let w = char_taken s at e q in
      let n : ℕ = need_of (get_or s at 0) + 1 in
      let g = passes (eqb (need_of (get_or (part s at n) 0 0)) 4) (well_formed (part s at n)) w.good in
      let l = length_part s at n w.room in
      let f = ap need_of (part_first s at n (omega arith)) in
      char_stands n w.ends l (one_scalar_lem (part s at n) g.1 (omega arith))

  char_reads : (c : ℕ) → Char c s at e → char_at s at ≡ Ok e
  char_reads c w =
      let k : ℕ = length (encode c) in
      let i = some_bytes c in
      let t = scalar_width c w.scalar in
      let r : at + k ≤ length s = omega (arith, simp (length-take, length-drop) at (ap length w.bytes)) in
      let h : get_or s at 0 ≡ get_or (encode c) 0 0 = sym (part_first s at k i) ∙ ap (λ (m : List ℕ). get_or m 0 0) w.bytes in
      let m : need_of (get_or s at 0) + 1 ≡ k = ap (λ (b : ℕ). need_of b + 1) h ∙ t.0 in
      let four = ne_eqb (need_of (get_or (encode c) 0 0)) 4 (omega arith) in
      char_of s at e (rw m (record { ends = w.ends; room = r; good = rw (w.bytes, four) (scalar_good c w.scalar) }))

  -- for every stream and place: a Char is read and ends at e exactly when the bytes of some scalar value stand there and end at e
  pub char_exactly : (char_at s at ≡ Ok e) ↔ ((c : ℕ) × Char c s at e)
  char_exactly = (char_bytes, λ w. char_reads w.0 w.1)
