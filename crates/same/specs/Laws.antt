-- Compared bytes: `same_bytes` is equality of lists, `same_part` equality of parts that are there.
use Rattle.std.specs.Prelude.{ℕ, ◌+◌, ◌-◌, ◌≤◌, ◌<◌, ◌≡◌, refl, List, [], ◌∷◌, Bool, true, false, ◌&&◌, length, eqb, leb}
use Rattle.std.proofs.Common.{arith}
use Rattle.std.proofs.Math.Nat.{add-sub_cancel_left}
use borrow.Author.Tests.{eq-eqb, eqb-true, le-leb, lt-leb, leb-true}
use Rattle.format.specs.Bytes.{part, same_bytes, same_part}
use Rattle.fields.specs.Tests.{bool_ext, both_of}

-- ---- two lists

pub same_eq : (l m : List ℕ) → same_bytes l m ≡ true → l ≡ m
unfolding same_bytes
same_eq [] [] e = refl
same_eq [] (y ∷ m) e = absurd (let z : ◌≡◌ {A = ℕ} 0 1 = cc in omega arith)
same_eq (x ∷ l) [] e = absurd (let z : ◌≡◌ {A = ℕ} 0 1 = cc in omega arith)
same_eq (x ∷ l) (y ∷ m) e =
    let w = both_of (eqb x y) (same_bytes l m) e in
    let h : x ≡ y = eqb-true x y w.0 in
    let t = same_eq l m w.1 in
    cc

pub same_refl : (l : List ℕ) → same_bytes l l ≡ true
unfolding same_bytes
same_refl [] = refl
same_refl (x ∷ l) = simp (eq-eqb x x refl) (same_refl l)

-- ---- two parts of one stream

-- what the answer true says
pub record SameParts (s : List ℕ) (a b n : ℕ) : Type 0 where
  pub first : a + n ≤ length s
  pub second : b + n ≤ length s
  pub equal : part s a n ≡ part s b n

module _ (s : List ℕ) (a b n : ℕ) where
  pub part_short_a : length s < a + n → same_part s a b n ≡ false
  unfolding same_part
  part_short_a h = simp lt-leb

  pub part_short_b : a + n ≤ length s → length s < b + n → same_part s a b n ≡ false
  unfolding same_part
  part_short_b g h = simp (le-leb, lt-leb)

  pub same_parts : same_part s a b n ≡ true → SameParts s a b n
  unfolding same_part
  same_parts e =
      let x = both_of (leb (a + n) (length s)) (leb (b + n) (length s) && same_bytes (part s a n) (part s b n)) e in
      let y = both_of (leb (b + n) (length s)) (same_bytes (part s a n) (part s b n)) x.1 in
      record {
        first = leb-true (a + n) (length s) x.0;
        second = leb-true (b + n) (length s) y.0;
        equal = same_eq (part s a n) (part s b n) y.1;
      }

  pub parts_same : SameParts s a b n → same_part s a b n ≡ true
  unfolding same_part
  parts_same p =
      let f = p.first in
      let g = p.second in
      simp le-leb (rw p.equal (same_refl (part s b n)))

  -- what `check::same` ensures of the parts, as the code has them
  pub part_whole : (r : Bool) → a + n ≤ length s → b + n ≤ length s
      → (r ≡ true → part s a (a + n - a) ≡ part s b (b + n - b)) × (part s a (a + n - a) ≡ part s b (b + n - b) → r ≡ true)
      → r ≡ same_part s a b n
  part_whole r g h w =
      let v = rw (add-sub_cancel_left a n, add-sub_cancel_left b n) at w in
      bool_ext r (same_part s a b n)
      (λ e. parts_same (record { first = g; second = h; equal = v.0 e }))
      (λ e. v.1 (same_parts e).equal)
