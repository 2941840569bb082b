-- What stands at a place: four bytes as a number, also where some of them are missing, the place of an item type, the place of type bytes, parts
-- that are the same.
use Rattle.std.specs.Prelude.{ℕ, zero, suc, ◌+◌, ◌-◌, ◌*◌, ◌≤◌, ◌<◌, ◌≡◌, refl, Bool, false, List, [], length, get_or, take}
use Rattle.std.proofs.Math.Path.{sym}
use Rattle.std.proofs.Common.{◌∙◌, drop_of_length-le}
use native.Mathlib.Omega.{arith}
use Rattle.std.proofs.Math.Decide.{dec_lt}
use Rattle.std.proofs.Math.ListN.{get_or-eq_default}
use borrow.Author.Tests.{eq-eqb, ne_eqb}
use Rattle.format.specs.declared.Span.{Span}
use Rattle.format.specs.declared.Row.{Row}
use Rattle.format.specs.Bytes.{part, same_part}
use Rattle.format.specs.Numbers.{le}
use Rattle.format.specs.Text.{span_at}
use Rattle.format.specs.Says.{number_from}
use Rattle.fields.specs.Parts.{part_cons}
use Rattle.marks.specs.Marks.{same_between, same_text, same_name, item_type}

-- ---- four bytes

take_none : (n : ℕ) → take {A = ℕ} n [] ≡ []
take_none zero = refl
take_none (suc n) = refl

part_past : (s : List ℕ) (p n : ℕ) → length s ≤ p → part s p n ≡ []
part_past s p n h = rw (drop_of_length-le s {i = p} h) (take_none n)

pub number_past : (s : List ℕ) (p : ℕ) → length s ≤ p → 0 ≡ number_from s p
unfolding le
number_past s p h = rw (part_past s p 4 h)

le_first : (s : List ℕ) (p n : ℕ) → le (part s p (suc n)) ≡ get_or s p 0 + 256 * le (part s (p + 1) n)
unfolding le
le_first s p n = go (dec_lt p (length s))
  where
    go : Dec (p < length s) → le (part s p (suc n)) ≡ get_or s p 0 + 256 * le (part s (p + 1) n)
    go (yes h) = rw (part_cons s p n h)
    go (no h) =
        let l : length s ≤ p = omega arith in
        rw (part_past s p (suc n) l, part_past s (p + 1) n (omega arith), get_or-eq_default s 0 {n = p} l)

module _ (s : List ℕ) (p : ℕ) where
  number_bytes : number_from s p ≡ get_or s p 0 + 256 * get_or s (p + 1) 0 + 65536 * get_or s (p + 2) 0 + 16777216 * get_or s (p + 3) 0
  unfolding le
  number_bytes =
      let two : p + 1 + 1 ≡ p + 2 = omega arith in
      let three : p + 2 + 1 ≡ p + 3 = omega arith in
      let a = le_first s p 3 in
      let b = rw two at (le_first s (p + 1) 2) in
      let c = rw three at (le_first s (p + 2) 1) in
      let d = le_first s (p + 3) 0 in
      omega arith

  pub number_is : (a b c d v : ℕ) → a ≡ get_or s p 0 → b ≡ get_or s (p + 1) 0 → c ≡ get_or s (p + 2) 0 → d ≡ get_or s (p + 3) 0
      → v ≡ a + 256 * b + 65536 * c + 16777216 * d → v ≡ number_from s p
  number_is a b c d v w x y z e = rw (number_bytes, ← w, ← x, ← y, ← z) e

-- ---- places

pub item_is : (s : List ℕ) (r : Row) (rank : ℕ) → rank ≡ number_from s (r.offset + 6) → r.offset + 10 + 4 * rank ≡ item_type s r
unfolding item_type
item_is s r rank e = rw e

pub item_below : (s : List ℕ) (r : Row) → ((i : ℕ) → get_or s i 0 < 256) → r.offset < 4294967296 → item_type s r < 21474836486
unfolding item_type
item_below s r b h =
    let p : ℕ = r.offset + 6 in
    omega (arith, number_bytes s p, b p, b (p + 1), b (p + 2), b (p + 3))

-- ---- parts that are the same

module _ (s : List ℕ) (a x b y m w : ℕ) (e : m ≡ x - a) (f : w ≡ y - b) where
  pub between_same : (q : Bool) → m ≡ w → q ≡ same_part s a b m → q ≡ same_between s a x b y
  unfolding same_between
  between_same q g h =
      let z : x - a ≡ y - b = sym e ∙ g ∙ f in
      rw (eq-eqb _ _ z, ← e) h

  pub between_other : (m ≡ w → ⊥) → false ≡ same_between s a x b y
  unfolding same_between
  between_other g = rw (← e, ← f, ne_eqb _ _ g)

pub text_same : (s : List ℕ) (a b : ℕ) (x y : Span) (q : Bool) → x ≡ span_at s a → y ≡ span_at s b
    → q ≡ same_between s x.from x.to y.from y.to → q ≡ same_text s a b
unfolding same_text
text_same s a b x y q e f h = rw (← e, ← f) h

module _ (s : List ℕ) (a b : Row) where
  pub name_same : (q : Bool) → b.kind ≡ 12 → q ≡ same_text s (a.offset + 5) (b.offset + 5) → q ≡ same_name s a b
  unfolding same_name
  name_same q h e = rw (eq-eqb _ _ h) e

  pub name_other : (b.kind ≡ 12 → ⊥) → false ≡ same_name s a b
  unfolding same_name
  name_other h = rw (ne_eqb _ _ h)
