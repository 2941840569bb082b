-- Lookups: the test that each one makes of a row, what a scan has left to do, and what an answer says of the row.
use Rattle.std.specs.Prelude.{◌≡◌, List, [], ◌∷◌, Bool, ◌&&◌, ℕ, zero, suc, ◌+◌, ◌-◌, ◌≤◌, ◌<◌, eqb, get_or, drop}
use Rattle.std.proofs.Math.Path.{refl}
use Rattle.std.proofs.Common.{sym, ◌∙◌, arith, zero-add, add-one, drop_of_length-le, drop-cons}
use Rattle.std.proofs.Math.Bool.{true, false}
use Rattle.std.proofs.Math.Nat.{sub-zero}
use borrow.Author.Tests.{eq-eqb, ne_eqb, eqb-true}
use Rattle.std.proofs.Math.ListN.{length}
use Rattle.format.specs.declared.Row.{Row}
use Rattle.format.specs.Bytes.{pick}
use Rattle.format.specs.Rows.{blank, rows_of, is_object, is_class, find_from, object_row, class_row, library_row}
use Rattle.fields.specs.Tests.{both_of}
use Rattle.table.specs.Rows.{length_rows_of}
use Rattle.lookups.specs.declared.Wanted.{Wanted}
use Rattle.lookups.specs.declared.Wanted.TheVariants as W

-- a row of one of these kinds and of this number
unfoldable pub named : (ℕ → Bool) → ℕ → Row → Bool
named kinds id r = kinds r.kind && eqb r.id id

abbrev pub is_library : ℕ → Bool
is_library kind = eqb kind 12

-- the number of what is looked up
unfoldable pub id_of : Wanted → ℕ
id_of (W.Object id) = id.0
id_of (W.Class id) = id.0
id_of (W.Library id) = id.0

-- the kinds of the rows that can be it
unfoldable pub is_of : Wanted → ℕ → Bool
is_of (W.Object id) kind = is_object kind
is_of (W.Class id) kind = is_class kind
is_of (W.Library id) kind = is_library kind

-- what a row's number w and its kind k say
module _ (kinds : ℕ → Bool) (id : ℕ) (row : Row) (w : ℕ) (e : w ≡ row.id) where
  pub other_number : (w ≡ id → ⊥) → false ≡ named kinds id row
  unfolding named
  other_number h = rw (← e, ne_eqb w id h) (none (kinds row.kind))
    where
      none : (a : Bool) → false ≡ (a && false)
      none true = refl
      none false = refl

  pub this_number : w ≡ id → (k : ℕ) → k ≡ row.kind → kinds k ≡ named kinds id row
  unfolding named
  this_number h k q = rw (← e, eq-eqb w id h, ← q) (all (kinds k))
    where
      all : (a : Bool) → a ≡ (a && true)
      all true = refl
      all false = refl

-- ---- a scan over the first n rows

-- what the rows from i on give
unfoldable pub left : (Row → Bool) → List Row → ℕ → ℕ
left p rows i = find_from p i (drop i rows)

module _ (p : Row → Bool) (n : ℕ) (t : List ℕ) where
  left_start : find_from p 0 (rows_of n t) ≡ left p (rows_of n t) 0
  unfolding left
  left_start = refl

  left_end : (i : ℕ) → n ≤ i → left p (rows_of n t) i ≡ 0
  unfolding left find_from
  left_end i h =
      let l : length (rows_of n t) ≡ n = length_rows_of n t in
      rw (drop_of_length-le (rows_of n t) {i = i} (omega arith))

  left_hit : (i : ℕ) → i < n → p (get_or (rows_of n t) i blank) ≡ true → left p (rows_of n t) i ≡ i + 1
  unfolding left find_from
  left_hit i h e =
      let l : length (rows_of n t) ≡ n = length_rows_of n t in
      rw (drop-cons (rows_of n t) i blank (omega arith), e)

  left_miss : (i : ℕ) → i < n → p (get_or (rows_of n t) i blank) ≡ false → left p (rows_of n t) i ≡ left p (rows_of n t) (i + 1)
  unfolding left find_from
  left_miss i h e =
      let l : length (rows_of n t) ≡ n = length_rows_of n t in
      rw (drop-cons (rows_of n t) i blank (omega arith), e, add-one)

-- what a scan keeps to before row i: the rows from i on give what all rows give
abbrev pub Scan : (Row → Bool) → ℕ → List ℕ → ℕ → Type 0
Scan p n t i = (i ≤ n) × (find_from p 0 (rows_of n t) ≡ left p (rows_of n t) i)

module _ (p : Row → Bool) (n : ℕ) (t : List ℕ) where
  pub scan_start : Scan p n t 0
  scan_start = (omega arith, left_start p n t)

  module _ (i : ℕ) (v : Scan p n t i) where
    pub scan_end : n ≤ i → 0 ≡ find_from p 0 (rows_of n t)
    scan_end h = sym (v.1 ∙ left_end p n t i h)

    -- q is the answer of the test of r, which is row i
    module _ (h : i < n) (r : Row) (x : r ≡ get_or (rows_of n t) i blank) (q : Bool) (y : q ≡ p r) where
      pub scan_hit : q ≡ true → i + 1 ≡ find_from p 0 (rows_of n t)
      scan_hit z = sym (v.1 ∙ left_hit p n t i h (rw (← x, ← y) z))

      pub scan_miss : q ≡ false → Scan p n t (i + 1)
      scan_miss z = (omega arith, v.1 ∙ left_miss p n t i h (rw (← x, ← y) z))

-- ---- what an answer says

le_from : (p : Row → Bool) (k : ℕ) (rows : List Row) → find_from p k rows ≤ k + length rows
unfolding find_from
le_from p k [] = omega arith
le_from p k (r ∷ rows) = go (p r) (le_from p (k + 1) rows)
  where
    go : (b : Bool) → find_from p (k + 1) rows ≤ k + 1 + length rows → pick b (k + 1) (find_from p (k + 1) rows) ≤ k + suc (length rows)
    go true h = omega arith
    go false h = omega arith

pub find_le : (p : Row → Bool) (rows : List Row) → find_from p 0 rows ≤ length rows
find_le p rows = rw zero-add at (le_from p 0 rows)

-- row i passes, where the rows are numbered from k on
abbrev Hit : (Row → Bool) → ℕ → List Row → ℕ → Type 0
Hit p k rows i = (k ≤ i) × (i < k + length rows) × (p (get_or rows (i - k) blank) ≡ true)

hit_from : (p : Row → Bool) (k : ℕ) (rows : List Row) (i : ℕ) → find_from p k rows ≡ suc i → Hit p k rows i
unfolding find_from
hit_from p k [] i e = absurd (omega arith)
hit_from p k (r ∷ rows) i e = go (p r) refl (hit_from p (k + 1) rows i) e
  where
    go : (b : Bool) → p r ≡ b → (find_from p (k + 1) rows ≡ suc i → Hit p (k + 1) rows i) → pick b (k + 1) (find_from p (k + 1) rows) ≡ suc i
        → Hit p k (r ∷ rows) i
    go true q again f =
        let z : i - k ≡ 0 = omega arith in
        (omega arith, omega arith, rw z q)
    go false q again f =
        let h = again f in
        let z : i - k ≡ suc (i - (k + 1)) = omega (arith, h.0) in
        (omega (arith, h.0), omega (arith, h.1), rw z h.2)

pub find_hit : (p : Row → Bool) (rows : List Row) (i : ℕ) → find_from p 0 rows ≡ suc i → (i < length rows) × (p (get_or rows i blank) ≡ true)
find_hit p rows i e =
    let h = hit_from p 0 rows i e in
    (omega (arith, h.1), rw sub-zero at h.2)

-- no row passes where the answer is 0
pub find_none : (p : Row → Bool) (k : ℕ) (rows : List Row) → find_from p k rows ≡ 0 → (i : ℕ) → i < length rows → p (get_or rows i blank) ≡ false
unfolding find_from
find_none p k [] e i h = absurd (omega arith)
find_none p k (r ∷ rows) e i h = go (p r) refl e i h (find_none p (k + 1) rows)
  where
    go : (b : Bool) → p r ≡ b → pick b (k + 1) (find_from p (k + 1) rows) ≡ 0 → (i : ℕ) → i < suc (length rows)
        → (find_from p (k + 1) rows ≡ 0 → (j : ℕ) → j < length rows → p (get_or rows j blank) ≡ false)
        → p (get_or (r ∷ rows) i blank) ≡ false
    go true q f i l again = absurd (omega arith)
    go false q f zero l again = q
    go false q f (suc i) l again = again f i (omega arith)

-- row i is there, is of one of these kinds, and has this number
pub record Found (kinds : ℕ → Bool) (id : ℕ) (rows : List Row) (i : ℕ) : Type 0 where
  pub inside : i < length rows
  pub kind : kinds (get_or rows i blank).kind ≡ true
  pub same : (get_or rows i blank).id ≡ id

found_parts : (kinds : ℕ → Bool) (id : ℕ) (rows : List Row) (i : ℕ) → find_from (named kinds id) 0 rows ≡ suc i → Found kinds id rows i
unfolding named
found_parts kinds id rows i e =
    let h = find_hit (named kinds id) rows i e in
    let q = both_of (kinds (get_or rows i blank).kind) (eqb (get_or rows i blank).id id) h.1 in
    record { inside = h.0; kind = q.0; same = eqb-true _ _ q.1 }

module _ (id : ℕ) (rows : List Row) where
  pub object_le : object_row id rows ≤ length rows
  unfolding object_row named
  object_le = find_le (named is_object id) rows

  pub class_le : class_row id rows ≤ length rows
  unfolding class_row named
  class_le = find_le (named is_class id) rows

  pub object_found : (i : ℕ) → object_row id rows ≡ suc i → Found is_object id rows i
  unfolding object_row named
  object_found i e = found_parts is_object id rows i e

  pub class_found : (i : ℕ) → class_row id rows ≡ suc i → Found is_class id rows i
  unfolding class_row named
  class_found i e = found_parts is_class id rows i e

  pub library_found : (i : ℕ) → library_row id rows ≡ suc i → Found is_library id rows i
  unfolding library_row named
  library_found i e = found_parts is_library id rows i e

  -- the row of an answer above 0, as code finds it
  pub object_at_lem : 0 < object_row id rows → Found is_object id rows (object_row id rows - 1)
  object_at_lem h = object_found (object_row id rows - 1) (omega arith)

  pub class_at_holds : 0 < class_row id rows → Found is_class id rows (class_row id rows - 1)
  class_at_holds h = class_found (class_row id rows - 1) (omega arith)

  pub library_at_lem : 0 < library_row id rows → Found is_library id rows (library_row id rows - 1)
  library_at_lem h = library_found (library_row id rows - 1) (omega arith)

-- an answer among the first n rows is at most n
pub found_le : (f id n : ℕ) (t : List ℕ) → f ≡ object_row id (rows_of n t) → f ≤ n
found_le f id n t e =
    let l : length (rows_of n t) ≡ n = length_rows_of n t in
    let w : object_row id (rows_of n t) ≤ length (rows_of n t) = object_le id (rows_of n t) in
    omega arith
