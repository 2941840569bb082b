-- What rows make known (01, Field rules): the classes, objects and libraries of earlier records, as a function of the rows before linking
-- and the stream; a lookup among the rows finds what the grammar knows.
use Rattle.std.specs.Prelude.{ℕ, zero, suc, ◌+◌, ◌-◌, ◌<◌, ◌≡◌, refl, Bool, true, false, ◌&&◌, ◌||◌, not, List, [], ◌∷◌, ◌++◌, length, get_or, eqb}
use Rattle.std.proofs.Common.{sym, ◌∙◌, append_assoc, append-nil, arith, add-one, length-append, eqb-true, ne_eqb}
use Rattle.std.proofs.lemmas.List.{get_or_at}
use Rattle.std.proofs.lemmas.Bool.{eqb-false, not-true, not-false}
use Rattle.format.specs.declared.SlotType.{SlotType}
use Rattle.format.specs.declared.Typed.{Typed}
use Rattle.format.specs.declared.Row.{Row}
use Rattle.format.specs.Bytes.{pick}
use Rattle.format.specs.Types.{typed_at, moved, positive}
use Rattle.format.specs.Rows.{blank, is_object, is_class, find_from, object_row, class_row, library_row}
use Rattle.format.specs.Records.{within, first_type, good_class_id, good_id}
use Rattle.format.specs.Grammar.{Positive, Entry, a_class, another, a_library, used, known, Classed, classed, unknown, class_of, ClassId, ObjectId, LibraryId}
use Rattle.format.proofs.Own.{positive_exactly}
use Rattle.laws.specs.Tests.{both_of}

-- ---- the environment

-- the types of n slots, the first of which is this
unfoldable pub slots_from : List ℕ → List ℕ → Typed → ℕ → List SlotType
slots_from β s t zero = []
slots_from β s t (suc n) = t.slot ∷ slots_from β s (moved β s t) n

-- the types of the members of a class whose count type bytes stand at types
unfoldable pub types_at : List ℕ → List ℕ → ℕ → ℕ → List SlotType
types_at β s types count = slots_from β s (typed_at s types (within (length s) (types + count))) count

-- before linking, the link of a class's row is the place of its type bytes, in its record or in the book
abbrev pub class_slots : List ℕ → List ℕ → Row → List SlotType
class_slots β s r = slots_from β s (first_type β s r) r.count

-- what a row makes known; row is its number plus 1
abbrev pub entry_of : List ℕ → List ℕ → ℕ → Row → List Entry
entry_of β s row r =
    pick (is_object r.kind) (pick (is_class r.kind) (a_class r.id row (class_slots β s r)) (another r.id) ∷ [])
    (pick (eqb r.kind 12) (a_library r.id ∷ []) [])

unfoldable pub env_from : List ℕ → List ℕ → ℕ → List Row → List Entry
env_from β s i [] = []
env_from β s i (r ∷ rs) = entry_of β s (suc i) r ++ env_from β s (suc i) rs

abbrev pub env_of : List ℕ → List ℕ → List Row → List Entry
env_of β s rows = env_from β s 0 rows

-- ---- one row more

env_from_more : (β s : List ℕ) (i : ℕ) (rows : List Row) (r : Row) → env_from β s i (rows ++ (r ∷ [])) ≡ env_from β s i rows ++ entry_of β s (suc (i + length rows)) r
unfolding env_from
env_from_more β s i [] r =
    let z : i + 0 ≡ i = omega arith in
    rw z (append-nil (entry_of β s (suc i) r))
env_from_more β s i (x ∷ rows) r =
    let z : i + suc (length rows) ≡ suc i + length rows = omega arith in
    rw (z, env_from_more β s (suc i) rows r) (sym (append_assoc (entry_of β s (suc i) x) (env_from β s (suc i) rows) _))

pub env_more : (β s : List ℕ) (rows : List Row) (r : Row) → env_of β s (rows ++ (r ∷ [])) ≡ env_of β s rows ++ entry_of β s (suc (length rows)) r
env_more β s rows r =
    let z : 0 + length rows ≡ length rows = omega arith in
    rw z at (env_from_more β s 0 rows r)

-- and one that makes nothing known
pub env_same : (β s : List ℕ) (rows : List Row) (r : Row) → entry_of β s (suc (length rows)) r ≡ [] → env_of β s (rows ++ (r ∷ [])) ≡ env_of β s rows
env_same β s rows r e = env_more β s rows r ∙ rw e (append-nil (env_of β s rows))

-- ---- lookups

some_row : (i : ℕ) → not (eqb (i + 1) 0) ≡ true
some_row i = rw (ne_eqb (i + 1) 0 (λ e. omega arith))

-- the rows may be counted from any number
used_from : (β s : List ℕ) (id i k : ℕ) (rows : List Row)
    → used id (env_from β s i rows) ≡ not (eqb (find_from (λ (r : Row). is_object r.kind && eqb r.id id) k rows) 0)
unfolding env_from find_from
used_from β s id i k [] = refl
used_from β s id i k (r ∷ rows) =
    go (is_object r.kind) (is_class r.kind) (eqb r.kind 12) (eqb r.id id) refl (used_from β s id (suc i) (k + 1) rows)
  where
    go : (o c l d : Bool) → eqb r.id id ≡ d
        → used id (env_from β s (suc i) rows) ≡ not (eqb (find_from (λ (r : Row). is_object r.kind && eqb r.id id) (k + 1) rows) 0)
        → used id (pick o (pick c (a_class r.id (suc i) (class_slots β s r)) (another r.id) ∷ []) (pick l (a_library r.id ∷ []) []) ++ env_from β s (suc i) rows)
        ≡ not (eqb (pick (o && d) (k + 1) (find_from (λ (r : Row). is_object r.kind && eqb r.id id) (k + 1) rows)) 0)
    go true true l true e h = rw e (sym (some_row k))
    go true true l false e h = rw e h
    go true false l true e h = rw e (sym (some_row k))
    go true false l false e h = rw e h
    go false c true d e h = h
    go false c false d e h = h

pub used_is : (β s : List ℕ) (id : ℕ) (rows : List Row) → used id (env_of β s rows) ≡ not (eqb (object_row id rows) 0)
unfolding object_row
used_is β s id rows = used_from β s id 0 0 rows

-- no object is a library
object_not_library : (k : ℕ) → is_object k ≡ true → eqb k 12 ≡ true → ⊥
object_not_library k o l =
    let e : k ≡ 12 = eqb-true k 12 l in
    let z : is_object 12 ≡ true = rw e at o in
    let y : ◌≡◌ {A = ℕ} 0 1 = cc in
    omega arith

known_from : (β s : List ℕ) (id i k : ℕ) (rows : List Row)
    → known id (env_from β s i rows) ≡ not (eqb (find_from (λ (r : Row). eqb r.kind 12 && eqb r.id id) k rows) 0)
unfolding env_from find_from
known_from β s id i k [] = refl
known_from β s id i k (r ∷ rows) =
    go (is_object r.kind) (is_class r.kind) (eqb r.kind 12) (eqb r.id id) refl (object_not_library r.kind) (known_from β s id (suc i) (k + 1) rows)
  where
    go : (o c l d : Bool) → eqb r.id id ≡ d → (o ≡ true → l ≡ true → ⊥)
        → known id (env_from β s (suc i) rows) ≡ not (eqb (find_from (λ (r : Row). eqb r.kind 12 && eqb r.id id) (k + 1) rows) 0)
        → known id (pick o (pick c (a_class r.id (suc i) (class_slots β s r)) (another r.id) ∷ []) (pick l (a_library r.id ∷ []) []) ++ env_from β s (suc i) rows)
        ≡ not (eqb (pick (l && d) (k + 1) (find_from (λ (r : Row). eqb r.kind 12 && eqb r.id id) (k + 1) rows)) 0)
    go true c true d e n h = absurd (n refl refl)
    go true true false d e n h = h
    go true false false d e n h = h
    go false c true true e n h = rw e (sym (some_row k))
    go false c true false e n h = rw e h
    go false c false d e n h = h

pub known_is : (β s : List ℕ) (id : ℕ) (rows : List Row) → known id (env_of β s rows) ≡ not (eqb (library_row id rows) 0)
unfolding library_row
known_is β s id rows = known_from β s id 0 0 rows

-- every class is an object
class_is_object : (k : ℕ) → is_class k ≡ true → is_object k ≡ false → ⊥
class_is_object k c o = go (eqb k 1) (eqb k 4) (eqb k 5) _ c o
  where
    go : (x y z w : Bool) → (y || z) ≡ true → (x || (y || (z || w))) ≡ false → ⊥
    go true y z w c o = let e : ◌≡◌ {A = ℕ} 0 1 = cc in omega arith
    go false true z w c o = let e : ◌≡◌ {A = ℕ} 0 1 = cc in omega arith
    go false false true w c o = let e : ◌≡◌ {A = ℕ} 0 1 = cc in omega arith
    go false false false w c o = let e : ◌≡◌ {A = ℕ} 0 1 = cc in omega arith

-- the class in a row of a table, given by its number plus 1; 0 for none
abbrev pub class_in : List ℕ → List ℕ → List Row → ℕ → Classed
class_in β s rows row = pick (eqb row 0) unknown (classed row (class_slots β s (get_or rows (row - 1) blank)))

class_from_lem : (β s : List ℕ) (id i : ℕ) (before rows : List Row) → length before ≡ i
    → class_of id (env_from β s i rows) ≡ class_in β s (before ++ rows) (find_from (λ (r : Row). is_class r.kind && eqb r.id id) i rows)
unfolding env_from find_from
class_from_lem β s id i before [] n = refl
class_from_lem β s id i before (r ∷ rows) n =
    go (is_object r.kind) (is_class r.kind) (eqb r.kind 12) (eqb r.id id) refl (class_is_object r.kind)
    (rw (← add-one i, append_assoc before (r ∷ []) rows) at (class_from_lem β s id (suc i) (before ++ (r ∷ [])) rows (simp length-append (omega arith))))
  where
    here : class_in β s (before ++ (r ∷ rows)) (i + 1) ≡ classed (suc i) (class_slots β s r)
    here =
        let z : i + 1 - 1 ≡ i = omega arith in
        rw (ne_eqb (i + 1) 0 (λ e. omega arith), z, get_or_at before r rows blank i n, add-one i)

    go : (o c l d : Bool) → eqb r.id id ≡ d → (c ≡ true → o ≡ false → ⊥)
        → class_of id (env_from β s (i + 1) rows) ≡ class_in β s (before ++ (r ∷ rows)) (find_from (λ (r : Row). is_class r.kind && eqb r.id id) (i + 1) rows)
        → class_of id (pick o (pick c (a_class r.id (suc i) (class_slots β s r)) (another r.id) ∷ []) (pick l (a_library r.id ∷ []) []) ++ env_from β s (suc i) rows)
        ≡ class_in β s (before ++ (r ∷ rows)) (pick (c && d) (i + 1) (find_from (λ (r : Row). is_class r.kind && eqb r.id id) (i + 1) rows))
    go true true l true e n h = rw e (sym here)
    go true true l false e n h = rw (e, ← add-one i) h
    go true false l d e n h = rw (← add-one i) h
    go false true l d e n h = absurd (n refl refl)
    go false false true d e n h = rw (← add-one i) h
    go false false false d e n h = rw (← add-one i) h

pub class_is : (β s : List ℕ) (id : ℕ) (rows : List Row) → class_of id (env_of β s rows) ≡ class_in β s rows (class_row id rows)
unfolding class_row
class_is β s id rows = class_from_lem β s id 0 [] rows refl

module _ (β s : List ℕ) (rows : List Row) where
  pub class_found : (id : ℕ) → eqb (class_row id rows) 0 ≡ false
      → class_of id (env_of β s rows) ≡ classed (class_row id rows) (class_slots β s (get_or rows (class_row id rows - 1) blank))
  class_found id e = class_is β s id rows ∙ rw e

  pub class_told : (id row : ℕ) (types : List SlotType) → class_of id (env_of β s rows) ≡ classed row types
      → (eqb (class_row id rows) 0 ≡ false) × (class_row id rows ≡ row) × (class_slots β s (get_or rows (class_row id rows - 1) blank) ≡ types)
  class_told id row types e = go (eqb (class_row id rows) 0) refl (sym (class_is β s id rows) ∙ e)
    where
      go : (t : Bool) → eqb (class_row id rows) 0 ≡ t
          → pick t unknown (classed (class_row id rows) (class_slots β s (get_or rows (class_row id rows - 1) blank))) ≡ classed row types
          → (eqb (class_row id rows) 0 ≡ false) × (class_row id rows ≡ row) × (class_slots β s (get_or rows (class_row id rows - 1) blank) ≡ types)
      go true t e = absurd (let z : ◌≡◌ {A = ℕ} 0 1 = cc in omega arith)
      go false t e = (t, cc, cc)

-- ---- the tests of a record's numbers are those of the grammar

module _ (β s : List ℕ) (rows : List Row) (i : ℕ) where
  above_zero : eqb i 0 ≡ false → 0 < i
  above_zero e = let z = eqb-false i 0 e in omega arith

  pub class_id : good_class_id rows i ≡ true → i < 4294967296 → ClassId i (env_of β s rows)
  class_id e h =
      let w = both_of (not (eqb i 0)) (eqb (object_row i rows) 0) e in
      record { apart = above_zero (not-true (eqb i 0) w.0); bits = h; fresh = used_is β s i rows ∙ rw w.1 }

  pub class_id_good : ClassId i (env_of β s rows) → good_class_id rows i ≡ true
  class_id_good c = rw (ne_eqb i 0 (λ e. omega (arith, c.apart)), not-false (eqb (object_row i rows) 0) (sym (used_is β s i rows) ∙ c.fresh))

  pub object_id : good_id rows i ≡ true → ObjectId i (env_of β s rows)
  object_id e =
      let w = both_of (positive i) (eqb (object_row i rows) 0) e in
      record { sign = (positive_exactly i).0 w.0; fresh = used_is β s i rows ∙ rw w.1 }

  pub object_id_good : ObjectId i (env_of β s rows) → good_id rows i ≡ true
  object_id_good c = rw ((positive_exactly i).1 c.sign, not-false (eqb (object_row i rows) 0) (sym (used_is β s i rows) ∙ c.fresh))

  pub library_id : positive i ≡ true → eqb (library_row i rows) 0 ≡ false → LibraryId i (env_of β s rows)
  library_id p e = record { sign = (positive_exactly i).0 p; there = known_is β s i rows ∙ rw e }

  pub library_id_good : LibraryId i (env_of β s rows) → eqb (library_row i rows) 0 ≡ false
  library_id_good c = not-true (eqb (library_row i rows) 0) (sym (known_is β s i rows) ∙ c.there)

  -- the LibraryId of a library record is new
  pub library_new : (positive i && eqb (library_row i rows) 0) ≡ true → Positive i × (known i (env_of β s rows) ≡ false)
  library_new e =
      let w = both_of (positive i) (eqb (library_row i rows) 0) e in
      ((positive_exactly i).0 w.0, known_is β s i rows ∙ rw w.1)

  pub library_new_good : Positive i → known i (env_of β s rows) ≡ false → (positive i && eqb (library_row i rows) 0) ≡ true
  library_new_good p e = rw ((positive_exactly i).1 p, not-false (eqb (library_row i rows) 0) (sym (known_is β s i rows) ∙ e))
