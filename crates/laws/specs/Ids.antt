-- The ObjectIds and the IdRefs of the records of a reading are those of its rows (01, The table), so an id of the records is found among the rows,
-- and an id that is found is one of the records.
use Rattle.std.specs.Prelude.{ℕ, ◌+◌, ◌≡◌, refl, Bool, true, false, ◌&&◌, not, List, [], ◌∷◌, ◌++◌, eqb}
use Rattle.std.proofs.Common.{sym, ap, ◌∙◌, arith, eqb-true, eq-eqb, ne_eqb}
use Rattle.std.proofs.lemmas.Bool.{eqb-false, not-true}
use Rattle.format.specs.Terms.{Terms}
use Rattle.format.specs.declared.SlotType.{SlotType}
use Rattle.format.specs.declared.Row.{Row}
use Rattle.format.specs.Bytes.{pick}
use Rattle.format.specs.Rows.{is_object, find_from, object_row}
use Rattle.format.specs.Contents.{Rec}
use Rattle.format.specs.Grammar.{Entry, Cur, cur, row_of, Object, system_class_rule, library_class_rule, class_by_id_rule, Body, hollow, filled, Slots, full, member_value, an_object_rule, a_string_rule, a_typed_primitive, a_reference_rule, a_null_rule, a_run, a_long_run, a_library_rule, Array, of_objects, of_strings, of_primitives, of_any, of_values, Objects, the_end, one_object, one_string, one_array, one_library, id_of, ref_of, ids_of, refs_of, among}
use Rattle.laws.specs.Tests.{or_right}

-- ---- numbers and references

abbrev pub row_ids : List Row → List ℕ
row_ids [] = []
row_ids (r ∷ rows) = pick (is_object r.kind) (r.id ∷ []) [] ++ row_ids rows

abbrev pub row_refs : List Row → List ℕ
row_refs [] = []
row_refs (r ∷ rows) = pick (eqb r.kind 9) (r.id ∷ []) [] ++ row_refs rows

-- rows show the ObjectIds and the IdRefs of records
pub record Shown (rs : List Rec) (rows : List Row) : Type 0 where
  pub ids : ids_of rs ≡ row_ids rows
  pub refs : refs_of rs ≡ row_refs rows

-- one record more
pub shown_more : {rs : List Rec} {rows : List Row} (it : Row) (r : Rec) (kind at id own slot link count : ℕ) → it ≡ row_of kind at r id own slot link count
    → id_of r ≡ pick (is_object kind) (id ∷ []) [] → ref_of r ≡ pick (eqb kind 9) (id ∷ []) [] → Shown rs rows → Shown (r ∷ rs) (it ∷ rows)
shown_more it r kind at id own slot link count e i f w = record { ids = rw (e, i, w.ids); refs = rw (e, f, w.refs) }

pub array_shown : (τ : Terms) {es : List Entry} {k id n : ℕ} {r : Rec} {ts : List SlotType} → Array τ es r k id n ts
    → (id_of r ≡ pick (is_object k) (id ∷ []) []) × (ref_of r ≡ pick (eqb k 9) (id ∷ []) [])
array_shown τ (of_objects a) = (refl, refl)
array_shown τ (of_strings a) = (refl, refl)
array_shown τ (of_primitives a b) = (refl, refl)
array_shown τ (of_any a b c d e) = (refl, refl)
array_shown τ (of_values a b c) = (refl, refl)

-- ---- along a derivation

abbrev ShownIn : Cur → Type 0
ShownIn (cur at row es rs is) = Shown rs is

mutual
  object_shown : (τ : Terms) {room own slot : ℕ} {c c₁ : Cur} → Object τ room own slot c c₁ → ShownIn c₁ → ShownIn c
  object_shown τ (system_class_rule a b q d) k = shown_more _ _ 4 _ _ _ _ _ _ q refl refl (body_shown τ d k)
  object_shown τ (library_class_rule a b l q d) k = shown_more _ _ 5 _ _ _ _ _ _ q refl refl (body_shown τ d k)
  object_shown τ (class_by_id_rule a b f q d) k = shown_more _ _ 1 _ _ _ _ _ _ q refl refl (body_shown τ d k)

  body_shown : (τ : Terms) {room row : ℕ} {ts : List SlotType} {c c₁ : Cur} → Body τ room row ts c c₁ → ShownIn c₁ → ShownIn c
  body_shown τ hollow k = k
  body_shown τ (filled d) k = slots_shown τ d k

  slots_shown : (τ : Terms) {room own slot : ℕ} {ts : List SlotType} {c c₁ : Cur} → Slots τ room own slot ts c c₁ → ShownIn c₁ → ShownIn c
  slots_shown τ full k = k
  slots_shown τ (member_value a q d) k = shown_more _ _ 32 _ _ _ _ _ _ q refl refl (slots_shown τ d k)
  slots_shown τ (an_object_rule t a d) k = object_shown τ a (slots_shown τ d k)
  slots_shown τ (a_string_rule t a b q d) k = shown_more _ _ 6 _ _ _ _ _ _ q refl refl (slots_shown τ d k)
  slots_shown τ (a_typed_primitive t a q d) k = shown_more _ _ 8 _ _ _ _ _ _ q refl refl (slots_shown τ d k)
  slots_shown τ (a_reference_rule t a q d) k = shown_more _ _ 9 _ _ _ _ _ _ q refl refl (slots_shown τ d k)
  slots_shown τ (a_null_rule t q d) k = shown_more _ _ 10 _ _ _ _ _ _ q refl refl (slots_shown τ d k)
  slots_shown τ (a_run t a b e u q d) k = shown_more _ _ 13 _ _ _ _ _ _ q refl refl (slots_shown τ d k)
  slots_shown τ (a_long_run t a b e u q d) k = shown_more _ _ 14 _ _ _ _ _ _ q refl refl (slots_shown τ d k)
  slots_shown τ (a_library_rule t a b n q d) k = shown_more _ _ 12 _ _ _ _ _ _ q refl refl (slots_shown τ d k)

pub objects_shown : (τ : Terms) {c : Cur} → Objects τ c → ShownIn c
objects_shown τ (the_end q) = shown_more _ _ 11 _ _ _ _ _ _ q refl refl (record { ids = refl; refs = refl })
objects_shown τ (one_object a d) = object_shown τ a (objects_shown τ d)
objects_shown τ (one_string a b q d) = shown_more _ _ 6 _ _ _ _ _ _ q refl refl (objects_shown τ d)
objects_shown τ (one_array {kind = kind} a b q d f) =
    let w = array_shown τ b in
    shown_more _ _ kind _ _ _ _ _ _ q w.0 w.1 (body_shown τ d (objects_shown τ f))
objects_shown τ (one_library a b n q d) = shown_more _ _ 12 _ _ _ _ _ _ q refl refl (objects_shown τ d)

-- ---- lookups among the rows against the ids of the records

pub among_right : (i : ℕ) (a b : List ℕ) → among i b ≡ true → among i (a ++ b) ≡ true
among_right i [] b e = e
among_right i (j ∷ a) b e = or_right (eqb i j) (among i (a ++ b)) (among_right i a b e)

-- the rows may be counted from any number
among_from : (id k : ℕ) (rows : List Row) → among id (row_ids rows) ≡ not (eqb (find_from (λ (r : Row). is_object r.kind && eqb r.id id) k rows) 0)
unfolding find_from
among_from id k [] = refl
among_from id k (r ∷ rows) = go (is_object r.kind) (eqb r.id id) refl (among_from id (k + 1) rows)
  where
    turned : (d : Bool) → eqb r.id id ≡ d → eqb id r.id ≡ d
    turned true e = eq-eqb id r.id (sym (eqb-true r.id id e))
    turned false e = ne_eqb id r.id (λ f. eqb-false r.id id e (sym f))

    go : (o d : Bool) → eqb r.id id ≡ d → among id (row_ids rows) ≡ not (eqb (find_from (λ (r : Row). is_object r.kind && eqb r.id id) (k + 1) rows) 0)
        → among id (pick o (r.id ∷ []) [] ++ row_ids rows)
        ≡ not (eqb (pick (o && d) (k + 1) (find_from (λ (r : Row). is_object r.kind && eqb r.id id) (k + 1) rows)) 0)
    go true true e h = rw (turned true e, ne_eqb (k + 1) 0 (λ f. omega arith))
    go true false e h = rw (turned false e) h
    go false d e h = h

among_object : (id : ℕ) (rows : List Row) → among id (row_ids rows) ≡ not (eqb (object_row id rows) 0)
unfolding object_row
among_object id rows = among_from id 0 rows

module _ (rs : List Rec) (rows : List Row) (w : Shown rs rows) where
  pub id_there : (i : ℕ) → among i (ids_of rs) ≡ true → eqb (object_row i rows) 0 ≡ false
  id_there i e = not-true (eqb (object_row i rows) 0) (sym (among_object i rows) ∙ (ap (among i) (sym w.ids) ∙ e))

  pub id_back : (i : ℕ) → eqb (object_row i rows) 0 ≡ false → among i (ids_of rs) ≡ true
  id_back i e = ap (among i) w.ids ∙ (among_object i rows ∙ rw e)
