-- The rows of the machine, before linking, against the rows of the grammar (01, The table): they are the same but for the links of classes and of
-- member values, which linking sets to 0. The numbers and the references of the rows are those of the records.
use Rattle.std.specs.Prelude.{ℕ, suc, ◌+◌, Bool, ◌&&◌, ◌||◌, length, get_or}
use Rattle.std.proofs.Math.Path.{◌≡◌, refl, ap}
use Rattle.std.proofs.Common.{sym, ◌∙◌, arith, eqb-true, eq-eqb, ne_eqb}
use Rattle.std.proofs.Math.Bool.{true, false}
use mathlib.Core.List.{List, [], ◌∷◌, ◌++◌, map}
use Rattle.std.proofs.Math.Dec.{eqb}
use Rattle.format.specs.Terms.{Terms}
use Rattle.format.specs.declared.SlotType.{SlotType}
use Rattle.format.specs.declared.Head.{Head}
use Rattle.format.specs.declared.Row.{Row}
use Rattle.format.specs.Bytes.{pick}
use Rattle.format.specs.Rows.{blank, is_object, is_class, find_from, object_row, with_link, link_of, linked, is_lost}
use Rattle.format.specs.Contents.{Rec}
use Rattle.format.specs.Grammar.{Entry, row_of, ids_of, refs_of, among}
use Rattle.laws.specs.Tests.{or_right}
use Rattle.laws.specs.Ids.{row_ids, row_refs, Shown, id_there, id_back}
use Rattle.places.specs.Recs.{Good, good_kind, Told, told_end, row_with}
use Rattle.places.specs.Tell.{kinds_taken}

-- ---- without the links of classes and of member values

abbrev pub is_loose : ℕ → Bool
is_loose kind = pick (eqb kind 32) true (is_class kind)

abbrev pub bare : Row → Row
bare r = with_link r (pick (is_loose r.kind) 0 r.link)

pub bare_more : (rows : List Row) (r : Row) (is : List Row) → map bare (rows ++ (r ∷ [])) ++ is ≡ map bare rows ++ (bare r ∷ is)
bare_more [] r is = refl
bare_more (x ∷ rows) r is = ap (λ (l : List Row). bare x ∷ l) (bare_more rows r is)

pub first_id : (rows : List Row) (r : Row) (is : List Row) → map bare rows ≡ r ∷ is → (get_or rows 0 blank).id ≡ r.id
first_id [] r is e = absurd (let z : 0 ≡ suc (length is) = ap length e in omega arith)
first_id (x ∷ rows) r is e = let f : bare x ≡ r = cc in ap (λ (y : Row). y.id) f

-- ---- a lookup sees no link

module _ (p : Row → Bool) (keep : (r : Row) (link : ℕ) → p (with_link r link) ≡ p r) where
  pub find_bare : (k : ℕ) (rows : List Row) → find_from p k (map bare rows) ≡ find_from p k rows
  unfolding find_from
  find_bare k [] = refl
  find_bare k (r ∷ rows) = rw (keep r (pick (is_loose r.kind) 0 r.link), find_bare (k + 1) rows)

module _ (id : ℕ) (rows : List Row) where
  pub object_bare : object_row id (map bare rows) ≡ object_row id rows
  unfolding object_row
  object_bare = find_bare (λ (r : Row). is_object r.kind && eqb r.id id) (λ r l. refl) 0 rows

-- ---- linking

-- the links of classes and of member values go
kept : (k link : ℕ) → pick (eqb k 1) (pick (is_loose k) 0 link) 0 ≡ pick (eqb k 1) link 0
kept k link = go (eqb k 1) refl
  where
    go : (t : Bool) → eqb k 1 ≡ t → pick t (pick (is_loose k) 0 link) 0 ≡ pick t link 0
    go true e = rw (eqb-true k 1 e)
    go false e = refl

link_bare : (rows : List Row) (r : Row) → link_of (map bare rows) (bare r) ≡ link_of rows r
unfolding link_of
link_bare rows r = rw (object_bare r.id rows, kept r.kind r.link)

pub linked_bare : (rows : List Row) → linked (map bare rows) ≡ linked rows
unfolding linked
linked_bare rows = go rows
  where
    go : (xs : List Row) → map (λ (r : Row). with_link r (link_of (map bare rows) r)) (map bare xs) ≡ map (λ (r : Row). with_link r (link_of rows r)) xs
    go [] = refl
    go (r ∷ xs) = rw (link_bare rows r, go xs)

-- ---- the row of a record, in the words of the grammar

same_row : {kind offset owner slot e e' id id' link link' count count' : ℕ} → e ≡ e' → id ≡ id' → link ≡ link' → count ≡ count'
    → ◌≡◌ {A = Row} (record { kind = kind; offset = offset; end = e; id = id; owner = owner; slot = slot; link = link; count = count })
    (record { kind = kind; offset = offset; end = e'; id = id'; owner = owner; slot = slot; link = link'; count = count' })
same_row a b c d = cc

pub row_bare : {β s : List ℕ} {k at id count class : ℕ} {h : Head} {r : Rec} {ts : List SlotType} → Told β s k at h r id count class ts → eqb k 32 ≡ false → (owner slot : ℕ)
    → bare (row_with k h at h.end owner slot) ≡ row_of k at r id owner slot class count
row_bare t low owner slot = same_row (told_end t) t.id_is (rw low t.link_is) t.count_is

-- the kind of a good record is not that of a member value's row
pub good_low : (τ : Terms) {es : List Entry} {k id count class : ℕ} {r : Rec} {ts : List SlotType} → Good τ es k r id count class ts → eqb k 32 ≡ false
good_low τ {k = k} g =
    let a = good_kind τ g in
    let b = kinds_taken k a.0 a.1 in
    ne_eqb k 32 (λ e. omega (arith, b.0))

-- ---- numbers and references

pub shown_bare : (rs : List Rec) (rows : List Row) → Shown rs (map bare rows) → Shown rs rows
shown_bare rs rows w = record { ids = w.ids ∙ same_ids rows; refs = w.refs ∙ same_refs rows }
  where
    same_ids : (rows : List Row) → row_ids (map bare rows) ≡ row_ids rows
    same_ids [] = refl
    same_ids (r ∷ rows) = rw (same_ids rows)

    same_refs : (rows : List Row) → row_refs (map bare rows) ≡ row_refs rows
    same_refs [] = refl
    same_refs (r ∷ rows) = rw (same_refs rows)

-- ---- the root and the targets: lookups among the rows against the ids of the records

module _ (rs : List Rec) (rows : List Row) (w : Shown rs rows) where
  none_lost_from : (k : ℕ) (xs : List Row) → ((i : ℕ) → among i (row_refs xs) ≡ true → eqb (object_row i rows) 0 ≡ false) → find_from (is_lost rows) k xs ≡ 0
  unfolding find_from
  none_lost_from k [] f = refl
  none_lost_from k (r ∷ xs) f = go (eqb r.kind 9) f (none_lost_from (k + 1) xs)
    where
      go : (t : Bool) → ((i : ℕ) → among i (pick t (r.id ∷ []) [] ++ row_refs xs) ≡ true → eqb (object_row i rows) 0 ≡ false)
          → (((i : ℕ) → among i (row_refs xs) ≡ true → eqb (object_row i rows) 0 ≡ false) → find_from (is_lost rows) (k + 1) xs ≡ 0)
          → pick (t && eqb (object_row r.id rows) 0) (k + 1) (find_from (is_lost rows) (k + 1) xs) ≡ 0
      go true f h = rw (f r.id (rw (eq-eqb r.id r.id refl))) (h (λ i e. f i (or_right (eqb i r.id) (among i (row_refs xs)) e)))
      go false f h = h f

  pub none_lost : ((i : ℕ) → among i (refs_of rs) ≡ true → among i (ids_of rs) ≡ true) → find_from (is_lost rows) 0 rows ≡ 0
  none_lost f = none_lost_from 0 rows (λ i e. id_there rs rows w i (f i (ap (among i) w.refs ∙ e)))

  lost_back : (k : ℕ) (xs : List Row) → find_from (is_lost rows) k xs ≡ 0 → (i : ℕ) → among i (row_refs xs) ≡ true → eqb (object_row i rows) 0 ≡ false
  unfolding find_from
  lost_back k [] e i m = absurd (let z : ◌≡◌ {A = ℕ} 0 1 = cc in omega arith)
  lost_back k (r ∷ xs) e i m = go (eqb r.kind 9) (eqb (object_row r.id rows) 0) refl e m (lost_back (k + 1) xs)
    where
      go : (t o : Bool) → eqb (object_row r.id rows) 0 ≡ o → pick (t && o) (k + 1) (find_from (is_lost rows) (k + 1) xs) ≡ 0
          → among i (pick t (r.id ∷ []) [] ++ row_refs xs) ≡ true
          → (find_from (is_lost rows) (k + 1) xs ≡ 0 → (j : ℕ) → among j (row_refs xs) ≡ true → eqb (object_row j rows) 0 ≡ false)
          → eqb (object_row i rows) 0 ≡ false
      go true true o e m h = absurd (omega arith)
      go true false o e m h = by_id (eqb i r.id) refl m
        where
          by_id : (t : Bool) → eqb i r.id ≡ t → (t || among i (row_refs xs)) ≡ true → eqb (object_row i rows) 0 ≡ false
          by_id true q m = ap (λ (j : ℕ). eqb (object_row j rows) 0) (eqb-true i r.id q) ∙ o
          by_id false q m = h e i m
      go false o q e m h = h e i m

  pub targets_back : find_from (is_lost rows) 0 rows ≡ 0 → (i : ℕ) → among i (refs_of rs) ≡ true → among i (ids_of rs) ≡ true
  targets_back e i m = id_back rs rows w i (lost_back 0 rows e i (ap (among i) (sym w.refs) ∙ m))
