-- The pass that puts in the links, in place: a lookup does not see a link, so rows that have theirs do not disturb it.
use Rattle.std.specs.Prelude.{◌≡◌, Bool, ◌&&◌, ◌||◌, ℕ, zero, suc, ◌+◌, ◌-◌, ◌≤◌, ◌<◌, length, get_or, take}
use Rattle.std.proofs.Math.Path.{refl}
use Rattle.std.proofs.Common.{sym, ap, ◌∙◌, arith, add-one, take-append-drop, take-suc, drop-cons, length-take-le}
use mathlib.Core.List.{List, [], ◌∷◌, ◌++◌, append-nil, append_assoc, map, map-append}
use Rattle.std.proofs.Math.Bool.{true, false}
use borrow.Author.Tests.{ne_eqb, eqb-true}
use Rattle.std.proofs.Math.Dec.{eqb}
use Rattle.std.proofs.Math.ListN.{drop, set}
use Rattle.std.proofs.lemmas.List.{length-map, set-get_or, set_at, get_or_at}
use Rattle.std.proofs.Math.Seq.{take-length, drop-length}
use Rattle.format.specs.declared.Row.{Row}
use Rattle.format.specs.Bytes.{pick}
use Rattle.format.specs.Rows.{blank, rows_of, is_object, find_from, object_row, with_link, link_of, linked, bound_link, bound, is_lost}
use Rattle.table.specs.Rows.{length_rows_of}
use Rattle.lookups.specs.Find.{named, Scan, scan_end, scan_hit, scan_miss}

-- ---- one row

-- the link that a row gets: with keep all rows but references and the header keep theirs
unfoldable pub link_by : Bool → List Row → Row → ℕ
link_by keep rows r = pick keep (bound_link rows r) (link_of rows r)

-- a row that has its link before the pass: no reference and not the header; a kind 1, or any other row where links are kept or its link is 0
unfoldable pub has_link : Bool → Row → Bool
has_link keep r = pick (eqb r.kind 9 || eqb r.kind 0) false (pick (eqb r.kind 1) true (pick keep true (eqb r.link 0)))

never : {X : Type 0} → false ≡ true → X
never e = absurd (let z : ◌≡◌ {A = ℕ} 0 1 = ap (λ (b : Bool). pick b 1 0) e in omega arith)

module _ (keep : Bool) (r : Row) where
  pub has_not : r.kind ≡ 9 → false ≡ has_link keep r
  unfolding has_link
  has_not k = rw k

  pub has_none : r.kind ≡ 0 → false ≡ has_link keep r
  unfolding has_link
  has_none k = rw k

  pub has_class : r.kind ≡ 1 → true ≡ has_link keep r
  unfolding has_link
  has_class k = rw k

  pub has_kept : (r.kind ≡ 9 → ⊥) → (r.kind ≡ 0 → ⊥) → (r.kind ≡ 1 → ⊥) → keep ≡ true → true ≡ has_link keep r
  unfolding has_link
  has_kept a b c k = rw (ne_eqb r.kind 9 a, ne_eqb r.kind 0 b, ne_eqb r.kind 1 c, k)

  pub has_zero : (r.kind ≡ 9 → ⊥) → (r.kind ≡ 0 → ⊥) → (r.kind ≡ 1 → ⊥) → keep ≡ false → eqb r.link 0 ≡ has_link keep r
  unfolding has_link
  has_zero a b c k = rw (ne_eqb r.kind 9 a, ne_eqb r.kind 0 b, ne_eqb r.kind 1 c, k)

  has_own : (rows : List Row) → has_link keep r ≡ true → r.link ≡ link_by keep rows r
  unfolding has_link link_by link_of bound_link
  has_own rows = go (eqb r.kind 9 || eqb r.kind 0) (eqb r.kind 1) keep
    where
      go : (a b k : Bool) → pick a false (pick b true (pick k true (eqb r.link 0))) ≡ true
          → r.link ≡ pick k (pick a (object_row r.id rows) r.link) (pick a (object_row r.id rows) (pick b r.link 0))
      go true b k e = never e
      go false true true e = refl
      go false true false e = refl
      go false false true e = refl
      go false false false e = eqb-true _ _ e

  -- any other row gets the link that it has when nothing is kept
  has_other : (rows : List Row) → has_link keep r ≡ false → link_of rows r ≡ link_by keep rows r
  unfolding has_link link_by link_of bound_link
  has_other rows = go (eqb r.kind 9 || eqb r.kind 0) (eqb r.kind 1) keep
    where
      go : (a b k : Bool) → pick a false (pick b true (pick k true (eqb r.link 0))) ≡ false
          → pick a (object_row r.id rows) (pick b r.link 0)
          ≡ pick k (pick a (object_row r.id rows) r.link) (pick a (object_row r.id rows) (pick b r.link 0))
      go true b true e = refl
      go true b false e = refl
      go false true k e = never (sym e)
      go false false true e = never (sym e)
      go false false false e = refl

  has_found : (rows : List Row) → has_link keep r ≡ true → is_lost rows r ≡ false
  unfolding has_link
  has_found rows = go (eqb r.kind 9) (eqb r.kind 0)
    where
      go : (a b : Bool) → pick (a || b) false (pick (eqb r.kind 1) true (pick keep true (eqb r.link 0))) ≡ true
          → (a && eqb (object_row r.id rows) 0) ≡ false
      go true b e = never e
      go false b e = refl

-- a row of this kind and link is a reference with no target
unfoldable pub lost_by : ℕ → ℕ → Bool
lost_by kind link = eqb kind 9 && eqb link 0

pub lost_not : (kind link : ℕ) → (kind ≡ 9 → ⊥) → false ≡ lost_by kind link
unfolding lost_by
lost_not kind link k = rw (ne_eqb kind 9 k)

pub lost_by_lem : (kind link : ℕ) → kind ≡ 9 → eqb link 0 ≡ lost_by kind link
unfolding lost_by
lost_by_lem kind link k = rw k

module _ (rows : List Row) (r row : Row) (e : r ≡ row) where
  pub lost_if : (f : ℕ) → r.kind ≡ 9 → f ≡ object_row r.id rows → eqb f 0 ≡ is_lost rows row
  lost_if f k q = rw (← e, k, q)

  pub link_reference : (f : ℕ) → r.kind ≡ 9 → f ≡ object_row r.id rows → f ≡ link_of rows row
  unfolding link_of
  link_reference f k q = rw (← e, k, q)

  pub link_root : (f : ℕ) → r.kind ≡ 0 → f ≡ object_row r.id rows → f ≡ link_of rows row
  unfolding link_of
  link_root f k q = rw (← e, k, q)

  pub link_kept : r.kind ≡ 1 → r.link ≡ link_of rows row
  unfolding link_of
  link_kept k = rw (← e, k)

  pub link_none : (r.kind ≡ 9 → ⊥) → (r.kind ≡ 0 → ⊥) → (r.kind ≡ 1 → ⊥) → 0 ≡ link_of rows row
  unfolding link_of
  link_none a b c = rw (← e, ne_eqb r.kind 9 a, ne_eqb r.kind 0 b, ne_eqb r.kind 1 c)

-- ---- the pass

abbrev with_own : Bool → List Row → Row → Row
with_own keep rows r = with_link r (link_by keep rows r)

-- the rows before i have their links
unfoldable pub half : Bool → ℕ → List Row → List Row
half keep i rows = map (with_own keep rows) (take i rows) ++ drop i rows

pub half_none : (keep : Bool) (rows : List Row) → rows ≡ half keep 0 rows
unfolding half
half_none keep rows = refl

half_all : (keep : Bool) (rows : List Row) → half keep (length rows) rows ≡ pick keep (bound rows) (linked rows)
unfolding half linked bound link_by
half_all true rows = rw (take-length, drop-length, append-nil)
half_all false rows = rw (take-length, drop-length, append-nil)

find_map : (keep : Bool) (id k : ℕ) (rows xs ys : List Row)
    → find_from (named is_object id) k (map (with_own keep rows) xs ++ ys) ≡ find_from (named is_object id) k (xs ++ ys)
unfolding find_from named
find_map keep id k rows [] ys = refl
find_map keep id k rows (r ∷ xs) ys = rw (find_map keep id (k + 1) rows xs ys)

object_half : (keep : Bool) (id i : ℕ) (rows : List Row) → object_row id (half keep i rows) ≡ object_row id rows
unfolding object_row half named
object_half keep id i rows = find_map keep id 0 rows (take i rows) (drop i rows) ∙ rw take-append-drop

-- the links that the pass puts in change no lookup
pub object_linked : (id : ℕ) (rows : List Row) → object_row id (linked rows) ≡ object_row id rows
object_linked id rows = rw (← half_all false rows) (object_half false id (length rows) rows)

pub object_bound : (id : ℕ) (rows : List Row) → object_row id (bound rows) ≡ object_row id rows
object_bound id rows = rw (← half_all true rows) (object_half true id (length rows) rows)

link_half : (keep : Bool) (i : ℕ) (rows : List Row) (r : Row) → link_by keep (half keep i rows) r ≡ link_by keep rows r
unfolding link_by link_of bound_link
link_half keep i rows r = rw (object_half keep r.id i rows)

module _ (keep : Bool) (rows : List Row) (i : ℕ) (h : i < length rows) where
  front : length (map (with_own keep rows) (take i rows)) ≡ i
  front = length-map (take i rows) (with_own keep rows) ∙ length-take-le i rows (omega arith)

  half_split : half keep i rows ≡ map (with_own keep rows) (take i rows) ++ get_or rows i blank ∷ drop (suc i) rows
  unfolding half
  half_split = rw (drop-cons rows i blank h)

  half_at : get_or (half keep i rows) i blank ≡ get_or rows i blank
  half_at = rw half_split (get_or_at (map (with_own keep rows) (take i rows)) (get_or rows i blank) (drop (suc i) rows) blank i front)

  half_next : half keep (i + 1) rows ≡ set (half keep i rows) i (with_own keep rows (get_or rows i blank))
  unfolding half
  half_next =
      let e : half keep (suc i) rows ≡ map (with_own keep rows) (take i rows) ++ with_own keep rows (get_or rows i blank) ∷ drop (suc i) rows =
      rw (take-suc rows i blank h, map-append, append_assoc) in
      let q : set (half keep i rows) i (with_own keep rows (get_or rows i blank)) ≡ map (with_own keep rows) (take i rows) ++ with_own keep rows (get_or rows i blank) ∷ drop (suc i) rows =
      rw half_split (set_at (map (with_own keep rows) (take i rows)) (get_or rows i blank) (drop (suc i) rows) (with_own keep rows (get_or rows i blank)) i front) in
      rw (add-one, q) e

-- row i of xs is r, and the rows before it have their links
module _ (keep : Bool) (n i : ℕ) (t : List ℕ) (xs : List Row) (r : Row) (h : i < n) (e : xs ≡ half keep i (rows_of n t)) (x : r ≡ get_or xs i blank) where
  pub this_row : r ≡ get_or (rows_of n t) i blank
  this_row =
      let l : length (rows_of n t) ≡ n = length_rows_of n t in
      x ∙ rw e (half_at keep (rows_of n t) i (omega arith))

  -- the row gets its link
  linked_step : (v : ℕ) → v ≡ link_by keep xs r → (ys : List Row) → ys ≡ set xs i (with_link (get_or xs i blank) v) → ys ≡ half keep (i + 1) (rows_of n t)
  linked_step v f ys g =
      let l : length (rows_of n t) ≡ n = length_rows_of n t in
      let a : get_or xs i blank ≡ get_or (rows_of n t) i blank = sym x ∙ this_row in
      let o : v ≡ link_by keep (rows_of n t) r = f ∙ rw e (link_half keep i (rows_of n t) r) in
      let q : v ≡ link_by keep (rows_of n t) (get_or (rows_of n t) i blank) = rw this_row at o in
      g ∙ rw (a, q, e) (sym (half_next keep (rows_of n t) i (omega arith)))

  -- a row that has its link already
  module _ (k : has_link keep r ≡ true) where
    pub half_there : xs ≡ half keep (i + 1) (rows_of n t)
    half_there =
        let a : with_link (get_or xs i blank) r.link ≡ get_or xs i blank = rw (← x) in
        linked_step r.link (has_own keep r xs k) xs (rw a (sym (set-get_or xs i blank)))

    pub there_found : Scan (is_lost (rows_of n t)) n t i → Scan (is_lost (rows_of n t)) n t (i + 1)
    there_found v =
        scan_miss (is_lost (rows_of n t)) n t i v h r this_row (is_lost (rows_of n t) r) refl (has_found keep r (rows_of n t) k)

  -- a row that gets its link v
  module _ (v : ℕ) (f : v ≡ link_of xs r) where
    pub lost_told : lost_by r.kind v ≡ is_lost (rows_of n t) r
    unfolding link_of lost_by
    lost_told = rw (f, e, object_half keep r.id i (rows_of n t)) (go (eqb r.kind 9) (eqb r.kind 0))
      where
        go : (a b : Bool) → (a && eqb (pick (a || b) (object_row r.id (rows_of n t)) (pick (eqb r.kind 1) r.link 0)) 0) ≡ (a && eqb (object_row r.id (rows_of n t)) 0)
        go true b = refl
        go false b = refl

    pub half_step : has_link keep r ≡ false → (ys : List Row) → ys ≡ set xs i (with_link (get_or xs i blank) v) → ys ≡ half keep (i + 1) (rows_of n t)
    half_step k ys g = linked_step v (f ∙ has_other keep r xs k) ys g

-- what the pass leaves and answers: all rows with their links and 0, or the number of the first lost reference's row plus 1
pub record Linking (keep : Bool) (rows after : List Row) (q : ℕ) : Type 0 where
  pub first : q ≡ find_from (is_lost rows) 0 rows
  pub all : q ≡ 0 → after ≡ pick keep (bound rows) (linked rows)
  pub there : (q ≡ 0 → ⊥) → get_or after (q - 1) blank ≡ get_or rows (q - 1) blank

module _ (keep : Bool) (n : ℕ) (t : List ℕ) (xs : List Row) (i : ℕ) (e : xs ≡ half keep i (rows_of n t)) (k : Scan (is_lost (rows_of n t)) n t i) where
  pub all_linked : n ≤ i → Linking keep (rows_of n t) xs 0
  all_linked h =
      let l : i ≡ length (rows_of n t) = omega (arith, length_rows_of n t, k.0) in
      record {
        first = scan_end (is_lost (rows_of n t)) n t i k h;
        all = λ z. e ∙ rw l (half_all keep (rows_of n t));
        there = λ z. absurd (z refl);
      }

  pub one_lost : (q : Bool) (r : Row) → i < n → r ≡ get_or (rows_of n t) i blank → q ≡ is_lost (rows_of n t) r → q ≡ true → Linking keep (rows_of n t) xs (i + 1)
  one_lost q r h x y z =
      let l = length_rows_of n t in
      let o : i + 1 - 1 ≡ i = omega arith in
      record {
        first = scan_hit (is_lost (rows_of n t)) n t i k h r x q y z;
        all = λ w. absurd (omega arith);
        there = λ w. rw (o, e) (half_at keep (rows_of n t) i (omega arith));
      }

-- ---- the rows with their links

get_d_map_in : (f : Row → Row) (rows : List Row) (i : ℕ) → i < length rows → get_or (map f rows) i blank ≡ f (get_or rows i blank)
get_d_map_in f [] i h = absurd (omega arith)
get_d_map_in f (r ∷ rows) zero h = refl
get_d_map_in f (r ∷ rows) (suc i) h = get_d_map_in f rows i (omega arith)

pub length_linked : (rows : List Row) → length (linked rows) ≡ length rows
unfolding linked
length_linked rows = length-map rows (λ (r : Row). with_link r (link_of rows r))

pub linked_at : (rows : List Row) (i : ℕ) → i < length rows → get_or (linked rows) i blank ≡ with_link (get_or rows i blank) (link_of rows (get_or rows i blank))
unfolding linked
linked_at rows i h = get_d_map_in (λ (r : Row). with_link r (link_of rows r)) rows i h

pub length_bound : (rows : List Row) → length (bound rows) ≡ length rows
unfolding bound
length_bound rows = length-map rows (λ (r : Row). with_link r (bound_link rows r))

pub bound_at : (rows : List Row) (i : ℕ) → i < length rows → get_or (bound rows) i blank ≡ with_link (get_or rows i blank) (bound_link rows (get_or rows i blank))
unfolding bound
bound_at rows i h = get_d_map_in (λ (r : Row). with_link r (bound_link rows r)) rows i h
