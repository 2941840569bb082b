-- What the passes of tidying leave in each row: new numbers of objects, first rows of libraries, places of type bytes, first rows of classes.
-- A pass sets words that its own tests do not look at, so each row gets what the rows before the pass say.
use Prim.Native.Nat.{ℕ, zero, suc, ◌+◌, ◌-◌, ◌≤◌, ◌<◌}
use Rattle.std.specs.Prelude.{◌≡◌, Bool, ◌&&◌, List, [], ◌∷◌, take, set, eqb, leb}
use Rattle.std.proofs.Math.Path.{refl, ap}
use Rattle.std.proofs.Common.{sym, ◌∙◌, true≢false, length-set, get_or-set_same, get_or-set_other, eqb-true, eq-eqb, ne_eqb, leb-true, leb-false}
use Rattle.std.proofs.Math.Bool.{true, false}
use native.Mathlib.Omega.{arith}
use Rattle.std.proofs.Math.ListN.{length, get_or, get_or-eq_default}
use Rattle.std.proofs.Math.Seq.{length-take-le}
use Rattle.std.proofs.lemmas.List.{set-get_or}
use Rattle.std.proofs.lemmas.Bool.{eqb-false}
use Rattle.format.specs.Terms.{Terms}
use Rattle.format.specs.declared.Row.{Row}
use Rattle.format.specs.Bytes.{pick}
use Rattle.format.specs.Rows.{blank, is_object, is_class, find_from, library_row, with_link}
use Rattle.format.specs.Types.{after_text, after_info}
use Rattle.format.specs.Says.{objects_in, order_of, number_from}
use Rattle.laws.specs.Kinds.{class_is_object}
use Rattle.laws.specs.Firsts.{find_alike}
use Rattle.laws.specs.Orders.{order_next}
use Rattle.marks.specs.Marks.{Pass, pass, sweep, word, with_id, with_slot, with_count, number_row, number_one, numbered, placed, firsts, same_name, first_library, place_one, library_at, names_place, same_info, same_members_at, same_own, same_class_row, first_class, first_one}
use Rattle.meaning.specs.Marked.{TypesThere, ValueThere, Placed, Firsts}

-- ---- sweeps

-- what every step keeps, the sweep keeps
pub swept : {S : Type 0} (Inv : ℕ → S → Type 0) (f : ℕ → S → S) (n : ℕ) → ((i : ℕ) (st : S) → i < n → Inv i st → Inv (i + 1) (f i st))
    → (k i : ℕ) (st : S) → i + k ≡ n → Inv i st → Inv n (sweep f k i st)
unfolding sweep
swept Inv f n step zero i st e v = let q : i ≡ n = omega arith in rw q at v
swept Inv f n step (suc k) i st e v = swept Inv f n step k (i + 1) (f i st) (omega arith) (step i st (omega arith) v)

-- the rows before i are new, the others as they were
pub record Half (new : ℕ → Row → Row) (rows : List Row) (i : ℕ) (rs : List Row) : Type 0 where
  pub size : length rs ≡ length rows
  pub done : (j : ℕ) → j < i → j < length rows → get_or rs j blank ≡ new j (get_or rows j blank)
  pub rest : (j : ℕ) → i ≤ j → get_or rs j blank ≡ get_or rows j blank

module _ (new : ℕ → Row → Row) (rows : List Row) where
  half_none : Half new rows 0 rows
  half_none = record { size = refl; done = λ j h l. absurd (omega arith); rest = λ j h. refl }

  half_next : (i : ℕ) (rs : List Row) → i < length rows → Half new rows i rs → Half new rows (i + 1) (set rs i (new i (get_or rows i blank)))
  half_next i rs l v =
      let z = v.size in
      record {
        size = length-set rs i (new i (get_or rows i blank)) ∙ z;
        done = λ j h k. go j h k (eqb j i) refl;
        rest = λ j h. get_or-set_other rs i j (new i (get_or rows i blank)) blank (λ q. omega arith) ∙ v.rest j (omega arith);
      }
    where
      go : (j : ℕ) → j < i + 1 → j < length rows → (b : Bool) → eqb j i ≡ b → get_or (set rs i (new i (get_or rows i blank))) j blank ≡ new j (get_or rows j blank)
      go j h k true q =
          let e = eqb-true j i q in
          let z = v.size in
          rw e (get_or-set_same rs i (new i (get_or rows i blank)) blank (omega arith))
      go j h k false q =
          let n = eqb-false j i q in
          let lt : j < i = omega (arith, n) in
          get_or-set_other rs i j (new i (get_or rows i blank)) blank n ∙ v.done j lt k

  -- a row that the pass leaves
  half_kept : (i : ℕ) (rs : List Row) → Half new rows i rs → set rs i (get_or rows i blank) ≡ rs
  half_kept i rs v = rw (← (v.rest i (omega arith))) (set-get_or rs i blank)

  -- what a new row does not change, no row of a half changes
  module _ (frame : Row → Row) (keeps : (j : ℕ) (r : Row) → frame (new j r) ≡ frame r) where
    pub half_frame : (i : ℕ) (rs : List Row) → Half new rows i rs → (j : ℕ) → frame (get_or rs j blank) ≡ frame (get_or rows j blank)
    half_frame i rs v j = go (leb i j) refl (leb (length rows) j) refl
      where
        go : (a : Bool) → leb i j ≡ a → (b : Bool) → leb (length rows) j ≡ b → frame (get_or rs j blank) ≡ frame (get_or rows j blank)
        go true p b q = ap frame (v.rest j (leb-true i j p))
        go false p true q =
            let h = leb-true (length rows) j q in
            let z = v.size in
            let x : get_or rs j blank ≡ blank = get_or-eq_default rs blank {n = j} (omega arith) in
            let y : get_or rows j blank ≡ blank = get_or-eq_default rows blank {n = j} h in
            ap frame (x ∙ sym y)
        go false p false q = ap frame (v.done j (leb-false i j p) (leb-false (length rows) j q)) ∙ keeps j (get_or rows j blank)

-- ---- kinds

pub object_not_library : (kind : ℕ) → is_object kind ≡ true → eqb kind 12 ≡ false
object_not_library kind h = ne_eqb kind 12 (λ e. true≢false (sym h ∙ ap is_object e))

library_not_object : (kind : ℕ) → kind ≡ 12 → is_object kind ≡ false
library_not_object kind e = ap is_object e

not_object : (kind : ℕ) → is_object kind ≡ false → is_class kind ≡ false
not_object kind h = go (is_class kind) refl
  where
    go : (b : Bool) → is_class kind ≡ b → b ≡ false
    go true e = sym (class_is_object kind e) ∙ h
    go false e = refl

-- ---- objects are numbered

objects_le : (xs : List Row) → objects_in xs ≤ length xs
unfolding objects_in
objects_le [] = omega arith
objects_le (x ∷ xs) = go (is_object x.kind) (objects_le xs)
  where
    go : (b : Bool) → objects_in xs ≤ length xs → pick b 1 0 + objects_in xs ≤ suc (length xs)
    go true h = omega arith
    go false h = omega arith

unfoldable numbered_row : List Row → ℕ → Row → Row
numbered_row rows i r = pick (is_object r.kind) (with_id r (order_of rows (suc i))) r

-- how many objects were met, and the rows that have their numbers
record Numbering (rows : List Row) (i : ℕ) (st : Pass) : Type 0 where
  pub count_is : st.count ≡ order_of rows i
  pub half : Half (numbered_row rows) rows i st.rows

module _ (rows : List Row) (few : length rows < 4294967296) where
  order_small : (i : ℕ) → i < length rows → order_of rows (suc i) < 4294967296
  unfolding order_of
  order_small i h =
      let a = objects_le (take (suc i) rows) in
      let b : length (take (suc i) rows) ≡ suc i = length-take-le (suc i) rows (omega arith) in
      omega arith

  number_row_lem : (i c : ℕ) (rs : List Row) → i < length rows → c ≡ order_of rows i → Half (numbered_row rows) rows i rs
      → Numbering rows (i + 1) (number_row (pass c rs) i (get_or rows i blank))
  unfolding numbered_row
  number_row_lem i c rs l e v = go (is_object (get_or rows i blank).kind) refl (order_next rows i l) (half_next (numbered_row rows) rows i rs l v)
    where
      go : (b : Bool) → is_object (get_or rows i blank).kind ≡ b → order_of rows (suc i) ≡ order_of rows i + pick b 1 0
          → Half (numbered_row rows) rows (i + 1) (set rs i (pick b (with_id (get_or rows i blank) (order_of rows (suc i))) (get_or rows i blank)))
          → Numbering rows (i + 1) (pick b (pass (word (c + 1)) (set rs i (with_id (get_or rows i blank) (word (c + 1))))) (pass c rs))
      go true q o w =
          let s = order_small i l in
          let k : word (c + 1) ≡ order_of rows (suc i) = omega arith in
          let t : order_of rows (suc i) ≡ order_of rows (i + 1) = ap (order_of rows) (omega arith) in
          rw k (record { count_is = t; half = w })
      go false q o w =
          let t : order_of rows (suc i) ≡ order_of rows (i + 1) = ap (order_of rows) (omega arith) in
          let k : c ≡ order_of rows (i + 1) = omega arith in
          record { count_is = k; half = rw (half_kept (numbered_row rows) rows i rs v) at w }

  number_step : (i : ℕ) (st : Pass) → i < length rows → Numbering rows i st → Numbering rows (i + 1) (number_one i st)
  unfolding number_one
  number_step i st l v =
      let w = number_row_lem i st.count st.rows l v.count_is v.half in
      rw (v.half.rest i (omega arith)) w

  numbering : Half (numbered_row rows) rows (length rows) (numbered rows)
  unfolding numbered order_of objects_in
  numbering =
      (swept (Numbering rows) number_one (length rows) number_step (length rows) 0 (pass 0 rows) (omega arith)
      (record { count_is = refl; half = half_none (numbered_row rows) rows })).half

-- ---- libraries' first rows, and types' places

unfoldable placed_row : List ℕ → List Row → ℕ → Row → Row
placed_row s rows i r =
    pick (eqb r.kind 12) (with_count r (first_library s rows r)) (pick (is_class r.kind) (with_slot r r.link) r)

-- what neither numbering nor placing changes
abbrev unmarked : Row → Row
unmarked r = record { kind = r.kind; offset = r.offset; end = r.end; id = 0; owner = r.owner; slot = 0; link = r.link; count = 0 }

numbered_unmarked : (rows : List Row) (j : ℕ) (r : Row) → unmarked (numbered_row rows j r) ≡ unmarked r
unfolding numbered_row
numbered_unmarked rows j r = go (is_object r.kind)
  where
    go : (b : Bool) → unmarked (pick b (with_id r (order_of rows (suc j))) r) ≡ unmarked r
    go true = refl
    go false = refl

placed_unmarked : (s : List ℕ) (rows : List Row) (j : ℕ) (r : Row) → unmarked (placed_row s rows j r) ≡ unmarked r
unfolding placed_row
placed_unmarked s rows j r = go (eqb r.kind 12) (is_class r.kind)
  where
    go : (a b : Bool) → unmarked (pick a (with_count r (first_library s rows r)) (pick b (with_slot r r.link) r)) ≡ unmarked r
    go true b = refl
    go false true = refl
    go false false = refl

-- a library's first row is found by its name
library_alike : (s : List ℕ) (rs rows : List Row) (r : Row) → length rs ≡ length rows → ((j : ℕ) → unmarked (get_or rs j blank) ≡ unmarked (get_or rows j blank))
    → first_library s rs r ≡ first_library s rows r
unfolding first_library same_name
library_alike s rs rows r l f = find_alike (same_name s r) (same_name s r) 0 rs rows l (λ j h. ap (same_name s r) (f j))

module _ (s : List ℕ) (rows : List Row) where
  place_step : (i : ℕ) (rs : List Row) → i < length rows → Half (placed_row s rows) rows i rs → Half (placed_row s rows) rows (i + 1) (place_one s i rs)
  unfolding place_one placed_row
  place_step i rs l v =
      rw (v.rest i (omega arith), library_alike s rs rows (get_or rows i blank) v.size (half_frame (placed_row s rows) rows unmarked (placed_unmarked s rows) i rs v))
      (go (eqb (get_or rows i blank).kind 12) (is_class (get_or rows i blank).kind) (half_next (placed_row s rows) rows i rs l v))
    where
      r : Row
      r = get_or rows i blank

      go : (a b : Bool) → Half (placed_row s rows) rows (i + 1) (set rs i (pick a (with_count r (first_library s rows r)) (pick b (with_slot r r.link) r)))
          → Half (placed_row s rows) rows (i + 1) (pick a (set rs i (with_count r (first_library s rows r))) (pick b (set rs i (with_slot r r.link)) rs))
      go true b h = h
      go false true h = h
      go false false h =
          rw (half_kept (placed_row s rows) rows i rs v) at h

  placing : Half (placed_row s rows) rows (length rows) (placed s rows)
  unfolding placed
  placing = swept (Half (placed_row s rows) rows) (place_one s) (length rows) place_step (length rows) 0 rows (omega arith) (half_none (placed_row s rows) rows)

-- ---- both, row by row

module _ (rows : List Row) (i : ℕ) (r : Row) where
  numbered_object : is_object r.kind ≡ true → numbered_row rows i r ≡ with_id r (order_of rows (suc i))
  unfolding numbered_row
  numbered_object e = rw e

  numbered_other : is_object r.kind ≡ false → numbered_row rows i r ≡ r
  unfolding numbered_row
  numbered_other e = rw e

module _ (s : List ℕ) (rows : List Row) (i : ℕ) (r : Row) where
  placed_library : eqb r.kind 12 ≡ true → placed_row s rows i r ≡ with_count r (first_library s rows r)
  unfolding placed_row
  placed_library e = rw e

  placed_class : eqb r.kind 12 ≡ false → is_class r.kind ≡ true → placed_row s rows i r ≡ with_slot r r.link
  unfolding placed_row
  placed_class e f = rw (e, f)

  placed_other : eqb r.kind 12 ≡ false → is_class r.kind ≡ false → placed_row s rows i r ≡ r
  unfolding placed_row
  placed_other e f = rw (e, f)

pub placed_rows : (τ : Terms) (s : List ℕ) (rows : List Row) → length rows < 4294967296
    → ((i : ℕ) → i < length rows → is_class (get_or rows i blank).kind ≡ true → TypesThere τ s (get_or rows i blank))
    → ((i : ℕ) → i < length rows → (get_or rows i blank).kind ≡ 32 → ValueThere τ s rows (get_or rows i blank)) → Placed τ s rows (placed s (numbered rows))
placed_rows τ s rows few types values =
    record {
      size = P.size ∙ N.size;
      class = λ i l c.
          let o = class_is_object (get_or rows i blank).kind c in
          at i l
          ∙ (ap (placed_row s ns i) (numbered_object rows i (get_or rows i blank) o)
          ∙ placed_class s ns i (with_id (get_or rows i blank) (order_of rows (suc i))) (object_not_library (get_or rows i blank).kind o) c);
      types = types;
      values = values;
      library = λ i l k.
          at i l
          ∙ (ap (placed_row s ns i) (numbered_other rows i (get_or rows i blank) (library_not_object (get_or rows i blank).kind k))
          ∙ (placed_library s ns i (get_or rows i blank) (eq-eqb (get_or rows i blank).kind 12 k)
          ∙ ap (with_count (get_or rows i blank)) (library_alike s ns rows (get_or rows i blank) N.size (half_frame (numbered_row rows) rows unmarked (numbered_unmarked rows) (length rows) ns N))));
      object = λ i l o c.
          at i l
          ∙ (ap (placed_row s ns i) (numbered_object rows i (get_or rows i blank) o)
          ∙ placed_other s ns i (with_id (get_or rows i blank) (order_of rows (suc i))) (object_not_library (get_or rows i blank).kind o) c);
      other = λ i l o k.
          at i l
          ∙ (ap (placed_row s ns i) (numbered_other rows i (get_or rows i blank) o)
          ∙ placed_other s ns i (get_or rows i blank) k (not_object (get_or rows i blank).kind o));
    }
  where
    ns : List Row
    ns = numbered rows

    N : Half (numbered_row rows) rows (length rows) ns
    N = numbering rows few

    P : Half (placed_row s ns) ns (length ns) (placed s ns)
    P = placing s ns

    at : (i : ℕ) → i < length rows → get_or (placed s ns) i blank ≡ placed_row s ns i (numbered_row rows i (get_or rows i blank))
    at i l =
        let z : length ns ≡ length rows = N.size in
        let m : i < length ns = omega arith in
        P.done i m m ∙ ap (placed_row s ns i) (N.done i l l)

-- ---- first rows of classes

unfoldable firsted_row : List ℕ → List Row → ℕ → Row → Row
firsted_row s rows i r = pick (is_class r.kind) (with_link r (first_class s rows r)) r

-- what the pass does not change
abbrev unlinked : Row → Row
unlinked r = with_link r 0

firsted_unlinked : (s : List ℕ) (rows : List Row) (j : ℕ) (r : Row) → unlinked (firsted_row s rows j r) ≡ unlinked r
unfolding firsted_row
firsted_unlinked s rows j r = go (is_class r.kind)
  where
    go : (b : Bool) → unlinked (pick b (with_link r (first_class s rows r)) r) ≡ unlinked r
    go true = refl
    go false = refl

-- rows in which every place names the same library
module _ (s : List ℕ) (rs rows : List Row) (f : (p : ℕ) → library_at s rs p ≡ library_at s rows p) where
  info_alike : (type a x b y : ℕ) → same_info s rs type a x b y ≡ same_info s rows type a x b y
  unfolding same_info
  info_alike type a x b y = rw (f (x - 4), f (y - 4))

  members_alike : (n a t p b u q : ℕ) → same_members_at s rs n a t p b u q ≡ same_members_at s rows n a t p b u q
  unfolding same_members_at
  members_alike zero a t p b u q = refl
  members_alike (suc n) a t p b u q =
      let x = after_info s (get_or s t 0) p in
      let y = after_info s (get_or s t 0) q in
      rw (info_alike (get_or s t 0) p x q y, members_alike n (after_text s a) (t + 1) x (after_text s b) (u + 1) y)

  own_alike : (a b : Row) → same_own s rs a b ≡ same_own s rows a b
  unfolding same_own
  own_alike a b = rw (f (a.end - 4), f (b.end - 4))

  class_alike : (a b : Row) → same_class_row s rs a b ≡ same_class_row s rows a b
  unfolding same_class_row
  class_alike a b =
      rw (members_alike a.count (names_place s a) a.slot (a.slot + a.count) (names_place s b) b.slot (b.slot + b.count), own_alike a b)

-- what the library at a place is found by: kind and number, and its first row, which stands in the count
abbrev pub looked : Row → Row
looked r = record { kind = r.kind; offset = 0; end = 0; id = r.id; owner = 0; slot = 0; link = 0; count = r.count }

abbrev is_numbered : ℕ → Row → Bool
is_numbered id r = eqb r.kind 12 && eqb r.id id

pub at_alike : (s : List ℕ) (rs rows : List Row) → length rs ≡ length rows → ((j : ℕ) → looked (get_or rs j blank) ≡ looked (get_or rows j blank))
    → (p : ℕ) → library_at s rs p ≡ library_at s rows p
unfolding library_at library_row
at_alike s rs rows l f p =
    let id : ℕ = number_from s p in
    let e : find_from (is_numbered id) 0 rs ≡ find_from (is_numbered id) 0 rows =
    find_alike (is_numbered id) (is_numbered id) 0 rs rows l (λ j h. ap (is_numbered id) (f j)) in
    ap (λ (x : ℕ). (get_or rs (x - 1) blank).count) e ∙ ap (λ (r : Row). r.count) (f (find_from (is_numbered id) 0 rows - 1))

unlinked_alike : (s : List ℕ) (rows : List Row) (a b c : Row) → unlinked b ≡ unlinked c → same_class_row s rows a b ≡ same_class_row s rows a c
unfolding same_class_row same_own
unlinked_alike s rows a b c e = ap (same_class_row s rows a) e

module _ (s : List ℕ) (rows : List Row) where
  first_alike : (rs : List Row) (r : Row) → length rs ≡ length rows → ((j : ℕ) → unlinked (get_or rs j blank) ≡ unlinked (get_or rows j blank))
      → first_class s rs r ≡ first_class s rows r
  unfolding first_class
  first_alike rs r l f =
      let a = at_alike s rs rows l (λ j. ap looked (f j)) in
      find_alike (same_class_row s rs r) (same_class_row s rows r) 0 rs rows l
      (λ j h. class_alike s rs rows a r (get_or rs j blank) ∙ unlinked_alike s rows r (get_or rs j blank) (get_or rows j blank) (f j))

  first_step : (i : ℕ) (rs : List Row) → i < length rows → Half (firsted_row s rows) rows i rs → Half (firsted_row s rows) rows (i + 1) (first_one s i rs)
  unfolding first_one firsted_row
  first_step i rs l v =
      rw (v.rest i (omega arith), first_alike rs (get_or rows i blank) v.size (half_frame (firsted_row s rows) rows unlinked (firsted_unlinked s rows) i rs v))
      (go (is_class (get_or rows i blank).kind) (half_next (firsted_row s rows) rows i rs l v))
    where
      r : Row
      r = get_or rows i blank

      go : (b : Bool) → Half (firsted_row s rows) rows (i + 1) (set rs i (pick b (with_link r (first_class s rows r)) r))
          → Half (firsted_row s rows) rows (i + 1) (pick b (set rs i (with_link r (first_class s rows r))) rs)
      go true h = h
      go false h =
          rw (half_kept (firsted_row s rows) rows i rs v) at h

  firsting : Half (firsted_row s rows) rows (length rows) (firsts s rows)
  unfolding firsts
  firsting = swept (Half (firsted_row s rows) rows) (first_one s) (length rows) first_step (length rows) 0 rows (omega arith) (half_none (firsted_row s rows) rows)

pub firsts_rows : (s : List ℕ) (rows ps : List Row) → Firsts s rows ps (firsts s ps)
unfolding firsted_row
firsts_rows s rows ps =
    let v = firsting s ps in
    record {
      size = v.size;
      class = λ i l c. v.done i l l ∙ rw c;
      other = λ i l c. v.done i l l ∙ rw c;
    }
