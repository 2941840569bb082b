-- The rows of the tidy copy's records (01, The table), each from its record, what is known before it and the place where it stands. An object's row is
-- found by the object's order.
use Prim.Native.Nat.{ℕ, zero, suc, ◌+◌}
use Rattle.std.specs.Prelude.{◌≡◌, Bool, length}
use Rattle.std.proofs.Math.Path.{refl, ap}
use Rattle.std.proofs.Common.{◌∙◌}
use Rattle.std.proofs.Math.Bool.{true, false}
use mathlib.Core.List.{List, [], ◌∷◌, ◌++◌}
use native.Mathlib.Omega.{arith}
use Rattle.format.specs.declared.Row.{Row}
use Rattle.format.specs.Bytes.{pick}
use Rattle.format.specs.Rows.{is_object}
use Rattle.format.specs.Contents.{Rec, header, class_by_id, system_class, library_class, string, array, typed_primitive, reference, null, nulls, many_nulls, end, library, primitive_array, object_array, string_array, value}
use Rattle.format.specs.Grammar.{Entry, Classed, classed, unknown, class_of, product, size, row_of}
use Rattle.saying.specs.There.{kind_of}
use Rattle.saying.specs.Shown.{Shown}
use Rattle.saying.specs.Counts.{made_known}

-- ---- one row

-- the id in a record's row
abbrev pub number_of : Rec → ℕ
number_of (header r h) = r
number_of (class_by_id i k) = i
number_of (system_class i n ms) = i
number_of (library_class i n ms l) = i
number_of (string i x) = i
number_of (array i t ns d vs) = i
number_of (typed_primitive c v) = 0
number_of (reference i) = i
number_of null = 0
number_of (nulls k) = 0
number_of (many_nulls k) = 0
number_of end = 0
number_of (library i n) = i
number_of (primitive_array i n c vs) = i
number_of (object_array i n) = i
number_of (string_array i n) = i
number_of (value c v) = 0

abbrev pub class_row_of : Classed → ℕ
class_row_of (classed r ts) = r
class_row_of unknown = 0

abbrev pub class_count_of : Classed → ℕ
class_count_of (classed r ts) = length ts
class_count_of unknown = 0

-- kind 1 is linked to its class before all else is linked
abbrev pub link_for : List Entry → Rec → ℕ
link_for es (header r h) = 0
link_for es (class_by_id i k) = class_row_of (class_of k es)
link_for es (system_class i n ms) = 0
link_for es (library_class i n ms l) = 0
link_for es (string i x) = 0
link_for es (array i t ns d vs) = 0
link_for es (typed_primitive c v) = 0
link_for es (reference i) = 0
link_for es null = 0
link_for es (nulls k) = 0
link_for es (many_nulls k) = 0
link_for es end = 0
link_for es (library i n) = 0
link_for es (primitive_array i n c vs) = 0
link_for es (object_array i n) = 0
link_for es (string_array i n) = 0
link_for es (value c v) = 0

abbrev pub count_for : List Entry → Rec → ℕ
count_for es (header r h) = 0
count_for es (class_by_id i k) = class_count_of (class_of k es)
count_for es (system_class i n ms) = length ms
count_for es (library_class i n ms l) = length ms
count_for es (string i x) = 0
count_for es (array i t ns d vs) = product ns
count_for es (typed_primitive c v) = 0
count_for es (reference i) = 0
count_for es null = 1
count_for es (nulls k) = k
count_for es (many_nulls k) = k
count_for es end = 0
count_for es (library i n) = 0
count_for es (primitive_array i n c vs) = n
count_for es (object_array i n) = n
count_for es (string_array i n) = n
count_for es (value c v) = 0

-- ---- all rows; which: the number of an object's row plus 1, by the object's order

module _ (which : ℕ → ℕ) where
  abbrev pub row_shown : List Entry → ℕ → Rec → ℕ → ℕ → Row
  row_shown es at r o n = row_of (kind_of r) at r (number_of r) (which o) n (link_for es r) (count_for es r)

  -- from this place on, after so many rows and with this known; the end record's row is the last
  unfoldable pub rows_from : ℕ → ℕ → List Entry → List Shown → List Row
  rows_from at row es [] = row_of 11 at end 0 0 0 0 0 ∷ []
  rows_from at row es (x ∷ xs) = row_shown es at x.rec x.owner x.slot ∷ rows_from (at + size x.rec) (suc row) (es ++ made_known (suc row) x.rec) xs

  pub length_rows : (at row : ℕ) (es : List Entry) (xs : List Shown) → length (rows_from at row es xs) ≡ suc (length xs)
  unfolding rows_from
  length_rows at row es [] = refl
  length_rows at row es (x ∷ xs) = ap suc (length_rows (at + size x.rec) (suc row) (es ++ made_known (suc row) x.rec) xs)

-- ---- objects by their order

-- the number plus 1 of the row of the object after k others, after so many rows; 0 if there is none
unfoldable pub object_at : ℕ → List Shown → ℕ → ℕ
object_at row [] k = 0
object_at row (x ∷ xs) zero = pick (is_object (kind_of x.rec)) (suc row) (object_at (suc row) xs zero)
object_at row (x ∷ xs) (suc k) = object_at (suc row) xs (pick (is_object (kind_of x.rec)) k (suc k))

-- by order from 1; no object has order 0
abbrev pub which_of : ℕ → List Shown → ℕ → ℕ
which_of row xs zero = 0
which_of row xs (suc k) = object_at row xs k

-- the objects after count others stand in these rows
abbrev pub Placed : (ℕ → ℕ) → ℕ → ℕ → List Shown → Type 0
Placed which count row xs = (k : ℕ) → which (suc (count + k)) ≡ object_at row xs k

module _ (which : ℕ → ℕ) (count row : ℕ) (x : Shown) (xs : List Shown) (p : Placed which count row (x ∷ xs)) where
  pub placed_here : is_object (kind_of x.rec) ≡ true → which (suc count) ≡ suc row
  unfolding object_at
  placed_here e =
      let z : suc count ≡ suc (count + 0) = omega arith in
      ap which z ∙ (p 0 ∙ ap (λ (b : Bool). pick b (suc row) (object_at (suc row) xs 0)) e)

  pub placed_next : (next : ℕ) → next ≡ count + pick (is_object (kind_of x.rec)) 1 0 → Placed which next (suc row) xs
  unfolding object_at
  placed_next next n k = go (is_object (kind_of x.rec)) n (p zero) (λ j. p (suc j)) k
    where
      go : (b : Bool) → next ≡ count + pick b 1 0 → which (suc (count + 0)) ≡ pick b (suc row) (object_at (suc row) xs zero)
          → ((j : ℕ) → which (suc (count + suc j)) ≡ object_at (suc row) xs (pick b j (suc j))) → (k : ℕ) → which (suc (next + k)) ≡ object_at (suc row) xs k
      go true n a f k = let z : suc (next + k) ≡ suc (count + suc k) = omega arith in ap which z ∙ f k
      go false n a f zero = let z : suc (next + 0) ≡ suc (count + 0) = omega arith in ap which z ∙ a
      go false n a f (suc k) = let z : suc (next + suc k) ≡ suc (count + suc k) = omega arith in ap which z ∙ f k
