-- The array type of kind 7 is not lost: two streams that differ in it alone both have readings with any good book, no right meaning takes them for one, and no job that
-- meets demand 3 has one copy of both.
use Rattle.std.specs.Prelude.{ℕ, ◌+◌, ◌≤◌, ◌<◌, ◌≡◌, refl, true, List, [], ◌∷◌, ◌++◌, length}
use Rattle.std.proofs.Common.{sym, ◌∙◌, arith}
use Rattle.format.specs.Terms.{Terms, strict}
use Rattle.format.specs.declared.Row.{Row}
use Rattle.format.specs.Numbers.{le_bytes}
use Rattle.format.specs.Rows.{linked}
use Rattle.format.specs.Contents.{Class, text, Rec, header, array, end, enc, encs}
use Rattle.format.specs.Grammar.{Book, Ranked, single, jagged, product, no_length, length_of_rule, cur, size, row_of, of_any, hollow, Objects, the_end, one_array, ids_of, refs_of, among, Reading}
use Rattle.format.specs.Says.{what_from, spread, nodes_of, nodes_from, Model, says, SayTheSame}
use Rattle.format.specs.Meant.{found, libraries_of, classes_of, order_after, name_by, class_by, order_by, walk, meant, meant_by}
use Rattle.format.specs.Tidy.{number_in, entered, all_entered, library_records, records_of, after_what, pack, run_of, written, waiting, squeeze, tidy_records, tidy_of}
use Rattle.format.proofs.Meanings.{array_type_told}
use Rattle.laws.specs.Links.{linked_links}
use Rattle.demands.specs.Books.{no_book}
use Rattle.demands.specs.Exactly.{same_meant}
use Rattle.demands.specs.Examples.{bytes, bytes_are}
use Rattle.demands.specs.Jobs.{Copier, Within, Demand3}

-- an array of no strings
abbrev empty_of : ℕ → Rec
empty_of type = array 8 type (0 ∷ []) text []

abbrev stream_of : ℕ → List ℕ
stream_of type = enc (header 8 8) ++ encs (empty_of type ∷ end ∷ [])

abbrev later_rows : ℕ → List Row
later_rows type = row_of 7 17 (empty_of type) 8 0 0 0 0 ∷ row_of 11 (17 + size (empty_of type)) end 0 0 0 0 0 ∷ []

abbrev rows_in : ℕ → List Row
rows_in type = linked (row_of 0 0 (header 8 8) 8 0 0 0 0 ∷ later_rows type)

objects_in_lem : (τ : Terms) (type : ℕ) → Ranked type 1 → Objects τ (cur 17 1 [] (empty_of type ∷ end ∷ []) (later_rows type))
objects_in_lem τ type r =
    let a : ◌<◌ 0 2147483648 = omega arith in
    let b : product (0 ∷ []) ≤ 2147483647 = omega arith in
    one_array {i = 8} (record { sign = record { above = omega arith; below = omega arith }; fresh = refl })
    (of_any (record { ranked = r; lengths = length_of_rule a no_length; small = b }) refl tt refl refl) refl hollow (the_end refl)

small_in : (type : ℕ) → length (stream_of type) ≡ 33
unfolding enc encs le_bytes
small_in type = refl

-- there is no reference
no_target : (type i : ℕ) → among i (refs_of (empty_of type ∷ end ∷ [])) ≡ true → among i (ids_of (empty_of type ∷ end ∷ [])) ≡ true
no_target type i h = absurd (let z : ◌≡◌ {A = ℕ} 0 1 = cc in omega arith)

reads_in : (τ : Terms) (cs : List Class) → Book τ.book cs → (type : ℕ) → Ranked type 1 → Reading τ (stream_of type) (rows_in type)
reads_in τ cs book type r =
    let l = small_in type in
    record {
      classes = cs;
      book_is = book;
      root = 8;
      header_id = 8;
      rs = empty_of type ∷ end ∷ [];
      is = later_rows type;
      root_bits = omega arith;
      header_bits = omega arith;
      bytes_are = refl;
      small = omega arith;
      objects_are = objects_in_lem τ type r;
      rooted = refl;
      targets = no_target type;
      links_are = linked_links τ 8 8 (empty_of type ∷ end ∷ []) (later_rows type) (objects_in_lem τ type r) refl (no_target type);
    }

-- an array says the same by any book
no_class_holds : (β : List ℕ) (type : ℕ) → says β (stream_of type) (rows_in type) ≡ says [] (stream_of type) (rows_in type)
unfolding says nodes_from nodes_of what_from linked
no_class_holds β type = refl

-- the streams do not say the same, whatever their books are
pub array_types_said : (β γ : List ℕ) → SayTheSame β (stream_of 0) (rows_in 0) γ (stream_of 1) (rows_in 1) → ⊥
unfolding reads_in
array_types_said β γ e =
    array_type_told ((same_meant strict strict (reads_in strict [] no_book 0 single) (reads_in strict [] no_book 1 jagged)).0 (sym (no_class_holds β 0) ∙ (e ∙ no_class_holds γ 1)))

-- so whatever gives every reading with a good book the meaning of its records does not take one for the other
pub array_types_needed : (τ : Terms) (cs : List Class) → Book τ.book cs → (f : List ℕ → List Row → Model) → ((s : List ℕ) (rows : List Row) (w : Reading τ s rows) → f s rows ≡ meant_by w)
    → f (stream_of 0) (rows_in 0) ≡ f (stream_of 1) (rows_in 1) → ⊥
unfolding reads_in
array_types_needed τ cs book f right e =
    array_type_told (sym (right (stream_of 0) (rows_in 0) (reads_in τ cs book 0 single)) ∙ (e ∙ right (stream_of 1) (rows_in 1) (reads_in τ cs book 1 jagged)))

-- ---- and no tidy job loses it

lost_bytes : (bytes (stream_of 0) ≡ true) × (bytes (stream_of 1) ≡ true)
unfolding bytes enc encs le_bytes
lost_bytes = (refl, refl)

lost_lengths : (τ : Terms) (cs : List Class) (book : Book τ.book cs)
    → (length (tidy_of (meant_by (reads_in τ cs book 0 single))) ≡ 33) × (length (tidy_of (meant_by (reads_in τ cs book 1 jagged))) ≡ 33)
unfolding reads_in meant walk name_by class_by order_by found libraries_of classes_of order_after spread tidy_of tidy_records squeeze waiting written run_of pack after_what records_of number_in entered all_entered library_records encs enc le_bytes
lost_lengths τ cs book = (refl, refl)

pub array_types_kept : (job : Copier) → Demand3 job → (τ : Terms) (cs : List Class) → Book τ.book cs → (υ : Terms) (ds : List Class) → Book υ.book ds
    → job τ (stream_of 0) ≡ job υ (stream_of 1) → ⊥
unfolding reads_in
array_types_kept job demand τ cs book υ ds other e =
    let a = bytes_are (stream_of 0) lost_bytes.0 in
    let b = bytes_are (stream_of 1) lost_bytes.1 in
    let w = reads_in τ cs book 0 single in
    let v = reads_in υ ds other 1 jagged in
    let k : Within w = omega (arith, (lost_lengths τ cs book).0) in
    let l : Within v = omega (arith, (lost_lengths υ ds other).1) in
    array_type_told ((demand.same τ (stream_of 0) a (rows_in 0) w k υ (stream_of 1) b (rows_in 1) v l).1 e)
