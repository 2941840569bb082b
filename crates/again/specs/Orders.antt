-- The rows of the tidy copy's records by the order of objects: the row that an ObjectId finds is the row of the object of that order.
use Rattle.std.specs.Prelude.{ℕ, suc, ◌+◌, ◌≤◌, ◌<◌, ◌≡◌, Bool, true, false, ◌&&◌, drop, eqb}
use Rattle.std.proofs.Math.Path.{refl}
use Rattle.std.proofs.Common.{sym, ap, subst, ◌∙◌, arith, eqb-true}
use mathlib.Core.List.{List, [], ◌∷◌, ◌++◌, map}
use Rattle.std.proofs.lemmas.Bool.{eqb-false}
use Rattle.format.specs.Terms.{Terms}
use Rattle.format.specs.declared.Row.{Row}
use Rattle.format.specs.Bytes.{pick}
use Rattle.format.specs.Rows.{is_object, find_from, with_link, link_of}
use Rattle.format.specs.Contents.{Rec, header, class_by_id, system_class, library_class, string, array, typed_primitive, reference, null, nulls, many_nulls, end, library, primitive_array, object_array, string_array, value}
use Rattle.format.specs.Grammar.{Entry, size, id_of}
use Rattle.format.specs.Says.{order_of}
use Rattle.laws.specs.Tests.{apart}
use Rattle.saying.specs.Good.{Place}
use Rattle.saying.specs.There.{kind_of}
use Rattle.saying.specs.Order.{items_after, order_more}
use Rattle.saying.specs.Shown.{Shown}
use Rattle.saying.specs.Counts.{made_known}
use Rattle.saying.specs.Legal.{Legal, all_shown_rule, a_record}
use Rattle.again.specs.Rows.{number_of, row_shown, rows_from, Placed, placed_here, placed_next}

-- ---- the id of an object's row is its ObjectId

only : (i n : ℕ) → ◌≡◌ {A = List ℕ} (i ∷ []) (n ∷ []) → i ≡ n
only i n e = cc

number_is : (r : Rec) (n : ℕ) → is_object (kind_of r) ≡ true → id_of r ≡ n ∷ [] → number_of r ≡ n
number_is (header a h) n o e = apart o
number_is (class_by_id i k) n o e = only i n e
number_is (system_class i x ms) n o e = only i n e
number_is (library_class i x ms l) n o e = only i n e
number_is (string i x) n o e = only i n e
number_is (array i t ns d vs) n o e = only i n e
number_is (typed_primitive c v) n o e = apart o
number_is (reference i) n o e = apart o
number_is null n o e = apart o
number_is (nulls k) n o e = apart o
number_is (many_nulls k) n o e = apart o
number_is end n o e = apart o
number_is (library i x) n o e = apart o
number_is (primitive_array i m c vs) n o e = only i n e
number_is (object_array i m) n o e = only i n e
number_is (string_array i m) n o e = only i n e
number_is (value c v) n o e = apart o

pub legal_le : (τ : Terms) {total count row : ℕ} {fs : List Place} {es : List Entry} {xs : List Shown} → Legal τ total count row fs es xs → count ≤ total
legal_le τ (all_shown_rule e) = omega arith
legal_le τ (a_record t s o n id e g d l) = let h = legal_le τ l in omega arith

-- ---- along the records

abbrev pub of_number : ℕ → Row → Bool
of_number k r = is_object r.kind && eqb r.id k

-- raw: all rows before linking; table: after it
module _ (τ : Terms) (which : ℕ → ℕ) (raw table : List Row) where
  abbrev pub with_own : Row → Row
  with_own r = with_link r (link_of raw r)

  -- k is found, from this row on, in the row of the object of order k
  abbrev Found : ℕ → ℕ → List Row → Type 0
  Found k row is = (find_from (of_number k) row is ≡ which k) × (order_of table (which k) ≡ k)

  pub orders : {total count row : ℕ} {fs : List Place} {es : List Entry} {xs : List Shown} → Legal τ total count row fs es xs → Placed which count row xs → (at : ℕ)
      → drop row table ≡ map with_own (rows_from which at row es xs) → order_of table row ≡ count → (k : ℕ) → count < k → k ≤ total → Found k row (rows_from which at row es xs)
  unfolding rows_from find_from
  orders (all_shown_rule e) p at there order k a b = absurd (omega arith)
  orders {total} {count} {row} {fs} {es} (a_record {next = next} {ds = ds} {x = x} {xs = xs} t s o n id e g d l) p at there order k a b =
      go (is_object (kind_of x.rec)) refl e id (again (λ c q h. orders l (placed_next which count row x xs p next e) (at + size x.rec) c q k h b))
    where
      now : List Entry
      now = es ++ made_known (suc row) x.rec

      rest : List Row
      rest = rows_from which (at + size x.rec) (suc row) now xs

      it : Row
      it = row_shown which es at x.rec x.owner x.slot

      step : order_of table (suc row) ≡ next
      step =
          let z : order_of table (suc row) ≡ order_of table row + pick (is_object (kind_of x.rec)) 1 0 = order_more table (map with_own rest) (with_own it) row there in
          omega arith

      after : List Entry → List Row
      after u = rows_from which (at + size x.rec) (suc row) u xs

      again : (drop (suc row) table ≡ map with_own (after ds) → order_of table (suc row) ≡ next → next < k → Found k (suc row) (after ds)) → next < k → Found k (suc row) rest
      again f h =
          let c : drop (suc row) table ≡ map with_own rest = items_after table (map with_own rest) (with_own it) row there in
          subst (λ (u : List Entry). Found k (suc row) (after u)) d (f (c ∙ ap (λ (u : List Entry). map with_own (after u)) (sym d)) step h)

      skipped : Found k (suc row) rest → Found k (row + 1) rest
      skipped h = let z : suc row ≡ row + 1 = omega arith in (ap (λ (j : ℕ). find_from (of_number k) j rest) (sym z) ∙ h.0, h.1)

      go : (t : Bool) → is_object (kind_of x.rec) ≡ t → next ≡ count + pick t 1 0 → id_of x.rec ≡ pick t (suc count ∷ []) [] → (next < k → Found k (suc row) rest)
          → (pick (is_object (kind_of x.rec) && eqb (number_of x.rec) k) (row + 1) (find_from (of_number k) (row + 1) rest) ≡ which k) × (order_of table (which k) ≡ k)
      go true q e id again = here (eqb (number_of x.rec) k) refl
        where
          here : (u : Bool) → eqb (number_of x.rec) k ≡ u
              → (pick (is_object (kind_of x.rec) && eqb (number_of x.rec) k) (row + 1) (find_from (of_number k) (row + 1) rest) ≡ which k) × (order_of table (which k) ≡ k)
          here true v =
              let z : suc count ≡ k = sym (number_is x.rec (suc count) q id) ∙ eqb-true (number_of x.rec) k v in
              let w : which k ≡ suc row = ap which (sym z) ∙ placed_here which count row x xs p q in
              let y : row + 1 ≡ which k = omega arith in
              let m : order_of table (which k) ≡ k = ap (order_of table) w ∙ (step ∙ omega arith) in
              (rw (q, v) y, m)
          here false v =
              let z = number_is x.rec (suc count) q id in
              let y = eqb-false (number_of x.rec) k v in
              let h = skipped (again (omega arith)) in
              (rw (q, v) h.0, h.1)
      go false q e id again = let h = skipped (again (omega arith)) in (rw q h.0, h.1)
