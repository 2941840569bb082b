-- The tidy copy has no more records than the list has rows: a row that speaks gives one record or is part of a run, a library record is charged to
-- a library row, and the header and the end are two rows more.
use Prim.Native.Nat.{ℕ, zero, suc, ◌+◌, ◌-◌, ◌≤◌, ◌<◌}
use Rattle.std.specs.Prelude.{◌≡◌, Bool, get_or, leb}
use Rattle.std.proofs.Math.Path.{refl, ap, subst}
use Rattle.std.proofs.Common.{sym, ◌∙◌, length-append}
use Rattle.std.proofs.Math.Bool.{true, false}
use mathlib.Core.List.{List, [], ◌∷◌, ◌++◌, map}
use native.Mathlib.Omega.{arith}
use Rattle.std.proofs.Math.ListN.{length}
use Rattle.std.proofs.Math.Dec.{eqb}
use borrow.Author.Tests.{eq-eqb, eqb-true}
use Rattle.format.specs.Terms.{Terms}
use Rattle.format.specs.declared.Row.{Row}
use Rattle.format.specs.Bytes.{pick, same_bytes}
use Rattle.format.specs.Rows.{blank}
use Rattle.format.specs.Contents.{Rec, null, Class}
use Rattle.format.specs.Says.{What, an_object, a_string, an_array, a_primitive, a_reference, a_null, a_primitive_array, an_object_array, a_string_array, a_value, Node, node, spread, is_nulls, is_silent, text_from, order_of, what_from, nodes_of, nodes_from, says}
use Rattle.format.specs.Tidy.{same_class, number_in, Progress, nothing, Libraries, all_entered, library_records, class_needs, detail_needs, object_by, after_object, records_of, after_what, run_of}
use Rattle.fields.specs.Judged.{picked}
use Rattle.laws.specs.Tests.{either}
use Rattle.laws.specs.Runs.{libraries_length, Sort, a_null_rule, plain, sort_of}
use Rattle.saying.specs.Enough.{length_shown}
use Rattle.saying.specs.Shown.{Shown, shown, all_shown, packed, Wait, wait, no_wait, run_shown, one_more, squeezed, squeezed_null, squeezed_records}
use Rattle.meaning.specs.Stands.{Stands}
use Rattle.meaning.specs.Orders.{after_row, after_rows, after_silent, after_run, after_said, nodes_silent, nodes_nulls, nodes_one}
use Rattle.fewer.specs.Libraries.{has, is_entered, rows_entered, libraries_few}

-- ---- the records of one node

-- a record and the libraries before it
after_libraries : (ns : List (List ℕ)) (ls : Libraries) (r : Rec) → length (library_records ns ls ++ (r ∷ [])) + length ls ≡ suc (length (all_entered ns ls))
after_libraries ns ls r =
    let a : length (library_records ns ls ++ (r ∷ [])) ≡ length (library_records ns ls) + 1 = length-append (library_records ns ls) (r ∷ []) in
    let b = libraries_length ns ls in
    omega arith

object_length : (k : ℕ) (w : Progress) (c : Class) → length (object_by k w c) + length w.libraries ≡ suc (length (after_object k w c).libraries)
object_length zero w c = after_libraries (class_needs c) w.libraries _
object_length (suc k) w c = omega arith

-- one, and one for each library that is entered
records_length : (w : Progress) (x : What) → length (records_of w x) + length w.libraries ≡ suc (length (after_what w x).libraries)
unfolding records_of after_what
records_length w (an_object c) = object_length (number_in (same_class c) w.classes) w c
records_length w (a_string t) = omega arith
records_length w (an_array type lengths item items) = after_libraries (detail_needs item) w.libraries _
records_length w (a_primitive code v) = omega arith
records_length w (a_reference target) = omega arith
records_length w a_null = omega arith
records_length w (a_primitive_array n code items) = omega arith
records_length w (an_object_array n) = omega arith
records_length w (a_string_array n) = omega arith
records_length w (a_value c v) = omega arith

-- ---- runs

-- how many records a run gives: one, or none if it is empty
abbrev run_length : Wait → ℕ
run_length w = length (run_shown w)

run_length_lem : (w : Wait) → run_length w ≤ 1
unfolding run_of
run_length_lem w =
    let P : List Rec → Type 0 = λ (rs : List Rec). length (map (λ (r : Rec). shown r w.owner w.slot) rs) ≤ 1 in
    let k = w.count in
    picked P (eqb k 0) (λ e. omega arith) (λ e. picked P (eqb k 1) (λ f. omega arith) (λ f. picked P (leb k 255) (λ g. omega arith) (λ g. omega arith)))

-- what follows gives, with l, at most x records besides the run that waits
abbrev Most : ℕ → ℕ → List Shown → Type 0
Most l x xs = (w : Wait) → length (squeezed w xs) + l ≤ run_length w + x

null_most : (w : Wait) (o n l x : ℕ) (xs : List Shown) → length (squeezed (one_more w o n) xs) + l ≤ x
    → length (squeezed w (shown null o n ∷ xs)) + l ≤ run_length w + x
null_most w o n l x xs h =
    let e = ap length (squeezed_null w o n xs) in
    let a = length-append (pick (eqb o w.owner) [] (run_shown w)) (squeezed (one_more w o n) xs) in
    let b : length (pick (eqb o w.owner) [] (run_shown w)) ≤ run_length w
    = picked (λ (y : List Shown). length y ≤ run_length w) (eqb o w.owner) (λ q. omega arith) (λ q. omega arith) in
    omega arith

module _ (p : Progress) (l x : ℕ) (ns : List Node) (most : Most l x (packed p ns)) where
  -- more nulls of the same object lengthen its run
  same_most : (k o m c n : ℕ) → length (squeezed (wait o m c) (packed p (spread k o n ++ ns))) + l ≤ suc x
  unfolding spread packed records_of after_what
  same_most zero o m c n = let a = most (wait o m c) in let b = run_length_lem (wait o m c) in omega arith
  same_most (suc k) o m c n =
      let xs : List Shown = packed p (spread k o (n + 1) ++ ns) in
      let t : eqb o o ≡ true = eq-eqb o o refl in
      let e : squeezed (wait o m c) (shown null o n ∷ xs) ≡ squeezed (wait o m (suc c)) xs
      = squeezed_null (wait o m c) o n xs
      ∙ ap (λ (b : Bool). pick b [] (run_shown (wait o m c)) ++ squeezed (wait o (pick b m n) (pick b (suc c) 1)) xs) t in
      subst (λ (y : List Shown). length y + l ≤ suc x) (sym e) (same_most k o m (suc c) (n + 1))

  -- a row of nulls begins at most one run
  nulls_most : (k o n : ℕ) → Most l (suc x) (packed p (spread k o n ++ ns))
  unfolding spread packed records_of after_what
  nulls_most zero o n w = let a = most w in omega arith
  nulls_most (suc k) o n w =
      null_most w o n l (suc x) (packed p (spread k o (n + 1) ++ ns)) (same_most k o (one_more w o n).slot (one_more w o n).count (n + 1))

-- one node gives one record and the libraries that it enters
said_most : (p : Progress) (x : What) (o n y : ℕ) (ns : List Node) → Most (length (after_what p x).libraries) y (packed (after_what p x) ns)
    → Most (length p.libraries) (suc y) (packed p (node x o n ∷ ns))
unfolding packed records_of after_what run_of
said_most p x o n y ns most w = go x (sort_of p x) most
  where
    go : (x : What) → Sort p x → Most (length (after_what p x).libraries) y (packed (after_what p x) ns)
        → length (squeezed w (all_shown o n (records_of p x) ++ packed (after_what p x) ns)) + length p.libraries ≤ run_length w + suc y
    go x a_null_rule most =
        null_most w o n (length p.libraries) (suc y) (packed p ns) (let a = most (one_more w o n) in let b = run_length_lem (one_more w o n) in omega arith)
    go x (plain h) most =
        let e = ap length (squeezed_records w o n h (packed (after_what p x) ns)) in
        let a = length-append (run_shown w) (all_shown o n (records_of p x) ++ squeezed no_wait (packed (after_what p x) ns)) in
        let b = length-append (all_shown o n (records_of p x)) (squeezed no_wait (packed (after_what p x) ns)) in
        let c = length_shown o n (records_of p x) in
        let d : length (squeezed no_wait (packed (after_what p x) ns)) + length (after_what p x).libraries ≤ 0 + y = most no_wait in
        let f = records_length p x in
        omega arith

-- ---- all rows

-- 1 for a row that speaks
abbrev speaks : Row → ℕ
speaks r = pick (is_silent r.kind) 0 1

unfoldable speaking : List Row → ℕ
speaking [] = 0
speaking (r ∷ rs) = speaks r + speaking rs

module _ (τ : Terms) (s : List ℕ) (rows : List Row) where
  row_most : (r : Row) (p : Progress) (y : ℕ) (ns : List Node) → Most (length (after_row τ.book s rows p r).libraries) y (packed (after_row τ.book s rows p r) ns)
      → Most (length p.libraries) (pick (is_silent r.kind) y (suc y)) (packed p (nodes_of τ.book s rows r ++ ns))
  row_most r p y ns most = go (is_silent r.kind) (is_nulls r.kind) refl refl
    where
      go : (a b : Bool) → is_silent r.kind ≡ a → is_nulls r.kind ≡ b → Most (length p.libraries) (pick a y (suc y)) (packed p (nodes_of τ.book s rows r ++ ns))
      go true b e f =
          subst (λ (m : List Node). Most (length p.libraries) y (packed p (m ++ ns))) (sym (nodes_silent τ.book s rows r e))
          (subst (λ (q : Progress). Most (length q.libraries) y (packed q ns)) (after_silent τ.book s rows p r e) most)
      go false true e f =
          subst (λ (m : List Node). Most (length p.libraries) (suc y) (packed p (m ++ ns))) (sym (nodes_nulls τ.book s rows r e f))
          (nulls_most p (length p.libraries) y ns (subst (λ (q : Progress). Most (length q.libraries) y (packed q ns)) (after_run τ.book s rows p r e f) most)
          r.count (order_of rows r.owner) r.slot)
      go false false e f =
          subst (λ (m : List Node). Most (length p.libraries) (suc y) (packed p (m ++ ns))) (sym (nodes_one τ.book s rows r e f))
          (said_most p (what_from τ.book s rows r) (order_of rows r.owner) r.slot y ns
          (subst (λ (q : Progress). Most (length q.libraries) y (packed q ns)) (after_said τ.book s rows p r e f) most))

  rows_most : (rs : List Row) (p : Progress) → Most (length p.libraries) (speaking rs + length (after_rows τ.book s rows p rs).libraries) (packed p (nodes_from τ.book s rows rs))
  unfolding speaking after_rows nodes_from packed squeezed
  rows_most [] p w = omega arith
  rows_most (r ∷ rs) p w =
      let y = speaking rs + length (after_rows τ.book s rows (after_row τ.book s rows p r) rs).libraries in
      let a = row_most r p y (nodes_from τ.book s rows rs) (rows_most rs (after_row τ.book s rows p r)) w in
      let b = one_more_rule (is_silent r.kind) y in
      omega arith
    where
      one_more_rule : (t : Bool) (y : ℕ) → pick t y (suc y) ≡ pick t 0 1 + y
      one_more_rule true y = omega arith
      one_more_rule false y = omega arith

  -- ---- rows that speak, library rows, and the two that are neither

  module _ (ls : Libraries) where
    row_one : (r : Row) → speaks r + is_entered τ s ls r ≤ 1
    row_one r =
        let n = number_in (same_bytes (text_from s (r.offset + 5))) ls in
        either (eqb r.kind 12)
        (λ e.
        let k = eqb-true r.kind 12 e in
        let a : speaks r ≡ 0 = ap (λ (x : ℕ). pick (is_silent x) 0 1) k in
        let b : is_entered τ s ls r ≡ has n = ap (λ (x : Bool). pick x (has n) 0) e in
        let c = has_one n in
        omega arith)
        (λ e.
        let a : is_entered τ s ls r ≡ 0 = ap (λ (x : Bool). pick x (has n) 0) e in
        let b : speaks r ≤ 1 = picked (λ (x : ℕ). x ≤ 1) (is_silent r.kind) (λ q. omega arith) (λ q. omega arith) in
        omega arith)
      where
        has_one : (n : ℕ) → has n ≤ 1
        has_one zero = omega arith
        has_one (suc n) = omega arith

    -- the header and the end
    row_none : (r : Row) (k : ℕ) → r.kind ≡ k → is_silent k ≡ true → eqb k 12 ≡ false → speaks r + is_entered τ s ls r ≡ 0
    row_none r k e a b =
        let n = number_in (same_bytes (text_from s (r.offset + 5))) ls in
        let x : speaks r ≡ 0 = ap (λ (y : ℕ). pick (is_silent y) 0 1) e ∙ ap (λ (t : Bool). pick t 0 1) a in
        let z : is_entered τ s ls r ≡ 0 = ap (λ (y : ℕ). pick (eqb y 12) (has n) 0) e ∙ ap (λ (t : Bool). pick t (has n) 0) b in
        omega arith

    rows_end : (r : Row) (rs : List Row) → (get_or (r ∷ rs) (length rs) blank).kind ≡ 11
        → suc (speaking (r ∷ rs) + rows_entered τ s ls (r ∷ rs)) ≤ suc (length rs)
    unfolding speaking rows_entered
    rows_end r [] k = let a = row_none r 11 k refl refl in omega arith
    rows_end r (x ∷ rs) k = let a = row_one r in let b = rows_end x rs k in omega arith

    rows_both : (rs : List Row) → 0 < length rs → (get_or rs 0 blank).kind ≡ 0 → (get_or rs (length rs - 1) blank).kind ≡ 11
        → 2 + (speaking rs + rows_entered τ s ls rs) ≤ length rs
    unfolding speaking rows_entered
    rows_both [] h k e = absurd (omega arith)
    rows_both (r ∷ []) h k e = absurd (omega arith)
    rows_both (r ∷ x ∷ rs) h k e =
        let m : suc (suc (length rs)) - 1 ≡ suc (length rs) = omega arith in
        let a = row_none r 0 k refl refl in
        let b = rows_end x rs (ap (λ (i : ℕ). (get_or (r ∷ x ∷ rs) i blank).kind) (sym m) ∙ e) in
        omega arith

-- the header and the end besides
pub fewer : (τ : Terms) (s : List ℕ) (rows : List Row) → Stands τ s rows → 2 + length (squeezed no_wait (packed nothing (says τ.book s rows).nodes)) ≤ length rows
unfolding says run_of
fewer τ s rows st =
    let ls : Libraries = (after_rows τ.book s rows nothing rows).libraries in
    let a : length (squeezed no_wait (packed nothing (nodes_from τ.book s rows rows))) + 0 ≤ 0 + (speaking rows + length ls) = rows_most τ s rows rows nothing no_wait in
    let b : length ls ≤ rows_entered τ s ls rows = libraries_few τ s rows st in
    let c = rows_both τ s rows ls rows st.some st.first st.last in
    omega arith
