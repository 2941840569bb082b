-- The libraries of a row: those that its fields name are those that what it says needs, and those that the rows before it need are numbered.
use Prim.Native.Nat.{ℕ, zero, suc, ◌+◌, ◌≤◌, ◌<◌}
use Rattle.std.specs.Prelude.{◌≡◌, Bool, true, false, take, drop, eqb}
use Rattle.std.proofs.Math.Path.{refl, sym, ap}
use Rattle.std.proofs.Common.{ap₂, subst, ◌∙◌, take-append-drop, length-take-le, take-suc, drop-cons, eqb-true}
use mathlib.Core.List.{List, [], ◌∷◌, ◌++◌, append-nil, append_assoc}
use native.Mathlib.Omega.{arith}
use Rattle.std.proofs.Math.ListN.{length, get_or}
use Rattle.format.specs.Terms.{Terms}
use Rattle.format.specs.declared.Row.{Row}
use Rattle.format.specs.Bytes.{pick}
use Rattle.format.specs.Rows.{blank, is_object, is_class}
use Rattle.format.specs.Contents.{end, encs}
use Rattle.format.specs.Says.{class_from}
use Rattle.format.specs.Tidy.{Progress, Libraries, all_entered, library_records, class_needs}
use Rattle.laws.specs.Tests.{pick_of, class_eq, class_refl, either}
use Rattle.marks.specs.Marks.{needed, is_first}
use Rattle.meaning.specs.Stands.{Stands}
use Rattle.meaning.specs.Marked.{Placed, Firsts, class_fields, array_fields, row_fields, fields_from, All, names_of, class_first}
use Rattle.meaning.specs.Names.{class_at_holds, array_at}
use Rattle.meaning.specs.Bytes.{Numbered}
use Rattle.meaning.specs.ClassBytes.{class_need}
use Rattle.meaning.specs.ArrayBytes.{array_need}
use Rattle.meaning.specs.Entered.{libraries_for, libraries_append}
use Rattle.meaning.specs.Stamps.{Fields}
use Rattle.meaning.specs.LibrariesOut.{needs_out, Spelled, stretch_numbers, stretch_out}
use Rattle.meaning.specs.Orders.{progress_to, progress_none, item_needs, is_new, row_needs, progress_libraries}
use Rattle.meaning.specs.Words.{first_kind, class_words, object_words}

-- ---- the fields of the rows before a row, of the row, and of those after it

module _ (s : List ℕ) where
  fields_append : (k : ℕ) (xs ys : List Row) → fields_from s k (xs ++ ys) ≡ fields_from s k xs ++ fields_from s (k + length xs) ys
  unfolding fields_from
  fields_append k [] ys = let z : k + 0 ≡ k = omega arith in rw z
  fields_append k (x ∷ xs) ys =
      let z : k + 1 + length xs ≡ k + suc (length xs) = omega arith in
      ap (λ (l : List ℕ). row_fields s k x ++ l) (fields_append (k + 1) xs ys)
      ∙ (sym (append_assoc (row_fields s k x) (fields_from s (k + 1) xs) (fields_from s (k + 1 + length xs) ys))
      ∙ ap (λ (n : ℕ). (row_fields s k x ++ fields_from s (k + 1) xs) ++ fields_from s n ys) z)

  module _ (fs : List Row) (i : ℕ) (h : i < length fs) where
    before : 0 + length (take i fs) ≡ i
    before = let l : length (take i fs) ≡ i = length-take-le i fs (omega arith) in omega arith

    fields_next : fields_from s 0 (take (suc i) fs) ≡ fields_from s 0 (take i fs) ++ row_fields s i (get_or fs i blank)
    unfolding fields_from
    fields_next =
        let f : List ℕ = fields_from s 0 (take i fs) in
        ap (fields_from s 0) (take-suc fs i blank h)
        ∙ (fields_append 0 (take i fs) (get_or fs i blank ∷ [])
        ∙ (ap (λ (n : ℕ). f ++ (row_fields s n (get_or fs i blank) ++ [])) before ∙ ap (λ (l : List ℕ). f ++ l) (append-nil (row_fields s i (get_or fs i blank)))))

    fields_cut : fields_from s 0 (take i fs) ++ (row_fields s i (get_or fs i blank) ++ fields_from s (i + 1) (drop (suc i) fs)) ≡ fields_from s 0 fs
    unfolding fields_from
    fields_cut =
        let f : List ℕ = fields_from s 0 (take i fs) in
        sym
        (ap (fields_from s 0) (sym (take-append-drop i fs))
        ∙ (fields_append 0 (take i fs) (drop i fs)
        ∙ (ap (λ (n : ℕ). f ++ fields_from s n (drop i fs)) before ∙ ap (λ (l : List Row). f ++ fields_from s i l) (drop-cons fs i blank h))))

  module _ (i : ℕ) (q : Row) where
    pub class_row_fields : is_first i q ≡ true → row_fields s i q ≡ class_fields s q
    unfolding row_fields
    class_row_fields e = ap (λ (t : Bool). pick t (class_fields s q) (pick (eqb q.kind 7) (array_fields s q) [])) e

    pub other_row_fields : is_first i q ≡ false → row_fields s i q ≡ pick (eqb q.kind 7) (array_fields s q) []
    unfolding row_fields
    other_row_fields e = ap (λ (t : Bool). pick t (class_fields s q) (pick (eqb q.kind 7) (array_fields s q) [])) e

module _ (β s : List ℕ) (rows : List Row) (i : ℕ) (r : Row) where
  pub class_row_needs : is_new β s rows i r ≡ true → row_needs β s rows i r ≡ class_needs (class_from β s rows r)
  unfolding row_needs
  class_row_needs e = ap (λ (t : Bool). pick t (class_needs (class_from β s rows r)) (pick (eqb r.kind 7) (item_needs s rows r) [])) e

  pub other_row_needs : is_new β s rows i r ≡ false → row_needs β s rows i r ≡ pick (eqb r.kind 7) (item_needs s rows r) []
  unfolding row_needs
  other_row_needs e = ap (λ (t : Bool). pick t (class_needs (class_from β s rows r)) (pick (eqb r.kind 7) (item_needs s rows r) [])) e

-- ---- the libraries that a row names

module _ (τ : Terms) (s : List ℕ) (rows ps fs : List Row) (st : Stands τ s rows) (pl : Placed τ s rows ps) (fi : Firsts s rows ps fs) where
  module _ (i : ℕ) (h : i < length rows) where
    -- a class's first row needs its libraries
    pub first_new : is_first i (get_or fs i blank) ≡ is_new τ.book s rows i (get_or rows i blank)
    first_new =
        either (is_class (get_or rows i blank).kind)
        (λ k. ap (is_first i) (class_words τ s rows ps fs st pl fi i h k))
        (λ k. ap (λ (t : Bool). pick t (eqb (get_or fs i blank).link (i + 1)) false) (ap is_class (first_kind τ s rows ps fs st pl fi i h) ∙ k)
        ∙ sym (ap (λ (t : Bool). pick t (eqb (class_first τ.book s rows (class_from τ.book s rows (get_or rows i blank))) (i + 1)) false) k))

    class_names : is_class (get_or rows i blank).kind ≡ true → names_of s rows (class_fields s (get_or fs i blank)) ≡ class_needs (class_from τ.book s rows (get_or rows i blank))
    class_names k =
        let e = class_words τ s rows ps fs st pl fi i h k in
        class_need τ s rows (get_or rows i blank) (class_at_holds τ s rows st i h k) (get_or fs i blank)
        (ap (λ (z : Row). z.kind) e) (ap (λ (z : Row). z.offset) e) (ap (λ (z : Row). z.end) e) (ap (λ (z : Row). z.count) e) (ap (λ (z : Row). z.slot) e)

    array_names : (get_or rows i blank).kind ≡ 7 → names_of s rows (array_fields s (get_or fs i blank)) ≡ item_needs s rows (get_or rows i blank)
    unfolding item_needs
    array_names k =
        array_need τ s rows (get_or rows i blank) (array_at τ s rows st i h k) (get_or fs i blank)
        (ap (λ (z : Row). z.offset) (object_words τ s rows ps fs st pl fi i h (ap is_object k) (ap is_class k)))

    row_names : names_of s rows (row_fields s i (get_or fs i blank)) ≡ row_needs τ.book s rows i (get_or rows i blank)
    unfolding names_of
    row_names =
        either (is_new τ.book s rows i r)
        (λ e. ap (names_of s rows) (class_row_fields s i q (first_new ∙ e))
        ∙ (class_names (pick_of (is_class r.kind) (eqb (class_first τ.book s rows (class_from τ.book s rows r)) (i + 1)) e).0 ∙ sym (class_row_needs τ.book s rows i r e)))
        (λ e. ap (names_of s rows) (other_row_fields s i q (first_new ∙ e))
        ∙ (ap (λ (k : ℕ). names_of s rows (pick (eqb k 7) (array_fields s q) [])) (first_kind τ s rows ps fs st pl fi i h)
        ∙ (items (eqb r.kind 7) refl ∙ sym (other_row_needs τ.book s rows i r e))))
      where
        r : Row
        r = get_or rows i blank

        q : Row
        q = get_or fs i blank

        items : (t : Bool) → eqb (get_or rows i blank).kind 7 ≡ t
            → names_of s rows (pick t (array_fields s (get_or fs i blank)) []) ≡ pick t (item_needs s rows (get_or rows i blank)) []
        items true e = array_names (eqb-true (get_or rows i blank).kind 7 e)
        items false e = refl

  -- the libraries that the rows before row i need
  libraries_before : (i : ℕ) → i ≤ length rows → (progress_to τ.book s rows i).libraries ≡ libraries_for s rows (fields_from s 0 (take i fs))
  unfolding fields_from names_of all_entered
  libraries_before zero h = ap (λ (w : Progress). w.libraries) (progress_none τ.book s rows)
  libraries_before (suc i) h =
      let b : List ℕ = fields_from s 0 (take i fs) in
      let l : i < length fs = omega (arith, fi.size, pl.size) in
      progress_libraries τ s rows class_refl class_eq st i h
      ∙ (ap₂ (λ (n : List (List ℕ)) (t : Libraries). all_entered n t) (sym (row_names i h)) (libraries_before i (omega arith))
      ∙ (sym (libraries_append s rows b (row_fields s i (get_or fs i blank))) ∙ ap (libraries_for s rows) (sym (fields_next s fs i l))))

  -- ---- row i, whose fields name these libraries

  module _ (F : Fields s rows fs) (i : ℕ) (h : i < length rows) (fields : List ℕ) (needs : List (List ℕ)) (f : row_fields s i (get_or fs i blank) ≡ fields) (n : row_needs τ.book s rows i (get_or rows i blank) ≡ needs) where
    rest : List ℕ
    rest = fields_from s (i + 1) (drop (suc i) fs)

    names : names_of s rows fields ≡ needs
    names = ap (names_of s rows) (sym f) ∙ (row_names i h ∙ n)

    cut : fields_from s 0 (take i fs) ++ (fields ++ rest) ≡ fields_from s 0 fs
    unfolding rest
    cut = ap (λ (l : List ℕ). fields_from s 0 (take i fs) ++ (l ++ rest)) (sym f) ∙ fields_cut s fs i (omega (arith, fi.size, pl.size))

    -- the library records before its record
    pub row_out_lem : All (Spelled s rows fs) (fields_from s 0 fs) → needs_out s (needed s fs) fields ≡ encs (library_records needs (progress_to τ.book s rows i).libraries)
    row_out_lem a =
        stretch_out s rows fs F a fields (fields_from s 0 (take i fs)) rest cut
        ∙ ap₂ (λ (x : List (List ℕ)) (t : Libraries). encs (library_records x t)) names (sym (libraries_before i (omega arith)))

    -- and the numbers that its libraries have after it
    pub row_numbers : All (Numbered s rows (needed s fs) (all_entered needs (progress_to τ.book s rows i).libraries)) fields
    row_numbers =
        subst (λ (t : Libraries). All (Numbered s rows (needed s fs) t) fields)
        (ap₂ (λ (x : List (List ℕ)) (t : Libraries). all_entered x t) names (sym (libraries_before i (omega arith))))
        (stretch_numbers s rows fs F fields (fields_from s 0 (take i fs)) rest cut)
