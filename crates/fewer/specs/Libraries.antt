-- No more libraries are written than the list has library rows: each name that is entered is that of a library row, and no name is entered twice.
use Prim.Native.Nat.{ℕ, zero, suc, ◌+◌, ◌-◌, ◌≤◌, ◌<◌}
use Rattle.std.specs.Prelude.{◌≡◌, refl, Bool, true, false, eqb}
use Rattle.std.proofs.Math.Path.{sym, subst}
use Rattle.std.proofs.Common.{ap, ◌∙◌, length-append, take_all, eqb-true}
use mathlib.Core.List.{List, [], ◌∷◌}
use native.Mathlib.Omega.{arith}
use Rattle.std.proofs.Math.ListN.{length, get_or}
use Rattle.format.specs.Terms.{Terms}
use Rattle.format.specs.declared.Row.{Row}
use Rattle.format.specs.Bytes.{pick, same_bytes}
use Rattle.format.specs.Rows.{blank, is_class, library_row}
use Rattle.format.specs.Says.{text_from, number_from, library_name, class_from}
use Rattle.format.specs.Tidy.{Progress, nothing, number_in, Libraries, entered, all_entered, class_needs}
use Rattle.same.specs.Laws.{same_refl}
use Rattle.laws.specs.Tests.{pick_of, class_eq, class_refl, either}
use Rattle.laws.specs.Numbers.{Counted, number_new, entered_new, entered_old, entered_counted, entered_more}
use Rattle.marks.specs.Marks.{with_slot}
use Rattle.meaning.specs.Stands.{Stands}
use Rattle.meaning.specs.Marked.{class_fields, array_fields, All, none, both, name_at_field, names_of, class_first}
use Rattle.meaning.specs.Names.{NamesLibrary, class_at_holds, array_at, class_names, array_names}
use Rattle.meaning.specs.ClassBytes.{class_need}
use Rattle.meaning.specs.ArrayBytes.{array_need}
use Rattle.meaning.specs.Orders.{after_rows, progress_to, progress_none, item_needs, is_new, row_needs, progress_libraries}
use Rattle.meaning.specs.RowLibraries.{class_row_needs, other_row_needs}

-- 1 for what has a number
abbrev pub has : ℕ → ℕ
has zero = 0
has (suc n) = 1

module _ (τ : Terms) (s : List ℕ) where
  abbrev name_of : Row → List ℕ
  name_of r = text_from s (r.offset + 5)

  -- 1 for a library row whose name is entered
  abbrev pub is_entered : Libraries → Row → ℕ
  is_entered ls r = pick (eqb r.kind 12) (has (number_in (same_bytes (name_of r)) ls)) 0

  unfoldable pub rows_entered : Libraries → List Row → ℕ
  rows_entered ls [] = 0
  rows_entered ls (r ∷ rs) = is_entered ls r + rows_entered ls rs

  -- ---- a name is entered

  module _ (n : List ℕ) (ls : Libraries) where
    row_more : (r : Row) → is_entered ls r ≤ is_entered (entered n ls) r
    row_more r = go (eqb r.kind 12) (number_in (same_bytes (name_of r)) ls) refl
      where
        go : (b : Bool) (m : ℕ) → number_in (same_bytes (name_of r)) ls ≡ m
            → pick b (has (number_in (same_bytes (name_of r)) ls)) 0 ≤ pick b (has (number_in (same_bytes (name_of r)) (entered n ls))) 0
        go true zero e = let z : has (number_in (same_bytes (name_of r)) ls) ≡ 0 = ap has e in omega arith
        go true (suc m) e =
            let z : has (number_in (same_bytes (name_of r)) ls) ≡ 1 = ap has e in
            let y : has (number_in (same_bytes (name_of r)) (entered n ls)) ≡ 1 = ap has (entered_more n ls (same_bytes (name_of r)) m e) in
            omega arith
        go false m e = omega arith

    rows_more : (rs : List Row) → rows_entered ls rs ≤ rows_entered (entered n ls) rs
    unfolding rows_entered
    rows_more [] = omega arith
    rows_more (r ∷ rs) = let a = row_more r in let b = rows_more rs in omega arith

    module _ (c : Counted ls) (new : number_in (same_bytes n) ls ≡ 0) where
      row_new : (r : Row) → r.kind ≡ 12 → name_of r ≡ n → suc (is_entered ls r) ≤ is_entered (entered n ls) r
      row_new r k e =
          let a : number_in (same_bytes (name_of r)) ls ≡ 0 = ap (λ (x : List ℕ). number_in (same_bytes x) ls) e ∙ new in
          let b : number_in (same_bytes n) (entered n ls) ≡ suc (length ls)
          = ap (number_in (same_bytes n)) (entered_new n ls new) ∙ number_new (same_bytes n) ls (length ls) n c (same_refl n) new in
          let d : number_in (same_bytes (name_of r)) (entered n ls) ≡ suc (length ls) = ap (λ (x : List ℕ). number_in (same_bytes x) (entered n ls)) e ∙ b in
          let p : is_entered ls r ≡ 0 = ap (λ (x : ℕ). pick (eqb x 12) (has (number_in (same_bytes (name_of r)) ls)) 0) k ∙ ap has a in
          let q : is_entered (entered n ls) r ≡ 1 = ap (λ (x : ℕ). pick (eqb x 12) (has (number_in (same_bytes (name_of r)) (entered n ls))) 0) k ∙ ap has d in
          omega arith

      rows_new : (rs : List Row) (i : ℕ) → i < length rs → (get_or rs i blank).kind ≡ 12 → name_of (get_or rs i blank) ≡ n
          → suc (rows_entered ls rs) ≤ rows_entered (entered n ls) rs
      unfolding rows_entered
      rows_new [] i h k e = absurd (omega arith)
      rows_new (r ∷ rs) zero h k e = let a = row_new r k e in let b = rows_more rs in omega arith
      rows_new (r ∷ rs) (suc i) h k e = let a = row_more r in let b = rows_new rs i (omega arith) k e in omega arith

  -- ---- names of library rows

  module _ (rows : List Row) where
    -- a name that a library row has
    pub record Listed (n : List ℕ) : Type 0 where
      pub row : ℕ
      pub inside : row < length rows
      pub kind : (get_or rows row blank).kind ≡ 12
      pub name : name_of (get_or rows row blank) ≡ n

    pub data AllListed : List (List ℕ) → Type 0 where
      no_name : AllListed []
      a_name : {n : List ℕ} {ns : List (List ℕ)} → Listed n → AllListed ns → AllListed (n ∷ ns)

    -- a table of such names, each in it once
    pub record Once (ls : Libraries) : Type 0 where
      pub counted : Counted ls
      pub few : length ls ≤ rows_entered ls rows

    once_one : (n : List ℕ) (ls : Libraries) → Listed n → Once ls → Once (entered n ls)
    once_one n ls l o = go (number_in (same_bytes n) ls) refl
      where
        go : (m : ℕ) → number_in (same_bytes n) ls ≡ m → Once (entered n ls)
        go zero e =
            let a = rows_new n ls o.counted e rows l.row l.inside l.kind l.name in
            let b : length (entered n ls) ≡ length ls + 1 = ap length (entered_new n ls e) ∙ length-append ls ((suc (length ls), n) ∷ []) in
            let f = o.few in
            record { counted = entered_counted n ls o.counted; few = omega arith }
        go (suc m) e = subst Once (sym (entered_old n ls m e)) o

    once_all : (ns : List (List ℕ)) (ls : Libraries) → AllListed ns → Once ls → Once (all_entered ns ls)
    unfolding all_entered
    once_all [] ls no_name o = o
    once_all (n ∷ ns) ls (a_name l a) o = once_all ns (entered n ls) a (once_one n ls l o)

    field_listed : (p : ℕ) → NamesLibrary s rows p → Listed (name_at_field s rows p)
    unfolding name_at_field library_name
    field_listed p h =
        let e = h.found in
        let m : library_row (number_from s p) rows - 1 ≡ h.row = omega arith in
        record { row = h.row; inside = h.inside; kind = h.kind; name = sym (ap (λ (x : ℕ). name_of (get_or rows x blank)) m) }

    fields_listed : (ps : List ℕ) → All (NamesLibrary s rows) ps → AllListed (names_of s rows ps)
    unfolding names_of
    fields_listed [] none = no_name
    fields_listed (p ∷ ps) (both h a) = a_name (field_listed p h) (fields_listed ps a)

    -- ---- the rows of an accepted stream

    module _ (st : Stands τ s rows) where
      row_listed : (i : ℕ) → i < length rows → AllListed (row_needs τ.book s rows i (get_or rows i blank))
      unfolding item_needs
      row_listed i h =
          either (is_new τ.book s rows i r)
          (λ e. subst AllListed (sym (class_row_needs τ.book s rows i r e)) (of_class_holds (pick_of (is_class r.kind) (eqb (class_first τ.book s rows (class_from τ.book s rows r)) (i + 1)) e).0))
          (λ e. subst AllListed (sym (other_row_needs τ.book s rows i r e)) (items (eqb r.kind 7) refl))
        where
          r : Row
          r = get_or rows i blank

          of_class_holds : is_class (get_or rows i blank).kind ≡ true → AllListed (class_needs (class_from τ.book s rows (get_or rows i blank)))
          of_class_holds k =
              let c = class_at_holds τ s rows st i h k in
              let q : Row = with_slot (get_or rows i blank) c.types in
              subst AllListed (class_need τ s rows (get_or rows i blank) c q refl refl refl refl refl)
              (fields_listed (class_fields s q) (class_names τ s rows (get_or rows i blank) c q refl refl refl refl))

          items : (t : Bool) → eqb (get_or rows i blank).kind 7 ≡ t → AllListed (pick t (item_needs s rows (get_or rows i blank)) [])
          items true e =
              let a = array_at τ s rows st i h (eqb-true (get_or rows i blank).kind 7 e) in
              subst AllListed (array_need τ s rows (get_or rows i blank) a (get_or rows i blank) refl)
              (fields_listed (array_fields s (get_or rows i blank)) (array_names τ s rows (get_or rows i blank) a (get_or rows i blank) refl))
          items false e = no_name

      once_to : (i : ℕ) → i ≤ length rows → Once (progress_to τ.book s rows i).libraries
      once_to zero h = subst (λ (w : Progress). Once w.libraries) (sym (progress_none τ.book s rows)) (record { counted = tt; few = omega arith })
      once_to (suc i) h =
          subst Once (sym (progress_libraries τ s rows class_refl class_eq st i h))
          (once_all (row_needs τ.book s rows i (get_or rows i blank)) (progress_to τ.book s rows i).libraries (row_listed i h) (once_to i (omega arith)))

      -- no more names are entered than there are library rows whose name is entered
      pub libraries_few : length (after_rows τ.book s rows nothing rows).libraries ≤ rows_entered (after_rows τ.book s rows nothing rows).libraries rows
      unfolding progress_to
      libraries_few =
          subst (λ (rs : List Row). length (after_rows τ.book s rows nothing rs).libraries ≤ rows_entered (after_rows τ.book s rows nothing rs).libraries rows)
          (take_all (length rows) rows (omega arith)) (once_to (length rows) (omega arith)).few
