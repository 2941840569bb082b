-- The words of marked rows, row by row: each row keeps what it says, objects have their orders as numbers, a class's row has the place of its type
-- bytes and the first row of its class, and links lead to the numbers of what they name.
use Rattle.std.specs.Prelude.{ℕ, suc, ◌-◌, ◌<◌, ◌≡◌, refl, true, false, List, length, get_or, eqb}
use Rattle.std.proofs.Common.{sym, ap, ◌∙◌, arith}
use Rattle.format.specs.Terms.{Terms}
use Rattle.format.specs.declared.Row.{Row}
use Rattle.format.specs.Rows.{blank, is_object, is_class, with_link}
use Rattle.format.specs.Says.{order_of, class_from}
use Rattle.laws.specs.Tests.{differ, either}
use Rattle.laws.specs.Kinds.{class_is_object}
use Rattle.marks.specs.Marks.{row_at, with_id, with_slot, first_class}
use Rattle.meaning.specs.Stands.{Target, Stands}
use Rattle.meaning.specs.Marked.{Placed, Firsts, class_first}
use Rattle.meaning.specs.Passes.{object_not_library}
use Rattle.meaning.specs.Names.{class_at_holds, placed_class, placed_kind, firsts_word}
use Rattle.meaning.specs.Equal.{class_first_lem}
use Rattle.meaning.specs.Needs.{Like}

module _ (τ : Terms) (s : List ℕ) (rows ps fs : List Row) (st : Stands τ s rows) (pl : Placed τ s rows ps) (fi : Firsts s rows ps fs) where
  -- ---- before libraries are numbered

  module _ (i : ℕ) (h : i < length rows) where
    pub first_kind : (get_or fs i blank).kind ≡ (get_or rows i blank).kind
    first_kind = firsts_word s rows ps fs fi (λ (r : Row). r.kind) (λ r x. refl) i ∙ placed_kind τ s rows ps st pl i h

    inside : i < length ps
    inside = omega (arith, pl.size)

    not_first : is_class (get_or rows i blank).kind ≡ false → get_or fs i blank ≡ get_or ps i blank
    not_first c = fi.other i inside (ap is_class (placed_kind τ s rows ps st pl i h) ∙ c)

    pub class_words : (k : is_class (get_or rows i blank).kind ≡ true)
        → get_or fs i blank
        ≡ with_link (with_slot (with_id (get_or rows i blank) (order_of rows (suc i))) (class_at_holds τ s rows st i h k).types)
        (class_first τ.book s rows (class_from τ.book s rows (get_or rows i blank)))
    class_words k =
        let r : Row = with_slot (with_id (get_or rows i blank) (order_of rows (suc i))) (class_at_holds τ s rows st i h k).types in
        fi.class i inside (ap is_class (placed_kind τ s rows ps st pl i h) ∙ k)
        ∙ (ap (λ (p : Row). with_link p (first_class s ps (get_or ps i blank))) (placed_class τ s rows ps st pl i h k)
        ∙ ap (with_link r) (class_first_lem τ s rows ps st pl i h k).same)

    pub object_words : is_object (get_or rows i blank).kind ≡ true → is_class (get_or rows i blank).kind ≡ false
        → get_or fs i blank ≡ with_id (get_or rows i blank) (order_of rows (suc i))
    object_words o c = not_first c ∙ pl.object i h o c

    pub other_words : is_object (get_or rows i blank).kind ≡ false → eqb (get_or rows i blank).kind 12 ≡ false → get_or fs i blank ≡ get_or rows i blank
    other_words o l =
        let c : is_class (get_or rows i blank).kind ≡ false =
        either (is_class (get_or rows i blank).kind) (λ c. differ (sym (class_is_object (get_or rows i blank).kind c) ∙ o)) (λ c. c) in
        not_first c ∙ pl.other i h o l

    object_id : is_object (get_or rows i blank).kind ≡ true → (get_or fs i blank).id ≡ order_of rows (suc i)
    object_id o =
        either (is_class (get_or rows i blank).kind) (λ c. ap (λ (r : Row). r.id) (class_words c)) (λ c. ap (λ (r : Row). r.id) (object_words o c))

  -- ---- and after

  module _ (ms : List Row) (like : Like fs ms) where
    pub marked_kind : (i : ℕ) → i < length rows → (get_or ms i blank).kind ≡ (get_or rows i blank).kind
    marked_kind i h = ap (λ (r : Row). r.kind) (like.like i) ∙ first_kind i h

    -- rows other than libraries' are done before
    pub marked_kept : (i : ℕ) → i < length rows → eqb (get_or rows i blank).kind 12 ≡ false → get_or ms i blank ≡ get_or fs i blank
    marked_kept i h e = like.kept i (ap (λ (k : ℕ). eqb k 12) (first_kind i h) ∙ e)

    pub marked_other : (i : ℕ) → i < length rows → is_object (get_or rows i blank).kind ≡ false → eqb (get_or rows i blank).kind 12 ≡ false
        → get_or ms i blank ≡ get_or rows i blank
    marked_other i h o l = marked_kept i h l ∙ other_words i h o l

    marked_id : (i : ℕ) → i < length rows → is_object (get_or rows i blank).kind ≡ true → (get_or ms i blank).id ≡ order_of rows (suc i)
    marked_id i h o = ap (λ (r : Row). r.id) (like.like i) ∙ object_id i h o

    -- a link to an object leads to its number
    pub target_id : (link : ℕ) → Target rows link → (row_at ms link).id ≡ order_of rows link
    target_id link t =
        let e = t.link_is in
        let z : link - 1 ≡ t.row = omega arith in
        ap (λ (i : ℕ). (get_or ms i blank).id) z ∙ (marked_id t.row t.inside t.object ∙ ap (order_of rows) (sym e))

    -- a class's row leads to the number of the first object of its class
    pub first_id : (i : ℕ) → i < length rows → is_class (get_or rows i blank).kind ≡ true
        → (row_at ms (class_first τ.book s rows (class_from τ.book s rows (get_or rows i blank)))).id ≡ order_of rows (class_first τ.book s rows (class_from τ.book s rows (get_or rows i blank)))
    first_id i h k =
        let w = class_first_lem τ s rows ps st pl i h k in
        let b = w.before in
        target_id (class_first τ.book s rows (class_from τ.book s rows (get_or rows i blank)))
        (record { row = w.row; link_is = w.first; inside = omega arith; object = class_is_object (get_or rows w.row blank).kind w.kind })

    -- and so does an object by its class's row
    pub class_id : (i : ℕ) → i < length rows → is_class (get_or rows i blank).kind ≡ true
        → (row_at ms (get_or ms i blank).link).id ≡ order_of rows (class_first τ.book s rows (class_from τ.book s rows (get_or rows i blank)))
    class_id i h k =
        let l = object_not_library (get_or rows i blank).kind (class_is_object (get_or rows i blank).kind k) in
        ap (λ (r : Row). (row_at ms r.link).id) (marked_kept i h l ∙ class_words i h k) ∙ first_id i h k
