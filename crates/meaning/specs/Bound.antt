-- What rows say does not depend on links but those of references, of the header and of objects by their class: the copy written from bound rows,
-- marked, is the tidy copy of what the rows of the reading say.
use Prim.Native.Nat.{ℕ, zero, suc, ◌+◌, ◌-◌, ◌<◌}
use Rattle.std.specs.Prelude.{◌≡◌, Bool, length, take}
use Rattle.std.proofs.Math.Path.{refl, sym, ap, ap₂}
use Rattle.std.proofs.Common.{◌∙◌, arith}
use Rattle.std.proofs.Math.Bool.{true, false}
use mathlib.Core.List.{List, [], ◌∷◌, ◌++◌}
use Rattle.std.proofs.Math.Decide.{dec_lt}
use Rattle.std.proofs.Math.ListN.{get_or, get_or-eq_default}
use Rattle.std.proofs.Math.Dec.{eqb}
use borrow.Author.Tests.{eqb-true}
use Rattle.format.specs.Terms.{Terms}
use Rattle.format.specs.declared.Row.{Row}
use Rattle.format.specs.Bytes.{pick}
use Rattle.format.specs.Rows.{blank, is_object, with_link, link_of, linked, bound_link, bound}
use Rattle.format.specs.Machine.{accepted, raw_of}
use Rattle.format.specs.Types.{after_text, after_info}
use Rattle.format.specs.Contents.{Class}
use Rattle.format.specs.Says.{number_from, library_name, detail_from, members_from, typed_from, untyped_from, class_from, array_from, objects_in, order_of, Node, what_from, nodes_of, nodes_from, says, class_row_of, code_in, value_code}
use Rattle.format.specs.Tidy.{tidy_of}
use Rattle.laws.specs.Classes.{class_blind}
use Rattle.standing.specs.Standing.{Standing}
use Rattle.standing.specs.Accepted.{raw_stands}
use Rattle.standing.specs.Linked.{relinked, linked_is, bound_is, length_all, row_at, same_at, same_offset, library_linked, link_at, Links, by_link, by_bound}
use Rattle.marks.specs.Marks.{marked}
use Rattle.pieces.specs.Copy.{anew_in, copy_of}
use Rattle.meaning.specs.FromReading.{bound_stand, bound_types, bound_values, library_slots}
use Rattle.meaning.specs.Link.{copy_of_rows}

-- ---- by rows with any links

module _ (s : List ℕ) (f : Row → ℕ) (raw : List Row) where
  abbrev all : List Row
  all = relinked f raw

  objects_all : (k : ℕ) (rows : List Row) → objects_in (take k (relinked f rows)) ≡ objects_in (take k rows)
  unfolding objects_in
  objects_all zero rows = refl
  objects_all (suc k) [] = refl
  objects_all (suc k) (r ∷ rows) = ap (λ (n : ℕ). pick (is_object r.kind) 1 0 + n) (objects_all k rows)

  order_all : (row : ℕ) → order_of all row ≡ order_of raw row
  unfolding order_of
  order_all row = objects_all row raw

  name_all : (id : ℕ) → library_name s all id ≡ library_name s raw id
  unfolding library_name
  name_all id = rw (library_linked f raw id, same_offset f raw) refl

  detail_all : (type at : ℕ) → detail_from s all type at ≡ detail_from s raw type at
  unfolding detail_from
  detail_all type at = rw (name_all (number_from s (after_text s at))) refl

  members_all : (n names types infos : ℕ) → members_from s all n names types infos ≡ members_from s raw n names types infos
  unfolding members_from
  members_all zero names types infos = refl
  members_all (suc n) names types infos =
      rw (detail_all (get_or s types 0) infos, members_all n (after_text s names) (types + 1) (after_info s (get_or s types 0) infos)) refl

  array_all : (r : Row) → array_from s all r ≡ array_from s raw r
  unfolding array_from
  array_all r = rw detail_all refl

  module _ (β : List ℕ) where
    class_all : (r : Row) → class_from β s all r ≡ class_from β s raw r
    unfolding class_from typed_from untyped_from
    class_all r = rw (name_all (number_from s (r.end - 4)), members_all r.count) refl

    -- a class does not see a link
    class_at_holds : (i : ℕ) → class_from β s raw (get_or all i blank) ≡ class_from β s raw (get_or raw i blank)
    class_at_holds i = same_at f raw (class_from β s raw) (class_blind β s raw) i

    -- nor does the class of an object, which is found by links of kind 1 alone
    module _ (F : Links raw f) where
      class_of : (i : ℕ) → class_from β s all (class_row_of all (get_or all i blank)) ≡ class_from β s raw (class_row_of raw (get_or raw i blank))
      class_of i = class_all (class_row_of all (get_or all i blank)) ∙ go (dec_lt i (length raw))
        where
          o : Row
          o = get_or raw i blank

          by_kind : (t : Bool) → eqb (get_or raw i blank).kind 1 ≡ t
              → class_from β s raw (pick t (get_or all (f (get_or raw i blank) - 1) blank) (with_link (get_or raw i blank) (f (get_or raw i blank))))
              ≡ class_from β s raw (pick t (get_or raw ((get_or raw i blank).link - 1) blank) (get_or raw i blank))
          by_kind true t =
              ap (λ (l : ℕ). class_from β s raw (get_or all (l - 1) blank)) (F.own o (eqb-true o.kind 1 t)) ∙ class_at_holds (o.link - 1)
          by_kind false t = class_blind β s raw o (f o)

          go : Dec (i < length raw) → class_from β s raw (class_row_of all (get_or all i blank)) ≡ class_from β s raw (class_row_of raw (get_or raw i blank))
          go (yes h) = ap (λ (x : Row). class_from β s raw (class_row_of all x)) (row_at f raw i h) ∙ by_kind (eqb o.kind 1) refl
          go (no h) =
              let l = length_all f raw in
              ap (λ (x : Row). class_from β s raw (class_row_of all x)) (get_or-eq_default all blank {n = i} (omega arith))
              ∙ ap (λ (x : Row). class_from β s raw (class_row_of raw x)) (sym (get_or-eq_default raw blank {n = i} (omega arith)))

      value_all : (r : Row) → value_code β s all r ≡ value_code β s raw r
      unfolding value_code
      value_all r = ap (λ (c : Class). code_in c.members r.slot) (class_of (r.owner - 1))

      what_all : (r : Row) → what_from β s all r ≡ what_from β s raw r
      unfolding what_from
      what_all r =
          rw (class_all r, class_all (get_or all (r.link - 1) blank), class_at_holds (r.link - 1), array_all r, order_all r.link, value_all r) refl

      nodes_all : (r : Row) → nodes_of β s all r ≡ nodes_of β s raw r
      unfolding nodes_of
      nodes_all r = rw (what_all r, order_all r.owner) refl

-- ---- by rows with other links

module _ (τ : Terms) (s : List ℕ) (raw : List Row) (f g : Row → ℕ) (F : Links raw f) (G : Links raw g) where
  -- where a row says what its link names, the links are one
  nodes_one : (r : Row) → nodes_of τ.book s raw (with_link r (f r)) ≡ nodes_of τ.book s raw (with_link r (g r))
  unfolding nodes_of what_from class_from typed_from untyped_from array_from value_code
  nodes_one r = go (eqb r.kind 1) refl (eqb r.kind 9) refl
    where
      go : (a : Bool) → eqb r.kind 1 ≡ a → (b : Bool) → eqb r.kind 9 ≡ b → nodes_of τ.book s raw (with_link r (f r)) ≡ nodes_of τ.book s raw (with_link r (g r))
      go true x b y =
          let k = eqb-true r.kind 1 x in
          ap (λ (l : ℕ). nodes_of τ.book s raw (with_link r l)) (F.own r k ∙ sym (G.own r k))
      go false x true y =
          let k = eqb-true r.kind 9 y in
          ap (λ (l : ℕ). nodes_of τ.book s raw (with_link r l)) (F.reference r k ∙ sym (G.reference r k))
      go false x false y = rw (x, y) refl

  nodes_same : (rows : List Row) → nodes_from τ.book s (relinked f raw) (relinked f rows) ≡ nodes_from τ.book s (relinked g raw) (relinked g rows)
  unfolding nodes_from
  nodes_same [] = refl
  nodes_same (r ∷ rows) =
      ap₂ (λ (x y : List Node). x ++ y) (nodes_all s f raw τ.book F (with_link r (f r)) ∙ (nodes_one r ∙ sym (nodes_all s g raw τ.book G (with_link r (g r))))) (nodes_same rows)

  says_same : Standing τ s raw → says τ.book s (relinked f raw) ≡ says τ.book s (relinked g raw)
  unfolding says
  says_same w =
      let r = get_or raw 0 blank in
      let a : (get_or (relinked f raw) 0 blank).link ≡ (get_or (relinked g raw) 0 blank).link =
      link_at f raw 0 w.some ∙ (F.root r w.headed ∙ (sym (G.root r w.headed) ∙ sym (link_at g raw 0 w.some))) in
      let b = order_all s f raw (get_or (relinked f raw) 0 blank).link ∙ (ap (order_of raw) a ∙ sym (order_all s g raw (get_or (relinked g raw) 0 blank).link)) in
      ap₂ (λ (o : ℕ) (ns : List Node). record { root = o; nodes = ns }) b (nodes_same raw)

-- bound rows say what the rows of the reading say
pub says_bound : (τ : Terms) (s : List ℕ) (raw : List Row) → Standing τ s raw → says τ.book s (bound raw) ≡ says τ.book s (linked raw)
says_bound τ s raw w =
    ap (says τ.book s) (bound_is raw) ∙ (says_same τ s raw (bound_link raw) (link_of raw) (by_bound raw) (by_link raw) w ∙ ap (says τ.book s) (sym (linked_is raw)))

-- the copy from marked bound rows is the tidy copy of what the list says
pub copy_is_tidy : (τ : Terms) (s : List ℕ) → ((i : ℕ) → get_or s i 0 < 256) → (room : ℕ) (raw : List Row) → raw_of τ s room ≡ accepted raw
    → copy_of (anew_in τ.setting) s (marked s (bound raw)) ≡ tidy_of (says τ.book s (linked raw))
copy_is_tidy τ s bytes room raw e =
    copy_of_rows τ s (bound raw) (bound_stand τ s room raw e bytes) (bound_types τ s room raw e) (bound_values τ s room raw e) (library_slots τ s room raw e)
    ∙ ap tidy_of (says_bound τ s raw (raw_stands τ s room raw e).stands)
