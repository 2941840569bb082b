-- The rows of the tidy copy say what its records were written from, record by record.
use Rattle.std.specs.Prelude.{ℕ, suc, ◌+◌, ◌-◌, ◌≤◌, ◌<◌, ◌≡◌, refl, Bool, true, false, get_or, take, drop}
use Rattle.std.proofs.Common.{sym, subst, ◌∙◌, arith}
use Rattle.std.proofs.Math.Path.{ap}
use mathlib.Core.List.{List, [], ◌∷◌, ◌++◌, map}
use Rattle.format.specs.Terms.{Terms}
use Rattle.format.specs.declared.PrimitiveCode.{PrimitiveCode}
use Rattle.format.specs.declared.SlotType.{SlotType}
use Rattle.format.specs.declared.Row.{Row}
use Rattle.format.specs.Bytes.{pick}
use Rattle.format.specs.Rows.{blank, is_object, object_row, link_of}
use Rattle.format.specs.Contents.{Prefixed, Rec, header, class_by_id, system_class, library_class, string, array, typed_primitive, reference, null, nulls, many_nulls, end, library, primitive_array, object_array, string_array, value, enc, encs}
use Rattle.format.specs.Grammar.{Entry, Classed, classed, class_of, size, of_objects, of_strings, of_primitives, of_any, of_values}
use Rattle.format.specs.Says.{Node, library_name, class_from, code_in, value_code, objects_in, order_of, nodes_of, nodes_from}
use Rattle.format.specs.Tidy.{Progress}
use Rattle.saying.specs.Numbers.{name_in, class_in}
use Rattle.saying.specs.Good.{Place, place, shut_by, shut, owner_of, slot_of, filled_one, opened_in}
use Rattle.saying.specs.Codes.{owner_class, Codes, value_code_lem, class_codes, array_codes, row_class}
use Rattle.saying.specs.There.{rest_there, slots_same, kind_of, CountIs, RowOf, row_of_lem, row_linked, GoodRec, system_class_from, library_class_from, LinkIs}
use Rattle.saying.specs.Order.{items_after, nodes_more}
use Rattle.saying.specs.Shown.{Shown, recs_of, said_at, said_nodes, said_all}
use Rattle.saying.specs.Counts.{made_known}
use Rattle.saying.specs.Legal.{Takes, class_by_id_rule, system_class_rule, library_class_rule, a_string_rule, an_array_rule, a_primitive_rule, a_reference_rule, a_null_rule, some_nulls, many_nulls_rule, a_library_rule, a_value_rule, Stands, fills, filled_by, is_apart, open_by, Legal, all_shown_rule, a_record}
use Rattle.saying.specs.Nesting.{OpenCodes, codes_next, value_coded}
use Rattle.saying.specs.Enough.{not_zero}
use Rattle.saying.specs.Row.{own_contents, row_said}
use Rattle.again.specs.Rows.{number_of, class_row_of, link_for, count_for, row_shown, rows_from, Placed, placed_here, placed_next}
use Rattle.again.specs.Own.{All, Kept}
use Rattle.again.specs.Orders.{legal_le, with_own}
use Rattle.again.specs.Names.{said_same, AllRight, name_right, class_right, Knows, knows_more}

count_is : (es : List Entry) (r : Rec) → CountIs r (count_for es r)
count_is es (header r h) = tt
count_is es (class_by_id i k) = tt
count_is es (system_class i n ms) = refl
count_is es (library_class i n ms l) = refl
count_is es (string i x) = tt
count_is es (array i t ns d vs) = refl
count_is es (typed_primitive c v) = tt
count_is es (reference i) = tt
count_is es null = refl
count_is es (nulls k) = refl
count_is es (many_nulls k) = refl
count_is es end = tt
count_is es (library i n) = tt
count_is es (primitive_array i n c vs) = refl
count_is es (object_array i n) = refl
count_is es (string_array i n) = refl
count_is es (value c v) = tt

module _ (τ : Terms) (β s : List ℕ) (raw table : List Row) (v : Progress) (which : ℕ → ℕ) (none : which 0 ≡ 0) (total : ℕ) (order : (k : ℕ) → 0 < k → k ≤ total → order_of table (which k) ≡ k) (finds : (k : ℕ) → 0 < k → k ≤ total → object_row k raw ≡ which k) where
  -- ---- owners

  order_none : order_of table (which 0) ≡ 0
  unfolding order_of objects_in
  order_none = ap (λ (k : ℕ). objects_in (take k table)) none

  -- the rows of open objects are theirs
  abbrev pub Owns : List Place → Type 0
  Owns [] = Unit {0}
  Owns (f ∷ fs) = (order_of table (which f.owner) ≡ f.owner) × Owns fs

  owns_shut : (fs : List Place) → Owns fs → Owns (shut fs)
  unfolding shut
  owns_shut [] h = tt
  owns_shut (f ∷ fs) h = go f.types (owns_shut fs h.1)
    where
      go : (ts : List SlotType) → Owns (shut fs) → Owns (shut_by ts f.owner f.slot fs (shut fs))
      go [] again = again
      go (t ∷ ts) again = h

  owns_filled : (fs : List Place) → Owns fs → Owns (filled_one fs)
  owns_filled [] h = tt
  owns_filled (f ∷ fs) h = h

  owns_by : (k : ℕ) (fs : List Place) → Owns fs → Owns (filled_by k fs)
  owns_by k [] h = tt
  owns_by k (f ∷ fs) h = h

  owns_next : (count : ℕ) (fs : List Place) (r : Rec) (ts : List SlotType) → count + pick (is_object (kind_of r)) 1 0 ≤ total → Owns fs → Owns (open_by count fs r ts)
  owns_next count fs r ts l h = go (is_object (kind_of r)) (is_apart r) l
    where
      go : (a b : Bool) → count + pick a 1 0 ≤ total → Owns (pick a (opened_in (suc count) ts fs) (pick b fs (shut (filled_by (fills r) fs))))
      go true b l = owns_shut (place (suc count) 0 ts ∷ filled_one fs) (order (suc count) (omega arith) (omega arith), owns_filled fs h)
      go false true l = h
      go false false l = owns_shut (filled_by (fills r) fs) (owns_by (fills r) fs h)

  owner_is : (fs : List Place) (b : Bool) (o : ℕ) → Owns fs → o ≡ pick b 0 (owner_of fs) → order_of table (which o) ≡ o
  owner_is fs true o h e = ap (λ (k : ℕ). order_of table (which k)) e ∙ (order_none ∙ sym e)
  owner_is [] false o h e = ap (λ (k : ℕ). order_of table (which k)) e ∙ (order_none ∙ sym e)
  owner_is (f ∷ fs) false o h e = ap (λ (k : ℕ). order_of table (which k)) e ∙ (h.0 ∙ sym e)

  -- ---- codes

  -- the code of a slot, by the order of its object and the slot's number
  abbrev pub code_at : ℕ → ℕ → PrimitiveCode
  code_at o = code_in (owner_class τ β s table (which o)).members

  -- ---- one record

  module _ (es : List Entry) (at o n : ℕ) where
    abbrev row_as : Rec → Row
    row_as r = with_own τ which raw table (row_shown which es at r o n)

    row_is : (r : Rec) → RowOf r at (row_as r)
    row_is r = row_linked (link_of raw (row_shown which es at r o n)) (row_of_lem r at (number_of r) (which o) n (link_for es r) (count_for es r) (count_is es r))

    -- a kind 1 leads to its class
    by_id_class : (i k row : ℕ) (ts : List SlotType) → AllRight τ β s table v es → class_of k es ≡ classed row ts
        → class_from β s table (get_or table ((row_as (class_by_id i k)).link - 1) blank) ≡ class_in v k
    unfolding link_of
    by_id_class i k row ts h c = ap (λ (d : Classed). class_from β s table (get_or table (class_row_of d - 1) blank)) c ∙ (class_right τ β s table v es h k row ts c).0

    -- the code of a member value is that of the slot where it stands
    code_is : (fs : List Place) (c : PrimitiveCode) (x : Prefixed) → o ≡ owner_of fs → n ≡ slot_of fs → code_at (owner_of fs) (slot_of fs) ≡ c
        → value_code β s table (row_as (value c x)) ≡ c
    code_is fs c x e f g = value_code_lem τ β s table (row_as (value c x)) c (ap (λ (k : ℕ). code_at k n) e ∙ (ap (code_at (owner_of fs)) f ∙ g))

    -- a kind 1 leads to its class, a reference to its object, a member value to its code
    link_is : {fs : List Place} {r : Rec} {ts : List SlotType} → AllRight τ β s table v es → OpenCodes code_at fs → Stands τ fs r ts
        → o ≡ pick (is_apart r) 0 (owner_of fs) → n ≡ pick (is_apart r) 0 (slot_of fs) → Takes τ total es r ts → LinkIs β s table (class_in v) (λ (k : ℕ). k) r (row_as r)
    unfolding link_of
    link_is h cs st e f (class_by_id_rule {i = i} {k = k} {row = row} {ts = ts} a b c) = by_id_class i k row ts h c
    link_is h cs st e f (system_class_rule a b c) = tt
    link_is h cs st e f (library_class_rule a b c d) = tt
    link_is h cs st e f (a_string_rule a b) = tt
    link_is h cs st e f (an_array_rule a (of_objects b)) = tt
    link_is h cs st e f (an_array_rule a (of_strings b)) = tt
    link_is h cs st e f (an_array_rule a (of_primitives b c)) = tt
    link_is h cs st e f (an_array_rule a (of_any b c d i j)) = tt
    link_is h cs st e f (an_array_rule a (of_values b c d)) = tt
    link_is h cs st e f (a_primitive_rule a) = tt
    link_is h cs st e f (a_reference_rule {i = i} a b) = ap (order_of table) (finds i (not_zero i a) b) ∙ order i (not_zero i a) b
    link_is h cs st e f a_null_rule = tt
    link_is h cs st e f (some_nulls a b) = tt
    link_is h cs st e f (many_nulls_rule a) = tt
    link_is h cs st e f (a_library_rule a b c) = tt
    link_is {fs} h cs st e f (a_value_rule {c = c} {v = x} a) = code_is fs c x e f (value_coded τ code_at st cs)

    record_said : (q : List ℕ) (r : Rec) {ts : List SlotType} → AllRight τ β s table v es → Takes τ total es r ts → LinkIs β s table (class_in v) (λ (k : ℕ). k) r (row_as r)
        → order_of table (which o) ≡ o → drop at s ≡ enc r ++ q → nodes_of β s table (row_as r) ≡ said_at (name_in v) (class_in v) (λ (k : ℕ). k) o n r
    record_said q r h t l e d =
        row_said τ β s table (row_as r) (class_in v) (λ (k : ℕ). k) q at r d (row_is r) (own_contents τ t) l
        ∙ (ap (λ (k : ℕ). said_at (library_name s table) (class_in v) (λ (k : ℕ). k) k n r) e
        ∙ said_same τ (library_name s table) (name_in v) es (name_right τ β s table v es h) (class_in v) (λ (k : ℕ). k) o n t)

    -- the slots of a record have the codes of its class
    module _ (is : List Row) (row : ℕ) where
      record_codes : (q : List ℕ) (r : Rec) {ts : List SlotType} → AllRight τ β s table v es → Takes τ total es r ts → drop at s ≡ enc r ++ q
          → drop row table ≡ row_as r ∷ is → Codes τ β s table (suc row) 0 ts
      record_codes q (class_by_id i k) h (class_by_id_rule {row = first} {ts = ts} a b c) d e =
          class_codes τ β s table (suc row) (class_in v k) ts (row_class τ β s table is (row_as (class_by_id i k)) row e ∙ by_id_class i k first ts h c)
          (class_right τ β s table v es h k first ts c).1
      record_codes q (system_class i x ms) {ts} h (system_class_rule a b c) d e =
          let r : Rec = system_class i x ms in
          let g : GoodRec τ r = own_contents τ {total = total} (system_class_rule a b c) in
          class_codes τ β s table (suc row) _ ts (row_class τ β s table is (row_as r) row e ∙ system_class_from τ β s table (row_as r) at q i x ms g.0 g.1 d (row_is r))
          (slots_same (library_name s table) ms ∙ sym c)
      record_codes q (library_class i x ms l) {ts} h (library_class_rule a b c f) d e =
          let r : Rec = library_class i x ms l in
          let g : GoodRec τ r = own_contents τ {total = total} (library_class_rule a b c f) in
          class_codes τ β s table (suc row) _ ts (row_class τ β s table is (row_as r) row e ∙ library_class_from τ β s table (row_as r) at q i x ms g.0 g.1 l g.2 d (row_is r))
          (slots_same (library_name s table) ms ∙ sym f)
      record_codes q r h (a_string_rule a b) d e = tt
      record_codes q r h (an_array_rule a b) d e = array_codes τ β s table (suc row) b
      record_codes q r h (a_primitive_rule a) d e = tt
      record_codes q r h (a_reference_rule a b) d e = tt
      record_codes q r h a_null_rule d e = tt
      record_codes q r h (some_nulls a b) d e = tt
      record_codes q r h (many_nulls_rule a) d e = tt
      record_codes q r h (a_library_rule a b c) d e = tt
      record_codes q r h (a_value_rule a) d e = tt

  -- ---- all records

  module _ (row at : ℕ) (es : List Entry) (x : Shown) (xs : List Shown) where
    first_bytes : drop at s ≡ encs (recs_of (x ∷ xs) ++ (end ∷ [])) → drop at s ≡ enc x.rec ++ encs (recs_of xs ++ (end ∷ []))
    unfolding encs
    first_bytes d = d

    first_row_lem : drop row table ≡ map (with_own τ which raw table) (rows_from which at row es (x ∷ xs))
        → drop row table ≡ row_as es at x.owner x.slot x.rec
        ∷ map (with_own τ which raw table) (rows_from which (at + size x.rec) (suc row) (es ++ made_known (suc row) x.rec) xs)
    unfolding rows_from
    first_row_lem e = e

  end_said : (row at : ℕ) (es : List Entry) → drop row table ≡ map (with_own τ which raw table) (rows_from which at row es []) → nodes_from β s table (drop row table) ≡ []
  unfolding rows_from nodes_from nodes_of
  end_said row at es e = ap (nodes_from β s table) e

  pub records_said : {count row : ℕ} {fs : List Place} {es : List Entry} {xs : List Shown} → Legal τ total count row fs es xs → Placed which count row xs → (at : ℕ)
      → All (Kept v) (recs_of xs) → Owns fs → OpenCodes code_at fs → Knows τ β s table v row es → drop at s ≡ encs (recs_of xs ++ (end ∷ []))
      → drop row table ≡ map (with_own τ which raw table) (rows_from which at row es xs)
      → nodes_from β s table (drop row table) ≡ said_all (name_in v) (class_in v) (λ (k : ℕ). k) xs
  records_said {row = row} {es = es} (all_shown_rule e) p at k h cs w d there = end_said row at es there
  records_said {count} {row} {fs} {es} (a_record {next = next} {gs = gs} {ds = ds} {x = x} {xs = xs} {ts = ts} t st o n id e g known l) p at k h cs w d there =
      let r : Rec = x.rec in
      let a : ℕ = at + size r in
      let now : List Entry = es ++ made_known (suc row) r in
      let y : Row = row_as es at x.owner x.slot r in
      let rest : List Row = map (with_own τ which raw table) (rows_from which a (suc row) now xs) in
      let q : List ℕ = encs (recs_of xs ++ (end ∷ [])) in
      let b : drop at s ≡ enc r ++ q = first_bytes row at es x xs d in
      let c : drop row table ≡ y ∷ rest = first_row_lem row at es x xs there in
      let u : drop (suc row) table ≡ rest = items_after table rest y row c in
      let z = knows_more τ β s table v rest y row c es w q at t k.0.0 b (row_is es at x.owner x.slot r) refl in
      let m = legal_le τ l in
      let f : Owns gs = subst Owns (sym g) (owns_next count fs r ts (omega arith) h) in
      let j = record_codes es at x.owner x.slot rest row q r w.right t b c in
      let i : OpenCodes code_at gs =
      subst (OpenCodes code_at) (sym g)
      (codes_next code_at count fs r ts (λ z. subst (λ (m : ℕ). Codes τ β s table m 0 ts) (sym (placed_here which count row x xs p z)) j) cs) in
      let again = records_said l (placed_next which count row x xs p next e) a k.1 f i (subst (Knows τ β s table v (suc row)) (sym known) z)
      (rest_there s (enc r) q at a refl b) (u ∙ ap (λ (i : List Entry). map (with_own τ which raw table) (rows_from which a (suc row) i xs)) (sym known)) in
      nodes_more table rest y row c β s
      ∙ (ap (λ (i : List Node). i ++ nodes_from β s table (drop (suc row) table))
      (record_said es at x.owner x.slot q r w.right t (link_is es at x.owner x.slot w.right cs st o n t) (owner_is fs (is_apart r) x.owner h o) b)
      ∙ ap (λ (i : List Node). said_nodes (name_in v) (class_in v) (λ (k : ℕ). k) x ++ i) again)
