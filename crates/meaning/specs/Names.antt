-- Libraries by name: two library rows are compared by their names, the fields that name libraries name rows that are there, and the first row
-- that a field leads to is the first library with the name that the field says.
use Prim.Native.Nat.{ℕ, zero, suc, ◌+◌, ◌-◌, ◌*◌, ◌≤◌, ◌<◌}
use Rattle.std.specs.Prelude.{◌≡◌, true, false, ◌&&◌, length, Result, Ok, Err}
use Rattle.format.specs.declared.Refusal.{Refusal}
use Rattle.std.proofs.Math.Path.{refl, sym, ap, subst}
use Rattle.std.proofs.Common.{◌∙◌}
use Rattle.std.proofs.Math.Bool.{Bool}
use mathlib.Core.List.{List, [], ◌∷◌, ◌++◌}
use native.Mathlib.Omega.{arith}
use Rattle.std.proofs.Math.Decide.{dec_lt}
use Rattle.std.proofs.Math.ListN.{get_or, get_or-eq_default}
use Rattle.std.proofs.Math.Dec.{eqb}
use borrow.Author.Tests.{eq-eqb, eqb-true, eqb-false}
use Rattle.format.specs.Terms.{Terms}
use Rattle.format.specs.declared.Refusal.TheVariants as R
use Rattle.format.specs.declared.Row.{Row}
use Rattle.format.specs.Bytes.{pick, same_bytes}
use Rattle.format.specs.Types.{name_at, library_id_at, info_at, after_info}
use Rattle.format.specs.Values.{on_end, times}
use Rattle.format.specs.Rows.{blank, is_object, is_class, find_from, library_row, with_link}
use Rattle.format.specs.Records.{known_library, info_known, infos_at, own_library_at}
use Rattle.format.specs.Says.{text_from, number_from, library_name, is_nulls, order_of}
use Rattle.num.specs.Read.{u32_says}
use Rattle.fields.specs.Judged.{no_end, picked}
use Rattle.fields.specs.Sequence.{through}
use Rattle.types.specs.Keeps.{library_told}
use Rattle.class_info.specs.Moves.{names_there, types_there, infos_moves}
use Rattle.same.specs.Laws.{same_eq}
use Rattle.lookups.specs.Find.{find_hit, library_at_lem}
use Rattle.laws.specs.Tests.{bool_ext, both_of, both_true, apart, pick_of, true_same}
use Rattle.laws.specs.Kinds.{class_kind}
use Rattle.laws.specs.Firsts.{find_alike, find_some}
use Rattle.marks.specs.Marks.{same_text, same_name, first_library, library_at, item_type, with_id, with_slot, first_class, is_first}
use Rattle.meaning.specs.Stands.{StringStands, OwnStands, of_system, of_library_rule, ClassStands, ArrayStands, RowStands, the_header, by_id, a_class_rule, a_string_rule, an_array_rule, a_primitive_rule, a_reference_rule, nulls, the_end, a_library_rule, primitives, objects, texts, a_value_rule, Stands}
use Rattle.meaning.specs.Marked.{TypesThere, Placed, Firsts, info_fields, class_fields, array_fields, row_fields, fields_from, All, none, both, name_at_field, library_first}
use Rattle.meaning.specs.Bytes.{info_place}
use Rattle.meaning.specs.Alike.{same_texts_lem}

-- ---- what stands at a row, by its kind

not_class : {A : Type 0} (k n : ℕ) → is_class k ≡ true → k ≡ n → is_class n ≡ false → A
not_class k n c e f = apart (sym f ∙ (ap is_class (sym e) ∙ c))

class_nulls : (k : ℕ) → is_class k ≡ true → is_nulls k ≡ true → ⊥
class_nulls k c = class_kind k c (λ k. is_nulls k ≡ true → ⊥) apart apart

module _ (τ : Terms) (s : List ℕ) (rows : List Row) (i : ℕ) (r : Row) where
  class_there : RowStands τ s rows i r → is_class r.kind ≡ true → ClassStands τ s rows r
  class_there (the_header z k t) c = not_class r.kind 0 c k refl
  class_there (by_id k of l h q) c = not_class r.kind 1 c k refl
  class_there (a_class_rule k w) c = w
  class_there (a_string_rule k w) c = not_class r.kind 6 c k refl
  class_there (an_array_rule k w) c = not_class r.kind 7 c k refl
  class_there (a_primitive_rule k w h j) c = not_class r.kind 8 c k refl
  class_there (a_reference_rule k t) c = not_class r.kind 9 c k refl
  class_there (nulls k h) c = absurd (class_nulls r.kind c k)
  class_there (the_end k h j) c = not_class r.kind 11 c k refl
  class_there (a_library_rule k w) c = not_class r.kind 12 c k refl
  class_there (primitives k w v h j) c = not_class r.kind 15 c k refl
  class_there (objects k w h) c = not_class r.kind 16 c k refl
  class_there (texts k w h) c = not_class r.kind 17 c k refl
  class_there (a_value_rule k h j) c = not_class r.kind 32 c k refl

  library_there : RowStands τ s rows i r → r.kind ≡ 12 → StringStands τ s (r.offset + 5) r.end
  library_there (the_header z k t) c = absurd (omega arith)
  library_there (by_id k of l h q) c = absurd (omega arith)
  library_there (a_class_rule k w) c = not_class r.kind 12 k c refl
  library_there (a_string_rule k w) c = absurd (omega arith)
  library_there (an_array_rule k w) c = absurd (omega arith)
  library_there (a_primitive_rule k w h j) c = absurd (omega arith)
  library_there (a_reference_rule k t) c = absurd (omega arith)
  library_there (nulls k h) c = apart (sym (ap is_nulls c) ∙ k)
  library_there (the_end k h j) c = absurd (omega arith)
  library_there (a_library_rule k w) c = w
  library_there (primitives k w v h j) c = absurd (omega arith)
  library_there (objects k w h) c = absurd (omega arith)
  library_there (texts k w h) c = absurd (omega arith)
  library_there (a_value_rule k h j) c = absurd (omega arith)

  array_there : RowStands τ s rows i r → r.kind ≡ 7 → ArrayStands τ s rows r
  array_there (the_header z k t) c = absurd (omega arith)
  array_there (by_id k of l h q) c = absurd (omega arith)
  array_there (a_class_rule k w) c = not_class r.kind 7 k c refl
  array_there (a_string_rule k w) c = absurd (omega arith)
  array_there (an_array_rule k w) c = w
  array_there (a_primitive_rule k w h j) c = absurd (omega arith)
  array_there (a_reference_rule k t) c = absurd (omega arith)
  array_there (nulls k h) c = apart (sym (ap is_nulls c) ∙ k)
  array_there (the_end k h j) c = absurd (omega arith)
  array_there (a_library_rule k w) c = absurd (omega arith)
  array_there (primitives k w v h j) c = absurd (omega arith)
  array_there (objects k w h) c = absurd (omega arith)
  array_there (texts k w h) c = absurd (omega arith)
  array_there (a_value_rule k h j) c = absurd (omega arith)

module _ (τ : Terms) (s : List ℕ) (rows : List Row) (st : Stands τ s rows) (i : ℕ) (h : i < length rows) where
  pub class_at_holds : is_class (get_or rows i blank).kind ≡ true → ClassStands τ s rows (get_or rows i blank)
  class_at_holds c = class_there τ s rows i (get_or rows i blank) (st.each i h) c

  pub library_row_lem : (get_or rows i blank).kind ≡ 12 → StringStands τ s ((get_or rows i blank).offset + 5) (get_or rows i blank).end
  library_row_lem c = library_there τ s rows i (get_or rows i blank) (st.each i h) c

  pub array_at : (get_or rows i blank).kind ≡ 7 → ArrayStands τ s rows (get_or rows i blank)
  array_at c = array_there τ s rows i (get_or rows i blank) (st.each i h) c

-- ---- two library rows

pub same_name_lem : (τ : Terms) (s : List ℕ) (a b : Row) → StringStands τ s (a.offset + 5) a.end → StringStands τ s (b.offset + 5) b.end
    → b.kind ≡ 12 → same_name s a b ≡ same_bytes (text_from s (a.offset + 5)) (text_from s (b.offset + 5))
unfolding same_name
same_name_lem τ s a b v w k =
    ap (λ (x : ℕ). pick (eqb x 12) (same_text s (a.offset + 5) (b.offset + 5)) false) k
    ∙ same_texts_lem τ s (a.offset + 5) a.end (b.offset + 5) b.end v w

other_kind : (s : List ℕ) (a b : Row) → eqb b.kind 12 ≡ false → same_name s a b ≡ false
unfolding same_name
other_kind s a b e = ap (λ (x : Bool). pick x (same_text s (a.offset + 5) (b.offset + 5)) false) e

-- ---- the fields that name libraries

-- the number at p is that of a library
pub record NamesLibrary (s : List ℕ) (rows : List Row) (p : ℕ) : Type 0 where
  pub row : ℕ
  pub found : library_row (number_from s p) rows ≡ suc row
  pub inside : row < length rows
  pub kind : (get_or rows row blank).kind ≡ 12
  pub room : p + 4 ≤ length s

pub all_append : {P : ℕ → Type 0} {xs ys : List ℕ} → All P xs → All P ys → All P (xs ++ ys)
all_append none b = b
all_append (both x a) b = both x (all_append a b)

module _ (τ : Terms) (s : List ℕ) (rows : List Row) where
  known_told : (end e : ℕ) → known_library s rows end ≡ Ok e → (e ≡ end) × (0 < library_row (number_from s (end - 4)) rows)
  known_told end e q = go (eqb (library_row (number_from s (end - 4)) rows) 0) refl q
    where
      positive : (n : ℕ) → (n ≡ 0 → ⊥) → 0 < n
      positive zero f = absurd (f refl)
      positive (suc n) f = omega arith

      go : (t : Bool) → eqb (library_row (number_from s (end - 4)) rows) 0 ≡ t → pick t (Err R.NoLibrary) (Ok end) ≡ Ok e
          → (e ≡ end) × (0 < library_row (number_from s (end - 4)) rows)
      go true f q = absurd (no_end R.NoLibrary e q)
      go false f q = (cc, positive (library_row (number_from s (end - 4)) rows) (eqb-false (library_row (number_from s (end - 4)) rows) 0 f))

  -- a LibraryId that is known
  id_names : (p m e : ℕ) → library_id_at s p ≡ Ok m → known_library s rows m ≡ Ok e → NamesLibrary s rows (e - 4) × (e ≡ p + 4) × (e ≤ length s)
  id_names p m e h q =
      let w = library_told s p m h in
      let u = u32_says s p w.0 m w.1 in
      let k = known_told m e q in
      let n = library_row (number_from s (e - 4)) rows in
      let l : 0 < n = rw k.0 k.1 in
      let f = library_at_lem (number_from s (e - 4)) rows l in (
        record { row = n - 1; found = omega arith; inside = f.inside; kind = eqb-true _ _ f.kind; room = omega (arith, u.next, u.within, k.0) },
        omega (arith, u.next, k.0),
        omega (arith, u.next, u.within, k.0),
      )

  pub own_names : (p e : ℕ) → own_library_at s rows p ≡ Ok e → NamesLibrary s rows (e - 4) × (e ≡ p + 4) × (e ≤ length s)
  unfolding own_library_at
  own_names p e q =
      let x = through (known_library s rows) (library_id_at s p) e q in
      id_names p x.0 e x.1 x.2

  -- type 4: a name, and then the number of a library
  pub class_info : (p e : ℕ) → info_known τ.setting s rows 4 p ≡ Ok e
      → NamesLibrary s rows (e - 4) × (m : ℕ) × (name_at τ.setting s p ≡ Ok m) × (e ≡ m + 4) × (e ≤ length s)
  unfolding info_known info_at
  class_info p e q =
      let x = through (known_library s rows) (on_end (library_id_at s) (name_at τ.setting s p)) e q in
      let y = through (library_id_at s) (name_at τ.setting s p) x.0 x.1 in
      let w = id_names y.0 x.0 e y.2 x.2 in
      (w.0, y.0, y.1, w.1, w.2)

  -- ---- all fields of a row

  info_field : (type p e : ℕ) → info_known τ.setting s rows type p ≡ Ok e → All (NamesLibrary s rows) (pick (eqb type 4) ((e - 4) ∷ []) [])
  info_field type p e q = picked (λ (l : List ℕ). All (NamesLibrary s rows) l) (eqb type 4) (λ t. both (class_info p e (rw (eqb-true type 4 t) at q)).0 none) (λ t. none)

  pub infos_name : (n types p e : ℕ) → infos_at τ.setting s rows n types p ≡ Ok e → All (NamesLibrary s rows) (info_fields s n types p)
  unfolding infos_at info_fields
  infos_name zero types p e q = none
  infos_name (suc n) types p e q =
      let x = through (infos_at τ.setting s rows n (types + 1)) (info_known τ.setting s rows (get_or s types 0) p) e q in
      let a = info_place τ s rows (get_or s types 0) p x.0 x.1 in
      rw a (all_append (info_field (get_or s types 0) p x.0 x.1) (infos_name n (types + 1) x.0 e x.2))

  module _ (r : Row) where
    own_field : (p : ℕ) → OwnStands s rows r p → All (NamesLibrary s rows) (pick (eqb r.kind 5) ((r.end - 4) ∷ []) [])
    own_field p (of_system k e) = subst (λ (x : ℕ). All (NamesLibrary s rows) (pick (eqb x 5) ((r.end - 4) ∷ []) [])) (sym k) none
    own_field p (of_library_rule k q) =
        subst (λ (x : ℕ). All (NamesLibrary s rows) (pick (eqb x 5) ((r.end - 4) ∷ []) [])) (sym k) (both (own_names p r.end q).0 none)

    -- of a row that has the class's words, its slot the place of the type bytes
    pub class_names : (c : ClassStands τ s rows r) (q : Row) → q.kind ≡ r.kind → q.end ≡ r.end → q.count ≡ r.count → q.slot ≡ c.types
        → All (NamesLibrary s rows) (class_fields s q)
    unfolding class_fields
    class_names c q k e n t =
        let a : All (NamesLibrary s rows) (info_fields s q.count q.slot (q.slot + q.count))
        = subst (λ (x : ℕ). All (NamesLibrary s rows) (info_fields s x q.slot (q.slot + x))) (sym n)
        (subst (λ (x : ℕ). All (NamesLibrary s rows) (info_fields s r.count x (x + r.count))) (sym t)
        (infos_name r.count c.types (c.types + r.count) c.infos_end c.infos)) in
        let b : All (NamesLibrary s rows) (pick (eqb q.kind 5) ((q.end - 4) ∷ []) [])
        = subst (λ (x : ℕ). All (NamesLibrary s rows) (pick (eqb x 5) ((q.end - 4) ∷ []) [])) (sym k)
        (subst (λ (x : ℕ). All (NamesLibrary s rows) (pick (eqb r.kind 5) ((x - 4) ∷ []) [])) (sym e) (own_field c.infos_end c.own)) in
        all_append a b

    pub array_names : (a : ArrayStands τ s rows r) (q : Row) → q.offset ≡ r.offset → All (NamesLibrary s rows) (array_fields s q)
    unfolding array_fields item_type
    array_names a q e =
        let n : number_from s (r.offset + 6) ≡ a.rank = sym (u32_says s (r.offset + 6) a.rank (r.offset + 10) a.ranked).value in
        let p = r.offset + 10 + 4 * a.rank in
        let i : r.offset + 10 + 4 * number_from s (r.offset + 6) ≡ p = rw n in
        subst (λ (o : ℕ). All (NamesLibrary s rows) (fields (o + 10 + 4 * number_from s (o + 6)))) (sym e)
        (subst (λ (x : ℕ). All (NamesLibrary s rows) (fields x)) (sym i)
        (rw (info_place τ s rows (get_or s p 0) (p + 1) a.info_end a.info) (info_field (get_or s p 0) (p + 1) a.info_end a.info)))
      where
        fields : ℕ → List ℕ
        fields p = pick (eqb (get_or s p 0) 4) ((after_info s (get_or s p 0) (p + 1) - 4) ∷ []) []

-- ---- the place of a class's type bytes, in the stream and in its row

module _ (τ : Terms) (s : List ℕ) (rows : List Row) (r : Row) (c : ClassStands τ s rows r) where
  types_place : TypesThere τ s r → r.link ≡ c.types
  types_place t =
      let e : t.name_end ≡ c.name_end = end_same t.named c.named in
      end_same t.names (ap (λ (p : ℕ). times (name_at τ.setting s) r.count (p + 4)) e ∙ c.names)
    where
      end_same : {f : Result ℕ Refusal} {a b : ℕ} → f ≡ Ok a → f ≡ Ok b → a ≡ b
      end_same p q = cc

  pub class_places : (c.name_end + 4 ≤ c.types) × (c.types + r.count ≤ length s) × (c.types + r.count ≤ c.infos_end) × (c.infos_end ≤ length s)
  class_places =
      let u = u32_says s c.name_end r.count (c.name_end + 4) c.counted in
      let n = names_there τ.setting s r.count (c.name_end + 4) c.types u.within c.names in
      let t = types_there s r.count c.types (c.types + r.count) n.1 c.type_bytes in
      let i = infos_moves τ.setting s rows r.count c.types (c.types + r.count) c.infos_end t.1 c.infos in
      (n.0, t.1, i.0, i.1)

-- where the field at p leads to in placed rows: the first library with the name that it says
pub record First (s : List ℕ) (rows ps : List Row) (p : ℕ) : Type 0 where
  pub row : ℕ
  pub same : library_at s ps p ≡ library_first s rows (name_at_field s rows p)
  pub first : library_first s rows (name_at_field s rows p) ≡ suc row
  pub inside : row < length rows
  pub kind : (get_or rows row blank).kind ≡ 12
  pub name : text_from s ((get_or rows row blank).offset + 5) ≡ name_at_field s rows p

module _ (τ : Terms) (s : List ℕ) (rows ps : List Row) (st : Stands τ s rows) (pl : Placed τ s rows ps) where
  pub placed_class : (i : ℕ) (h : i < length rows) (k : is_class (get_or rows i blank).kind ≡ true)
      → get_or ps i blank ≡ with_slot (with_id (get_or rows i blank) (order_of rows (suc i))) (class_at_holds τ s rows st i h k).types
  placed_class i h k =
      let r = get_or rows i blank in
      let c = class_at_holds τ s rows st i h k in
      pl.class i h k ∙ ap (λ (x : ℕ). with_slot (with_id r (order_of rows (suc i))) x) (types_place τ s rows r c (pl.types i h k))

  -- ---- the library that a number names, in the placed rows

  pub placed_kind : (i : ℕ) → i < length rows → (get_or ps i blank).kind ≡ (get_or rows i blank).kind
  placed_kind i h = go (eqb k 12) refl (is_object k) refl (is_class k) refl
    where
      k : ℕ
      k = (get_or rows i blank).kind

      go : (x : Bool) → eqb (get_or rows i blank).kind 12 ≡ x → (y : Bool) → is_object (get_or rows i blank).kind ≡ y
          → (z : Bool) → is_class (get_or rows i blank).kind ≡ z → (get_or ps i blank).kind ≡ (get_or rows i blank).kind
      go true e y f z g = ap (λ (r : Row). r.kind) (pl.library i h (eqb-true (get_or rows i blank).kind 12 e))
      go false e false f z g = ap (λ (r : Row). r.kind) (pl.other i h f e)
      go false e true f true g = ap (λ (r : Row). r.kind) (pl.class i h g)
      go false e true f false g = ap (λ (r : Row). r.kind) (pl.object i h f g)

  -- ids of libraries are kept, and so is which rows are libraries
  placed_test : (id i : ℕ) → i < length rows
      → eqb (get_or ps i blank).kind 12 && eqb (get_or ps i blank).id id ≡ eqb (get_or rows i blank).kind 12 && eqb (get_or rows i blank).id id
  placed_test id i h = go (eqb (get_or rows i blank).kind 12) refl
    where
      go : (b : Bool) → eqb (get_or rows i blank).kind 12 ≡ b
          → eqb (get_or ps i blank).kind 12 && eqb (get_or ps i blank).id id ≡ eqb (get_or rows i blank).kind 12 && eqb (get_or rows i blank).id id
      go true e = ap (λ (r : Row). eqb r.kind 12 && eqb r.id id) (pl.library i h (eqb-true (get_or rows i blank).kind 12 e))
      go false e =
          ap (λ (b : Bool). b && eqb (get_or ps i blank).id id) (ap (λ (k : ℕ). eqb k 12) (placed_kind i h) ∙ e)
          ∙ sym (ap (λ (b : Bool). b && eqb (get_or rows i blank).id id) e)

  pub placed_library : (id : ℕ) → library_row id ps ≡ library_row id rows
  unfolding library_row
  placed_library id =
      find_alike (λ (r : Row). eqb r.kind 12 && eqb r.id id) (λ (r : Row). eqb r.kind 12 && eqb r.id id) 0 ps rows pl.size
      (λ i h. placed_test id i (omega (arith, pl.size)))

  -- ---- the first library with a name

  -- scans over the rows by a library's bytes and by its name
  library_scan : (j : ℕ) → j < length rows → (get_or rows j blank).kind ≡ 12
      → first_library s rows (get_or rows j blank) ≡ library_first s rows (text_from s ((get_or rows j blank).offset + 5))
  unfolding first_library library_first
  library_scan j h k =
      find_alike (same_name s (get_or rows j blank)) (λ (r : Row). eqb r.kind 12 && same_bytes name (text_from s (r.offset + 5))) 0 rows rows refl
      (λ i l. go i l (eqb (get_or rows i blank).kind 12) refl)
    where
      name : List ℕ
      name = text_from s ((get_or rows j blank).offset + 5)

      go : (i : ℕ) → i < length rows → (b : Bool) → eqb (get_or rows i blank).kind 12 ≡ b
          → same_name s (get_or rows j blank) (get_or rows i blank) ≡ eqb (get_or rows i blank).kind 12 && same_bytes name (text_from s ((get_or rows i blank).offset + 5))
      go i l true e =
          let q = eqb-true (get_or rows i blank).kind 12 e in
          same_name_lem τ s (get_or rows j blank) (get_or rows i blank) (library_row_lem τ s rows st j h k) (library_row_lem τ s rows st i l q) q
          ∙ sym (ap (λ (b : Bool). b && same_bytes name (text_from s ((get_or rows i blank).offset + 5))) e)
      go i l false e = other_kind s (get_or rows j blank) (get_or rows i blank) e ∙ sym (ap (λ (b : Bool). b && same_bytes name (text_from s ((get_or rows i blank).offset + 5))) e)

  field_name : (p j : ℕ) → library_row (number_from s p) rows ≡ suc j → name_at_field s rows p ≡ text_from s ((get_or rows j blank).offset + 5)
  unfolding name_at_field library_name
  field_name p j e =
      let o : suc j - 1 ≡ j = omega arith in
      ap (λ (x : ℕ). text_from s ((get_or rows (x - 1) blank).offset + 5)) e ∙ ap (λ (x : ℕ). text_from s ((get_or rows x blank).offset + 5)) o

  library_count : (p j : ℕ) → library_row (number_from s p) rows ≡ suc j → j < length rows → (get_or rows j blank).kind ≡ 12
      → library_at s ps p ≡ first_library s rows (get_or rows j blank)
  unfolding library_at
  library_count p j e h k =
      let o : suc j - 1 ≡ j = omega arith in
      ap (λ (x : ℕ). (get_or ps (x - 1) blank).count) (placed_library (number_from s p) ∙ e)
      ∙ (ap (λ (x : ℕ). (get_or ps x blank).count) o ∙ ap (λ (r : Row). r.count) (pl.library j h k))

  pub first_of : (p j : ℕ) → library_row (number_from s p) rows ≡ suc j → j < length rows → (get_or rows j blank).kind ≡ 12 → First s rows ps p
  unfolding library_first
  first_of p j found inside kind =
      let name = text_from s ((get_or rows j blank).offset + 5) in
      let test : Row → Bool = λ (r : Row). eqb r.kind 12 && same_bytes name (text_from s (r.offset + 5)) in
      let n = field_name p j found in
      let own = both_true (eqb (get_or rows j blank).kind 12) (same_bytes name name) (eq-eqb (get_or rows j blank).kind 12 kind) (true_same name name refl) in
      let x = find_some test 0 rows j inside own in
      let e : find_from test 0 rows ≡ suc x.0 = x.1 ∙ omega arith in
      let y = find_hit test rows x.0 e in
      let z = both_of (eqb (get_or rows x.0 blank).kind 12) (same_bytes name (text_from s ((get_or rows x.0 blank).offset + 5))) y.1 in
      record {
        row = x.0;
        same = library_count p j found inside kind ∙ (library_scan j inside kind ∙ ap (library_first s rows) (sym n));
        first = ap (library_first s rows) n ∙ e;
        inside = y.0;
        kind = eqb-true (get_or rows x.0 blank).kind 12 z.0;
        name = sym (n ∙ same_eq name (text_from s ((get_or rows x.0 blank).offset + 5)) z.1);
      }

  pub library_first_lem : (p : ℕ) → NamesLibrary s rows p → First s rows ps p
  library_first_lem p w = first_of p w.row w.found w.inside w.kind

  -- two fields lead to one first row where they say one name
  pub same_library : (p q : ℕ) → NamesLibrary s rows p → NamesLibrary s rows q
      → eqb (library_at s ps p) (library_at s ps q) ≡ same_bytes (name_at_field s rows p) (name_at_field s rows q)
  same_library p q v w =
      let x = library_first_lem p v in
      let y = library_first_lem q w in
      let m = name_at_field s rows p in
      let n = name_at_field s rows q in
      bool_ext (eqb (library_at s ps p) (library_at s ps q)) (same_bytes m n)
      (λ t.
      let e : x.row ≡ y.row = omega (arith, eqb-true (library_at s ps p) (library_at s ps q) t, x.same ∙ x.first, y.same ∙ y.first) in
      true_same m n (sym x.name ∙ (ap (λ (f : ℕ). text_from s ((get_or rows f blank).offset + 5)) e ∙ y.name)))
      (λ t. eq-eqb (library_at s ps p) (library_at s ps q) (x.same ∙ (ap (library_first s rows) (same_eq m n t) ∙ sym y.same)))

-- ---- first rows of classes put into links change nothing of this

module _ (s : List ℕ) (rows ps fs : List Row) (fi : Firsts s rows ps fs) where
  -- every row keeps every word but its link
  pub firsts_word : {A : Type 0} (f : Row → A) → ((r : Row) (x : ℕ) → f (with_link r x) ≡ f r) → (i : ℕ) → f (get_or fs i blank) ≡ f (get_or ps i blank)
  firsts_word f keeps i = go (dec_lt i (length ps))
    where
      by : i < length ps → (b : Bool) → is_class (get_or ps i blank).kind ≡ b → f (get_or fs i blank) ≡ f (get_or ps i blank)
      by h true e = ap f (fi.class i h e) ∙ keeps (get_or ps i blank) (first_class s ps (get_or ps i blank))
      by h false e = ap f (fi.other i h e)

      go : Dec (i < length ps) → f (get_or fs i blank) ≡ f (get_or ps i blank)
      go (yes h) = by h (is_class (get_or ps i blank).kind) refl
      go (no h) =
          let l : length fs ≤ i = omega (arith, fi.size) in
          let m : length ps ≤ i = omega arith in
          ap f (get_or-eq_default fs blank l ∙ sym (get_or-eq_default ps blank m))

  pub firsts_library : (p : ℕ) → library_at s fs p ≡ library_at s ps p
  unfolding library_at library_row
  firsts_library p =
      let id = number_from s p in
      let test : Row → Bool = λ (r : Row). eqb r.kind 12 && eqb r.id id in
      let e = find_alike test test 0 fs ps fi.size (λ i h. firsts_word test (λ r x. refl) i) in
      ap (λ (x : ℕ). (get_or fs (x - 1) blank).count) e ∙ firsts_word (λ (r : Row). r.count) (λ r x. refl) (find_from test 0 ps - 1)

-- ---- every field of all rows

rows_all : (P : ℕ → Type 0) (s : List ℕ) (i : ℕ) (rows : List Row)
    → ((k : ℕ) → k < length rows → All P (row_fields s (i + k) (get_or rows k blank))) → All P (fields_from s i rows)
unfolding fields_from
rows_all P s i [] h = none
rows_all P s i (r ∷ rows) h =
    let z : i + 0 ≡ i = omega arith in
    all_append (subst (λ (n : ℕ). All P (row_fields s n r)) z (h 0 (omega arith))) (rows_all P s (i + 1) rows next)
  where
    next : (k : ℕ) → k < length rows → All P (row_fields s (i + 1 + k) (get_or rows k blank))
    next k l =
        let z : i + suc k ≡ i + 1 + k = omega arith in
        subst (λ (n : ℕ). All P (row_fields s n (get_or rows k blank))) z (h (suc k) (omega arith))

module _ (τ : Terms) (s : List ℕ) (rows ps fs : List Row) (st : Stands τ s rows) (pl : Placed τ s rows ps) (fi : Firsts s rows ps fs) where
  row_names : (i : ℕ) → i < length rows → All (NamesLibrary s rows) (row_fields s i (get_or fs i blank))
  unfolding row_fields
  row_names i h =
      picked (All (NamesLibrary s rows)) (is_first i q) classes
      (λ e. picked (All (NamesLibrary s rows)) (eqb q.kind 7) arrays (λ e. none))
    where
      q : Row
      q = get_or fs i blank

      kind : q.kind ≡ (get_or rows i blank).kind
      kind = firsts_word s rows ps fs fi (λ (r : Row). r.kind) (λ r x. refl) i ∙ placed_kind τ s rows ps st pl i h

      classes : is_first i q ≡ true → All (NamesLibrary s rows) (class_fields s q)
      classes e =
          let k = ap is_class (sym kind) ∙ (pick_of (is_class q.kind) (eqb q.link (i + 1)) e).0 in
          let p = placed_class τ s rows ps st pl i h k in
          class_names τ s rows (get_or rows i blank) (class_at_holds τ s rows st i h k) q kind
          (firsts_word s rows ps fs fi (λ (r : Row). r.end) (λ r x. refl) i ∙ ap (λ (r : Row). r.end) p)
          (firsts_word s rows ps fs fi (λ (r : Row). r.count) (λ r x. refl) i ∙ ap (λ (r : Row). r.count) p)
          (firsts_word s rows ps fs fi (λ (r : Row). r.slot) (λ r x. refl) i ∙ ap (λ (r : Row). r.slot) p)

      arrays : eqb q.kind 7 ≡ true → All (NamesLibrary s rows) (array_fields s q)
      arrays e =
          let k = sym kind ∙ eqb-true q.kind 7 e in
          array_names τ s rows (get_or rows i blank) (array_at τ s rows st i h k) q
          (firsts_word s rows ps fs fi (λ (r : Row). r.offset) (λ r x. refl) i
          ∙ ap (λ (r : Row). r.offset) (pl.object i h (ap is_object k) (ap is_class k)))

  pub fields_name : All (NamesLibrary s rows) (fields_from s 0 fs)
  fields_name =
      rows_all (NamesLibrary s rows) s 0 fs (λ k h.
      let z : 0 + k ≡ k = omega arith in
      subst (λ (n : ℕ). All (NamesLibrary s rows) (row_fields s n (get_or fs k blank))) (sym z) (row_names k (omega (arith, fi.size, pl.size))))
