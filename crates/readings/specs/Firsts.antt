-- The type bytes of a class never stand at the start of a stream (01, Records), so the slots of an object of a class are walked, and those of an
-- array are alike and not primitive.
use Rattle.std.specs.Prelude.{ℕ, zero, suc, ◌+◌, ◌-◌, ◌<◌, ◌≡◌, refl, Bool, true, false, List, [], ◌∷◌, ◌++◌, length, get_or, replicate, eqb, Ok}
use Rattle.std.proofs.Common.{sym, ap, ◌∙◌, subst, arith}
use borrow.Author.Tests.{eqb-false}
use Rattle.format.specs.Terms.{Terms}
use Rattle.format.specs.declared.SlotType.{SlotType}
use Rattle.format.specs.declared.Typed.{Typed}
use Rattle.format.specs.declared.Head.{Head}
use Rattle.format.specs.declared.Row.{Row}
use Rattle.format.specs.Numbers.{u32_at, negative}
use Rattle.format.specs.Values.{times}
use Rattle.format.specs.Types.{type_byte_at, name_at, typed_at, moved, is_primitive}
use Rattle.format.specs.Rows.{blank, is_class, is_untyped, class_row}
use Rattle.format.specs.Records.{good_class_id, infos_at, after_infos, members_at, class_at, first_type, class_by_id_at, heading_at}
use Rattle.format.specs.Contents.{slot_for, Rec}
use Rattle.format.specs.Grammar.{Entry, Array, of_objects, of_strings, of_primitives, of_any, of_values}
use Rattle.format.proofs.Own.{takes_exactly}
use Rattle.fields.specs.Judged.{picked}
use Rattle.lookups.specs.Find.{class_at_holds}
use Rattle.class_info.specs.Ends.{number_moves}
use Rattle.class_info.specs.Moves.{names_there}
use Rattle.headings.specs.Headings.{by_id_heading, system_heading, class_heading}
use Rattle.places.specs.Env.{slots_from}
use Rattle.places.specs.Recs.{Good, is_header, is_class_by_id, is_system_class, is_library_class, is_string, is_typed_primitive, is_reference, is_null_rule, is_end, is_library_rule, is_nulls_rule, is_many_nulls, is_array, Back, told_slots}
use Rattle.places.specs.Tells.{Said, said_number, said_field, said_if}
use Rattle.readings.specs.Shape.{slots_next, Free}

-- ---- rows of classes

-- a row before linking: where it is a class's, its type bytes stand after the start
abbrev pub Later : Row → Type 0
Later r = is_class r.kind ≡ true → 0 < r.link

abbrev pub AllLater : List Row → Type 0
AllLater [] = Unit {0}
AllLater (r ∷ rows) = Later r × AllLater rows

pub later_more : (rows : List Row) (r : Row) → AllLater rows → Later r → AllLater (rows ++ (r ∷ []))
later_more [] r w l = (l, tt)
later_more (x ∷ rows) r w l = (w.0, later_more rows r w.1 l)

later_at : (rows : List Row) (i : ℕ) → AllLater rows → i < length rows → Later (get_or rows i blank)
later_at [] i w h = absurd (omega arith)
later_at (r ∷ rows) zero w h = w.0
later_at (r ∷ rows) (suc i) w h = later_at rows i w.1 (omega arith)

-- ---- records of classes

-- the types of the slots stand after the start
abbrev Walked : Head → Type 0
Walked h = 0 < h.first.types

walked_free : (h : Head) → Walked h → Free h.first
walked_free h w z = absurd (omega arith)

-- those of an object of the class in a row, wherever they stand
first_at : (β s : List ℕ) (c : Row) → (first_type β s c).types ≡ c.link
unfolding first_type typed_at
first_at β s c = picked (λ (t : Typed). t.types ≡ c.link) (is_untyped c.kind) (λ u. refl) (λ u. refl)

module _ (τ : Terms) (s : List ℕ) (rows : List Row) (at : ℕ) where
  class_walked : (own : Bool) → Said (λ (h : Head). (0 < h.link) × Walked h) (class_at τ.setting s rows own at)
  unfolding class_at members_at typed_at
  class_walked own =
      let P : Head → Type 0 = λ (h : Head). (0 < h.link) × Walked h in
      said_number P _ (u32_at s (at + 1)) (λ id p a.
      said_if P (good_class_id rows id) _ _ (λ b.
      said_field P _ (name_at τ.setting s p) (λ c d.
      said_number P _ (u32_at s c) (λ n r e.
      said_if P (negative n) _ _ (λ f. tt) (λ f.
      said_field P _ (times (name_at τ.setting s) n r) (λ types g.
      let m = number_moves s c n r e in
      let k = names_there τ.setting s n r types m.1 g in
      let z : 0 < types = omega (arith, m.0, k.0) in
      said_field P _ (times (type_byte_at s) n types) (λ infos i.
      said_field P _ (infos_at τ.setting s rows n types infos) (λ x j.
      said_field P _ (after_infos own s rows x) (λ end l. (z, z)))))))))
      (λ b. tt))

  by_id_walked : AllLater rows → Said Walked (class_by_id_at τ.book s rows at)
  unfolding class_by_id_at
  by_id_walked w =
      said_number Walked _ (u32_at s (at + 1)) (λ id p a.
      said_if Walked (good_class_id rows id) _ _ (λ b.
      said_number Walked _ (u32_at s p) (λ class end c.
      said_if Walked (eqb (class_row class rows) 0) _ _ (λ d. tt) (λ d.
      let n = eqb-false (class_row class rows) 0 d in
      let f = class_at_holds class rows (omega (arith, n)) in
      rw (first_at τ.book s (get_or rows (class_row class rows - 1) blank)) (later_at rows (class_row class rows - 1) w f.inside f.kind))))
      (λ b. tt))

-- ---- arrays

alike_first : (ts : List SlotType) (n : ℕ) (t u : SlotType) → t ∷ ts ≡ replicate n u → is_primitive u ≡ false → is_primitive t ≡ false
alike_first ts zero t u e p = absurd (let z : suc (length ts) ≡ 0 = ap length e in omega arith)
alike_first ts (suc n) t u e p = let z : t ≡ u = cc in rw z p

array_first : (τ : Terms) {es : List Entry} {r : Rec} {k i n : ℕ} {us : List SlotType} (t : SlotType) (ts : List SlotType) → Array τ es r k i n us → t ∷ ts ≡ us → is_primitive t ≡ false
array_first τ {n = n} t ts (of_objects a) e = alike_first ts n t _ e refl
array_first τ {n = n} t ts (of_strings a) e = alike_first ts n t _ e refl
array_first τ t ts (of_primitives a b) e = absurd (let z : suc (length ts) ≡ 0 = ap length e in omega arith)
array_first τ {n = n} t ts (of_any {d = g} a b c d f) e = alike_first ts n t (slot_for g) (e ∙ f) ((takes_exactly (slot_for g)).1 d)
array_first τ t ts (of_values a b c) e = absurd (let z : suc (length ts) ≡ 0 = ap length e in omega arith)

-- ---- any record

abbrev pub First : ℕ → Head → Type 0
First k h = (is_class k ≡ true → 0 < h.link) × (0 < h.slots → Free h.first)

module _ (τ : Terms) (s : List ℕ) (rows : List Row) (at : ℕ) (h : Head) where
  plain_first : (k : ℕ) → is_class k ≡ false → h.slots ≡ 0 → First k h
  plain_first k c e = (λ t. absurd (let f : true ≡ false = sym t ∙ c in let z : ◌≡◌ {A = ℕ} 0 1 = cc in omega arith), λ l. absurd (omega arith))

  class_first_lem : (k : ℕ) (own : Bool) → heading_at τ s rows k at ≡ class_at τ.setting s rows own at → heading_at τ s rows k at ≡ Ok h → First k h
  class_first_lem k own e f =
      let w = subst (Said (λ (h : Head). (0 < h.link) × Walked h)) (sym e ∙ f) (class_walked τ s rows at own) in
      (λ t. w.0, λ l. walked_free h w.1)

  array_class : {es : List Entry} {r : Rec} {k i n : ℕ} {ts : List SlotType} → Array τ es r k i n ts → is_class k ≡ false
  array_class (of_objects a) = refl
  array_class (of_strings a) = refl
  array_class (of_primitives a b) = refl
  array_class (of_any a b c d e) = refl
  array_class (of_values a b c) = refl

  first_of : (k : ℕ) (r : Rec) (id count class : ℕ) (ts : List SlotType) {es : List Entry} → AllLater rows → heading_at τ s rows k at ≡ Ok h
      → h.slots ≡ length ts → slots_from τ.book s h.first h.slots ≡ ts → Good τ es k r id count class ts → First k h
  first_of k r id count class ts w e l q (is_header a b) = plain_first 0 refl l
  first_of k r id count class ts w e l q (is_class_by_id a b c) =
      let x = subst (Said Walked) (sym (by_id_heading τ s rows 1 at refl) ∙ e) (by_id_walked τ s rows at w) in
      (λ t. absurd (let z : ◌≡◌ {A = ℕ} 0 1 = cc in omega arith), λ l. walked_free h x)
  first_of k r id count class ts w e l q (is_system_class a b) = class_first_lem 4 false (system_heading τ s rows 4 at refl) e
  first_of k r id count class ts w e l q (is_library_class a b c) = class_first_lem 5 true (class_heading τ s rows 5 at refl) e
  first_of k r id count class ts w e l q (is_string a b) = plain_first 6 refl l
  first_of k r id count class ts w e l q (is_typed_primitive a) = plain_first 8 refl l
  first_of k r id count class ts w e l q (is_reference a) = plain_first 9 refl l
  first_of k r id count class ts w e l q is_null_rule = plain_first 10 refl l
  first_of k r id count class ts w e l q is_end = plain_first 11 refl l
  first_of k r id count class ts w e l q (is_library_rule a b c) = plain_first 12 refl l
  first_of k r id count class ts w e l q (is_nulls_rule a) = plain_first 13 refl l
  first_of k r id count class ts w e l q (is_many_nulls a) = plain_first 14 refl l
  first_of k r id count class ts w e l q (is_array a b) = (
    λ t. absurd (let f : true ≡ false = sym t ∙ array_class b in let z : ◌≡◌ {A = ℕ} 0 1 = cc in omega arith),
    λ x z. array_first τ h.first.slot (slots_from τ.book s (moved τ.book s h.first) (h.slots - 1)) b (sym (slots_next τ.book s h.first h.slots x) ∙ q),
  )

  pub heading_first : (k : ℕ) → AllLater rows → heading_at τ s rows k at ≡ Ok h → Back τ s rows k at h → First k h
  heading_first k w e b = first_of k b.rec b.id b.count b.class b.types w e (told_slots b.told) b.told.slots_are b.good
