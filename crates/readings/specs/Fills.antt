-- How a record that the grammar takes stands before what is still to be read (01, What may stand where): at the top level or in the next slot,
-- whatever its kind.
use Rattle.std.specs.Prelude.{ℕ, suc, ◌+◌, ◌-◌, ◌≤◌, ◌<◌, ◌≡◌, true, false, ◌||◌, length, take, drop, eqb}
use Rattle.std.proofs.Math.Path.{refl}
use Rattle.std.proofs.Common.{sym, ◌∙◌, subst, arith}
use mathlib.Core.List.{List, [], ◌∷◌, ◌++◌, append-nil}
use Rattle.format.specs.Terms.{Terms}
use Rattle.format.specs.declared.SlotType.{SlotType}
use Rattle.format.specs.declared.SlotType.TheVariants as S
use Rattle.format.specs.declared.Where.{Where}
use Rattle.format.specs.declared.Where.TheVariants as W
use Rattle.format.specs.declared.Row.{Row}
use Rattle.format.specs.Types.{is_primitive}
use Rattle.format.specs.Rows.{is_object}
use Rattle.format.specs.Records.{allowed}
use Rattle.format.specs.Contents.{Rec, enc}
use Rattle.format.specs.Grammar as G
use Rattle.format.specs.Grammar.{Entry, another, Cur, cur, row_of, size, takes_objects, takes_strings, system_class_rule, library_class_rule, class_by_id_rule, Body, hollow, Slots, an_object_rule, a_string_rule, a_typed_primitive, a_reference_rule, a_null_rule, a_run, a_long_run, a_library_rule, Array, of_objects, of_strings, of_primitives, of_any, of_values, Objects, the_end, one_object, one_string, one_array, one_library, all_take}
use Rattle.format.proofs.Own.{takes_exactly}
use Rattle.laws.specs.Tests.{apart}
use Rattle.places.specs.Recs.{Good, is_header, is_class_by_id, is_system_class, is_library_class, is_string, is_typed_primitive, is_reference, is_null_rule, is_end, is_library_rule, is_nulls_rule, is_many_nulls, is_array, entry_for}
use Rattle.readings.specs.Steps.{where_of}
use Rattle.readings.specs.Frames.{array_kinds}

-- ---- what may stand in a slot

pub in_slots : (P : Where → Type 0) → P W.StringSlot → P W.ObjectSlot → P W.ArraySlot → (t : SlotType) → P (where_of t)
in_slots P a b c (S.Primitive x) = c
in_slots P a b c S.Text = a
in_slots P a b c S.Object = b
in_slots P a b c S.SystemClass = b
in_slots P a b c S.Class = b
in_slots P a b c S.ObjectArray = c
in_slots P a b c S.StringArray = c
in_slots P a b c (S.PrimitiveArray x) = c

-- a kind that stands in slots of objects alone
takes_objects_lem : (t : SlotType) (k : ℕ) → allowed W.StringSlot k ≡ false → allowed W.ArraySlot k ≡ false → allowed (where_of t) k ≡ true → takes_objects t ≡ true
takes_objects_lem (S.Primitive x) k a b e = apart (sym b ∙ e)
takes_objects_lem S.Text k a b e = apart (sym a ∙ e)
takes_objects_lem S.Object k a b e = refl
takes_objects_lem S.SystemClass k a b e = refl
takes_objects_lem S.Class k a b e = refl
takes_objects_lem S.ObjectArray k a b e = apart (sym b ∙ e)
takes_objects_lem S.StringArray k a b e = apart (sym b ∙ e)
takes_objects_lem (S.PrimitiveArray x) k a b e = apart (sym b ∙ e)

takes_strings_lem : (t : SlotType) (k : ℕ) → allowed W.ArraySlot k ≡ false → allowed (where_of t) k ≡ true → takes_strings t ≡ true
takes_strings_lem (S.Primitive x) k b e = apart (sym b ∙ e)
takes_strings_lem S.Text k b e = refl
takes_strings_lem S.Object k b e = refl
takes_strings_lem S.SystemClass k b e = refl
takes_strings_lem S.Class k b e = refl
takes_strings_lem S.ObjectArray k b e = apart (sym b ∙ e)
takes_strings_lem S.StringArray k b e = apart (sym b ∙ e)
takes_strings_lem (S.PrimitiveArray x) k b e = apart (sym b ∙ e)

-- arrays stand at the top level alone
array_slot : (τ : Terms) {es : List Entry} {r : Rec} {k i n : ℕ} {ts : List SlotType} → Array τ es r k i n ts → (t : SlotType) → allowed (where_of t) k ≡ false
unfolding allowed
array_slot τ (of_objects a) t = in_slots (λ (w : Where). allowed w 16 ≡ false) refl refl refl t
array_slot τ (of_strings a) t = in_slots (λ (w : Where). allowed w 17 ≡ false) refl refl refl t
array_slot τ (of_primitives a b) t = in_slots (λ (w : Where). allowed w 15 ≡ false) refl refl refl t
array_slot τ (of_any a b c d e) t = in_slots (λ (w : Where). allowed w 7 ≡ false) refl refl refl t
array_slot τ (of_values a b c) t = in_slots (λ (w : Where). allowed w 7 ≡ false) refl refl refl t

array_entry : (τ : Terms) {es : List Entry} {r : Rec} {k i n : ℕ} {ts : List SlotType} (row : ℕ) → Array τ es r k i n ts → entry_for row r ≡ another i ∷ []
array_entry τ row (of_objects a) = refl
array_entry τ row (of_strings a) = refl
array_entry τ row (of_primitives a b) = refl
array_entry τ row (of_any a b c d e) = refl
array_entry τ row (of_values a b c) = refl

-- ---- the slots of an object

pub hollow_body : (τ : Terms) {room row : ℕ} (ts : List SlotType) {c : Cur} → 0 ≡ length ts → Body τ room row ts c c
hollow_body τ [] e = hollow
hollow_body τ (t ∷ ts) e = absurd (omega arith)

pub open_body : (τ : Terms) {own : ℕ} (d : ℕ) (ts : List SlotType) {c c₁ : Cur} → 0 < length ts → d < 64 → Slots τ (64 - suc d) own 0 ts c c₁ → Body τ (64 - d) own ts c c₁
open_body τ d [] h i b = absurd (omega arith)
open_body τ {own} d (t ∷ ts) {c} {c₁} h i b =
    let e : suc (64 - suc d) ≡ 64 - d = omega arith in
    subst (λ (n : ℕ). Body τ n own (t ∷ ts) c c₁) e (G.filled b)

no_body : (τ : Terms) {room row : ℕ} {c c₁ : Cur} → Body τ room row [] c c₁ → c ≡ c₁
no_body τ hollow = refl

-- ---- a record before what is still to be read

-- after a record that the grammar takes at this place
abbrev pub after : ℕ → ℕ → List Entry → Rec → List Rec → List Row → Cur
after at row es r rs is = cur (at + size r) (suc row) (es ++ entry_for (suc row) r) rs is

module _ (τ : Terms) {at row : ℕ} {es : List Entry} {rs : List Rec} {is : List Row} where
  -- an object, at the top level
  pub top_object : {k id count class : ℕ} {r : Rec} {ts : List SlotType} {c : Cur} → Good τ es k r id count class ts → is_object k ≡ true
      → Body τ 64 (suc row) ts (after at row es r rs is) c → Objects τ c → Objects τ (cur at row es (r ∷ rs) (row_of k at r id 0 0 class count ∷ is))
  top_object (is_header a b) o d k = apart o
  top_object (is_class_by_id a b e) o d k = one_object (class_by_id_rule a b e refl d) k
  top_object (is_system_class a b) o d k = one_object (system_class_rule a b refl d) k
  top_object (is_library_class a b e) o d k = one_object (library_class_rule a b e refl d) k
  top_object (is_string a b) o d k = one_string a b refl (subst (Objects τ) (sym (no_body τ d)) k)
  top_object (is_typed_primitive a) o d k = apart o
  top_object (is_reference a) o d k = apart o
  top_object is_null_rule o d k = apart o
  top_object is_end o d k = apart o
  top_object (is_library_rule a b e) o d k = apart o
  top_object (is_nulls_rule a) o d k = apart o
  top_object (is_many_nulls a) o d k = apart o
  top_object {r = r} {ts = ts} {c = c} (is_array a b) o d k =
      one_array a b refl (subst (λ (x : List Entry). Body τ 64 (suc row) ts (cur (at + size r) (suc row) (es ++ x) rs is) c) (array_entry τ (suc row) b) d) k

  -- and in a slot
  pub slot_object : {room own slot k id count class : ℕ} {r : Rec} {ts : List SlotType} {c c₁ : Cur} (t : SlotType) (us : List SlotType) → Good τ es k r id count class ts → is_object k ≡ true
      → allowed (where_of t) k ≡ true → Body τ room (suc row) ts (after at row es r rs is) c → Slots τ room own (slot + 1) us c c₁
      → Slots τ room own slot (t ∷ us) (cur at row es (r ∷ rs) (row_of k at r id own slot class count ∷ is)) c₁
  unfolding allowed
  slot_object t us (is_header a b) o w d k = apart o
  slot_object t us (is_class_by_id a b e) o w d k = an_object_rule (takes_objects_lem t 1 refl refl w) (class_by_id_rule a b e refl d) k
  slot_object t us (is_system_class a b) o w d k = an_object_rule (takes_objects_lem t 4 refl refl w) (system_class_rule a b refl d) k
  slot_object t us (is_library_class a b e) o w d k = an_object_rule (takes_objects_lem t 5 refl refl w) (library_class_rule a b e refl d) k
  slot_object {room} {own} {slot} {c₁ = c₁} t us (is_string a b) o w d k =
      a_string_rule (takes_strings_lem t 6 refl w) a b refl (subst (λ (x : Cur). Slots τ room own (slot + 1) us x c₁) (sym (no_body τ d)) k)
  slot_object t us (is_typed_primitive a) o w d k = apart o
  slot_object t us (is_reference a) o w d k = apart o
  slot_object t us is_null_rule o w d k = apart o
  slot_object t us is_end o w d k = apart o
  slot_object t us (is_library_rule a b e) o w d k = apart o
  slot_object t us (is_nulls_rule a) o w d k = apart o
  slot_object t us (is_many_nulls a) o w d k = apart o
  slot_object t us (is_array a b) o w d k = apart (sym (array_slot τ b t) ∙ w)

  -- a library
  pub top_library : {id count class : ℕ} {r : Rec} {ts : List SlotType} → Good τ es 12 r id count class ts
      → Objects τ (after at row es r rs is) → Objects τ (cur at row es (r ∷ rs) (row_of 12 at r id 0 0 class count ∷ is))
  top_library (is_library_rule a b e) k = one_library a b e refl k
  top_library {id = id} {count = count} {r = r} {ts = ts} (is_array _ x15) k = elim x15 [ ]

  pub slot_library : {room own slot id count class : ℕ} {r : Rec} {ts : List SlotType} {c : Cur} (t : SlotType) (us : List SlotType) → Good τ es 12 r id count class ts
      → is_primitive t ≡ false → Slots τ room own slot (t ∷ us) (after at row es r rs is) c
      → Slots τ room own slot (t ∷ us) (cur at row es (r ∷ rs) (row_of 12 at r id 0 0 class count ∷ is)) c
  slot_library t us (is_library_rule a b e) p k = a_library_rule ((takes_exactly t).0 p) a b e refl k
  slot_library {room = room} {own = own} {slot = slot} {id = id} {count = count} {r = r} {ts = ts} {c = c} t us (is_array _ x16) p k = elim x16 [ ]

  -- a null run
  pub slot_run : {room own slot id count class : ℕ} {r : Rec} {ts : List SlotType} {c : Cur} (t : SlotType) (us vs : List SlotType) → Good τ es 13 r id count class ts
      → is_primitive t ≡ false → count ≤ length (t ∷ us) → all_take (take count (t ∷ us)) ≡ true → vs ≡ drop count (t ∷ us)
      → Slots τ room own (slot + count) vs (after at row es r rs is) c
      → Slots τ room own slot (t ∷ us) (cur at row es (r ∷ rs) (row_of 13 at r id own slot class count ∷ is)) c
  unfolding enc
  slot_run {room} {own} {slot} {count = count} {c = c} t us vs (is_nulls_rule a) p l n e k =
      a_run ((takes_exactly t).0 p) a l n e refl (subst (λ (x : List Entry). Slots τ room own (slot + count) vs (cur (at + 2) (suc row) x rs is) c) (append-nil es) k)
  slot_run {room = room} {own = own} {slot = slot} {id = id} {count = count} {r = r} {ts = ts} {c = c} t us vs (is_array _ x19) p l n e k = elim x19 [ ]

  pub slot_long_run : {room own slot id count class : ℕ} {r : Rec} {ts : List SlotType} {c : Cur} (t : SlotType) (us vs : List SlotType) → Good τ es 14 r id count class ts
      → is_primitive t ≡ false → count ≤ length (t ∷ us) → all_take (take count (t ∷ us)) ≡ true → vs ≡ drop count (t ∷ us)
      → Slots τ room own (slot + count) vs (after at row es r rs is) c
      → Slots τ room own slot (t ∷ us) (cur at row es (r ∷ rs) (row_of 14 at r id own slot class count ∷ is)) c
  slot_long_run {room} {own} {slot} {count = count} {r = r} {c = c} t us vs (is_many_nulls a) p l n e k =
      a_long_run ((takes_exactly t).0 p) a l n e refl (subst (λ (x : List Entry). Slots τ room own (slot + count) vs (cur (at + size r) (suc row) x rs is) c) (append-nil es) k)
  slot_long_run {room = room} {own = own} {slot = slot} {id = id} {count = count} {r = r} {ts = ts} {c = c} t us vs (is_array _ x19) p l n e k = elim x19 [ ]

  -- a typed primitive, a reference or a null
  pub slot_plain : {room own slot k id count class : ℕ} {r : Rec} {ts : List SlotType} {c : Cur} (t : SlotType) (us : List SlotType) → Good τ es k r id count class ts
      → is_object k ≡ false → (eqb k 13 || eqb k 14) ≡ false → eqb k 12 ≡ false → eqb k 11 ≡ false → allowed (where_of t) k ≡ true → is_primitive t ≡ false
      → Slots τ room own (slot + 1) us (after at row es r rs is) c
      → Slots τ room own slot (t ∷ us) (cur at row es (r ∷ rs) (row_of k at r id own slot class count ∷ is)) c
  unfolding allowed enc
  slot_plain t us (is_header a b) o n l e w p k = apart (sym (in_slots (λ (w : Where). allowed w 0 ≡ false) refl refl refl t) ∙ w)
  slot_plain t us (is_class_by_id a b f) o n l e w p k = apart (sym o)
  slot_plain t us (is_system_class a b) o n l e w p k = apart (sym o)
  slot_plain t us (is_library_class a b f) o n l e w p k = apart (sym o)
  slot_plain t us (is_string a b) o n l e w p k = apart (sym o)
  slot_plain {room} {own} {slot} {r = r} {c = c} t us (is_typed_primitive a) o n l e w p k =
      a_typed_primitive (takes_objects_lem t 8 refl refl w) a refl (subst (λ (x : List Entry). Slots τ room own (slot + 1) us (cur (at + size r) (suc row) x rs is) c) (append-nil es) k)
  slot_plain {room} {own} {slot} {r = r} {c = c} t us (is_reference a) o n l e w p k =
      a_reference_rule ((takes_exactly t).0 p) a refl (subst (λ (x : List Entry). Slots τ room own (slot + 1) us (cur (at + size r) (suc row) x rs is) c) (append-nil es) k)
  slot_plain {room} {own} {slot} {c = c} t us is_null_rule o n l e w p k =
      a_null_rule ((takes_exactly t).0 p) refl (subst (λ (x : List Entry). Slots τ room own (slot + 1) us (cur (at + 1) (suc row) x rs is) c) (append-nil es) k)
  slot_plain t us is_end o n l e w p k = apart (sym e)
  slot_plain t us (is_library_rule a b f) o n l e w p k = apart (sym l)
  slot_plain t us (is_nulls_rule a) o n l e w p k = apart (sym n)
  slot_plain t us (is_many_nulls a) o n l e w p k = apart (sym n)
  slot_plain t us (is_array a b) o n l e w p k = apart (sym o ∙ (array_kinds τ b).0)

-- the end record
pub top_end : (τ : Terms) {at row : ℕ} {es : List Entry} {id count class : ℕ} {r : Rec} {ts : List SlotType} → Good τ es 11 r id count class ts
    → Objects τ (cur at row es (r ∷ []) (row_of 11 at r id 0 0 class count ∷ []))
top_end τ is_end = the_end refl
top_end τ {at = at} {row = row} {es = es} {id = id} {count = count} {r = r} {ts = ts} (is_array _ x14) = elim x14 [ ]

-- no typed primitive, reference, null or null run stands at the top level
pub top_plain : (τ : Terms) {es : List Entry} {k id count class : ℕ} {r : Rec} {ts : List SlotType} → Good τ es k r id count class ts
    → is_object k ≡ false → eqb k 12 ≡ false → eqb k 11 ≡ false → allowed W.Top k ≡ true → ⊥
unfolding allowed
top_plain τ (is_header a b) o l e w = apart w
top_plain τ (is_class_by_id a b f) o l e w = apart (sym o)
top_plain τ (is_system_class a b) o l e w = apart (sym o)
top_plain τ (is_library_class a b f) o l e w = apart (sym o)
top_plain τ (is_string a b) o l e w = apart (sym o)
top_plain τ (is_typed_primitive a) o l e w = apart w
top_plain τ (is_reference a) o l e w = apart w
top_plain τ is_null_rule o l e w = apart w
top_plain τ is_end o l e w = apart (sym e)
top_plain τ (is_library_rule a b f) o l e w = apart (sym l)
top_plain τ (is_nulls_rule a) o l e w = apart w
top_plain τ (is_many_nulls a) o l e w = apart w
top_plain τ (is_array a b) o l e w = apart (sym o ∙ (array_kinds τ b).0)
