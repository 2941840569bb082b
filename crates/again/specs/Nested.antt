-- Records that may follow one another are read by the grammar (01, What may stand where): the flat list with its open objects nests as the grammar asks.
use Prim.Native.Nat.{ℕ, suc, ◌+◌, ◌-◌, ◌<◌}
use Rattle.std.specs.Prelude.{◌≡◌, Bool, true, false, drop}
use Rattle.std.proofs.Math.Path.{refl, ap, subst}
use Rattle.std.proofs.Common.{sym, ◌∙◌}
use mathlib.Core.List.{List, [], ◌∷◌, ◌++◌, append-nil}
use native.Mathlib.Omega.{arith}
use Rattle.std.proofs.Math.ListN.{length}
use Rattle.format.specs.Terms.{Terms}
use Rattle.format.specs.declared.SlotType.{SlotType}
use Rattle.format.specs.declared.Row.{Row}
use Rattle.format.specs.Bytes.{pick}
use Rattle.format.specs.Rows.{is_object}
use Rattle.format.specs.Contents.{primitive, Rec, class_by_id, system_class, library_class, string, array, typed_primitive, reference, null, nulls, many_nulls, end, library, value, enc}
use Rattle.format.specs.Grammar.{Entry, another, Classed, ObjectId, takes_objects, Cur, cur, size, row_of, Object, Body, hollow, filled, Slots, full, Array, of_objects, of_strings, of_primitives, of_any, of_values, Objects, the_end}
use Rattle.format.specs.Grammar as G
use Rattle.laws.specs.Tests.{apart}
use Rattle.saying.specs.Good.{length_filled, Place, place, shut_by, shut, owner_of, slot_of, filled_one, opened_in, Deep, never_open, one_more_rule}
use Rattle.saying.specs.There.{kind_of}
use Rattle.saying.specs.Shown.{Shown, recs_of}
use Rattle.saying.specs.Counts.{made_known}
use Rattle.saying.specs.Legal.{Takes, class_by_id_rule, system_class_rule, library_class_rule, a_string_rule, an_array_rule, a_primitive_rule, a_reference_rule, a_null_rule, some_nulls, many_nulls_rule, a_library_rule, a_value_rule, one, some, many, of_class, Stands, top_object, top_library, in_object, in_string, in_primitive, in_reference, in_nulls, in_library, in_value, fills, filled_by, is_apart, open_by, Legal, all_shown_rule, a_record}
use Rattle.again.specs.Rows.{class_row_of, class_count_of, row_shown, rows_from, Placed, placed_here, placed_next}

-- ---- where records of some kinds stand

pub data ClassPlace : List Place → List SlotType → Type 0 where
  at_top : {ts : List SlotType} → ClassPlace [] ts
  in_slot_rule : {o n : ℕ} {t : SlotType} {us ts : List SlotType} {fs : List Place} → takes_objects t ≡ true → Deep ts (place o n (t ∷ us) ∷ fs)
      → ClassPlace (place o n (t ∷ us) ∷ fs) ts

class_place : (τ : Terms) {fs : List Place} {r : Rec} {ts : List SlotType} → Stands τ fs r ts → of_class (kind_of r) ≡ true → ClassPlace fs ts
class_place τ (top_object a) e = at_top
class_place τ top_library e = apart e
class_place τ (in_object q a d) e = in_slot_rule q d
class_place τ (in_string q) e = apart e
class_place τ (in_primitive q) e = apart e
class_place τ (in_reference q) e = apart e
class_place τ (in_nulls one q m p) e = apart e
class_place τ (in_nulls some q m p) e = apart e
class_place τ (in_nulls many q m p) e = apart e
class_place τ (in_library q) e = apart e
class_place τ (in_value g) e = apart e

-- arrays stand at the top level
array_top : (τ : Terms) {es : List Entry} {k i n : ℕ} {fs : List Place} {r : Rec} {ts us : List SlotType} → Array τ es r k i n ts → Stands τ fs r us → fs ≡ []
array_top τ (of_objects a) (top_object e) = refl
array_top τ (of_objects a) (in_object q e d) = apart e
array_top τ (of_strings a) (top_object e) = refl
array_top τ (of_strings a) (in_object q e d) = apart e
array_top τ (of_primitives a b) (top_object e) = refl
array_top τ (of_primitives a b) (in_object q e d) = apart e
array_top τ (of_any a b c d f) (top_object e) = refl
array_top τ (of_any a b c d f) (in_object q e g) = apart e
array_top τ (of_values a b c) (top_object e) = refl
array_top τ (of_values a b c) (in_object q e d) = apart e
array_top τ {es = es} {i = i} {n = n} (of_objects a) (in_nulls {o = o} {k = k} {t = t} {us = us} {fs = fs} x20 _ _ _) = elim x20 [ ]
array_top τ {es = es} {i = i} {n = n} (of_strings a) (in_nulls {o = o} {k = k} {t = t} {us = us} {fs = fs} x21 _ _ _) = elim x21 [ ]
array_top τ {es = es} {i = i} {n = n} (of_primitives {vs = vs} a b) (in_nulls {o = o} {k = k} {t = t} {us = us} {fs = fs} x22 _ _ _) = elim x22 [ ]
array_top τ {es = es} {i = i} {n = n} {ts = ts} (of_any {type = type} {ns = ns} a b c d f) (in_nulls {o = o} {k = k} {t = t} {us = us} {fs = fs} x23 _ _ _) = elim x23 [ ]
array_top τ {es = es} {i = i} {n = n} (of_values {type = type} {ns = ns} {vs = vs} a b c) (in_nulls {o = o} {k = k} {t = t} {us = us} {fs = fs} x24 _ _ _) = elim x24 [ ]

-- the row of an array's record, and what it makes known
record ArrayIs (es : List Entry) (r : Rec) (k i n : ℕ) : Type 0 where
  row_is : (which : ℕ → ℕ) (at o m : ℕ) → row_shown which es at r o m ≡ row_of k at r i (which o) m 0 n
  object : is_object (kind_of r) ≡ true
  inside : is_apart r ≡ false
  makes : (row : ℕ) → made_known row r ≡ another i ∷ []

array_is : (τ : Terms) {es : List Entry} {k i n : ℕ} {r : Rec} {ts : List SlotType} → Array τ es r k i n ts → ArrayIs es r k i n
array_is τ (of_objects a) = record { row_is = λ which at o m. refl; object = refl; inside = refl; makes = λ row. refl }
array_is τ (of_strings a) = record { row_is = λ which at o m. refl; object = refl; inside = refl; makes = λ row. refl }
array_is τ (of_primitives a b) = record { row_is = λ which at o m. refl; object = refl; inside = refl; makes = λ row. refl }
array_is τ (of_any {i = i} {type = type} {ns = ns} {d = d} a b c e f) =
    record { row_is = λ which at o m. ap (λ (l : ℕ). row_of 7 at (array i type ns d []) i (which o) m 0 l) (sym b); object = refl; inside = refl; makes = λ row. refl }
array_is τ (of_values {i = i} {type = type} {ns = ns} {b = c} {vs = vs} a b d) =
    record { row_is = λ which at o m. ap (λ (l : ℕ). row_of 7 at (array i type ns (primitive c) vs) i (which o) m 0 l) (sym b); object = refl; inside = refl; makes = λ row. refl }

deep_top : (ts : List SlotType) → Deep ts []
deep_top [] = never_open
deep_top (t ∷ ts) = let z : 0 < 64 = omega arith in one_more_rule {fs = []} z

-- ---- open objects, each with the slots that are left

-- how many more objects may be open where so many are
abbrev room_in : ℕ → ℕ
room_in open-ones = 64 - open-ones

module _ (τ : Terms) (which : ℕ → ℕ) (none : which 0 ≡ 0) where
  -- at the cursor the slots of the open objects stand, innermost first, and then objects at the top level
  abbrev pub Nests : List Place → Cur → Type 0
  Nests [] c = Objects τ c
  Nests (f ∷ fs) c = (c₁ : Cur) × Slots τ (room_in (suc (length fs))) (which f.owner) f.slot f.types c c₁ × Nests fs c₁

  nests_shut : (fs : List Place) (c : Cur) → Nests (shut fs) c → Nests fs c
  unfolding shut
  nests_shut [] c h = h
  nests_shut (f ∷ fs) c h = go f.types (nests_shut fs c) h
    where
      go : (ts : List SlotType) → (Nests (shut fs) c → Nests fs c) → Nests (shut_by ts f.owner f.slot fs (shut fs)) c
          → Nests (place f.owner f.slot ts ∷ fs) c
      go [] again h = (c, full, again h)
      go (t ∷ ts) again h = h

  nests_open : (count row : ℕ) (ts : List SlotType) (fs : List Place) (c : Cur) → which (suc count) ≡ suc row → Deep ts fs → Nests (opened_in (suc count) ts fs) c
      → (c₁ : Cur) × Body τ (room_in (length fs)) (suc row) ts c c₁ × Nests (filled_one fs) c₁
  unfolding shut
  nests_open count row ts fs c e never_open h = (c, hollow, nests_shut (filled_one fs) c h)
  nests_open count row ts fs c e (one_more_rule {t = t} {ts = us} d) h =
      let l : length (filled_one fs) ≡ length fs = length_filled fs in
      let m : room_in (length fs) ≡ suc (room_in (suc (length (filled_one fs)))) = omega arith in
      let b : Slots τ (room_in (suc (length (filled_one fs)))) (suc row) 0 (t ∷ us) c h.0 =
      subst (λ (o : ℕ). Slots τ (room_in (suc (length (filled_one fs)))) o 0 (t ∷ us) c h.0) e h.1 in
      (h.0, subst (λ (n : ℕ). Body τ n (suc row) (t ∷ us) c h.0) (sym m) (filled b), h.2)

  -- an object of a class
  class_nests : {fs : List Place} {ts : List SlotType} (count row : ℕ) (c after : Cur) → ClassPlace fs ts → which (suc count) ≡ suc row
      → ((room : ℕ) (c₁ : Cur) → Body τ room (suc row) ts after c₁ → Object τ room (which (owner_of fs)) (slot_of fs) c c₁)
      → Nests (opened_in (suc count) ts fs) after → Nests fs c
  class_nests {ts = ts} count row c after at_top e f h =
      let x = nests_open count row ts [] after e (deep_top ts) h in
      G.one_object (subst (λ (o : ℕ). Object τ 64 o 0 c x.0) none (f 64 x.0 x.1)) x.2
  class_nests {ts = ts} count row c after (in_slot_rule {o = o} {n = n} {t = t} {us = us} {fs = fs} q d) e f h =
      let x = nests_open count row ts (place o n (t ∷ us) ∷ fs) after e d h in
      let y = x.2 in
      (y.0, G.an_object_rule q (f (room_in (suc (length fs))) x.0 x.1) y.1, y.2)

  -- an array
  array_nests : {fs : List Place} {ts : List SlotType} {es : List Entry} {k i n : ℕ} {r : Rec} (it : Row) (rs : List Rec) (is : List Row) (count at row : ℕ)
      → fs ≡ [] → ObjectId i es → Array τ es r k i n ts → it ≡ row_of k at r i (which 0) 0 0 n → which (suc count) ≡ suc row
      → Nests (opened_in (suc count) ts fs) (cur (at + size r) (suc row) (es ++ (another i ∷ [])) rs is) → Nests fs (cur at row es (r ∷ rs) (it ∷ is))
  array_nests {fs} {ts} {es} {k} {i} {n} {r} it rs is count at row z a b q e h =
      subst (λ (y : List Place). Nests y (cur at row es (r ∷ rs) (it ∷ is))) (sym z)
      (let c : Cur = cur (at + size r) (suc row) (es ++ (another i ∷ [])) rs is in
      let x = nests_open count row ts [] c e (deep_top ts) (subst (λ (y : List Place). Nests (opened_in (suc count) ts y) c) z h) in
      G.one_array a b (q ∙ ap (λ (o : ℕ). row_of k at r i o 0 0 n) none) x.1 x.2)

  -- nothing new is known
  none_new : (fs : List Place) (at row : ℕ) (es : List Entry) (rs : List Rec) (is : List Row) → Nests (shut fs) (cur at row (es ++ []) rs is)
      → Nests fs (cur at row es rs is)
  none_new fs at row es rs is h = nests_shut fs (cur at row es rs is) (subst (λ (x : List Entry). Nests (shut fs) (cur at row x rs is)) (append-nil es) h)

  -- ---- one record

  module _ (es : List Entry) (at : ℕ) (r : Rec) where
    same_row : {o n p m : ℕ} → o ≡ p → n ≡ m → row_shown which es at r o n ≡ row_shown which es at r p m
    same_row {n = n} {p = p} e f = ap (λ (x : ℕ). row_shown which es at r x n) e ∙ ap (λ (x : ℕ). row_shown which es at r p x) f

  record_nests : (total count at row : ℕ) {fs : List Place} {es : List Entry} {r : Rec} {ts : List SlotType} (o n : ℕ) (rs : List Rec) (is : List Row) → Takes τ total es r ts
      → Stands τ fs r ts → o ≡ pick (is_apart r) 0 (owner_of fs) → n ≡ pick (is_apart r) 0 (slot_of fs) → (is_object (kind_of r) ≡ true → which (suc count) ≡ suc row)
      → Nests (open_by count fs r ts) (cur (at + size r) (suc row) (es ++ made_known (suc row) r) rs is)
      → Nests fs (cur at row es (r ∷ rs) (row_shown which es at r o n ∷ is))
  unfolding enc shut
  record_nests total count at row {fs} {es} o n rs is (class_by_id_rule {i = i} {k = k} {row = c} {ts = ts} a b e) s x y w h =
      let r : Rec = class_by_id i k in
      let q : row_shown which es at r o n ≡ row_of 1 at r i (which (owner_of fs)) (slot_of fs) c (length ts) =
      same_row es at r x y ∙ ap (λ (d : Classed). row_of 1 at r i (which (owner_of fs)) (slot_of fs) (class_row_of d) (class_count_of d)) e in
      class_nests count row _ _ (class_place τ s refl) (w refl) (λ room c₁ d. G.class_by_id_rule a b e q d) h
  record_nests total count at row {fs} {es} o n rs is (system_class_rule {i = i} {n = m} {ms = ms} a b e) s x y w h =
      class_nests count row _ _ (class_place τ s refl) (w refl)
      (λ room c₁ d. G.system_class_rule a b (same_row es at (system_class i m ms) x y)
      (subst (λ (u : List SlotType). Body τ room (suc row) u (cur (at + size (system_class i m ms)) (suc row) (es ++ made_known (suc row) (system_class i m ms)) rs is) c₁) e d)) h
  record_nests total count at row {fs} {es} o n rs is (library_class_rule {i = i} {l = l} {n = m} {ms = ms} a b c e) s x y w h =
      class_nests count row _ _ (class_place τ s refl) (w refl)
      (λ room c₁ d. G.library_class_rule a b c (same_row es at (library_class i m ms l) x y)
      (subst (λ (u : List SlotType). Body τ room (suc row) u (cur (at + size (library_class i m ms l)) (suc row) (es ++ made_known (suc row) (library_class i m ms l)) rs is) c₁) e d)) h
  record_nests total count at row {es = es} o n rs is (a_string_rule {i = i} {x = t} a b) (top_object e) x y w h =
      G.one_string a b (same_row es at (string i t) x y ∙ ap (λ (m : ℕ). row_of 6 at (string i t) i m 0 0 0) none) (nests_shut [] _ h)
  record_nests total count at row o n rs is (a_string_rule a b) (in_object q e d) x y w h = apart e
  record_nests total count at row {es = es} o n rs is (a_string_rule {i = i} {x = t} a b) (in_string {o = p} {n = m} {t = u} {us = us} {fs = fs} q) x y w h =
      let z = nests_shut (place p (m + 1) us ∷ fs) _ h in
      (z.0, G.a_string_rule q a b (same_row es at (string i t) x y) z.1, z.2)
  record_nests total count at row {fs} {es} o n rs is (an_array_rule {k = k} {i = i} {n = m} {r = r} {ts = ts} a b) s x y w h =
      let f = array_is τ b in
      let z = array_top τ b s in
      let p : o ≡ 0 = x ∙ (ap (λ (t : Bool). pick t 0 (owner_of fs)) f.inside ∙ ap owner_of z) in
      let q : n ≡ 0 = y ∙ (ap (λ (t : Bool). pick t 0 (slot_of fs)) f.inside ∙ ap slot_of z) in
      let c : Cur = cur (at + size r) (suc row) (es ++ (another i ∷ [])) rs is in
      let u = subst (λ (l : List Entry). Nests (open_by count fs r ts) (cur (at + size r) (suc row) (es ++ l) rs is)) (f.makes (suc row)) h in
      array_nests (row_shown which es at r o n) rs is count at row z a b (same_row es at r p q ∙ f.row_is which at 0 0) (w f.object)
      (subst (λ (t : Bool). Nests (pick t (opened_in (suc count) ts fs) (pick (is_apart r) fs (shut (filled_by (fills r) fs)))) c) f.object u)
  record_nests total count at row o n rs is (a_primitive_rule g) (top_object e) x y w h = apart e
  record_nests total count at row o n rs is (a_primitive_rule g) (in_object q e d) x y w h = apart e
  record_nests total count at row {es = es} o n rs is (a_primitive_rule {c = c} {v = v} g) (in_primitive {o = p} {n = m} {us = us} {fs = fs} q) x y w h =
      let z = none_new (place p (m + 1) us ∷ fs) (at + size (typed_primitive c v)) (suc row) es rs is h in
      (z.0, G.a_typed_primitive q g (same_row es at (typed_primitive c v) x y) z.1, z.2)
  record_nests total count at row o n rs is (a_reference_rule a b) (top_object e) x y w h = apart e
  record_nests total count at row o n rs is (a_reference_rule a b) (in_object q e d) x y w h = apart e
  record_nests total count at row {es = es} o n rs is (a_reference_rule {i = i} a b) (in_reference {o = p} {n = m} {us = us} {fs = fs} q) x y w h =
      let z = none_new (place p (m + 1) us ∷ fs) (at + size (reference i)) (suc row) es rs is h in
      (z.0, G.a_reference_rule q a (same_row es at (reference i) x y) z.1, z.2)
  record_nests total count at row o n rs is a_null_rule (top_object e) x y w h = apart e
  record_nests total count at row o n rs is a_null_rule (in_object q e d) x y w h = apart e
  record_nests total count at row {es = es} o n rs is a_null_rule (in_nulls {o = p} {n = m} {us = us} {fs = fs} one q l e) x y w h =
      let z = none_new (place p (m + 1) us ∷ fs) (at + size null) (suc row) es rs is h in
      (z.0, G.a_null_rule q (same_row es at null x y) z.1, z.2)
  record_nests total count at row o n rs is (some_nulls a b) (top_object e) x y w h = apart e
  record_nests total count at row o n rs is (some_nulls a b) (in_object q e d) x y w h = apart e
  record_nests total count at row {es = es} o n rs is (some_nulls {k = k} a b) (in_nulls {o = p} {n = m} {t = t} {us = us} {fs = fs} some q l e) x y w h =
      let z = none_new (place p (m + k) (drop k (t ∷ us)) ∷ fs) (at + size (nulls k)) (suc row) es rs is h in
      (z.0, G.a_run q b l e refl (same_row es at (nulls k) x y) z.1, z.2)
  record_nests total count at row o n rs is (many_nulls_rule a) (top_object e) x y w h = apart e
  record_nests total count at row o n rs is (many_nulls_rule a) (in_object q e d) x y w h = apart e
  record_nests total count at row {es = es} o n rs is (many_nulls_rule {k = k} a) (in_nulls {o = p} {n = m} {t = t} {us = us} {fs = fs} many q l e) x y w h =
      let z = none_new (place p (m + k) (drop k (t ∷ us)) ∷ fs) (at + size (many_nulls k)) (suc row) es rs is h in
      (z.0, G.a_long_run q a l e refl (same_row es at (many_nulls k) x y) z.1, z.2)
  record_nests total count at row o n rs is (a_library_rule a b c) (top_object e) x y w h = apart e
  record_nests total count at row {es = es} o n rs is (a_library_rule {i = i} {x = t} a b c) top_library x y w h =
      G.one_library a b c (same_row es at (library i t) x y ∙ ap (λ (m : ℕ). row_of 12 at (library i t) i m 0 0 0) none) h
  record_nests total count at row o n rs is (a_library_rule a b c) (in_object q e d) x y w h = apart e
  record_nests total count at row {es = es} o n rs is (a_library_rule {i = i} {x = t} a b c) (in_library q) x y w h =
      (h.0, G.a_library_rule q a b c (same_row es at (library i t) x y ∙ ap (λ (m : ℕ). row_of 12 at (library i t) i m 0 0 0) none) h.1, h.2)
  record_nests total count at row o n rs is (a_value_rule g) (top_object e) x y w h = apart e
  record_nests total count at row o n rs is (a_value_rule g) (in_object q e d) x y w h = apart e
  record_nests total count at row {es = es} o n rs is (a_value_rule {c = c} {v = v} g) (in_value {o = p} {n = m} {us = us} {fs = fs} f) x y w h =
      let z = none_new (place p (m + 1) us ∷ fs) (at + size (value c v)) (suc row) es rs is h in
      (z.0, G.member_value f (same_row es at (value c v) x y) z.1, z.2)
  record_nests total count at row {es = es} o n rs is (a_string_rule {i = i} {x = t} a b) (in_nulls {o = p} {n = m} {k = k} {us = us} {fs = fs} x20 q l e) x y w h = elim x20 [ ]
  record_nests total count at row {es = es} o n rs is (a_primitive_rule {c = c} {v = v} g) (in_nulls {o = p} {n = m} {k = k} {t = t} {us = us} {fs = fs} x21 q l e) x y w h = elim x21 [ ]
  record_nests total count at row {es = es} o n rs is (a_reference_rule {i = i} a b) (in_nulls {o = p} {n = m} {k = k} {t = t} {us = us} {fs = fs} x22 q l e) x y w h = elim x22 [ ]
  record_nests total count at row {es = es} o n rs is (a_library_rule {i = i} a b c) (in_nulls {o = p} {n = m} {k = k} {t = t} {us = us} {fs = fs} x23 q l e) x y w h = elim x23 [ ]
  record_nests total count at row {es = es} o n rs is (a_value_rule {c = c} {v = v} g) (in_nulls {o = p} {n = m} {k = k} {t = t} {us = us} {fs = fs} x24 q l e) x y w h = elim x24 [ ]

  -- ---- all records

  pub legal_nests : {total count row : ℕ} {fs : List Place} {es : List Entry} {xs : List Shown} → Legal τ total count row fs es xs → Placed which count row xs → (at : ℕ)
      → Nests fs (cur at row es (recs_of xs ++ (end ∷ [])) (rows_from which at row es xs))
  unfolding rows_from
  legal_nests (all_shown_rule e) p at = the_end refl
  legal_nests {total} {count} {row} {fs} {es} (a_record {next = next} {gs = gs} {ds = ds} {x = x} {xs = xs} {ts = ts} t s o n id e g d l) p at =
      let a : ℕ = at + size x.rec in
      let rs : List Rec = recs_of xs ++ (end ∷ []) in
      let again = legal_nests l (placed_next which count row x xs p next e) a in
      let here = subst (λ (u : List Entry). Nests gs (cur a (suc row) u rs (rows_from which a (suc row) u xs))) d again in
      let now : List Entry = es ++ made_known (suc row) x.rec in
      record_nests total count at row x.owner x.slot rs (rows_from which a (suc row) now xs) t s o n (placed_here which count row x xs p)
      (subst (λ (u : List Place). Nests u (cur a (suc row) now rs (rows_from which a (suc row) now xs))) g here)
