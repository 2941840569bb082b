-- What strict accepts, lenient accepts, with the same book and the same rows: a reading goes over to terms that take every prefix that its own take,
-- constructor by constructor. And what a caller of reading or tidying learns of it, from the promises alone.
use Rattle.std.specs.Prelude.{ℕ, ◌≤◌, ◌≡◌, Bool, true, false, List, length, Result, Ok, Err}
use Rattle.format.specs.declared.Refused.{Refused}
use Rattle.format.specs.declared.Untidied.{Untidied}
use Rattle.format.specs.declared.Untidied.TheVariants as Q
use Rattle.std.proofs.Math.Path.{refl, ap}
use Rattle.std.proofs.Common.{sym, subst, ◌∙◌}
use Rattle.format.specs.declared.Setting.TheVariants as S
use Rattle.format.specs.declared.PrimitiveCode.{PrimitiveCode}
use Rattle.format.specs.declared.SlotType.{SlotType}
use Rattle.format.specs.declared.Refusal.{Refusal}
use Rattle.format.specs.declared.Row.{Row}
use Rattle.format.specs.Terms.{Terms, terms}
use Rattle.format.specs.Rows.{room_of}
use Rattle.format.specs.Contents.{Prefixed, has_prefix, Detail, primitive, text, object, system, class, objects, texts, primitives, Member, Rec}
use Rattle.format.specs.Grammar.{Book, Width, Name, PrefixIf, Value, Values, none, more, Entry, GoodDetail, Members, no_more, member, ClassInfo, Cur, Object, system_class_rule, library_class_rule, class_by_id_rule, Body, hollow, filled, Slots, full, member_value, an_object_rule, a_string_rule, a_typed_primitive, a_reference_rule, a_null_rule, a_run, a_long_run, a_library_rule, Array, of_objects, of_strings, of_primitives, of_any, of_values, Objects, the_end, one_object, one_string, one_array, one_library, Reading}
use Rattle.format.specs.Machine.{Outcome, accepted, refused, read_of, read_answer, table_words}
use Rattle.format.specs.Tidy.{tidy_answer, tidy_output, tidy_table}
use Rattle.format.specs.Promises.{ReadPromise, TidyPromise}
use Rattle.num.specs.Le.{Bytes}
use Rattle.prefix.specs.Widths.{lenient_width}
use Rattle.laws.specs.Answers.{accepted_of, refused_of}
use Rattle.readings.specs.Accept.{accepts}
use Rattle.demands.specs.Readings.{accepted_exactly, not_both}
use Rattle.demands.proofs.Calls.{tidy_writes}
use Rattle.demands.specs.Tidyings.{tidy_refuses, tidy_none}
use Rattle.demands.proofs.Tidyings.{tidy_full}

-- ---- from terms to wider ones

module _ (τ υ : Terms) (wider : (w n : ℕ) → Width τ.setting w n → Width υ.setting w n) where
  name_more : {t : Prefixed} → Name τ t → Name υ t
  name_more {t} a = record { characters = a.characters; prefix = wider t.width (length t.text) a.prefix }

  prefix_more : (b : Bool) (w n : ℕ) → PrefixIf τ b w n → PrefixIf υ b w n
  prefix_more true w n a = wider w n a
  prefix_more false w n a = a

  value_more : {c : PrimitiveCode} {v : Prefixed} → Value τ c v → Value υ c v
  value_more {c} {v} a = record { content = a.content; prefix = prefix_more (has_prefix c) v.width (length v.text) a.prefix }

  values_more : {c : PrimitiveCode} {n : ℕ} {vs : List Prefixed} → Values τ c n vs → Values υ c n vs
  values_more none = none
  values_more (more a d) = more (value_more a) (values_more d)

  detail_more : (es : List Entry) (x : Detail Prefixed ℕ) → GoodDetail τ es x → GoodDetail υ es x
  detail_more es (primitive c) a = tt
  detail_more es text a = tt
  detail_more es object a = tt
  detail_more es (system n) a = name_more a
  detail_more es (class n l) a = (name_more a.0, a.1)
  detail_more es objects a = tt
  detail_more es texts a = tt
  detail_more es (primitives c) a = tt

  members_more : {es : List Entry} {ms : List (Member Prefixed ℕ)} → Members τ es ms → Members υ es ms
  members_more no_more = no_more
  members_more {es} (member {m = m} a b d) = member (name_more a) (detail_more es m.type b) (members_more d)

  info_more : {es : List Entry} {n : Prefixed} {ms : List (Member Prefixed ℕ)} → ClassInfo τ es n ms → ClassInfo υ es n ms
  info_more a = record { named = name_more a.named; counted = a.counted; members = members_more a.members }

  array_more : {es : List Entry} {r : Rec} {kind id count : ℕ} {ts : List SlotType} → Array τ es r kind id count ts → Array υ es r kind id count ts
  array_more (of_objects a) = of_objects a
  array_more (of_strings a) = of_strings a
  array_more (of_primitives a b) = of_primitives a (values_more b)
  array_more {es} (of_any {d = x} a e b t u) = of_any a e (detail_more es x b) t u
  array_more (of_values a e b) = of_values a e (values_more b)

  mutual
    object_more : {room own slot : ℕ} {c c₁ : Cur} → Object τ room own slot c c₁ → Object υ room own slot c c₁
    object_more (system_class_rule a b q d) = system_class_rule a (info_more b) q (body_more d)
    object_more (library_class_rule a b l q d) = library_class_rule a (info_more b) l q (body_more d)
    object_more (class_by_id_rule a b f q d) = class_by_id_rule a b f q (body_more d)

    body_more : {room row : ℕ} {ts : List SlotType} {c c₁ : Cur} → Body τ room row ts c c₁ → Body υ room row ts c c₁
    body_more hollow = hollow
    body_more (filled d) = filled (slots_more d)

    slots_more : {room own slot : ℕ} {ts : List SlotType} {c c₁ : Cur} → Slots τ room own slot ts c c₁ → Slots υ room own slot ts c c₁
    slots_more full = full
    slots_more (member_value a q d) = member_value (value_more a) q (slots_more d)
    slots_more (an_object_rule t a d) = an_object_rule t (object_more a) (slots_more d)
    slots_more (a_string_rule t a b q d) = a_string_rule t a (name_more b) q (slots_more d)
    slots_more (a_typed_primitive t a q d) = a_typed_primitive t (value_more a) q (slots_more d)
    slots_more (a_reference_rule t a q d) = a_reference_rule t a q (slots_more d)
    slots_more (a_null_rule t q d) = a_null_rule t q (slots_more d)
    slots_more (a_run t a b e u q d) = a_run t a b e u q (slots_more d)
    slots_more (a_long_run t a b e u q d) = a_long_run t a b e u q (slots_more d)
    slots_more (a_library_rule t a b n q d) = a_library_rule t a b (name_more n) q (slots_more d)

  objects_more : {c : Cur} → Objects τ c → Objects υ c
  objects_more (the_end q) = the_end q
  objects_more (one_object a d) = one_object (object_more a) (objects_more d)
  objects_more (one_string a b q d) = one_string a (name_more b) q (objects_more d)
  objects_more (one_array a b q d f) = one_array a (array_more b) q (body_more d) (objects_more f)
  objects_more (one_library a b n q d) = one_library a b (name_more n) q (objects_more d)

  -- the same records and the same rows, where the book is the same
  pub reading_more : τ.book ≡ υ.book → {s : List ℕ} {rows : List Row} → Reading τ s rows → Reading υ s rows
  reading_more e w =
      record {
        classes = w.classes;
        book_is = subst (λ (β : List ℕ). Book β w.classes) e w.book_is;
        root = w.root;
        header_id = w.header_id;
        rs = w.rs;
        is = w.is;
        root_bits = w.root_bits;
        header_bits = w.header_bits;
        bytes_are = w.bytes_are;
        small = w.small;
        objects_are = objects_more w.objects_are;
        rooted = w.rooted;
        targets = w.targets;
        links_are = w.links_are;
      }

-- ---- strict and lenient

-- β is the book of both
module _ (β : List ℕ) where
  abbrev strict : Terms
  strict = terms S.Strict β

  abbrev lenient : Terms
  lenient = terms S.Lenient β

  pub lenient_more : (s : List ℕ) (rows : List Row) → Reading strict s rows → Reading lenient s rows
  lenient_more s rows = reading_more strict lenient (lenient_width S.Lenient) refl

  -- a reading that fits the room: both settings come to the same
  same_outcome : (s : List ℕ) (room : ℕ) (rows : List Row) → Reading strict s rows → length rows ≤ room → read_of lenient s room ≡ read_of strict s room
  same_outcome s room rows w l = accepts lenient (lenient_more s rows w) room l ∙ sym (accepts strict w room l)

  pub lenient_accepts : (s : List ℕ) → Bytes β → Bytes s → (room : ℕ) (rows : List Row) → read_of strict s room ≡ accepted rows → read_of lenient s room ≡ accepted rows
  lenient_accepts s booked byte room rows e = let w = (accepted_exactly strict s booked byte room rows).0 e in same_outcome s room rows w.0 w.1 ∙ e

  -- ---- reading

  -- a list that strict accepts: lenient answers the same and leaves the same table
  pub read_more : (s t : List ℕ) → Bytes β → Bytes s → (n : ℕ) (u : List ℕ) → ReadPromise strict s t (Ok n) u → (a : Result ℕ Refused) (v : List ℕ) → ReadPromise lenient s t a v
      → (a ≡ Ok n) × (v ≡ u)
  read_more s t booked byte n u p a v q =
      let x = accepted_of (read_of strict s (room_of t)) n p.answer in
      let e = lenient_accepts s booked byte (room_of t) x.0 x.1 ∙ sym x.1 in
      (q.answer ∙ (ap read_answer e ∙ sym p.answer), q.table ∙ (ap (table_words (length t)) e ∙ sym p.table))

  -- what lenient refuses, strict refuses, be it with another number or at another place
  pub strict_refuses : (s t : List ℕ) → Bytes β → Bytes s → (r : Refusal) (place : ℕ) (u : List ℕ) → ReadPromise lenient s t (Err (record { refusal = r; place = place })) u
      → (a : Result ℕ Refused) (v : List ℕ) → ReadPromise strict s t a v → (x : Refusal) × (y : ℕ) × (a ≡ Err (record { refusal = x; place = y }))
  unfolding read_answer
  strict_refuses s t booked byte r place u p a v q = go (read_of strict s (room_of t)) refl
    where
      go : (o : Outcome) → read_of strict s (room_of t) ≡ o → (x : Refusal) × (y : ℕ) × (a ≡ Err (record { refusal = x; place = y }))
      go (accepted rows) e =
          absurd (not_both rows r place (sym (lenient_accepts s booked byte (room_of t) rows e) ∙ refused_of (read_of lenient s (room_of t)) r place p.answer))
      go (refused x y) e = (x, y, q.answer ∙ ap read_answer e)

  -- ---- tidying

  -- one reading for both settings: one answer, one table, one output
  same_tidied : (s t d : List ℕ) (rows : List Row) → Reading strict s rows → length rows ≤ room_of t → (q : Result ℕ Untidied) (u e : List ℕ) → TidyPromise strict s t d q u e
      → (o : Result ℕ Untidied) (v f : List ℕ) → TidyPromise lenient s t d o v f → (o ≡ q) × ((v ≡ u) × (f ≡ e))
  same_tidied s t d rows w l q u e p o v f z =
      let x = same_outcome s (room_of t) rows w l in (
        z.answer ∙ (ap (tidy_answer β s d) x ∙ sym p.answer),
        (z.table ∙ (ap (tidy_table (length t) β s d) x ∙ sym p.table), z.output ∙ (ap (tidy_output β s d) x ∙ sym p.output)),
      )

  -- a copy that strict writes, lenient writes
  pub tidy_more : (s t d : List ℕ) → Bytes β → Bytes s → (n : ℕ) (u e : List ℕ) → TidyPromise strict s t d (Ok n) u e
      → (q : Result ℕ Untidied) (v f : List ℕ) → TidyPromise lenient s t d q v f → (q ≡ Ok n) × ((v ≡ u) × (f ≡ e))
  tidy_more s t d booked byte n u e p =
      let x = tidy_writes strict s t d booked byte n u e p in
      same_tidied s t d x.rows x.reads x.fit (Ok n) u e p

  -- a copy that strict has no room for, lenient has no room for
  pub tidy_more_full : (s t d : List ℕ) → Bytes β → Bytes s → (n : ℕ) (u e : List ℕ) → TidyPromise strict s t d (Err (Q.OutFull n)) u e
      → (q : Result ℕ Untidied) (v f : List ℕ) → TidyPromise lenient s t d q v f → (q ≡ Err (Q.OutFull n)) × ((v ≡ u) × (f ≡ e))
  tidy_more_full s t d booked byte n u e p =
      let x = tidy_full strict s t d booked byte n u e p in
      same_tidied s t d x.rows x.reads x.fit (Err (Q.OutFull n)) u e p

  -- what lenient refuses to tidy, strict refuses to tidy
  pub tidy_strict_refuses : (s t d : List ℕ) → Bytes β → Bytes s → (r : Refusal) (place : ℕ) (u e : List ℕ) → TidyPromise lenient s t d (Err (Q.Refused (record { refusal = r; place = place }))) u e
      → (q : Result ℕ Untidied) (v f : List ℕ) → TidyPromise strict s t d q v f → (x : Refusal) × (y : ℕ) × (q ≡ Err (Q.Refused (record { refusal = x; place = y })))
  tidy_strict_refuses s t d booked byte r place u e p =
      let x = tidy_refuses lenient s t d r place u e p in
      tidy_none strict s t d booked byte (λ rows w. x.1.1 rows (lenient_more s rows w))
