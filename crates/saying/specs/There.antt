-- A record that stands at a place says, by format's Says, what it says by itself: its fields, the details of its types, its members, and the
-- record of each kind. Its bytes are those of the encoder, and nothing is asked of the stream after them.
use Rattle.std.specs.Prelude.{ℕ, suc, ◌+◌, ◌-◌, ◌*◌, ◌≤◌, ◌<◌, ◌≡◌, true, false, ◌||◌, get_or, eqb, Some}
use Rattle.std.proofs.Math.Path.{refl, sym, ap}
use Rattle.std.proofs.Common.{subst, ◌∙◌, length-drop, drop-drop, take_at, drop_at, get_or-drop}
use mathlib.Core.List.{List, [], ◌∷◌, ◌++◌, map, append_assoc}
use native.Mathlib.Omega.{arith}
use Rattle.std.proofs.Math.ListN.{length, drop, length-append}
use borrow.Author.Tests.{lt-ltb, le-leb, ne_eqb}
use Rattle.format.specs.Terms.{Terms}
use Rattle.format.specs.declared.PrimitiveCode.{PrimitiveCode}
use Rattle.format.specs.declared.Setting.{Setting}
use Rattle.format.specs.declared.Setting.TheVariants as Q
use Rattle.format.specs.declared.Span.{Span}
use Rattle.format.specs.declared.SlotType.{SlotType}
use Rattle.format.specs.declared.Row.{Row}
use Rattle.format.specs.Bytes.{pick, part}
use Rattle.format.specs.Numbers.{le_bytes}
use Rattle.format.specs.Prefix.{prefix_of}
use Rattle.format.specs.Text.{need_of, span_at}
use Rattle.format.specs.Types.{code_number, primitive_of, past, after_text, after_number, after_info}
use Rattle.format.specs.Values.{size_from, value_span}
use Rattle.format.specs.Rows.{blank, is_untyped, with_link}
use Rattle.format.specs.Contents.{Prefixed, has_prefix, bytes_in, texts_of, items_bytes, Detail, primitive, text, object, system, class, objects, texts, primitives, Member, Rec, header, class_by_id, system_class, library_class, string, array, typed_primitive, reference, null, nulls, many_nulls, end, library, primitive_array, object_array, string_array, value, type_byte, info_bytes, slot_for, names_bytes, types_bytes, infos_bytes, class_bytes, numbers_bytes, enc, From, the_system, the_library, Class}
use Rattle.format.specs.Unicode.{Scalar, encode}
use Rattle.format.specs.Says.{What, an_object, a_string, an_array, a_primitive, a_reference, a_primitive_array, an_object_array, a_string_array, a_value, Node, node, text_from, after_texts, number_from, code_from, content_from, items_from, numbers_from, library_name, detail_from, members_from, typed_from, class_from, value_code, array_from, order_of, what_from, spread, is_nulls, is_silent, nodes_of}
use Rattle.format.specs.Grammar.{Positive, Width, Name, Sized, a_byte, an_sbyte, an_int16, a_uint16, an_int32, a_uint32, a_single, an_int64, a_uint64, a_double, a_time_span, Content, number, boolean, scalar, exact, moment, PrefixIf, Value, Values, none, more, product, takes_records, GoodDetail, Members, no_more, member, Entry, types_of, Lengths, no_length, length_of_rule, Ranked, single, jagged, rectangular, Shape, row_of, Array, of_objects, of_strings, of_primitives, of_any, of_values}
use Rattle.num.specs.Le.{length_le_bytes}
use Rattle.num.specs.Read.{says_written}
use Rattle.prefix.specs.Widths.{length_prefix_of, width_written}
use Rattle.spans.specs.Spans.{span_there}
use Rattle.codes.specs.Codes.{primitive_number}
use Rattle.laws.specs.Fields.{positive_bits, length_numbers_bytes}
use Rattle.laws.specs.Tests.{apart}
use Rattle.laws.specs.Classes.{class_typed}
use Rattle.utf8.specs.Widths.{width_told}
use Rattle.format.specs.Meant.{named, named_all, class_of_all}
use Rattle.saying.specs.Said.{said_by}
use Rattle.saying.specs.Good.{slots_of}
use Rattle.saying.specs.Order.{place_inside, item_there}

-- ---- bytes at a place, and what follows them

module _ (s v q : List ℕ) (p e : ℕ) (z : e ≡ p + length v) (d : drop p s ≡ v ++ q) where
  pub rest_there : drop e s ≡ q
  rest_there = rw (z, ← drop-drop (length v) p s, d) (drop_at v q (length v) refl)

  -- a value, or the items of an array
  pub part_there : part s p (e - p) ≡ v
  part_there = rw d (take_at v q (e - p) (omega arith))

module _ (s q : List ℕ) (b p : ℕ) (d : drop p s ≡ b ∷ q) where
  byte_inside : p < length s
  byte_inside = place_inside s q b p d

  pub byte_there : get_or s p 0 ≡ b
  byte_there = item_there s q b p d 0

  pub byte_rest : drop (p + 1) s ≡ q
  byte_rest = rest_there s (b ∷ []) q p (p + 1) refl d

-- ---- numbers

module _ (s q : List ℕ) (n p : ℕ) (d : drop p s ≡ le_bytes 4 n ++ q) where
  pub number_there : n < 4294967296 → number_from s p ≡ n
  number_there h = sym (says_written s q p 4 n h (omega arith) d).value

  pub number_rest : drop (p + 4) s ≡ q
  number_rest = rest_there s (le_bytes 4 n) q p (p + 4) (rw length_le_bytes) d

-- ---- texts

-- what any setting takes, lenient takes
as_lenient : {set : Setting} {w n : ℕ} → Width set w n → Width Q.Lenient w n
as_lenient x = record { some = x.some; most = x.most; holds = x.holds; least = λ e v a b. absurd (let z : ◌≡◌ {A = ℕ} 0 1 = cc in omega arith) }

-- a text or value with its prefix
pub length_bytes : (t : Prefixed) → length (bytes_in t) ≡ t.width + length t.text
length_bytes t = length-append (prefix_of t.width (length t.text)) t.text ∙ ap (λ (n : ℕ). n + length t.text) (length_prefix_of t.width (length t.text))

module _ (s : List ℕ) (t : Prefixed) (q : List ℕ) (p : ℕ) (d : drop p s ≡ bytes_in t ++ q) where
  -- what stands behind the prefix
  behind_there : drop (p + t.width) s ≡ t.text ++ q
  behind_there =
      let b = prefix_of t.width (length t.text) in
      rest_there s b (t.text ++ q) p (p + t.width) (ap (λ (n : ℕ). p + n) (sym (length_prefix_of t.width (length t.text)))) (d ∙ append_assoc b t.text q)

  pub behind_is : part s (p + t.width) (p + length (bytes_in t) - (p + t.width)) ≡ t.text
  behind_is =
      let l = length_bytes t in
      part_there s t.text q (p + t.width) (p + length (bytes_in t)) (omega arith) behind_there

  pub bytes_rest : drop (p + length (bytes_in t)) s ≡ q
  bytes_rest = rest_there s (bytes_in t) q p (p + length (bytes_in t)) refl d

  -- a prefix that some setting takes
  module _ {set : Setting} (x : Width set t.width (length t.text)) (h : length t.text < 2147483648) where
    pub span_is : span_at s p ≡ record { from = p + t.width; to = p + length (bytes_in t) }
    span_is =
        let n = length t.text in
        let l = length_bytes t in
        let r = length-append (bytes_in t) q in
        let k : p + t.width + n ≤ length s = omega (arith, x.some, simp length-drop at (ap length d)) in
        let w = width_written Q.Lenient t.width n s (t.text ++ q) p (as_lenient x) h (d ∙ append_assoc (prefix_of t.width n) t.text q) in
        let z : p + t.width + n ≡ p + length (bytes_in t) = omega arith in
        span_there s p n (p + t.width) w k ∙ ap (λ (e : ℕ). record { from = p + t.width; to = e }) z

module _ (τ : Terms) (s : List ℕ) (t : Prefixed) (q : List ℕ) (p : ℕ) (n : Name τ t) (d : drop p s ≡ bytes_in t ++ q) where
  name_span : span_at s p ≡ record { from = p + t.width; to = p + length (bytes_in t) }
  name_span = span_is s t q p d n.prefix n.characters.short

  pub text_is : text_from s p ≡ t.text
  text_is = rw name_span (behind_is s t q p d)

  pub text_there : (text_from s p ≡ t.text) × (after_text s p ≡ p + length (bytes_in t)) × (drop (p + length (bytes_in t)) s ≡ q)
  text_there = (text_is, ap (λ (x : Span). x.to) name_span, bytes_rest s t q p d)

-- ---- values

-- a value of a fixed size has no prefix and this size
sized_is : (τ : Terms) {c : PrimitiveCode} {n : ℕ} (s : List ℕ) (p w m : ℕ) → Sized c n → PrefixIf τ (has_prefix c) w m → (w ≡ 0) × (size_from s c p ≡ n) × (0 < n)
sized_is τ s p w m a_byte e = (e, refl, omega arith)
sized_is τ s p w m an_sbyte e = (e, refl, omega arith)
sized_is τ s p w m an_int16 e = (e, refl, omega arith)
sized_is τ s p w m a_uint16 e = (e, refl, omega arith)
sized_is τ s p w m an_int32 e = (e, refl, omega arith)
sized_is τ s p w m a_uint32 e = (e, refl, omega arith)
sized_is τ s p w m a_single e = (e, refl, omega arith)
sized_is τ s p w m an_int64 e = (e, refl, omega arith)
sized_is τ s p w m a_uint64 e = (e, refl, omega arith)
sized_is τ s p w m a_double e = (e, refl, omega arith)
sized_is τ s p w m a_time_span e = (e, refl, omega arith)

module _ (τ : Terms) (s : List ℕ) (v : Prefixed) (q : List ℕ) (p : ℕ) (d : drop p s ≡ bytes_in v ++ q) where
  -- a value without a prefix
  bare_span : (c : PrimitiveCode) → v.width ≡ 0 → size_from s c p ≡ length v.text → 0 < length v.text
      → value_span s c p ≡ record { from = p + v.width; to = p + length (bytes_in v) }
  unfolding value_span
  bare_span c e z h =
      let l = length_bytes v in
      let a : p ≡ p + v.width = omega arith in
      let b : p + length v.text ≡ p + length (bytes_in v) = omega arith in
      rw (z, ne_eqb (length v.text) 0 (λ i. omega arith))
      (ap (λ (x : ℕ). record { from = x; to = p + length v.text }) a ∙ ap (λ (x : ℕ). record { from = p + v.width; to = x }) b)

  -- the first byte of a scalar tells its size
  char_size_lem : (k : ℕ) → Scalar k → v.text ≡ encode k → v.width ≡ 0 → need_of (get_or s p 0) + 1 ≡ length v.text
  char_size_lem k g e z =
      let y : p + v.width ≡ p = omega arith in
      let f : drop p s ≡ encode k ++ q = ap (λ (x : ℕ). drop x s) (sym y) ∙ (behind_there s v q p d ∙ ap (λ (x : List ℕ). x ++ q) e) in
      let u : p + 0 ≡ p = omega arith in
      let i : get_or s p 0 ≡ get_or (encode k ++ q) 0 0 =
      ap (λ (x : ℕ). get_or s x 0) (sym u) ∙ (sym (get_or-drop p s 0 0) ∙ ap (λ (x : List ℕ). get_or x 0 0) f) in
      rw (i, e) (width_told k g q).0

  span_by : (c : PrimitiveCode) (x : List ℕ) → v.text ≡ x → Content c x → PrefixIf τ (has_prefix c) v.width (length v.text)
      → value_span s c p ≡ record { from = p + v.width; to = p + length (bytes_in v) }
  unfolding value_span
  span_by c x f (number g e) w =
      let y = sized_is τ s p v.width (length v.text) g w in
      let l = ap length f in
      bare_span c y.0 (y.1 ∙ (sym e ∙ sym l)) (omega (arith, y.2))
  span_by c x f (boolean h) w = let l = ap length f in bare_span c w (sym l) (omega arith)
  span_by c x f (scalar k g e) w = let l = char_size_lem k g (f ∙ e) w in bare_span c w l (omega arith)
  span_by c x f (exact g h) w = let l = ap length f in span_is s v q p d w (omega arith)
  span_by c x f (moment e g) w = let l = ap length f in bare_span c w (sym (l ∙ e)) (omega arith)

module _ (τ : Terms) (s : List ℕ) (c : PrimitiveCode) where
  module _ (v : Prefixed) (q : List ℕ) (p : ℕ) (g : Value τ c v) (d : drop p s ≡ bytes_in v ++ q) where
    value_span_lem : value_span s c p ≡ record { from = p + v.width; to = p + length (bytes_in v) }
    value_span_lem = span_by τ s v q p d c v.text refl g.content g.prefix

    pub content_is : content_from s c p ≡ v.text
    content_is = rw value_span_lem (behind_is s v q p d)

    pub value_after : (value_span s c p).to ≡ p + length (bytes_in v)
    value_after = ap (λ (x : Span). x.to) value_span_lem

  -- the items of an array
  pub items_there : (n : ℕ) (vs : List Prefixed) (q : List ℕ) (p : ℕ) → Values τ c n vs → drop p s ≡ items_bytes vs ++ q → items_from s c n p ≡ texts_of vs
  unfolding items_from
  items_there n vs q p none d = refl
  items_there n vs q p (more {n = m} {v = v} {vs = us} g gs) d =
      let f : drop p s ≡ bytes_in v ++ (items_bytes us ++ q) = d ∙ append_assoc (bytes_in v) (items_bytes us) q in
      rw (
        content_is v (items_bytes us ++ q) p g f,
        value_after v (items_bytes us ++ q) p g f,
        items_there m us q (p + length (bytes_in v)) gs (bytes_rest s v (items_bytes us ++ q) p f),
      )

-- ---- codes

module _ (s q : List ℕ) (c : PrimitiveCode) (p : ℕ) (d : drop p s ≡ code_number c ∷ q) where
  code_is : primitive_of (get_or s p 0) ≡ Some c
  code_is = rw (byte_there s q (code_number c) p d) (primitive_number c)

  pub code_there : code_from s p ≡ c
  code_there = rw code_is

  code_past : past (length s) p ≡ p + 1
  code_past = rw (lt-ltb p (length s) (byte_inside s q (code_number c) p d))

-- ---- details

-- what is asked of a detail by itself, whatever is known from earlier records
abbrev pub OwnDetail : Terms → Detail Prefixed ℕ → Type 0
OwnDetail τ (primitive c) = Unit {0}
OwnDetail τ text = Unit {0}
OwnDetail τ object = Unit {0}
OwnDetail τ (system n) = Name τ n
OwnDetail τ (class n l) = Name τ n × Positive l
OwnDetail τ objects = Unit {0}
OwnDetail τ texts = Unit {0}
OwnDetail τ (primitives c) = Unit {0}

pub own_detail : (τ : Terms) (es : List Entry) (d : Detail Prefixed ℕ) → GoodDetail τ es d → OwnDetail τ d
own_detail τ es (primitive c) g = tt
own_detail τ es text g = tt
own_detail τ es object g = tt
own_detail τ es (system n) g = g
own_detail τ es (class n l) g = (g.0, g.1.sign)
own_detail τ es objects g = tt
own_detail τ es texts g = tt
own_detail τ es (primitives c) g = tt

module _ (s q : List ℕ) (p : ℕ) where
  -- the place after a number
  number_after : (n : ℕ) → drop p s ≡ le_bytes 4 n ++ q → after_number s p ≡ p + 4
  number_after n d =
      let l : length (le_bytes 4 n) ≡ 4 = length_le_bytes 4 n in
      let r = length-append (le_bytes 4 n) q in
      rw (le-leb (p + 4) (length s) (omega (arith, simp length-drop at (ap length d))))

-- the place after a detail, and what it says
module _ (τ : Terms) (s q : List ℕ) (p : ℕ) where
  info_there : (d : Detail Prefixed ℕ) → OwnDetail τ d → drop p s ≡ info_bytes d ++ q → after_info s (type_byte d) p ≡ p + length (info_bytes d)
  unfolding after_info
  info_there (primitive c) g d = code_past s q c p d
  info_there text g d = omega arith
  info_there object g d = omega arith
  info_there (system n) g d = (text_there τ s n q p g d).1
  info_there (class n l) g d =
      let x = text_there τ s n (le_bytes 4 l ++ q) p g.0 (d ∙ append_assoc (bytes_in n) (le_bytes 4 l) q) in
      let m = p + length (bytes_in n) in
      let k : m + 4 ≡ p + length (bytes_in n ++ le_bytes 4 l) = simp (length-append, length_le_bytes) (omega arith) in
      rw x.1 (number_after s q m l x.2 ∙ k)
  info_there objects g d = omega arith
  info_there texts g d = omega arith
  info_there (primitives c) g d = code_past s q c p d

  module _ (rows : List Row) where
    detail_is : (d : Detail Prefixed ℕ) → OwnDetail τ d → drop p s ≡ info_bytes d ++ q → detail_from s rows (type_byte d) p ≡ named (library_name s rows) d
    unfolding detail_from
    detail_is (primitive c) g d = ap primitive (code_there s q c p d)
    detail_is text g d = refl
    detail_is object g d = refl
    detail_is (system n) g d = ap system (text_is τ s n q p g d)
    detail_is (class n l) g d =
        let x = text_there τ s n (le_bytes 4 l ++ q) p g.0 (d ∙ append_assoc (bytes_in n) (le_bytes 4 l) q) in
        rw (x.0, x.1, number_there s q l (p + length (bytes_in n)) x.2 (positive_bits l g.1))
    detail_is objects g d = refl
    detail_is texts g d = refl
    detail_is (primitives c) g d = ap primitives (code_there s q c p d)

    pub detail_there : (d : Detail Prefixed ℕ) → OwnDetail τ d → drop p s ≡ info_bytes d ++ q
        → (detail_from s rows (type_byte d) p ≡ named (library_name s rows) d) × (after_info s (type_byte d) p ≡ p + length (info_bytes d))
        × (drop (p + length (info_bytes d)) s ≡ q)
    detail_there d g f = (detail_is d g f, info_there d g f, rest_there s (info_bytes d) q p (p + length (info_bytes d)) refl f)

-- ---- members

pub data OwnMembers (τ : Terms) : List (Member Prefixed ℕ) → Type 0 where
  no_member : OwnMembers τ []
  own_member : {m : Member Prefixed ℕ} {ms : List (Member Prefixed ℕ)} → Name τ m.name → OwnDetail τ m.type → OwnMembers τ ms → OwnMembers τ (m ∷ ms)

pub own_members : (τ : Terms) {es : List Entry} {ms : List (Member Prefixed ℕ)} → Members τ es ms → OwnMembers τ ms
own_members τ no_more = no_member
own_members τ {es} (member {m = m} n g gs) = own_member n (own_detail τ es m.type g) (own_members τ gs)

module _ (τ : Terms) (s : List ℕ) where
  pub names_there : (ms : List (Member Prefixed ℕ)) (q : List ℕ) (p : ℕ) → OwnMembers τ ms → drop p s ≡ names_bytes ms ++ q
      → after_texts s (length ms) p ≡ p + length (names_bytes ms)
  unfolding after_texts
  names_there [] q p no_member d = omega arith
  names_there (m ∷ ms) q p (own_member n g gs) d =
      let x = text_there τ s m.name (names_bytes ms ++ q) p n (d ∙ append_assoc (bytes_in m.name) (names_bytes ms) q) in
      let a = p + length (bytes_in m.name) in
      let k : a + length (names_bytes ms) ≡ p + length (bytes_in m.name ++ names_bytes ms) = simp length-append (omega arith) in
      ap (after_texts s (length ms)) x.1 ∙ (names_there ms q a gs x.2 ∙ k)

  module _ (rows : List Row) where
    pub members_there : (ms : List (Member Prefixed ℕ)) (x y z : List ℕ) (a b c : ℕ) → OwnMembers τ ms
        → drop a s ≡ names_bytes ms ++ x → drop b s ≡ types_bytes ms ++ y → drop c s ≡ infos_bytes ms ++ z
        → members_from s rows (length ms) a b c ≡ named_all (library_name s rows) ms
    unfolding members_from
    members_there [] x y z a b c no_member d e f = refl
    members_there (m ∷ ms) x y z a b c (own_member n g gs) d e f =
        let u = text_there τ s m.name (names_bytes ms ++ x) a n (d ∙ append_assoc (bytes_in m.name) (names_bytes ms) x) in
        let t = byte_there s (types_bytes ms ++ y) (type_byte m.type) b e in
        let v = byte_rest s (types_bytes ms ++ y) (type_byte m.type) b e in
        let w = detail_there τ s (infos_bytes ms ++ z) c rows m.type g (f ∙ append_assoc (info_bytes m.type) (infos_bytes ms) z) in
        rw (u.0, u.1, t, w.0, w.1)
        (ap (λ (l : List (Member (List ℕ) (List ℕ))). record { name = m.name.text; type = named (library_name s rows) m.type } ∷ l)
        (members_there ms x y z (a + length (bytes_in m.name)) (b + 1) (c + length (info_bytes m.type)) gs u.2 v w.2))

-- the types of the slots are the same by number and by name
pub slot_same : (name : ℕ → List ℕ) (d : Detail Prefixed ℕ) → slot_for (named name d) ≡ slot_for d
slot_same name (primitive c) = refl
slot_same name text = refl
slot_same name object = refl
slot_same name (system n) = refl
slot_same name (class n l) = refl
slot_same name objects = refl
slot_same name texts = refl
slot_same name (primitives c) = refl

pub slots_same : (name : ℕ → List ℕ) (ms : List (Member Prefixed ℕ)) → slots_of (named_all name ms) ≡ types_of ms
slots_same name [] = refl
slots_same name (m ∷ ms) = rw (slot_same name m.type, slots_same name ms)

-- ---- lengths

pub numbers_there : (s : List ℕ) (ns q : List ℕ) (p : ℕ) → Lengths ns → drop p s ≡ numbers_bytes ns ++ q → numbers_from s (length ns) p ≡ ns
unfolding numbers_from
numbers_there s [] q p no_length d = refl
numbers_there s (n ∷ ns) q p (length_of_rule h g) d =
    let f : drop p s ≡ le_bytes 4 n ++ (numbers_bytes ns ++ q) = d ∙ append_assoc (le_bytes 4 n) (numbers_bytes ns) q in
    rw (number_there s (numbers_bytes ns ++ q) n p f (omega arith), numbers_there s ns q (p + 4) g (number_rest s (numbers_bytes ns ++ q) n p f))

rank_bits : {type rank : ℕ} → Ranked type rank → rank < 4294967296
rank_bits single = omega arith
rank_bits jagged = omega arith
rank_bits (rectangular l h) = omega arith

-- ---- records

-- the kind in the row of a record; a member value has the kind 32
abbrev pub kind_of : Rec → ℕ
kind_of (header r h) = 0
kind_of (class_by_id i k) = 1
kind_of (system_class i n ms) = 4
kind_of (library_class i n ms l) = 5
kind_of (string i x) = 6
kind_of (array i t ns d vs) = 7
kind_of (typed_primitive c v) = 8
kind_of (reference i) = 9
kind_of null = 10
kind_of (nulls n) = 13
kind_of (many_nulls n) = 14
kind_of end = 11
kind_of (library i n) = 12
kind_of (primitive_array i n c vs) = 15
kind_of (object_array i n) = 16
kind_of (string_array i n) = 17
kind_of (value c v) = 32

-- the count in its row, where what is said goes by it
abbrev pub CountIs : Rec → ℕ → Type 0
CountIs (header r h) n = Unit {0}
CountIs (class_by_id i k) n = Unit {0}
CountIs (system_class i x ms) n = n ≡ length ms
CountIs (library_class i x ms l) n = n ≡ length ms
CountIs (string i x) n = Unit {0}
CountIs (array i t ns d vs) n = n ≡ product ns
CountIs (typed_primitive c v) n = Unit {0}
CountIs (reference i) n = Unit {0}
CountIs null n = n ≡ 1
CountIs (nulls k) n = n ≡ k
CountIs (many_nulls k) n = n ≡ k
CountIs end n = Unit {0}
CountIs (library i x) n = Unit {0}
CountIs (primitive_array i k c vs) n = n ≡ k
CountIs (object_array i k) n = n ≡ k
CountIs (string_array i k) n = n ≡ k
CountIs (value c v) n = Unit {0}

-- w is a row of the record r at this place
pub record RowOf (r : Rec) (at : ℕ) (w : Row) : Type 0 where
  pub kind_is : w.kind ≡ kind_of r
  pub offset_is : w.offset ≡ at
  pub end_is : w.end ≡ at + length (enc r)
  pub count_is : CountIs r w.count

pub row_of_lem : (r : Rec) (at id own slot link count : ℕ) → CountIs r count → RowOf r at (row_of (kind_of r) at r id own slot link count)
row_of_lem r at id own slot link count h = record { kind_is = refl; offset_is = refl; end_is = refl; count_is = h }

pub row_linked : {r : Rec} {at : ℕ} {w : Row} (link : ℕ) → RowOf r at w → RowOf r at (with_link w link)
row_linked link g = record { kind_is = g.kind_is; offset_is = g.offset_is; end_is = g.end_is; count_is = g.count_is }

-- the items of an array of this item type: inside the record where they are primitive
abbrev pub ItemsOf : Terms → Detail Prefixed ℕ → ℕ → List Prefixed → Type 0
ItemsOf τ (primitive c) n vs = Values τ c n vs
ItemsOf τ text n vs = vs ≡ []
ItemsOf τ object n vs = vs ≡ []
ItemsOf τ (system x) n vs = vs ≡ []
ItemsOf τ (class x l) n vs = vs ≡ []
ItemsOf τ objects n vs = vs ≡ []
ItemsOf τ texts n vs = vs ≡ []
ItemsOf τ (primitives c) n vs = vs ≡ []

pub no_items : (τ : Terms) (d : Detail Prefixed ℕ) (n : ℕ) → takes_records (slot_for d) ≡ true → ItemsOf τ d n []
no_items τ (primitive c) n e = apart e
no_items τ text n e = refl
no_items τ object n e = refl
no_items τ (system x) n e = refl
no_items τ (class x l) n e = refl
no_items τ objects n e = refl
no_items τ texts n e = refl
no_items τ (primitives c) n e = refl

-- what is asked of a record by itself
abbrev pub GoodRec : Terms → Rec → Type 0
GoodRec τ (header r h) = Unit {0}
GoodRec τ (class_by_id i k) = Unit {0}
GoodRec τ (system_class i n ms) = Name τ n × OwnMembers τ ms
GoodRec τ (library_class i n ms l) = Name τ n × OwnMembers τ ms × (l < 4294967296)
GoodRec τ (string i x) = Name τ x
GoodRec τ (array i t ns d vs) = Shape t ns × OwnDetail τ d × ItemsOf τ d (product ns) vs
GoodRec τ (typed_primitive c v) = Value τ c v
GoodRec τ (reference i) = Unit {0}
GoodRec τ null = Unit {0}
GoodRec τ (nulls n) = Unit {0}
GoodRec τ (many_nulls n) = Unit {0}
GoodRec τ end = Unit {0}
GoodRec τ (library i n) = Name τ n
GoodRec τ (primitive_array i n c vs) = Values τ c n vs
GoodRec τ (object_array i n) = Unit {0}
GoodRec τ (string_array i n) = Unit {0}
GoodRec τ (value c v) = Value τ c v

pub own_array : (τ : Terms) {es : List Entry} {r : Rec} {kind id count : ℕ} {ts : List SlotType} → Array τ es r kind id count ts → GoodRec τ r
own_array τ (of_objects h) = tt
own_array τ (of_strings h) = tt
own_array τ (of_primitives h g) = g
own_array τ {es} (of_any {ns = ns} {d = d} g e h f k) = (g, own_detail τ es d h, no_items τ d (product ns) f)
own_array τ (of_values {b = b} {vs = vs} g e h) = (g, tt, subst (λ (m : ℕ). Values τ b m vs) e h)

-- the items by the bytes after the item type
module _ (τ : Terms) (s q : List ℕ) (p n : ℕ) (vs : List Prefixed) where
  items_of_there : (d : Detail Prefixed ℕ) → ItemsOf τ d n vs → drop p s ≡ info_bytes d ++ (items_bytes vs ++ q)
      → pick (eqb (type_byte d) 0) (items_from s (code_from s p) n (p + length (info_bytes d))) [] ≡ texts_of vs
  items_of_there (primitive c) g d =
      rw (code_there s (items_bytes vs ++ q) c p d) (items_there τ s c n vs q (p + 1) g (byte_rest s (items_bytes vs ++ q) (code_number c) p d))
  items_of_there text g d = sym (ap texts_of g)
  items_of_there object g d = sym (ap texts_of g)
  items_of_there (system x) g d = sym (ap texts_of g)
  items_of_there (class x l) g d = sym (ap texts_of g)
  items_of_there objects g d = sym (ap texts_of g)
  items_of_there texts g d = sym (ap texts_of g)
  items_of_there (primitives c) g d = sym (ap texts_of g)

-- a row with these fields, and the others of w
abbrev like : ℕ → ℕ → ℕ → ℕ → Row → Row
like kind offset after count w =
    record { kind = kind; offset = offset; end = after; id = w.id; owner = w.owner; slot = w.slot; link = w.link; count = count }

row_like : {k o e n : ℕ} (w : Row) → w.kind ≡ k → w.offset ≡ o → w.end ≡ e → w.count ≡ n → w ≡ like k o e n w
row_like {k} {o} {e} {n} w a b c d =
    ap (λ (x : ℕ). like x w.offset w.end w.count w) a
    ∙ (ap (λ (x : ℕ). like k x w.end w.count w) b
    ∙ (ap (λ (x : ℕ). like k o x w.count w) c
    ∙ ap (λ (x : ℕ). like k o e x w) d))

module _ (s q : List ℕ) (at : ℕ) where
  -- after the kind byte and a number
  after_id_lem : (k i : ℕ) (b : List ℕ) → drop at s ≡ (k ∷ (le_bytes 4 i ++ b)) ++ q → drop (at + 5) s ≡ b ++ q
  after_id_lem k i b d =
      let l : length (le_bytes 4 i) ≡ 4 = length_le_bytes 4 i in
      rest_there s (k ∷ le_bytes 4 i) (b ++ q) at (at + 5) (omega arith) (d ∙ ap (λ (x : List ℕ). k ∷ x) (append_assoc (le_bytes 4 i) b q))

length_types : (ms : List (Member Prefixed ℕ)) → length (types_bytes ms) ≡ length ms
length_types [] = refl
length_types (m ∷ ms) = ap suc (length_types ms)

-- ---- classes

module _ (τ : Terms) (β s : List ℕ) (rows : List Row) (w : Row) (at : ℕ) where
  class_like : (k e : ℕ) (n : Prefixed) (ms : List (Member Prefixed ℕ)) (q : List ℕ) → Name τ n → OwnMembers τ ms → drop (at + 5) s ≡ class_bytes n ms ++ q
      → (from : From) → pick (eqb k 3 || eqb k 5) (the_library (library_name s rows (number_from s (e - 4)))) the_system ≡ from
      → is_untyped k ≡ false → class_from β s rows (like k at e (length ms) w) ≡ class_of_all (library_name s rows) n.text from ms
  unfolding typed_from
  class_like k e n ms q g gs d from f typed =
      let types = types_bytes ms ++ infos_bytes ms in
      let names = names_bytes ms ++ types in
      let count = le_bytes 4 (length ms) in
      let t = text_there τ s n ((count ++ names) ++ q) (at + 5) g (d ∙ append_assoc (bytes_in n) (count ++ names) q) in
      let a = at + 5 + length (bytes_in n) + 4 in
      let d1 = number_rest s (names ++ q) (length ms) (at + 5 + length (bytes_in n)) (t.2 ∙ append_assoc count names q) in
      let d2 : drop a s ≡ names_bytes ms ++ (types ++ q) = d1 ∙ append_assoc (names_bytes ms) types q in
      let b = a + length (names_bytes ms) in
      let d3 : drop b s ≡ types_bytes ms ++ (infos_bytes ms ++ q) =
      rest_there s (names_bytes ms) (types ++ q) a b refl d2 ∙ append_assoc (types_bytes ms) (infos_bytes ms) q in
      let d4 : drop (b + length ms) s ≡ infos_bytes ms ++ q =
      rest_there s (types_bytes ms) (infos_bytes ms ++ q) b (b + length ms) (ap (λ (x : ℕ). b + x) (sym (length_types ms))) d3 in
      class_typed β s rows (like k at e (length ms) w) typed
      ∙ rw (t.0, t.1, names_there τ s ms (types ++ q) a gs d2, f, members_there τ s rows ms (types ++ q) (infos_bytes ms ++ q) q a b (b + length ms) gs d2 d3 d4)

  module _ (q : List ℕ) (i : ℕ) (n : Prefixed) (ms : List (Member Prefixed ℕ)) (g : Name τ n) (gs : OwnMembers τ ms) where
    pub system_class_from : drop at s ≡ enc (system_class i n ms) ++ q → RowOf (system_class i n ms) at w
        → class_from β s rows w ≡ class_of_all (library_name s rows) n.text the_system ms
    unfolding enc
    system_class_from d r =
        ap (class_from β s rows) (row_like w r.kind_is r.offset_is r.end_is r.count_is)
        ∙ class_like 4 (at + length (enc (system_class i n ms))) n ms q g gs (after_id_lem s q at 4 i (class_bytes n ms) d) the_system refl refl

    pub library_class_from : (l : ℕ) → l < 4294967296 → drop at s ≡ enc (library_class i n ms l) ++ q → RowOf (library_class i n ms l) at w
        → class_from β s rows w ≡ class_of_all (library_name s rows) n.text (the_library (library_name s rows l)) ms
    unfolding enc
    library_class_from l h d r =
        let b = class_bytes n ms in
        let d1 : drop (at + 5) s ≡ b ++ (le_bytes 4 l ++ q) = after_id_lem s q at 5 i (b ++ le_bytes 4 l) d ∙ append_assoc b (le_bytes 4 l) q in
        let e = at + length (enc (library_class i n ms l)) in
        let k : length (le_bytes 4 i ++ (b ++ le_bytes 4 l)) ≡ 8 + length b = simp (length-append, length_le_bytes) (omega arith) in
        let z : e - 4 ≡ at + 5 + length b = omega arith in
        let m = number_there s q l (e - 4) (rest_there s b (le_bytes 4 l ++ q) (at + 5) (e - 4) z d1) h in
        ap (class_from β s rows) (row_like w r.kind_is r.offset_is r.end_is r.count_is)
        ∙ class_like 5 e n ms (le_bytes 4 l ++ q) g gs d1 (the_library (library_name s rows l)) (rw m) refl

-- ---- what each kind says

-- a member value, of the code that its row's owner and slot lead to
value_row : (β s : List ℕ) (rows : List Row) (w : Row) → w.kind ≡ 32
    → what_from β s rows w ≡ a_value (value_code β s rows w) (content_from s (value_code β s rows w) w.offset)
unfolding what_from value_code
value_row β s rows w k = ap (what_from β s rows) (row_like w k refl refl refl)

-- by the row alone
module _ (β s : List ℕ) (rows : List Row) (w : Row) (at : ℕ) where
  -- of the class in the row that it is linked to
  pub class_by_id_said : (i k : ℕ) → RowOf (class_by_id i k) at w → what_from β s rows w ≡ an_object (class_from β s rows (get_or rows (w.link - 1) blank))
  unfolding what_from
  class_by_id_said i k r = ap (what_from β s rows) (row_like w r.kind_is refl refl refl)

  -- to the object in the row that it is linked to
  pub reference_said : (i : ℕ) → RowOf (reference i) at w → what_from β s rows w ≡ a_reference (order_of rows w.link)
  unfolding what_from
  reference_said i r = ap (what_from β s rows) (row_like w r.kind_is refl refl refl)

  pub object_array_said : (i n : ℕ) → RowOf (object_array i n) at w → what_from β s rows w ≡ an_object_array n
  unfolding what_from
  object_array_said i n r = ap (what_from β s rows) (row_like w r.kind_is refl refl r.count_is)

  pub string_array_said : (i n : ℕ) → RowOf (string_array i n) at w → what_from β s rows w ≡ a_string_array n
  unfolding what_from
  string_array_said i n r = ap (what_from β s rows) (row_like w r.kind_is refl refl r.count_is)

-- by the row and the bytes at its place
module _ (τ : Terms) (β s : List ℕ) (rows : List Row) (w : Row) (at : ℕ) (q : List ℕ) where
  pub system_class_said : (i : ℕ) (n : Prefixed) (ms : List (Member Prefixed ℕ)) → Name τ n → OwnMembers τ ms → drop at s ≡ enc (system_class i n ms) ++ q
      → RowOf (system_class i n ms) at w → what_from β s rows w ≡ an_object (class_of_all (library_name s rows) n.text the_system ms)
  unfolding what_from
  system_class_said i n ms g gs d r =
      let z = row_like w r.kind_is refl refl refl in
      ap (what_from β s rows) z ∙ ap an_object (ap (class_from β s rows) (sym z) ∙ system_class_from τ β s rows w at q i n ms g gs d r)

  pub library_class_said : (i : ℕ) (n : Prefixed) (ms : List (Member Prefixed ℕ)) (l : ℕ) → Name τ n → OwnMembers τ ms → l < 4294967296
      → drop at s ≡ enc (library_class i n ms l) ++ q → RowOf (library_class i n ms l) at w
      → what_from β s rows w ≡ an_object (class_of_all (library_name s rows) n.text (the_library (library_name s rows l)) ms)
  unfolding what_from
  library_class_said i n ms l g gs h d r =
      let z = row_like w r.kind_is refl refl refl in
      ap (what_from β s rows) z ∙ ap an_object (ap (class_from β s rows) (sym z) ∙ library_class_from τ β s rows w at q i n ms g gs l h d r)

  pub string_said : (i : ℕ) (x : Prefixed) → Name τ x → drop at s ≡ enc (string i x) ++ q → RowOf (string i x) at w → what_from β s rows w ≡ a_string x.text
  unfolding enc what_from
  string_said i x g d r =
      ap (what_from β s rows) (row_like w r.kind_is r.offset_is refl refl)
      ∙ ap a_string (text_is τ s x q (at + 5) g (after_id_lem s q at 6 i (bytes_in x) d))

  pub typed_primitive_said : (c : PrimitiveCode) (v : Prefixed) → Value τ c v → drop at s ≡ enc (typed_primitive c v) ++ q → RowOf (typed_primitive c v) at w
      → what_from β s rows w ≡ a_primitive c v.text
  unfolding enc what_from
  typed_primitive_said c v g d r =
      let f : code_from s (at + 1) ≡ c = code_there s (bytes_in v ++ q) c (at + 1) (byte_rest s (code_number c ∷ (bytes_in v ++ q)) 8 at d) in
      let a : drop (at + 2) s ≡ bytes_in v ++ q = rest_there s (8 ∷ code_number c ∷ []) (bytes_in v ++ q) at (at + 2) (omega arith) d in
      ap (what_from β s rows) (row_like w r.kind_is r.offset_is refl refl) ∙ rw f (ap (a_primitive c) (content_is τ s c v q (at + 2) g a))

  pub primitive_array_said : (i n : ℕ) (c : PrimitiveCode) (vs : List Prefixed) → Values τ c n vs → drop at s ≡ enc (primitive_array i n c vs) ++ q
      → RowOf (primitive_array i n c vs) at w → what_from β s rows w ≡ a_primitive_array n c (texts_of vs)
  unfolding enc what_from
  primitive_array_said i n c vs g d r =
      let l : length (le_bytes 4 n) ≡ 4 = length_le_bytes 4 n in
      let x = items_bytes vs in
      let a : drop (at + 5) s ≡ le_bytes 4 n ++ (code_number c ∷ (x ++ q)) =
      after_id_lem s q at 15 i (le_bytes 4 n ++ (code_number c ∷ x)) d ∙ append_assoc (le_bytes 4 n) (code_number c ∷ x) q in
      let b : drop (at + 9) s ≡ code_number c ∷ (x ++ q) = rest_there s (le_bytes 4 n) (code_number c ∷ (x ++ q)) (at + 5) (at + 9) (omega arith) a in
      let f : code_from s (at + 9) ≡ c = code_there s (x ++ q) c (at + 9) b in
      let e : drop (at + 10) s ≡ x ++ q = rest_there s (code_number c ∷ []) (x ++ q) (at + 9) (at + 10) (omega arith) b in
      ap (what_from β s rows) (row_like w r.kind_is r.offset_is refl r.count_is)
      ∙ rw f (ap (a_primitive_array n c) (items_there τ s c n vs q (at + 10) g e))

  -- a member value, by the code of the slot that its row names
  pub value_said : (c : PrimitiveCode) (v : Prefixed) → Value τ c v → value_code β s rows w ≡ c → drop at s ≡ enc (value c v) ++ q → RowOf (value c v) at w
      → what_from β s rows w ≡ a_value c v.text
  unfolding enc
  value_said c v g e d r =
      value_row β s rows w r.kind_is ∙ (ap (λ (x : PrimitiveCode). a_value x (content_from s x w.offset)) e
      ∙ (ap (λ (x : ℕ). a_value c (content_from s c x)) r.offset_is ∙ ap (a_value c) (content_is τ s c v q at g d)))

  pub array_said : (i t : ℕ) (ns : List ℕ) (x : Detail Prefixed ℕ) (vs : List Prefixed) → Shape t ns → OwnDetail τ x → ItemsOf τ x (product ns) vs
      → drop at s ≡ enc (array i t ns x vs) ++ q → RowOf (array i t ns x vs) at w → what_from β s rows w ≡ an_array t ns (named (library_name s rows) x) (texts_of vs)
  unfolding enc what_from array_from
  array_said i t ns x vs g h y d r =
      let items = info_bytes x ++ items_bytes vs in
      let item = type_byte x ∷ items in
      let rank = le_bytes 4 (length ns) in
      let l : length rank ≡ 4 = length_le_bytes 4 (length ns) in
      let n = length_numbers_bytes ns in
      let a = after_id_lem s q at 7 i (t ∷ (rank ++ (numbers_bytes ns ++ item))) d in
      let b : drop (at + 6) s ≡ rank ++ ((numbers_bytes ns ++ item) ++ q) =
      rest_there s (t ∷ []) ((rank ++ (numbers_bytes ns ++ item)) ++ q) (at + 5) (at + 6) (omega arith) a ∙ append_assoc rank (numbers_bytes ns ++ item) q in
      let c : drop (at + 10) s ≡ numbers_bytes ns ++ (item ++ q) =
      rest_there s rank ((numbers_bytes ns ++ item) ++ q) (at + 6) (at + 10) (omega arith) b ∙ append_assoc (numbers_bytes ns) item q in
      let p = at + 10 + 4 * length ns in
      let f = rest_there s (numbers_bytes ns) (item ++ q) (at + 10) p (omega arith) c in
      let u : drop (p + 1) s ≡ info_bytes x ++ (items_bytes vs ++ q) = byte_rest s (items ++ q) (type_byte x) p f ∙ append_assoc (info_bytes x) (items_bytes vs) q in
      let z = detail_there τ s (items_bytes vs ++ q) (p + 1) rows x h u in
      ap (what_from β s rows) (row_like w r.kind_is r.offset_is refl r.count_is)
      ∙ rw (
        byte_there s ((rank ++ (numbers_bytes ns ++ item)) ++ q) t (at + 5) a,
        number_there s ((numbers_bytes ns ++ item) ++ q) (length ns) (at + 6) b (rank_bits g.ranked),
        numbers_there s ns (item ++ q) (at + 10) g.lengths c,
        byte_there s (items ++ q) (type_byte x) p f,
        z.0,
        z.1,
      )
      (ap (an_array t ns (named (library_name s rows) x)) (items_of_there τ s q (p + 1) (product ns) vs x y u))

module _ (τ : Terms) (s : List ℕ) (rows : List Row) (w : Row) (at : ℕ) (q : List ℕ) where
  pub library_said : (i : ℕ) (n : Prefixed) → Name τ n → drop at s ≡ enc (library i n) ++ q → w.offset ≡ at → text_from s (w.offset + 5) ≡ n.text
  unfolding enc
  library_said i n g d z = ap (λ (p : ℕ). text_from s (p + 5)) z ∙ text_is τ s n q (at + 5) g (after_id_lem s q at 12 i (bytes_in n) d)

-- ---- nodes

-- the class of a record of kind 1 and the target of a reference, from the row's link; the code of a member value, from its owner and slot
module _ (β s : List ℕ) (rows : List Row) (of : ℕ → Class) (order : ℕ → ℕ) where
  abbrev pub LinkIs : Rec → Row → Type 0
  LinkIs (header r h) w = Unit {0}
  LinkIs (class_by_id i k) w = class_from β s rows (get_or rows (w.link - 1) blank) ≡ of k
  LinkIs (system_class i n ms) w = Unit {0}
  LinkIs (library_class i n ms l) w = Unit {0}
  LinkIs (string i x) w = Unit {0}
  LinkIs (array i t ns d vs) w = Unit {0}
  LinkIs (typed_primitive c v) w = Unit {0}
  LinkIs (reference i) w = order_of rows w.link ≡ order i
  LinkIs null w = Unit {0}
  LinkIs (nulls n) w = Unit {0}
  LinkIs (many_nulls n) w = Unit {0}
  LinkIs end w = Unit {0}
  LinkIs (library i n) w = Unit {0}
  LinkIs (primitive_array i n c vs) w = Unit {0}
  LinkIs (object_array i n) w = Unit {0}
  LinkIs (string_array i n) w = Unit {0}
  LinkIs (value c v) w = value_code β s rows w ≡ c

module _ (s : List ℕ) (rows : List Row) (w : Row) where
  -- in the slot of the row
  abbrev pub in_slot : What → Node
  in_slot x = node x (order_of rows w.owner) w.slot

  abbrev pub run : List Node
  run = spread w.count (order_of rows w.owner) w.slot

module _ (β s : List ℕ) (rows : List Row) (w : Row) where
  by_kind : (k : ℕ) → w.kind ≡ k → nodes_of β s rows w ≡ pick (is_silent k) [] (pick (is_nulls k) (run s rows w) (in_slot s rows w (what_from β s rows w) ∷ []))
  unfolding nodes_of
  by_kind k e = ap (λ (k : ℕ). pick (is_silent k) [] (pick (is_nulls k) (run s rows w) (in_slot s rows w (what_from β s rows w) ∷ []))) e

  one : {x : What} → what_from β s rows w ≡ x → in_slot s rows w (what_from β s rows w) ∷ [] ≡ in_slot s rows w x ∷ []
  one e = ap (λ (x : What). in_slot s rows w x ∷ []) e

module _ (τ : Terms) (β s : List ℕ) (rows : List Row) (w : Row) where
  -- a null, or a run of them, is spread; any other record says what it says by itself
  pub nodes_there : (of : ℕ → Class) (order : ℕ → ℕ) (q : List ℕ) (at : ℕ) (r : Rec) → drop at s ≡ enc r ++ q → RowOf r at w → GoodRec τ r
      → LinkIs β s rows of order r w
      → nodes_of β s rows w ≡ pick (is_nulls (kind_of r)) (run s rows w) (map (in_slot s rows w) (said_by (library_name s rows) of order r))
  nodes_there of order q at (header a h) d r g l = by_kind β s rows w 0 r.kind_is
  nodes_there of order q at (class_by_id i k) d r g l = by_kind β s rows w 1 r.kind_is ∙ one β s rows w (class_by_id_said β s rows w at i k r ∙ ap an_object l)
  nodes_there of order q at (system_class i n ms) d r g l = by_kind β s rows w 4 r.kind_is ∙ one β s rows w (system_class_said τ β s rows w at q i n ms g.0 g.1 d r)
  nodes_there of order q at (library_class i n ms k) d r g l =
      by_kind β s rows w 5 r.kind_is ∙ one β s rows w (library_class_said τ β s rows w at q i n ms k g.0 g.1 g.2 d r)
  nodes_there of order q at (string i x) d r g l = by_kind β s rows w 6 r.kind_is ∙ one β s rows w (string_said τ β s rows w at q i x g d r)
  nodes_there of order q at (array i t ns x vs) d r g l = by_kind β s rows w 7 r.kind_is ∙ one β s rows w (array_said τ β s rows w at q i t ns x vs g.0 g.1 g.2 d r)
  nodes_there of order q at (typed_primitive c v) d r g l = by_kind β s rows w 8 r.kind_is ∙ one β s rows w (typed_primitive_said τ β s rows w at q c v g d r)
  nodes_there of order q at (reference i) d r g l = by_kind β s rows w 9 r.kind_is ∙ one β s rows w (reference_said β s rows w at i r ∙ ap a_reference l)
  nodes_there of order q at null d r g l = by_kind β s rows w 10 r.kind_is
  nodes_there of order q at (nulls n) d r g l = by_kind β s rows w 13 r.kind_is
  nodes_there of order q at (many_nulls n) d r g l = by_kind β s rows w 14 r.kind_is
  nodes_there of order q at end d r g l = by_kind β s rows w 11 r.kind_is
  nodes_there of order q at (library i n) d r g l = by_kind β s rows w 12 r.kind_is
  nodes_there of order q at (primitive_array i n c vs) d r g l = by_kind β s rows w 15 r.kind_is ∙ one β s rows w (primitive_array_said τ β s rows w at q i n c vs g d r)
  nodes_there of order q at (object_array i n) d r g l = by_kind β s rows w 16 r.kind_is ∙ one β s rows w (object_array_said β s rows w at i n r)
  nodes_there of order q at (string_array i n) d r g l = by_kind β s rows w 17 r.kind_is ∙ one β s rows w (string_array_said β s rows w at i n r)
  nodes_there of order q at (value c v) d r g l = by_kind β s rows w 32 r.kind_is ∙ one β s rows w (value_said τ β s rows w at q c v g l d r)
