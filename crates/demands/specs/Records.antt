-- No list has two readings: the records of a reading are those that its rows show, each a function of the stream, the rows and its own row. So two
-- readings of one stream have the same records, the same root and the same HeaderId, and not the same rows alone.
use Rattle.std.specs.Prelude.{ℕ, zero, suc, ◌+◌, ◌-◌, ◌*◌, ◌≤◌, ◌<◌, ◌≡◌, Bool, true, false, ◌||◌, get_or, take, eqb}
use Rattle.std.proofs.Math.Path.{refl, sym, ap}
use Rattle.std.proofs.Common.{subst, ◌∙◌, length-append, take_at, drop_at, eqb-true}
use mathlib.Core.List.{List, [], ◌∷◌, ◌++◌, map, append_assoc}
use native.Mathlib.Omega.{arith}
use Rattle.std.proofs.Math.ListN.{length, drop}
use Rattle.format.specs.Terms.{Terms}
use Rattle.format.specs.declared.PrimitiveCode.{PrimitiveCode}
use Rattle.format.specs.declared.SlotType.{SlotType}
use Rattle.format.specs.declared.Row.{Row}
use Rattle.format.specs.Bytes.{pick}
use Rattle.format.specs.Numbers.{le_bytes}
use Rattle.format.specs.Text.{span_at}
use Rattle.format.specs.Types.{code_number, after_text, after_info}
use Rattle.format.specs.Rows.{object_row, with_link, link_of, linked}
use Rattle.format.specs.Contents.{Prefixed, bytes_in, items_bytes, Detail, primitive, text, object, system, class, objects, texts, primitives, Member, Rec, header, class_by_id, system_class, library_class, string, array, typed_primitive, reference, null, nulls, many_nulls, end, library, primitive_array, object_array, string_array, value, type_byte, info_bytes, names_bytes, types_bytes, infos_bytes, class_bytes, numbers_bytes, enc, encs, Class}
use Rattle.format.specs.Grammar.{Positive, Name, Value, Values, product, Shape, Ranked, single, jagged, rectangular, Entry, Cur, cur, size, row_of, Object, system_class_rule, library_class_rule, class_by_id_rule, Body, hollow, filled, Slots, full, member_value, an_object_rule, a_string_rule, a_typed_primitive, a_reference_rule, a_null_rule, a_run, a_long_run, a_library_rule, Array, of_objects, of_strings, of_primitives, of_any, of_values, Objects, the_end, one_object, one_string, one_array, one_library, Reading}
use Rattle.format.specs.Says.{a_null, a_value, Node, node, Model, text_from, after_texts, number_from, code_from, content_from, numbers_from, value_code, order_of, what_from, spread, is_nulls, is_silent, nodes_of, nodes_from, says}
use Rattle.format.specs.Meant.{name_by, class_by, order_by, sense_of, Open, owner_in, slot_in, nodes_by, count_by, open_by, walk, meant}
use Rattle.num.specs.Le.{length_le_bytes}
use Rattle.laws.specs.Fields.{positive_bits, length_numbers_bytes}
use Rattle.laws.specs.Links.{rows_are}
use Rattle.places.specs.Stand.{stand_of}
use Rattle.places.specs.Prefixes.{prefixed}
use Rattle.places.specs.Fields.{prefixed_at}
use Rattle.places.specs.Values.{value_in, value_in_lem}
use Rattle.places.specs.Items.{items_in, items_in_lem}
use Rattle.places.specs.Details.{detail_in}
use Rattle.places.specs.Members.{members_in}
use Rattle.saying.specs.Order.{place_inside}
use Rattle.saying.specs.There.{rest_there, byte_there, byte_rest, number_there, number_rest, span_is, text_is, text_there, code_there, OwnDetail, own_detail, detail_there, OwnMembers, no_member, own_member, own_members, names_there, numbers_there, kind_of, CountIs, RowOf, row_of_lem, row_linked, ItemsOf, no_items, GoodRec}
use Rattle.meant.specs.Laws.{says_meant}
use Rattle.demands.specs.Readings.{reading_unique}

-- ---- the record that a row shows

-- the members of a class in this row, libraries by their numbers
abbrev pub members_here : List ℕ → Row → List (Member Prefixed ℕ)
members_here s r =
    let names = after_text s (r.offset + 5) + 4 in
    let types = after_texts s r.count names in
    members_in s r.count names types (types + r.count)

abbrev pub array_here : List ℕ → Row → Rec
array_here s r =
    let rank = number_from s (r.offset + 6) in
    let types = r.offset + 10 + 4 * rank in
    let items = after_info s (get_or s types 0) (types + 1) in
    array r.id (get_or s (r.offset + 5) 0) (numbers_from s rank (r.offset + 10)) (detail_in s (get_or s types 0) (types + 1))
    (pick (eqb (get_or s types 0) 0) (items_in s (code_from s (types + 1)) r.count items) [])

-- a member value by the code of its owner's class for its slot, any other record by its bytes and its row
unfoldable pub rec_from : (β s : List ℕ) → List Row → Row → Rec
rec_from β s rows r =
    pick (eqb r.kind 0) (header r.id (number_from s (r.offset + 5)))
    (pick (eqb r.kind 1) (class_by_id r.id (number_from s (r.offset + 5)))
    (pick (eqb r.kind 4) (system_class r.id (prefixed_at s (r.offset + 5)) (members_here s r))
    (pick (eqb r.kind 5) (library_class r.id (prefixed_at s (r.offset + 5)) (members_here s r) (number_from s (r.end - 4)))
    (pick (eqb r.kind 6) (string r.id (prefixed_at s (r.offset + 5)))
    (pick (eqb r.kind 7) (array_here s r)
    (pick (eqb r.kind 8) (typed_primitive (code_from s (r.offset + 1)) (value_in s (code_from s (r.offset + 1)) (r.offset + 2)))
    (pick (eqb r.kind 9) (reference r.id)
    (pick (eqb r.kind 10) null
    (pick (eqb r.kind 11) end
    (pick (eqb r.kind 12) (library r.id (prefixed_at s (r.offset + 5)))
    (pick (eqb r.kind 13) (nulls r.count)
    (pick (eqb r.kind 14) (many_nulls r.count)
    (pick (eqb r.kind 15) (primitive_array r.id r.count (code_from s (r.offset + 9)) (items_in s (code_from s (r.offset + 9)) r.count (r.offset + 10)))
    (pick (eqb r.kind 16) (object_array r.id r.count)
    (pick (eqb r.kind 17) (string_array r.id r.count)
    (value (value_code β s rows r) (value_in s (value_code β s rows r) r.offset)))))))))))))))))

-- ---- records along rows

-- the number in its row, and what else is asked of the numbers of a record
abbrev pub OwnIs : Rec → ℕ → Type 0
OwnIs (header r h) n = (n ≡ r) × (h < 4294967296)
OwnIs (class_by_id i k) n = (n ≡ i) × (k < 4294967296)
OwnIs (system_class i x ms) n = n ≡ i
OwnIs (library_class i x ms l) n = n ≡ i
OwnIs (string i x) n = (n ≡ i) × Positive i
OwnIs (array i t ns d vs) n = n ≡ i
OwnIs (typed_primitive c v) n = Unit {0}
OwnIs (reference i) n = n ≡ i
OwnIs null n = Unit {0}
OwnIs (nulls k) n = Unit {0}
OwnIs (many_nulls k) n = Unit {0}
OwnIs end n = Unit {0}
OwnIs (library i x) n = n ≡ i
OwnIs (primitive_array i k c vs) n = n ≡ i
OwnIs (object_array i k) n = n ≡ i
OwnIs (string_array i k) n = n ≡ i
OwnIs (value c v) n = Unit {0}

-- records one after the other from a place on, each with its row
pub data Along (τ : Terms) : ℕ → List Rec → List Row → Type 0 where
  no_record : {at : ℕ} → Along τ at [] []
  one_record : {at next : ℕ} {r : Rec} {rs : List Rec} {it : Row} {is : List Row}
      → RowOf r at it → GoodRec τ r → OwnIs r it.id → next ≡ at + size r → Along τ next rs is → Along τ at (r ∷ rs) (it ∷ is)

along_more : (τ : Terms) {at next : ℕ} {r : Rec} {rs : List Rec} {it : Row} {is : List Row} (id own slot link count : ℕ) → it ≡ row_of (kind_of r) at r id own slot link count
    → CountIs r count → GoodRec τ r → OwnIs r id → next ≡ at + size r → Along τ next rs is → Along τ at (r ∷ rs) (it ∷ is)
along_more τ {at} {r = r} id own slot link count q c g o e k =
    one_record (subst (RowOf r at) (sym q) (row_of_lem r at id own slot link count c)) g (subst (λ (x : Row). OwnIs r x.id) (sym q) o) e k

size_null : (at : ℕ) → at + 1 ≡ at + size null
unfolding enc
size_null at = refl

size_nulls : (at k : ℕ) → at + 2 ≡ at + size (nulls k)
unfolding enc
size_nulls at k = refl

abbrev AlongIn : Terms → Cur → Type 0
AlongIn τ (cur at row es rs is) = Along τ at rs is

array_along : (τ : Terms) {at n kind i : ℕ} {r : Rec} {ts : List SlotType} {es : List Entry} {rs : List Rec} {it : Row} {is : List Row} → Array τ es r kind i n ts
    → it ≡ row_of kind at r i 0 0 0 n → Along τ (at + size r) rs is → Along τ at (r ∷ rs) (it ∷ is)
array_along τ {n = n} {i = i} (of_objects h) q k = along_more τ i 0 0 0 n q refl tt refl refl k
array_along τ {n = n} {i = i} (of_strings h) q k = along_more τ i 0 0 0 n q refl tt refl refl k
array_along τ {n = n} {i = i} (of_primitives h g) q k = along_more τ i 0 0 0 n q refl g refl refl k
array_along τ {n = n} {i = i} {es = es} (of_any {ns = ns} {d = d} g e h f z) q k =
    along_more τ i 0 0 0 n q e (g, own_detail τ es d h, no_items τ d (product ns) f) refl refl k
array_along τ {n = n} {i = i} (of_values {b = b} {vs = vs} g e h) q k =
    along_more τ i 0 0 0 n q e (g, tt, subst (λ (m : ℕ). Values τ b m vs) e h) refl refl k

mutual
  object_along : (τ : Terms) {room own slot : ℕ} {c c₁ : Cur} → Object τ room own slot c c₁ → AlongIn τ c₁ → AlongIn τ c
  object_along τ (system_class_rule a b q d) k = along_more τ _ _ _ _ _ q refl (b.named, own_members τ b.members) refl refl (body_along τ d k)
  object_along τ (library_class_rule {l = l} a b f q d) k =
      along_more τ _ _ _ _ _ q refl (b.named, own_members τ b.members, positive_bits l f.sign) refl refl (body_along τ d k)
  object_along τ (class_by_id_rule a b f q d) k = along_more τ _ _ _ _ _ q tt tt (refl, b) refl (body_along τ d k)

  body_along : (τ : Terms) {room row : ℕ} {ts : List SlotType} {c c₁ : Cur} → Body τ room row ts c c₁ → AlongIn τ c₁ → AlongIn τ c
  body_along τ hollow k = k
  body_along τ (filled d) k = slots_along τ d k

  slots_along : (τ : Terms) {room own slot : ℕ} {ts : List SlotType} {c c₁ : Cur} → Slots τ room own slot ts c c₁ → AlongIn τ c₁ → AlongIn τ c
  slots_along τ full k = k
  slots_along τ (member_value a q d) k = along_more τ _ _ _ _ _ q tt a tt refl (slots_along τ d k)
  slots_along τ (an_object_rule t a d) k = object_along τ a (slots_along τ d k)
  slots_along τ (a_string_rule t a b q d) k = along_more τ _ _ _ _ _ q tt b (refl, a.sign) refl (slots_along τ d k)
  slots_along τ (a_typed_primitive t a q d) k = along_more τ _ _ _ _ _ q tt a tt refl (slots_along τ d k)
  slots_along τ (a_reference_rule t a q d) k = along_more τ _ _ _ _ _ q tt tt refl refl (slots_along τ d k)
  slots_along τ (a_null_rule {at = at} t q d) k = along_more τ _ _ _ _ _ q refl tt tt (size_null at) (slots_along τ d k)
  slots_along τ (a_run {at = at} {k = n} t a b e u q d) k = along_more τ _ _ _ _ _ q refl tt tt (size_nulls at n) (slots_along τ d k)
  slots_along τ (a_long_run t a b e u q d) k = along_more τ _ _ _ _ _ q refl tt tt refl (slots_along τ d k)
  slots_along τ (a_library_rule t a b n q d) k = along_more τ _ _ _ _ _ q tt n refl refl (slots_along τ d k)

objects_along : (τ : Terms) {c : Cur} → Objects τ c → AlongIn τ c
objects_along τ (the_end q) = along_more τ _ _ _ _ _ q tt tt tt refl no_record
objects_along τ (one_object a d) = object_along τ a (objects_along τ d)
objects_along τ (one_string a b q d) = along_more τ _ _ _ _ _ q tt b (refl, a.sign) refl (objects_along τ d)
objects_along τ (one_array a b q d f) = array_along τ b q (body_along τ d (objects_along τ f))
objects_along τ (one_library a b n q d) = along_more τ _ _ _ _ _ q tt n refl refl (objects_along τ d)

-- linking changes nothing of this
along_linked : (τ : Terms) (f : Row → ℕ) {at : ℕ} {rs : List Rec} {is : List Row} → Along τ at rs is → Along τ at rs (map (λ (r : Row). with_link r (f r)) is)
along_linked τ f no_record = no_record
along_linked τ f (one_record {it = it} w g o e k) = one_record (row_linked (f it) w) g o e (along_linked τ f k)

-- all records of a reading, the header first
abbrev pub records_in : (τ : Terms) {s : List ℕ} {rows : List Row} → Reading τ s rows → List Rec
records_in τ w = header w.root w.header_id ∷ w.rs

size_head : (root h : ℕ) → 17 ≡ 0 + size (header root h)
unfolding enc
size_head root h = simp (length-append, length_le_bytes)

pub reading_along : (τ : Terms) {s : List ℕ} {rows : List Row} (w : Reading τ s rows) → Along τ 0 (records_in τ w) rows
unfolding linked
reading_along τ w =
    let raw = row_of 0 0 (header w.root w.header_id) w.root 0 0 0 0 ∷ w.is in
    subst (Along τ 0 (records_in τ w)) (sym (rows_are τ w))
    (along_linked τ (link_of raw) (along_more τ w.root 0 0 0 0 refl tt tt (refl, w.header_bits) (size_head w.root w.header_id) (objects_along τ w.objects_are)))

pub reading_bytes : (τ : Terms) {s : List ℕ} {rows : List Row} (w : Reading τ s rows) → drop 0 s ≡ encs (records_in τ w)
unfolding encs
reading_bytes τ w = w.bytes_are

-- ---- the record at a place

-- a row with these fields, and the others of w
abbrev like : ℕ → ℕ → ℕ → ℕ → ℕ → Row → Row
like kind offset after id count w =
    record { kind = kind; offset = offset; end = after; id = id; owner = w.owner; slot = w.slot; link = w.link; count = count }

row_like : {k o e i n : ℕ} (w : Row) → w.kind ≡ k → w.offset ≡ o → w.end ≡ e → w.id ≡ i → w.count ≡ n → w ≡ like k o e i n w
row_like {k} {o} {e} {i} {n} w a b c d f =
    ap (λ (x : ℕ). like x w.offset w.end w.id w.count w) a
    ∙ (ap (λ (x : ℕ). like k x w.end w.id w.count w) b
    ∙ (ap (λ (x : ℕ). like k o x w.id w.count w) c
    ∙ (ap (λ (x : ℕ). like k o e x w.count w) d
    ∙ ap (λ (x : ℕ). like k o e i x w) f)))

-- the name at a place, with the width of its prefix
name_here : (τ : Terms) (s : List ℕ) (t : Prefixed) (q : List ℕ) (p : ℕ) → Name τ t → drop p s ≡ bytes_in t ++ q → prefixed_at s p ≡ t
name_here τ s t q p n d =
    prefixed t ((span_at s p).from - p) (text_from s p) (rw (span_is s t q p d n.prefix n.characters.short) (omega arith)) (text_is τ s t q p n d)

-- the value of a code at a place, and several one after the other
module _ (τ : Terms) (s q : List ℕ) (c : PrimitiveCode) (p : ℕ) (h : p ≤ length s) where
  value_from_lem : (v : Prefixed) → Value τ c v → drop p s ≡ bytes_in v ++ q → value_in s c p ≡ v
  value_from_lem v g d = value_in_lem τ s c v p (p + length (bytes_in v)) g (stand_of s (bytes_in v) q p h d)

  items_from_lem : (n : ℕ) (vs : List Prefixed) → Values τ c n vs → drop p s ≡ items_bytes vs ++ q → items_in s c n p ≡ vs
  items_from_lem n vs g d = items_in_lem τ s c n vs p (p + length (items_bytes vs)) g (stand_of s (items_bytes vs) q p h d)

module _ (τ : Terms) (s q : List ℕ) (at : ℕ) where
  -- after the kind byte and a number
  after_id_lem : (k i : ℕ) (b : List ℕ) → drop at s ≡ (k ∷ (le_bytes 4 i ++ b)) ++ q → drop (at + 5) s ≡ b ++ q
  after_id_lem k i b d =
      let l : length (le_bytes 4 i) ≡ 4 = length_le_bytes 4 i in
      rest_there s (k ∷ le_bytes 4 i) (b ++ q) at (at + 5) (omega arith) (d ∙ ap (λ (x : List ℕ). k ∷ x) (append_assoc (le_bytes 4 i) b q))

  detail_here : (p : ℕ) (d : Detail Prefixed ℕ) → OwnDetail τ d → drop p s ≡ info_bytes d ++ q → detail_in s (type_byte d) p ≡ d
  unfolding detail_in
  detail_here p (primitive c) g d = ap primitive (code_there s q c p d)
  detail_here p text g d = refl
  detail_here p object g d = refl
  detail_here p (system n) g d = ap system (name_here τ s n q p g d)
  detail_here p (class n l) g d =
      let f : drop p s ≡ bytes_in n ++ (le_bytes 4 l ++ q) = d ∙ append_assoc (bytes_in n) (le_bytes 4 l) q in
      let x = text_there τ s n (le_bytes 4 l ++ q) p g.0 f in
      let m : number_from s (after_text s p) ≡ l =
      ap (number_from s) x.1 ∙ number_there s q l (p + length (bytes_in n)) x.2 (positive_bits l g.1) in
      ap (λ (t : Prefixed). class t (number_from s (after_text s p))) (name_here τ s n (le_bytes 4 l ++ q) p g.0 f) ∙ ap (class n) m
  detail_here p objects g d = refl
  detail_here p texts g d = refl
  detail_here p (primitives c) g d = ap primitives (code_there s q c p d)

length_types : (ms : List (Member Prefixed ℕ)) → length (types_bytes ms) ≡ length ms
length_types [] = refl
length_types (m ∷ ms) = ap suc (length_types ms)

members_here_lem : (τ : Terms) (s : List ℕ) (ms : List (Member Prefixed ℕ)) (x y z : List ℕ) (a b c : ℕ) → OwnMembers τ ms
    → drop a s ≡ names_bytes ms ++ x → drop b s ≡ types_bytes ms ++ y → drop c s ≡ infos_bytes ms ++ z → members_in s (length ms) a b c ≡ ms
unfolding members_in
members_here_lem τ s [] x y z a b c no_member d e f = refl
members_here_lem τ s (m ∷ ms) x y z a b c (own_member n g gs) d e f =
    let k : drop a s ≡ bytes_in m.name ++ (names_bytes ms ++ x) = d ∙ append_assoc (bytes_in m.name) (names_bytes ms) x in
    let u = text_there τ s m.name (names_bytes ms ++ x) a n k in
    let t = byte_there s (types_bytes ms ++ y) (type_byte m.type) b e in
    let v = byte_rest s (types_bytes ms ++ y) (type_byte m.type) b e in
    let h : drop c s ≡ info_bytes m.type ++ (infos_bytes ms ++ z) = f ∙ append_assoc (info_bytes m.type) (infos_bytes ms) z in
    let w = detail_there τ s (infos_bytes ms ++ z) c [] m.type g h in
    rw (t, name_here τ s m.name (names_bytes ms ++ x) a n k, detail_here τ s (infos_bytes ms ++ z) c c m.type g h, u.1, w.1)
    (ap (λ (l : List (Member Prefixed ℕ)). m ∷ l)
    (members_here_lem τ s ms x y z (a + length (bytes_in m.name)) (b + 1) (c + length (info_bytes m.type)) gs u.2 v w.2))

-- a class's name and members after its ObjectId
class_here : (τ : Terms) (s : List ℕ) (k at e i : ℕ) (w : Row) (n : Prefixed) (ms : List (Member Prefixed ℕ)) (q : List ℕ) → Name τ n → OwnMembers τ ms → drop (at + 5) s ≡ class_bytes n ms ++ q
    → (prefixed_at s (at + 5) ≡ n) × (members_here s (like k at e i (length ms) w) ≡ ms)
class_here τ s k at e i w n ms q g gs d =
    let types = types_bytes ms ++ infos_bytes ms in
    let names = names_bytes ms ++ types in
    let count = le_bytes 4 (length ms) in
    let d0 : drop (at + 5) s ≡ bytes_in n ++ ((count ++ names) ++ q) = d ∙ append_assoc (bytes_in n) (count ++ names) q in
    let t = text_there τ s n ((count ++ names) ++ q) (at + 5) g d0 in
    let a = at + 5 + length (bytes_in n) + 4 in
    let d1 = number_rest s (names ++ q) (length ms) (at + 5 + length (bytes_in n)) (t.2 ∙ append_assoc count names q) in
    let d2 : drop a s ≡ names_bytes ms ++ (types ++ q) = d1 ∙ append_assoc (names_bytes ms) types q in
    let b = a + length (names_bytes ms) in
    let d3 : drop b s ≡ types_bytes ms ++ (infos_bytes ms ++ q) =
    rest_there s (names_bytes ms) (types ++ q) a b refl d2 ∙ append_assoc (types_bytes ms) (infos_bytes ms) q in
    let d4 : drop (b + length ms) s ≡ infos_bytes ms ++ q =
    rest_there s (types_bytes ms) (infos_bytes ms ++ q) b (b + length ms) (ap (λ (x : ℕ). b + x) (sym (length_types ms))) d3 in (
      name_here τ s n ((count ++ names) ++ q) (at + 5) g d0,
      rw (t.1, names_there τ s ms (types ++ q) a gs d2) (members_here_lem τ s ms (types ++ q) (infos_bytes ms ++ q) q a b (b + length ms) gs d2 d3 d4),
    )

rank_bits : {type rank : ℕ} → Ranked type rank → rank < 4294967296
rank_bits single = omega arith
rank_bits jagged = omega arith
rank_bits (rectangular l h) = omega arith

-- the items of an array, where they are inside it
module _ (τ : Terms) (s q : List ℕ) (p n : ℕ) (vs : List Prefixed) where
  array_items_lem : (d : Detail Prefixed ℕ) → ItemsOf τ d n vs → drop p s ≡ info_bytes d ++ (items_bytes vs ++ q)
      → pick (eqb (type_byte d) 0) (items_in s (code_from s p) n (p + length (info_bytes d))) [] ≡ vs
  array_items_lem (primitive c) g d =
      let x = items_bytes vs ++ q in
      let l = place_inside s x (code_number c) p d in
      rw (code_there s x c p d) (items_from_lem τ s q c (p + 1) (omega arith) n vs g (byte_rest s x (code_number c) p d))
  array_items_lem text g d = sym g
  array_items_lem object g d = sym g
  array_items_lem (system x) g d = sym g
  array_items_lem (class x l) g d = sym g
  array_items_lem objects g d = sym g
  array_items_lem texts g d = sym g
  array_items_lem (primitives c) g d = sym g

-- a member value says what its bytes say by the code of its owner's class for its slot
value_row : (β s : List ℕ) (rows : List Row) (w : Row) → w.kind ≡ 32 → rec_from β s rows w ≡ value (value_code β s rows w) (value_in s (value_code β s rows w) w.offset)
unfolding rec_from value_code
value_row β s rows w k = ap (rec_from β s rows) (row_like w k refl refl refl refl)

value_node : (β s : List ℕ) (rows : List Row) (w : Row) → w.kind ≡ 32
    → nodes_of β s rows w ≡ node (a_value (value_code β s rows w) (content_from s (value_code β s rows w) w.offset)) (order_of rows w.owner) w.slot ∷ []
unfolding nodes_of what_from value_code
value_node β s rows w k = ap (nodes_of β s rows) (row_like w k refl refl refl refl)

-- a row that shows a member value leads to its code
abbrev CodeIs : (β s : List ℕ) → List Row → Rec → Row → Type 0
CodeIs β s rows r w = (c : PrimitiveCode) (v : Prefixed) → r ≡ value c v → value_code β s rows w ≡ c

module _ (τ : Terms) (s : List ℕ) (rows : List Row) (w : Row) (at : ℕ) (q : List ℕ) where
  header_here : (root h : ℕ) → h < 4294967296 → w.id ≡ root → drop at s ≡ enc (header root h) ++ q → RowOf (header root h) at w → rec_from τ.book s rows w ≡ header root h
  unfolding enc rec_from
  header_here root h b i d r =
      let x = after_id_lem τ s q at 0 root (le_bytes 4 h ++ (le_bytes 4 1 ++ le_bytes 4 0)) d in
      let y = number_there s ((le_bytes 4 1 ++ le_bytes 4 0) ++ q) h (at + 5) (x ∙ append_assoc (le_bytes 4 h) (le_bytes 4 1 ++ le_bytes 4 0) q) b in
      ap (rec_from τ.book s rows) (row_like w r.kind_is r.offset_is refl i refl) ∙ ap (header root) y

  class_by_id_here : (i k : ℕ) → k < 4294967296 → w.id ≡ i → drop at s ≡ enc (class_by_id i k) ++ q → RowOf (class_by_id i k) at w → rec_from τ.book s rows w ≡ class_by_id i k
  unfolding enc rec_from
  class_by_id_here i k b z d r =
      let y = number_there s q k (at + 5) (after_id_lem τ s q at 1 i (le_bytes 4 k) d) b in
      ap (rec_from τ.book s rows) (row_like w r.kind_is r.offset_is refl z refl) ∙ ap (class_by_id i) y

  system_class_here : (i : ℕ) (n : Prefixed) (ms : List (Member Prefixed ℕ)) → Name τ n → OwnMembers τ ms → w.id ≡ i → drop at s ≡ enc (system_class i n ms) ++ q
      → RowOf (system_class i n ms) at w → rec_from τ.book s rows w ≡ system_class i n ms
  unfolding enc rec_from
  system_class_here i n ms g gs z d r =
      let c = class_here τ s 4 at w.end i w n ms q g gs (after_id_lem τ s q at 4 i (class_bytes n ms) d) in
      ap (rec_from τ.book s rows) (row_like w r.kind_is r.offset_is refl z r.count_is) ∙ rw (c.0, c.1)

  library_class_here : (i : ℕ) (n : Prefixed) (ms : List (Member Prefixed ℕ)) (l : ℕ) → Name τ n → OwnMembers τ ms → l < 4294967296 → w.id ≡ i
      → drop at s ≡ enc (library_class i n ms l) ++ q → RowOf (library_class i n ms l) at w → rec_from τ.book s rows w ≡ library_class i n ms l
  unfolding enc rec_from
  library_class_here i n ms l g gs h z d r =
      let b = class_bytes n ms in
      let d1 : drop (at + 5) s ≡ b ++ (le_bytes 4 l ++ q) = after_id_lem τ s q at 5 i (b ++ le_bytes 4 l) d ∙ append_assoc b (le_bytes 4 l) q in
      let e = at + length (enc (library_class i n ms l)) in
      let k : length (le_bytes 4 i ++ (b ++ le_bytes 4 l)) ≡ 8 + length b = simp (length-append, length_le_bytes) (omega arith) in
      let f : e - 4 ≡ at + 5 + length b = omega arith in
      let m = number_there s q l (e - 4) (rest_there s b (le_bytes 4 l ++ q) (at + 5) (e - 4) f d1) h in
      let c = class_here τ s 5 at e i w n ms (le_bytes 4 l ++ q) g gs d1 in
      ap (rec_from τ.book s rows) (row_like w r.kind_is r.offset_is r.end_is z r.count_is) ∙ rw (c.0, c.1, m)

  string_here : (i : ℕ) (x : Prefixed) → Name τ x → w.id ≡ i → drop at s ≡ enc (string i x) ++ q → RowOf (string i x) at w → rec_from τ.book s rows w ≡ string i x
  unfolding enc rec_from
  string_here i x g z d r =
      ap (rec_from τ.book s rows) (row_like w r.kind_is r.offset_is refl z refl) ∙ ap (string i) (name_here τ s x q (at + 5) g (after_id_lem τ s q at 6 i (bytes_in x) d))

  library_here : (i : ℕ) (x : Prefixed) → Name τ x → w.id ≡ i → drop at s ≡ enc (library i x) ++ q → RowOf (library i x) at w → rec_from τ.book s rows w ≡ library i x
  unfolding enc rec_from
  library_here i x g z d r =
      ap (rec_from τ.book s rows) (row_like w r.kind_is r.offset_is refl z refl) ∙ ap (library i) (name_here τ s x q (at + 5) g (after_id_lem τ s q at 12 i (bytes_in x) d))

  typed_primitive_here : (c : PrimitiveCode) (v : Prefixed) → Value τ c v → drop at s ≡ enc (typed_primitive c v) ++ q → RowOf (typed_primitive c v) at w
      → rec_from τ.book s rows w ≡ typed_primitive c v
  unfolding enc rec_from
  typed_primitive_here c v g d r =
      let x = bytes_in v in
      let a : drop (at + 1) s ≡ code_number c ∷ (x ++ q) = byte_rest s (code_number c ∷ (x ++ q)) 8 at d in
      let b : drop (at + 2) s ≡ x ++ q = rest_there s (8 ∷ code_number c ∷ []) (x ++ q) at (at + 2) (omega arith) d in
      let l = place_inside s (x ++ q) (code_number c) (at + 1) a in
      ap (rec_from τ.book s rows) (row_like w r.kind_is r.offset_is refl refl refl)
      ∙ rw (code_there s (x ++ q) c (at + 1) a) (ap (typed_primitive c) (value_from_lem τ s q c (at + 2) (omega arith) v g b))

  primitive_array_here : (i n : ℕ) (c : PrimitiveCode) (vs : List Prefixed) → Values τ c n vs → w.id ≡ i → drop at s ≡ enc (primitive_array i n c vs) ++ q
      → RowOf (primitive_array i n c vs) at w → rec_from τ.book s rows w ≡ primitive_array i n c vs
  unfolding enc rec_from
  primitive_array_here i n c vs g z d r =
      let x = items_bytes vs in
      let l : length (le_bytes 4 n) ≡ 4 = length_le_bytes 4 n in
      let a : drop (at + 5) s ≡ le_bytes 4 n ++ (code_number c ∷ (x ++ q)) =
      after_id_lem τ s q at 15 i (le_bytes 4 n ++ (code_number c ∷ x)) d ∙ append_assoc (le_bytes 4 n) (code_number c ∷ x) q in
      let b : drop (at + 9) s ≡ code_number c ∷ (x ++ q) = rest_there s (le_bytes 4 n) (code_number c ∷ (x ++ q)) (at + 5) (at + 9) (omega arith) a in
      let e : drop (at + 10) s ≡ x ++ q = rest_there s (code_number c ∷ []) (x ++ q) (at + 9) (at + 10) (omega arith) b in
      let h = place_inside s (x ++ q) (code_number c) (at + 9) b in
      ap (rec_from τ.book s rows) (row_like w r.kind_is r.offset_is refl z r.count_is)
      ∙ rw (code_there s (x ++ q) c (at + 9) b) (ap (primitive_array i n c) (items_from_lem τ s q c (at + 10) (omega arith) n vs g e))

  -- of the code that its owner and slot lead to
  value_here : (c : PrimitiveCode) (v : Prefixed) → Value τ c v → at ≤ length s → value_code τ.book s rows w ≡ c → drop at s ≡ enc (value c v) ++ q → RowOf (value c v) at w
      → rec_from τ.book s rows w ≡ value c v
  unfolding enc
  value_here c v g h e d r =
      value_row τ.book s rows w r.kind_is
      ∙ (ap (λ (x : PrimitiveCode). value x (value_in s x w.offset)) e
      ∙ (ap (λ (x : ℕ). value c (value_in s c x)) r.offset_is ∙ ap (value c) (value_from_lem τ s q c at h v g d)))

  array_here_lem : (i t : ℕ) (ns : List ℕ) (x : Detail Prefixed ℕ) (vs : List Prefixed) → Shape t ns → OwnDetail τ x → ItemsOf τ x (product ns) vs → w.id ≡ i
      → drop at s ≡ enc (array i t ns x vs) ++ q → RowOf (array i t ns x vs) at w → rec_from τ.book s rows w ≡ array i t ns x vs
  unfolding enc rec_from
  array_here_lem i t ns x vs g h y z d r =
      let items = info_bytes x ++ items_bytes vs in
      let item = type_byte x ∷ items in
      let rank = le_bytes 4 (length ns) in
      let l : length rank ≡ 4 = length_le_bytes 4 (length ns) in
      let n = length_numbers_bytes ns in
      let a = after_id_lem τ s q at 7 i (t ∷ (rank ++ (numbers_bytes ns ++ item))) d in
      let b : drop (at + 6) s ≡ rank ++ ((numbers_bytes ns ++ item) ++ q) =
      rest_there s (t ∷ []) ((rank ++ (numbers_bytes ns ++ item)) ++ q) (at + 5) (at + 6) (omega arith) a ∙ append_assoc rank (numbers_bytes ns ++ item) q in
      let c : drop (at + 10) s ≡ numbers_bytes ns ++ (item ++ q) =
      rest_there s rank ((numbers_bytes ns ++ item) ++ q) (at + 6) (at + 10) (omega arith) b ∙ append_assoc (numbers_bytes ns) item q in
      let p = at + 10 + 4 * length ns in
      let f = rest_there s (numbers_bytes ns) (item ++ q) (at + 10) p (omega arith) c in
      let u : drop (p + 1) s ≡ info_bytes x ++ (items_bytes vs ++ q) = byte_rest s (items ++ q) (type_byte x) p f ∙ append_assoc (info_bytes x) (items_bytes vs) q in
      let m = detail_there τ s (items_bytes vs ++ q) (p + 1) [] x h u in
      ap (rec_from τ.book s rows) (row_like w r.kind_is r.offset_is refl z r.count_is)
      ∙ rw (
        byte_there s ((rank ++ (numbers_bytes ns ++ item)) ++ q) t (at + 5) a,
        number_there s ((numbers_bytes ns ++ item) ++ q) (length ns) (at + 6) b (rank_bits g.ranked),
        numbers_there s ns (item ++ q) (at + 10) g.lengths c,
        byte_there s (items ++ q) (type_byte x) p f,
        detail_here τ s (items_bytes vs ++ q) at (p + 1) x h u,
        m.1,
      )
      (ap (array i t ns x) (array_items_lem τ s q (p + 1) (product ns) vs x y u))

  -- by the row alone
  row_here : (k i n : ℕ) → w.kind ≡ k → w.id ≡ i → w.count ≡ n → rec_from τ.book s rows w ≡ rec_from τ.book s rows (like k w.offset w.end i n w)
  row_here k i n a b c = ap (rec_from τ.book s rows) (row_like w a refl refl b c)

  pub rec_here : (r : Rec) → drop at s ≡ enc r ++ q → RowOf r at w → GoodRec τ r → OwnIs r w.id → at ≤ length s → CodeIs τ.book s rows r w
      → rec_from τ.book s rows w ≡ r
  unfolding rec_from
  rec_here (header root h) d r g o l e = header_here root h o.1 o.0 d r
  rec_here (class_by_id i k) d r g o l e = class_by_id_here i k o.1 o.0 d r
  rec_here (system_class i n ms) d r g o l e = system_class_here i n ms g.0 g.1 o d r
  rec_here (library_class i n ms k) d r g o l e = library_class_here i n ms k g.0 g.1 g.2 o d r
  rec_here (string i x) d r g o l e = string_here i x g o.0 d r
  rec_here (array i t ns x vs) d r g o l e = array_here_lem i t ns x vs g.0 g.1 g.2 o d r
  rec_here (typed_primitive c v) d r g o l e = typed_primitive_here c v g d r
  rec_here (reference i) d r g o l e = row_here 9 i w.count r.kind_is o refl
  rec_here null d r g o l e = row_here 10 w.id w.count r.kind_is refl refl
  rec_here (nulls n) d r g o l e = row_here 13 w.id n r.kind_is refl r.count_is
  rec_here (many_nulls n) d r g o l e = row_here 14 w.id n r.kind_is refl r.count_is
  rec_here end d r g o l e = row_here 11 w.id w.count r.kind_is refl refl
  rec_here (library i n) d r g o l e = library_here i n g o d r
  rec_here (primitive_array i n c vs) d r g o l e = primitive_array_here i n c vs g o d r
  rec_here (object_array i n) d r g o l e = row_here 16 i n r.kind_is o r.count_is
  rec_here (string_array i n) d r g o l e = row_here 17 i n r.kind_is o r.count_is
  rec_here (value c v) d r g o l e = value_here c v g l (e c v refl) d r

-- ---- the codes of member values: what the rows say is what the records mean, and both come one after the other

-- as many nodes as the kind and the count of a row tell
length_spread : (n owner slot : ℕ) → length (spread n owner slot) ≡ n
unfolding spread
length_spread zero owner slot = refl
length_spread (suc n) owner slot = ap suc (length_spread n owner (slot + 1))

abbrev nodes_in : ℕ → ℕ → ℕ
nodes_in kind count = pick (is_silent kind) 0 (pick (is_nulls kind) count 1)

nodes_shown : (β s : List ℕ) (rows : List Row) (w : Row) → length (nodes_of β s rows w) ≡ nodes_in w.kind w.count
unfolding nodes_of
nodes_shown β s rows w = go (is_silent w.kind) (is_nulls w.kind) (spread w.count (order_of rows w.owner) w.slot) (length_spread _ _ _)
  where
    go : (a b : Bool) (l : List Node) → length l ≡ w.count
        → length (pick a [] (pick b l (node (what_from β s rows w) (order_of rows w.owner) w.slot ∷ []))) ≡ pick a 0 (pick b w.count 1)
    go true b l e = refl
    go false true l e = e
    go false false l e = refl

-- two lists in two pieces, the first as long in both
same_pieces : {A : Type 0} (a b c d : List A) → length c ≡ length a → a ++ b ≡ c ++ d → (a ≡ c) × (b ≡ d)
same_pieces a b c d l e = (
  sym (take_at a b (length a) refl) ∙ (ap (take (length a)) e ∙ take_at c d (length a) l),
  sym (drop_at a b (length a) refl) ∙ (ap (drop (length a)) e ∙ drop_at c d (length a) l),
)

module _ (name : ℕ → List ℕ) (of : ℕ → Class) (order : ℕ → ℕ) (o k : ℕ) where
  nodes_meant : (r : Rec) (n : ℕ) → CountIs r n → nodes_in (kind_of r) n ≡ length (nodes_by (sense_of name of order r) o k)
  unfolding spread
  nodes_meant (header a h) n e = refl
  nodes_meant (class_by_id i x) n e = refl
  nodes_meant (system_class i x ms) n e = refl
  nodes_meant (library_class i x ms l) n e = refl
  nodes_meant (string i x) n e = refl
  nodes_meant (array i t ns d vs) n e = refl
  nodes_meant (typed_primitive c v) n e = refl
  nodes_meant (reference i) n e = refl
  nodes_meant null n e = e
  nodes_meant (nulls m) n e = e ∙ sym (length_spread m o k)
  nodes_meant (many_nulls m) n e = e ∙ sym (length_spread m o k)
  nodes_meant end n e = refl
  nodes_meant (library i x) n e = refl
  nodes_meant (primitive_array i m c vs) n e = refl
  nodes_meant (object_array i m) n e = refl
  nodes_meant (string_array i m) n e = refl
  nodes_meant (value c v) n e = refl

  module _ (β s : List ℕ) (rows : List Row) (at : ℕ) (w : Row) where
    as_many : (r : Rec) → RowOf r at w → length (nodes_of β s rows w) ≡ length (nodes_by (sense_of name of order r) o k)
    as_many r x = nodes_shown β s rows w ∙ (ap (λ (m : ℕ). nodes_in m w.count) x.kind_is ∙ nodes_meant r w.count x.count_is)

    code_meant : (r : Rec) → RowOf r at w → nodes_of β s rows w ≡ nodes_by (sense_of name of order r) o k → CodeIs β s rows r w
    code_meant r x e c v z =
        let f = value_node β s rows w (x.kind_is ∙ ap kind_of z) in
        let g : nodes_of β s rows w ≡ node (a_value c v.text) o k ∷ [] = e ∙ ap (λ (r : Rec). nodes_by (sense_of name of order r) o k) z in
        let y = value_code β s rows w in
        let h : a_value y (content_from s y w.offset) ≡ a_value c v.text = ap (λ (l : List Node). (get_or l 0 (node a_null 0 0)).what) (sym f ∙ g) in
        cc

-- ---- all records

module _ (τ : Terms) (s : List ℕ) (rows : List Row) (name : ℕ → List ℕ) (of : ℕ → Class) (order : ℕ → ℕ) where
  along_records : {at : ℕ} {rs : List Rec} {is : List Row} → Along τ at rs is → at ≤ length s → drop at s ≡ encs rs → (c : ℕ) (os : List Open)
      → nodes_from τ.book s rows is ≡ walk name of order c os rs → rs ≡ map (rec_from τ.book s rows) is
  unfolding encs nodes_from walk
  along_records no_record h d c os n = refl
  along_records (one_record {at = at} {next = next} {r = r} {rs = rs} {it = it} {is = is} w g o e k) h d c os n =
      let m = sense_of name of order r in
      let u = nodes_by m (owner_in os) (slot_in os) in
      let a = as_many name of order (owner_in os) (slot_in os) τ.book s rows at it r w in
      let p = same_pieces (nodes_of τ.book s rows it) (nodes_from τ.book s rows is) u (walk name of order (count_by m c) (open_by m c os) rs) (sym a) n in
      let x = rec_here τ s rows it at (encs rs) r d w g o h (code_meant name of order (owner_in os) (slot_in os) τ.book s rows at it r w p.0) in
      let t = stand_of s (enc r) (encs rs) at h d in
      let y = along_records k (omega (arith, t.room)) (rest_there s (enc r) (encs rs) at next e d) (count_by m c) (open_by m c os) p.1 in
      ap (λ (z : Rec). z ∷ rs) (sym x) ∙ ap (λ (l : List Rec). rec_from τ.book s rows it ∷ l) y

-- the records of a reading are those that its rows show
pub records_are : (τ : Terms) {s : List ℕ} {rows : List Row} (w : Reading τ s rows) → records_in τ w ≡ map (rec_from τ.book s rows) rows
unfolding says meant walk
records_are τ {s} {rows} w =
    along_records τ s rows (name_by w.rs) (class_by w.rs) (order_by w.rs) (reading_along τ w) (omega arith) (reading_bytes τ w) 0 []
    (ap (λ (m : Model). m.nodes) (says_meant τ w))

heads : {a b c d : ℕ} {rs ss : List Rec} → header a b ∷ rs ≡ header c d ∷ ss → (a ≡ c) × ((b ≡ d) × (rs ≡ ss))
heads e = (cc, (cc, cc))

-- two readings of one stream have equal roots, HeaderIds and records
records_unique : (τ : Terms) (s : List ℕ) (rows others : List Row) (a : Reading τ s rows) (b : Reading τ s others)
    → (a.root ≡ b.root) × ((a.header_id ≡ b.header_id) × (a.rs ≡ b.rs))
records_unique τ s rows others a b = heads (records_are τ a ∙ (ap (λ (l : List Row). map (rec_from τ.book s l) l) (reading_unique τ s rows others a b) ∙ sym (records_are τ b)))

-- ---- the rows before linking

-- a row without its link, but for kind 1, which has its class's from the start
abbrev pub unlinked : Row → Row
unlinked r = with_link r (pick (eqb r.kind 1) r.link 0)

data Raw : List Row → Type 0 where
  no_row : Raw []
  one_row : {r : Row} {rows : List Row} → unlinked r ≡ r → Raw rows → Raw (r ∷ rows)

abbrev RawIn : Cur → Type 0
RawIn (cur at row es rs is) = Raw is

-- a row whose link is 0
raw_more : {it : Row} {is : List Row} (kind at : ℕ) (r : Rec) (id own slot count : ℕ) → it ≡ row_of kind at r id own slot 0 count → Raw is → Raw (it ∷ is)
raw_more kind at r id own slot count q k = one_row (subst (λ (x : Row). unlinked x ≡ x) (sym q) (zeroed (eqb kind 1))) k
  where
    zeroed : (b : Bool) → with_link (row_of kind at r id own slot 0 count) (pick b 0 0) ≡ row_of kind at r id own slot 0 count
    zeroed true = refl
    zeroed false = refl

mutual
  object_raw : (τ : Terms) {room own slot : ℕ} {c c₁ : Cur} → Object τ room own slot c c₁ → RawIn c₁ → RawIn c
  object_raw τ (system_class_rule a b q d) k = raw_more 4 _ _ _ _ _ _ q (body_raw τ d k)
  object_raw τ (library_class_rule a b f q d) k = raw_more 5 _ _ _ _ _ _ q (body_raw τ d k)
  object_raw τ (class_by_id_rule a b f q d) k = one_row (subst (λ (x : Row). unlinked x ≡ x) (sym q) refl) (body_raw τ d k)

  body_raw : (τ : Terms) {room row : ℕ} {ts : List SlotType} {c c₁ : Cur} → Body τ room row ts c c₁ → RawIn c₁ → RawIn c
  body_raw τ hollow k = k
  body_raw τ (filled d) k = slots_raw τ d k

  slots_raw : (τ : Terms) {room own slot : ℕ} {ts : List SlotType} {c c₁ : Cur} → Slots τ room own slot ts c c₁ → RawIn c₁ → RawIn c
  slots_raw τ full k = k
  slots_raw τ (member_value a q d) k = raw_more 32 _ _ _ _ _ _ q (slots_raw τ d k)
  slots_raw τ (an_object_rule t a d) k = object_raw τ a (slots_raw τ d k)
  slots_raw τ (a_string_rule t a b q d) k = raw_more 6 _ _ _ _ _ _ q (slots_raw τ d k)
  slots_raw τ (a_typed_primitive t a q d) k = raw_more 8 _ _ _ _ _ _ q (slots_raw τ d k)
  slots_raw τ (a_reference_rule t a q d) k = raw_more 9 _ _ _ _ _ _ q (slots_raw τ d k)
  slots_raw τ (a_null_rule t q d) k = raw_more 10 _ _ _ _ _ _ q (slots_raw τ d k)
  slots_raw τ (a_run t a b e u q d) k = raw_more 13 _ _ _ _ _ _ q (slots_raw τ d k)
  slots_raw τ (a_long_run t a b e u q d) k = raw_more 14 _ _ _ _ _ _ q (slots_raw τ d k)
  slots_raw τ (a_library_rule t a b n q d) k = raw_more 12 _ _ _ _ _ _ q (slots_raw τ d k)

objects_raw : (τ : Terms) {c : Cur} → Objects τ c → RawIn c
objects_raw τ (the_end q) = raw_more 11 _ _ _ _ _ _ q no_row
objects_raw τ (one_object a d) = object_raw τ a (objects_raw τ d)
objects_raw τ (one_string a b q d) = raw_more 6 _ _ _ _ _ _ q (objects_raw τ d)
objects_raw τ (one_array {kind = kind} a b q d f) = raw_more kind _ _ _ _ _ _ q (body_raw τ d (objects_raw τ f))
objects_raw τ (one_library a b n q d) = raw_more 12 _ _ _ _ _ _ q (objects_raw τ d)

raw_linked : (all : List Row) {is : List Row} → Raw is → map unlinked (map (λ (r : Row). with_link r (link_of all r)) is) ≡ is
unfolding link_of
raw_linked all no_row = refl
raw_linked all (one_row {r = r} {rows = is} u k) =
    let e : pick (eqb r.kind 1) (link_of all r) 0 ≡ pick (eqb r.kind 1) r.link 0 = kept r.kind (object_row r.id all) r.link in
    let a : with_link r (pick (eqb r.kind 1) (link_of all r) 0) ≡ r = ap (with_link r) e ∙ u in
    ap (λ (x : Row). x ∷ map unlinked (map (λ (r : Row). with_link r (link_of all r)) is)) a ∙ ap (λ (l : List Row). r ∷ l) (raw_linked all k)
  where
    kept : (k o l : ℕ) → pick (eqb k 1) (pick (eqb k 9 || eqb k 0) o (pick (eqb k 1) l 0)) 0 ≡ pick (eqb k 1) l 0
    kept k o l = go (eqb k 1) refl
      where
        go : (b : Bool) → eqb k 1 ≡ b → pick b (pick (eqb k 9 || eqb k 0) o (pick b l 0)) 0 ≡ pick b l 0
        go true e = rw (eqb-true k 1 e)
        go false e = refl

-- the rows before linking, too, are those that the rows show
pub raw_are : (τ : Terms) {s : List ℕ} {rows : List Row} (w : Reading τ s rows) → w.is ≡ map unlinked (drop 1 rows)
unfolding linked
raw_are τ w =
    let raw = row_of 0 0 (header w.root w.header_id) w.root 0 0 0 0 ∷ w.is in
    sym (ap (λ (l : List Row). map unlinked (drop 1 l)) (rows_are τ w) ∙ raw_linked raw (objects_raw τ w.objects_are))

-- ---- no list has two readings

-- two readings that are one: all that a reading holds, but for the facts about it
pub record OneReading (τ : Terms) {s : List ℕ} {rows others : List Row} (a : Reading τ s rows) (b : Reading τ s others) : Type 0 where
  pub rows_same : rows ≡ others
  pub root_same : a.root ≡ b.root
  pub header_id_same : a.header_id ≡ b.header_id
  pub records_same : a.rs ≡ b.rs
  -- the rows before linking
  pub unlinked_same : a.is ≡ b.is

pub reading_unique_whole : (τ : Terms) (s : List ℕ) (rows others : List Row) (a : Reading τ s rows) (b : Reading τ s others) → OneReading τ a b
reading_unique_whole τ s rows others a b =
    let e = reading_unique τ s rows others a b in
    let x = records_unique τ s rows others a b in
    record {
      rows_same = e;
      root_same = x.0;
      header_id_same = x.1.0;
      records_same = x.1.1;
      unlinked_same = raw_are τ a ∙ (ap (λ (l : List Row). map unlinked (drop 1 l)) e ∙ sym (raw_are τ b));
    }
