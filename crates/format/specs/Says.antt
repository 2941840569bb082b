-- What a list says (01, The tidy copy, "Two lists say the same when"), from its stream, the class book and the rows of its reading: its records and member values in
-- order, library records left out, null runs spread, classes and libraries by content, owners and targets by object order. No id, no packing and
-- no length prefix is left. Meant has it from the records alone; that the two agree is `says-meant` of the crate `meant`.
use Rattle.std.specs.Prelude.{ℕ, zero, suc, ◌+◌, ◌-◌, ◌*◌, ◌≡◌, Bool, true, false, ◌&&◌, ◌||◌, List, [], ◌∷◌, ◌++◌, length, get_or, take, ltb, eqb}
use Rattle.format.specs.declared.PrimitiveCode.{PrimitiveCode}
use Rattle.format.specs.declared.PrimitiveCode.TheVariants as C
use Rattle.format.specs.declared.Row.{Row}
use Rattle.format.specs.Bytes.{pick, part, same_bytes}
use Rattle.format.specs.Numbers.{le}
use Rattle.format.specs.Text.{span_at}
use Rattle.format.specs.Values.{value_span}
use Rattle.format.specs.Types.{coded, primitive_of, past, after_text, after_info, after_member, count_place, after_entry}
use Rattle.format.specs.Rows.{blank, is_object, is_untyped, library_row}
use Rattle.format.specs.Contents.{Detail, primitive, text, object, system, class, objects, texts, primitives, Member, From, the_system, the_library, Class, member_names, same_from}

-- ---- what is said

-- what a record or value is, kinds 1, 4 and 5 alike; of texts and values what is behind their prefixes
pub data What : Type 0 where
  an_object : (class : Class) → What
  a_string : (text : List ℕ) → What
  an_array : (type : ℕ) (lengths : List ℕ) (item : Detail (List ℕ) (List ℕ)) (items : List (List ℕ)) → What
  a_primitive : (code : PrimitiveCode) (value : List ℕ) → What
  a_reference : (target : ℕ) → What
  a_null : What
  a_primitive_array : (count : ℕ) (code : PrimitiveCode) (items : List (List ℕ)) → What
  an_object_array : (count : ℕ) → What
  a_string_array : (count : ℕ) → What
  a_value : (code : PrimitiveCode) (value : List ℕ) → What

-- and where it stands: the object whose slot it fills, by order from 1, or 0; and the slot
pub record Node : Type 0 where
  pub what : What
  pub owner : ℕ
  pub slot : ℕ

abbrev pub node : What → ℕ → ℕ → Node
node w o n = record { what = w; owner = o; slot = n }

pub record Model : Type 0 where
  pub root : ℕ
  pub nodes : List Node

-- ---- what stands at a place of an accepted stream

-- the text of the string at a place
abbrev pub text_from : List ℕ → ℕ → List ℕ
text_from s at = part s (span_at s at).from ((span_at s at).to - (span_at s at).from)

-- the place after n strings
unfoldable pub after_texts : List ℕ → ℕ → ℕ → ℕ
after_texts s zero at = at
after_texts s (suc n) at = after_texts s n (after_text s at)

abbrev pub number_from : List ℕ → ℕ → ℕ
number_from s at = le (part s at 4)

abbrev pub code_from : List ℕ → ℕ → PrimitiveCode
code_from s at = coded (primitive_of (get_or s at 0))

-- what the value of a code at a place says, and n of them one after the other
abbrev pub content_from : List ℕ → PrimitiveCode → ℕ → List ℕ
content_from s c at = part s (value_span s c at).from ((value_span s c at).to - (value_span s c at).from)

unfoldable pub items_from : List ℕ → PrimitiveCode → ℕ → ℕ → List (List ℕ)
items_from s c zero at = []
items_from s c (suc n) at = content_from s c at ∷ items_from s c n (value_span s c at).to

unfoldable pub numbers_from : List ℕ → ℕ → ℕ → List ℕ
numbers_from s zero at = []
numbers_from s (suc n) at = number_from s at ∷ numbers_from s n (at + 4)

-- the name of the library of this number
unfoldable pub library_name : List ℕ → List Row → ℕ → List ℕ
library_name s rows id = text_from s ((get_or rows (library_row id rows - 1) blank).offset + 5)

-- the type whose byte is this and whose detail stands here
unfoldable pub detail_from : List ℕ → List Row → ℕ → ℕ → Detail (List ℕ) (List ℕ)
detail_from s rows type at =
    pick (eqb type 0) (primitive (code_from s at))
    (pick (eqb type 1) text
    (pick (eqb type 2) object
    (pick (eqb type 3) (system (text_from s at))
    (pick (eqb type 4) (class (text_from s at) (library_name s rows (number_from s (after_text s at))))
    (pick (eqb type 5) objects
    (pick (eqb type 6) texts
    (primitives (code_from s at))))))))

-- n members: their names, type bytes and details each at their own place
unfoldable pub members_from : List ℕ → List Row → ℕ → ℕ → ℕ → ℕ → List (Member (List ℕ) (List ℕ))
members_from s rows zero names types infos = []
members_from s rows (suc n) names types infos =
    record { name = text_from s names; type = detail_from s rows (get_or s types 0) infos }
    ∷ members_from s rows n (after_text s names) (types + 1) (after_info s (get_or s types 0) infos)

-- where the class whose record has this row comes from: kinds 3 and 5 end with a LibraryId
abbrev pub origin_from : List ℕ → List Row → Row → From
origin_from s rows r = pick (eqb r.kind 3 || eqb r.kind 5) (the_library (library_name s rows (number_from s (r.end - 4)))) the_system

-- the class of a record of kind 4 or 5, which has the types
unfoldable pub typed_from : List ℕ → List Row → Row → Class
typed_from s rows r =
    let names = after_text s (r.offset + 5) + 4 in
    let types = after_texts s r.count names in
    record {
      name = text_from s (r.offset + 5);
      from = origin_from s rows r;
      members = members_from s rows r.count names types (types + r.count);
    }

-- ---- the class book (02, (ii)), which was judged before

-- n members at a place of the book
unfoldable pub described_from : List ℕ → ℕ → ℕ → List (Member (List ℕ) (List ℕ))
described_from β zero at = []
described_from β (suc n) at =
    record { name = text_from β at; type = detail_from β [] (get_or β (after_text β at) 0) (past (length β) (after_text β at)) }
    ∷ described_from β n (after_member β at)

-- the entry at a place
unfoldable pub entry_from : List ℕ → ℕ → Class
entry_from β at =
    record {
      name = text_from β (at + 1);
      from = pick (eqb (get_or β at 0) 1) (the_library (text_from β (after_text β (at + 1)))) the_system;
      members = described_from β (get_or β (count_place β at) 0) (count_place β at + 1);
    }

-- the entries from a place on; an entry has a byte or more, so k are enough for k bytes
unfoldable pub entries_from : ℕ → List ℕ → ℕ → List Class
entries_from zero β at = []
entries_from (suc k) β at = pick (ltb at (length β)) (entry_from β at ∷ entries_from k β (after_entry β at)) []

unfoldable pub entries_of : List ℕ → List Class
entries_of β = entries_from (length β) β 0

-- n texts, one after the other
unfoldable pub texts_from : List ℕ → ℕ → ℕ → List (List ℕ)
texts_from s zero at = []
texts_from s (suc n) at = text_from s at ∷ texts_from s n (after_text s at)

unfoldable pub same_texts : List (List ℕ) → List (List ℕ) → Bool
same_texts [] [] = true
same_texts [] (u ∷ us) = false
same_texts (t ∷ ts) [] = false
same_texts (t ∷ ts) (u ∷ us) = same_bytes t u && same_texts ts us

-- an entry has these names: of the class, of where it comes from, and of its members in order
abbrev pub is_named : List ℕ → From → List (List ℕ) → Class → Bool
is_named name from names c = same_bytes c.name name && (same_from c.from from && same_texts (member_names c.members) names)

-- the first entry that has these names; a class without members where there is none
unfoldable pub first_named : List ℕ → From → List (List ℕ) → List Class → Class
first_named name from names [] = record { name = name; from = from; members = [] }
first_named name from names (c ∷ cs) = pick (is_named name from names c) c (first_named name from names cs)

-- the class of a record of kind 2 or 3, whose types the book has
unfoldable pub untyped_from : (β s : List ℕ) → List Row → Row → Class
untyped_from β s rows r =
    first_named (text_from s (r.offset + 5)) (origin_from s rows r) (texts_from s r.count (after_text s (r.offset + 5) + 4)) (entries_of β)

-- ---- classes

-- the class whose record has this row
unfoldable pub class_from : (β s : List ℕ) → List Row → Row → Class
class_from β s rows r = pick (is_untyped r.kind) (untyped_from β s rows r) (typed_from s rows r)

-- the row of the class of the object in this row: its own, or that which a kind 1 names
abbrev pub class_row_of : List Row → Row → Row
class_row_of rows o = pick (eqb o.kind 1) (get_or rows (o.link - 1) blank) o

-- the code of a type; Byte for one that has none
abbrev pub code_of : {N L : Type 0} → Detail N L → PrimitiveCode
code_of (primitive c) = c
code_of text = C.Byte
code_of object = C.Byte
code_of (system n) = C.Byte
code_of (class n l) = C.Byte
code_of objects = C.Byte
code_of texts = C.Byte
code_of (primitives c) = c

-- the code of the member of this number; Byte past the end
unfoldable pub code_in : {N L : Type 0} → List (Member N L) → ℕ → PrimitiveCode
code_in [] k = C.Byte
code_in (m ∷ ms) zero = code_of m.type
code_in (m ∷ ms) (suc k) = code_in ms k

-- the code of a member value: the type of the slot that it fills
unfoldable pub value_code : (β s : List ℕ) → List Row → Row → PrimitiveCode
value_code β s rows r = code_in (class_from β s rows (class_row_of rows (get_or rows (r.owner - 1) blank))).members r.slot

-- kind 7: array type, lengths, item type, and the items where they are primitive
unfoldable pub array_from : List ℕ → List Row → Row → What
array_from s rows r =
    let rank = number_from s (r.offset + 6) in
    let types = r.offset + 10 + 4 * rank in
    let items = after_info s (get_or s types 0) (types + 1) in
    an_array (get_or s (r.offset + 5) 0) (numbers_from s rank (r.offset + 10)) (detail_from s rows (get_or s types 0) (types + 1))
    (pick (eqb (get_or s types 0) 0) (items_from s (code_from s (types + 1)) r.count items) [])

-- ---- by object order

-- how many objects stand in these rows
unfoldable pub objects_in : List Row → ℕ
objects_in [] = 0
objects_in (r ∷ rs) = pick (is_object r.kind) 1 0 + objects_in rs

-- the order of the object in a row, given by its number plus 1; 0 for none
unfoldable pub order_of : List Row → ℕ → ℕ
order_of rows row = objects_in (take row rows)

-- ---- what a row says

unfoldable pub what_from : (β s : List ℕ) → List Row → Row → What
what_from β s rows r =
    pick (eqb r.kind 1) (an_object (class_from β s rows (get_or rows (r.link - 1) blank)))
    (pick (eqb r.kind 4) (an_object (class_from β s rows r))
    (pick (eqb r.kind 5) (an_object (class_from β s rows r))
    (pick (eqb r.kind 6) (a_string (text_from s (r.offset + 5)))
    (pick (eqb r.kind 7) (array_from s rows r)
    (pick (eqb r.kind 8) (a_primitive (code_from s (r.offset + 1)) (content_from s (code_from s (r.offset + 1)) (r.offset + 2)))
    (pick (eqb r.kind 9) (a_reference (order_of rows r.link))
    (pick (eqb r.kind 15) (a_primitive_array r.count (code_from s (r.offset + 9)) (items_from s (code_from s (r.offset + 9)) r.count (r.offset + 10)))
    (pick (eqb r.kind 16) (an_object_array r.count)
    (pick (eqb r.kind 17) (a_string_array r.count)
    (a_value (value_code β s rows r) (content_from s (value_code β s rows r) r.offset)))))))))))

-- a null for each slot of a run
unfoldable pub spread : ℕ → ℕ → ℕ → List Node
spread zero owner slot = []
spread (suc n) owner slot = node a_null owner slot ∷ spread n owner (slot + 1)

abbrev pub is_nulls : ℕ → Bool
is_nulls kind = pick (eqb kind 10) true (pick (eqb kind 13) true (eqb kind 14))

-- the header, the end and libraries say nothing here
abbrev pub is_silent : ℕ → Bool
is_silent kind = pick (eqb kind 0) true (pick (eqb kind 11) true (eqb kind 12))

unfoldable pub nodes_of : (β s : List ℕ) → List Row → Row → List Node
nodes_of β s rows r =
    pick (is_silent r.kind) []
    (pick (is_nulls r.kind) (spread r.count (order_of rows r.owner) r.slot)
    (node (what_from β s rows r) (order_of rows r.owner) r.slot ∷ []))

unfoldable pub nodes_from : (β s : List ℕ) → List Row → List Row → List Node
nodes_from β s rows [] = []
nodes_from β s rows (r ∷ rs) = nodes_of β s rows r ++ nodes_from β s rows rs

-- what a stream says whose reading, with this book, has these rows
unfoldable pub says : (β s : List ℕ) → List Row → Model
says β s rows = record { root = order_of rows (get_or rows 0 blank).link; nodes = nodes_from β s rows rows }

-- two lists say the same: the one of this book, stream and rows, and the other
abbrev pub SayTheSame : (β s : List ℕ) → List Row → (γ t : List ℕ) → List Row → Type 0
SayTheSame β s rows γ t others = says β s rows ≡ says γ t others
