-- The grammar (2.3 to 2.7 as 01 settles them): header, objects and libraries at top level, the end. An object is its record and its slots; a slot
-- holds what its type allows; the room for nesting falls. Records are data, their bytes come from the encoder; nothing here reads a stream.
use Rattle.std.specs.Prelude.{ℕ, zero, suc, ◌+◌, ◌*◌, ◌^◌, ◌≤◌, ◌<◌, ◌≡◌, Bool, true, false, ◌&&◌, ◌||◌, List, [], ◌∷◌, ◌++◌, length, get_or, take, drop, replicate, eqb}
use Rattle.format.specs.declared.Setting.{Setting}
use Rattle.format.specs.declared.Setting.TheVariants as Q
use Rattle.format.specs.declared.PrimitiveCode.{PrimitiveCode}
use Rattle.format.specs.declared.PrimitiveCode.TheVariants as C
use Rattle.format.specs.declared.SlotType.{SlotType}
use Rattle.format.specs.declared.SlotType.TheVariants as S
use Rattle.format.specs.declared.Row.{Row}
use Rattle.format.specs.Terms.{Terms}
use Rattle.format.specs.Bytes.{pick}
use Rattle.format.specs.Numbers.{le}
use Rattle.format.specs.Rows.{with_link}
use Rattle.format.specs.Unicode.{Scalar, encode, Encodes}
use Rattle.format.specs.Decimals.{Decimal}
use Rattle.format.specs.Contents.{Prefixed, has_prefix, Detail, primitive, text, object, system, class, objects, texts, primitives, Member, slot_for, Rec, header, class_by_id, system_class, library_class, string, array, typed_primitive, reference, null, nulls, many_nulls, end, library, primitive_array, object_array, string_array, value, enc, encs, From, the_system, the_library, Class}
use Rattle.format.specs.Book.{book_bytes}

-- ---- fields

-- a number above 0 whose 32 bits show no sign
pub record Positive (n : ℕ) : Type 0 where
  pub above : 0 < n
  pub below : n < 2147483648

-- A length prefix (2.1.1.6) of w bytes that says n: at most five bytes, seven bits of the number in each. Strict takes the shortest one alone (01,
-- Field rules), lenient any (02, (iii)). That the fifth byte is at most 7 is said where the text is: its length is below 2147483648.
pub record Width (σ : Setting) (w n : ℕ) : Type 0 where
  pub some : 0 < w
  pub most : w ≤ 5
  pub holds : n < 128 ^ w
  pub least : σ ≡ Q.Strict → (v : ℕ) → 0 < v → n < 128 ^ v → w ≤ v

-- the UTF-8 form of some scalar values, short enough for a prefix
pub record Characters (t : List ℕ) : Type 0 where
  pub good : (cs : List ℕ) × Encodes cs t
  pub short : length t < 2147483648

-- a name or a text
pub record Name (τ : Terms) (t : Prefixed) : Type 0 where
  pub characters : Characters t.text
  pub prefix : Width τ.setting t.width (length t.text)

-- the 64 bits of a DateTime (2.1.1.5; 02, (i)): a kind from 0 to 2 in the top two, then ticks without a sign, the last of which ends the year 9999
pub record Moment (x : ℕ) : Type 0 where
  pub kind : ℕ
  pub ticks : ℕ
  pub kind_known : kind ≤ 2
  pub ticks_known : ticks ≤ 3155378975999999999
  pub bits : x ≡ kind * 4611686018427387904 + ticks

-- how many bytes a value of a code has whose every pattern is taken
pub data Sized : PrimitiveCode → ℕ → Type 0 where
  a_byte : Sized C.Byte 1
  an_sbyte : Sized C.SByte 1
  an_int16 : Sized C.Int16 2
  a_uint16 : Sized C.UInt16 2
  an_int32 : Sized C.Int32 4
  a_uint32 : Sized C.UInt32 4
  a_single : Sized C.Single 4
  an_int64 : Sized C.Int64 8
  a_uint64 : Sized C.UInt64 8
  a_double : Sized C.Double 8
  a_time_span : Sized C.TimeSpan 8

-- what one value of a code says, in bytes; of a Decimal its text alone
pub data Content : PrimitiveCode → List ℕ → Type 0 where
  number : {c : PrimitiveCode} {n : ℕ} {v : List ℕ} → Sized c n → length v ≡ n → Content c v
  boolean : {b : ℕ} → b ≤ 1 → Content C.Boolean (b ∷ [])
  -- the UTF-8 form of one scalar value
  scalar : {v : List ℕ} (c : ℕ) → Scalar c → v ≡ encode c → Content C.Char v
  exact : {v : List ℕ} → Decimal v → length v < 2147483648 → Content C.Decimal v
  moment : {v : List ℕ} → length v ≡ 8 → Moment (le v) → Content C.DateTime v

-- a Decimal has a prefix, no other value has one
abbrev pub PrefixIf : Terms → Bool → (w n : ℕ) → Type 0
PrefixIf τ true w n = Width τ.setting w n
PrefixIf τ false w n = w ≡ 0

-- one value of a code
pub record Value (τ : Terms) (c : PrimitiveCode) (v : Prefixed) : Type 0 where
  pub content : Content c v.text
  pub prefix : PrefixIf τ (has_prefix c) v.width (length v.text)

-- n values
pub data Values (τ : Terms) : PrimitiveCode → ℕ → List Prefixed → Type 0 where
  none : {c : PrimitiveCode} → Values τ c zero []
  more : {c : PrimitiveCode} {n : ℕ} {v : Prefixed} {vs : List Prefixed} → Value τ c v → Values τ c n vs → Values τ c (suc n) (v ∷ vs)

-- ---- the class book (02, (ii))

-- a type that names no class: types 3 and 4 stand in no book
pub data Coded : Detail (List ℕ) (List ℕ) → Type 0 where
  a_primitive_rule : {c : PrimitiveCode} → Coded (primitive c)
  a_text : Coded text
  any_object : Coded object
  an_object_array_rule : Coded objects
  a_text_array : Coded texts
  a_primitive_array_rule : {c : PrimitiveCode} → Coded (primitives c)

pub data Described : List (Member (List ℕ) (List ℕ)) → Type 0 where
  all_described : Described []
  described : {m : Member (List ℕ) (List ℕ)} {ms : List (Member (List ℕ) (List ℕ))} → Characters m.name → Coded m.type → Described ms → Described (m ∷ ms)

abbrev pub Origin : From → Type 0
Origin the_system = Unit {0}
Origin (the_library n) = Characters n

-- an entry; its member count has one byte
pub record BookEntry (c : Class) : Type 0 where
  pub named : Characters c.name
  pub origin : Origin c.from
  pub counted : length c.members < 256
  pub members : Described c.members

pub data BookEntries : List Class → Type 0 where
  no_entry : BookEntries []
  entries : {c : Class} {cs : List Class} → BookEntry c → BookEntries cs → BookEntries (c ∷ cs)

-- these bytes are a book of these entries; the places in it are numbers of 32 bits
pub record Book (β : List ℕ) (cs : List Class) : Type 0 where
  pub bytes_are : β ≡ book_bytes cs
  pub good : BookEntries cs
  pub small : length β < 4294967296

-- ---- what is known from earlier records

pub data Entry : Type 0 where
  -- a record of kind 4 or 5, the number of its row plus 1, and the types of its members
  a_class : (id row : ℕ) (types : List SlotType) → Entry
  -- any other object
  another : (id : ℕ) → Entry
  a_library : (id : ℕ) → Entry

-- whether an ObjectId was used
abbrev pub used : ℕ → List Entry → Bool
used i [] = false
used i (a_class j r ts ∷ es) = pick (eqb j i) true (used i es)
used i (another j ∷ es) = pick (eqb j i) true (used i es)
used i (a_library j ∷ es) = used i es

-- whether a library is known
abbrev pub known : ℕ → List Entry → Bool
known i [] = false
known i (a_class j r ts ∷ es) = known i es
known i (another j ∷ es) = known i es
known i (a_library j ∷ es) = pick (eqb j i) true (known i es)

-- the class of an ObjectId
pub data Classed : Type 0 where
  classed : (row : ℕ) (types : List SlotType) → Classed
  unknown : Classed

abbrev pub class_of : ℕ → List Entry → Classed
class_of i [] = unknown
class_of i (a_class j r ts ∷ es) = pick (eqb j i) (classed r ts) (class_of i es)
class_of i (another j ∷ es) = class_of i es
class_of i (a_library j ∷ es) = class_of i es

-- an ObjectId of a class, and one of an array or a string
pub record ClassId (i : ℕ) (es : List Entry) : Type 0 where
  pub apart : 0 < i
  pub bits : i < 4294967296
  pub fresh : used i es ≡ false

pub record ObjectId (i : ℕ) (es : List Entry) : Type 0 where
  pub sign : Positive i
  pub fresh : used i es ≡ false

-- a LibraryId that is used
pub record LibraryId (i : ℕ) (es : List Entry) : Type 0 where
  pub sign : Positive i
  pub there : known i es ≡ true

-- ---- types

abbrev pub GoodDetail : Terms → List Entry → Detail Prefixed ℕ → Type 0
GoodDetail τ es (primitive c) = Unit {0}
GoodDetail τ es text = Unit {0}
GoodDetail τ es object = Unit {0}
GoodDetail τ es (system n) = Name τ n
GoodDetail τ es (class n l) = Name τ n × LibraryId l es
GoodDetail τ es objects = Unit {0}
GoodDetail τ es texts = Unit {0}
GoodDetail τ es (primitives c) = Unit {0}

pub data Members (τ : Terms) (es : List Entry) : List (Member Prefixed ℕ) → Type 0 where
  no_more : Members τ es []
  member : {m : Member Prefixed ℕ} {ms : List (Member Prefixed ℕ)} → Name τ m.name → GoodDetail τ es m.type → Members τ es ms → Members τ es (m ∷ ms)

abbrev pub types_of : List (Member Prefixed ℕ) → List SlotType
types_of [] = []
types_of (m ∷ ms) = slot_for m.type ∷ types_of ms

-- a class's name and members
pub record ClassInfo (τ : Terms) (es : List Entry) (name : Prefixed) (ms : List (Member Prefixed ℕ)) : Type 0 where
  pub named : Name τ name
  pub counted : length ms < 2147483648
  pub members : Members τ es ms

-- slots that take objects of classes and typed primitives, and slots that take strings
abbrev pub takes_objects : SlotType → Bool
takes_objects (S.Primitive c) = false
takes_objects S.Text = false
takes_objects S.Object = true
takes_objects S.SystemClass = true
takes_objects S.Class = true
takes_objects S.ObjectArray = false
takes_objects S.StringArray = false
takes_objects (S.PrimitiveArray c) = false

abbrev pub takes_strings : SlotType → Bool
takes_strings (S.Primitive c) = false
takes_strings S.Text = true
takes_strings S.Object = true
takes_strings S.SystemClass = true
takes_strings S.Class = true
takes_strings S.ObjectArray = false
takes_strings S.StringArray = false
takes_strings (S.PrimitiveArray c) = false

-- slots that take records at all, as references and nulls; a primitive slot takes its value at once
abbrev pub takes_records : SlotType → Bool
takes_records (S.Primitive c) = false
takes_records S.Text = true
takes_records S.Object = true
takes_records S.SystemClass = true
takes_records S.Class = true
takes_records S.ObjectArray = true
takes_records S.StringArray = true
takes_records (S.PrimitiveArray c) = true

-- every one of these slots does
abbrev pub all_take : List SlotType → Bool
all_take [] = true
all_take (t ∷ ts) = takes_records t && all_take ts

-- ---- lengths

abbrev pub product : List ℕ → ℕ
product [] = 1
product (n ∷ ns) = n * product ns

pub data Lengths : List ℕ → Type 0 where
  no_length : Lengths []
  length_of_rule : {n : ℕ} {ns : List ℕ} → n < 2147483648 → Lengths ns → Lengths (n ∷ ns)

-- array types 0 and 1 have one length, type 2 has 2 to 32
pub data Ranked : ℕ → ℕ → Type 0 where
  single : Ranked 0 1
  jagged : Ranked 1 1
  rectangular : {rank : ℕ} → 2 ≤ rank → rank ≤ 32 → Ranked 2 rank

pub record Shape (type : ℕ) (ns : List ℕ) : Type 0 where
  pub ranked : Ranked type (length ns)
  pub lengths : Lengths ns
  pub small : product ns ≤ 2147483647

-- ---- rows

-- what is still to be read: the place, the number of rows before, what is known, the records, and the rows that show them
pub data Cur : Type 0 where
  cur : (at row : ℕ) (es : List Entry) (rs : List Rec) (is : List Row) → Cur

abbrev pub size : Rec → ℕ
size r = length (enc r)

-- the row of a record at a place; the links of references and of the header are made at the end
abbrev pub row_of : ℕ → ℕ → Rec → ℕ → ℕ → ℕ → ℕ → ℕ → Row
row_of kind at r id own slot link count =
    record { kind = kind; offset = at; end = at + size r; id = id; owner = own; slot = slot; link = link; count = count }

-- ---- objects and slots

mutual
  -- an object of a class. room: how many more objects may be open; own and slot: whose slot it fills
  pub data Object (τ : Terms) : (room own slot : ℕ) → Cur → Cur → Type 0 where
    system_class_rule : {room own slot at row i : ℕ} {n : Prefixed} {ms : List (Member Prefixed ℕ)} {es : List Entry} {rs : List Rec} {it : Row} {is : List Row} {c : Cur}
        → ClassId i es → ClassInfo τ es n ms → it ≡ row_of 4 at (system_class i n ms) i own slot 0 (length ms)
        → Body τ room (suc row) (types_of ms) (cur (at + size (system_class i n ms)) (suc row) (es ++ (a_class i (suc row) (types_of ms) ∷ [])) rs is) c
        → Object τ room own slot (cur at row es (system_class i n ms ∷ rs) (it ∷ is)) c
    library_class_rule : {room own slot at row i l : ℕ} {n : Prefixed} {ms : List (Member Prefixed ℕ)} {es : List Entry} {rs : List Rec} {it : Row} {is : List Row} {c : Cur}
        → ClassId i es → ClassInfo τ es n ms → LibraryId l es → it ≡ row_of 5 at (library_class i n ms l) i own slot 0 (length ms)
        → Body τ room (suc row) (types_of ms) (cur (at + size (library_class i n ms l)) (suc row) (es ++ (a_class i (suc row) (types_of ms) ∷ [])) rs is) c
        → Object τ room own slot (cur at row es (library_class i n ms l ∷ rs) (it ∷ is)) c
    -- of a class that an earlier record of kind 4 or 5 has, which may be open still
    class_by_id_rule : {room own slot at row i k r : ℕ} {ts : List SlotType} {es : List Entry} {rs : List Rec} {it : Row} {is : List Row} {c : Cur}
        → ClassId i es → k < 4294967296 → class_of k es ≡ classed r ts → it ≡ row_of 1 at (class_by_id i k) i own slot r (length ts)
        → Body τ room (suc row) ts (cur (at + size (class_by_id i k)) (suc row) (es ++ (another i ∷ [])) rs is) c
        → Object τ room own slot (cur at row es (class_by_id i k ∷ rs) (it ∷ is)) c

  -- the slots after an object's record: an object without slots is never open
  pub data Body (τ : Terms) : (room row : ℕ) → List SlotType → Cur → Cur → Type 0 where
    hollow : {room row : ℕ} {c : Cur} → Body τ room row [] c c
    filled : {room row : ℕ} {t : SlotType} {ts : List SlotType} {c c₁ : Cur} → Slots τ room row 0 (t ∷ ts) c c₁ → Body τ (suc room) row (t ∷ ts) c c₁

  -- slots of these types, from this number on, of the object with this row
  pub data Slots (τ : Terms) : (room own slot : ℕ) → List SlotType → Cur → Cur → Type 0 where
    full : {room own slot : ℕ} {c : Cur} → Slots τ room own slot [] c c
    -- a primitive member takes its value at once
    member_value : {room own slot at row : ℕ} {b : PrimitiveCode} {v : Prefixed} {ts : List SlotType} {es : List Entry} {rs : List Rec} {it : Row} {is : List Row} {c : Cur}
        → Value τ b v → it ≡ row_of 32 at (value b v) 0 own slot 0 0
        → Slots τ room own (slot + 1) ts (cur (at + size (value b v)) (suc row) es rs is) c
        → Slots τ room own slot (S.Primitive b ∷ ts) (cur at row es (value b v ∷ rs) (it ∷ is)) c
    an_object_rule : {room own slot : ℕ} {t : SlotType} {ts : List SlotType} {c c₁ c₂ : Cur}
        → takes_objects t ≡ true → Object τ room own slot c c₁ → Slots τ room own (slot + 1) ts c₁ c₂ → Slots τ room own slot (t ∷ ts) c c₂
    a_string_rule : {room own slot at row i : ℕ} {x : Prefixed} {t : SlotType} {ts : List SlotType} {es : List Entry} {rs : List Rec} {it : Row} {is : List Row} {c : Cur}
        → takes_strings t ≡ true → ObjectId i es → Name τ x → it ≡ row_of 6 at (string i x) i own slot 0 0
        → Slots τ room own (slot + 1) ts (cur (at + size (string i x)) (suc row) (es ++ (another i ∷ [])) rs is) c
        → Slots τ room own slot (t ∷ ts) (cur at row es (string i x ∷ rs) (it ∷ is)) c
    a_typed_primitive : {room own slot at row : ℕ} {b : PrimitiveCode} {v : Prefixed} {t : SlotType} {ts : List SlotType} {es : List Entry} {rs : List Rec} {it : Row} {is : List Row} {c : Cur}
        → takes_objects t ≡ true → Value τ b v → it ≡ row_of 8 at (typed_primitive b v) 0 own slot 0 0
        → Slots τ room own (slot + 1) ts (cur (at + size (typed_primitive b v)) (suc row) es rs is) c
        → Slots τ room own slot (t ∷ ts) (cur at row es (typed_primitive b v ∷ rs) (it ∷ is)) c
    -- a reference may name an object anywhere in the stream
    a_reference_rule : {room own slot at row i : ℕ} {t : SlotType} {ts : List SlotType} {es : List Entry} {rs : List Rec} {it : Row} {is : List Row} {c : Cur}
        → takes_records t ≡ true → Positive i → it ≡ row_of 9 at (reference i) i own slot 0 0
        → Slots τ room own (slot + 1) ts (cur (at + size (reference i)) (suc row) es rs is) c
        → Slots τ room own slot (t ∷ ts) (cur at row es (reference i ∷ rs) (it ∷ is)) c
    a_null_rule : {room own slot at row : ℕ} {t : SlotType} {ts : List SlotType} {es : List Entry} {rs : List Rec} {it : Row} {is : List Row} {c : Cur}
        → takes_records t ≡ true → it ≡ row_of 10 at null 0 own slot 0 1
        → Slots τ room own (slot + 1) ts (cur (at + 1) (suc row) es rs is) c
        → Slots τ room own slot (t ∷ ts) (cur at row es (null ∷ rs) (it ∷ is)) c
    -- a null run fills slots of this object that all take records; a run of 0 fills none
    a_run : {room own slot at row k : ℕ} {t : SlotType} {ts us : List SlotType} {es : List Entry} {rs : List Rec} {it : Row} {is : List Row} {c : Cur}
        → takes_records t ≡ true → k < 256 → k ≤ length (t ∷ ts) → all_take (take k (t ∷ ts)) ≡ true → us ≡ drop k (t ∷ ts)
        → it ≡ row_of 13 at (nulls k) 0 own slot 0 k
        → Slots τ room own (slot + k) us (cur (at + 2) (suc row) es rs is) c
        → Slots τ room own slot (t ∷ ts) (cur at row es (nulls k ∷ rs) (it ∷ is)) c
    a_long_run : {room own slot at row k : ℕ} {t : SlotType} {ts us : List SlotType} {es : List Entry} {rs : List Rec} {it : Row} {is : List Row} {c : Cur}
        → takes_records t ≡ true → Positive k → k ≤ length (t ∷ ts) → all_take (take k (t ∷ ts)) ≡ true → us ≡ drop k (t ∷ ts)
        → it ≡ row_of 14 at (many_nulls k) 0 own slot 0 k
        → Slots τ room own (slot + k) us (cur (at + size (many_nulls k)) (suc row) es rs is) c
        → Slots τ room own slot (t ∷ ts) (cur at row es (many_nulls k ∷ rs) (it ∷ is)) c
    -- a library stands wherever a kind byte is expected
    a_library_rule : {room own slot at row i : ℕ} {n : Prefixed} {t : SlotType} {ts : List SlotType} {es : List Entry} {rs : List Rec} {it : Row} {is : List Row} {c : Cur}
        → takes_records t ≡ true → Positive i → known i es ≡ false → Name τ n → it ≡ row_of 12 at (library i n) i 0 0 0 0
        → Slots τ room own slot (t ∷ ts) (cur (at + size (library i n)) (suc row) (es ++ (a_library i ∷ [])) rs is) c
        → Slots τ room own slot (t ∷ ts) (cur at row es (library i n ∷ rs) (it ∷ is)) c

-- ---- the top level: objects, arrays, strings and libraries, then the end and nothing after it

-- an array's record: the types of its slots, or its items inside it
pub data Array (τ : Terms) (es : List Entry) : Rec → (kind id count : ℕ) → List SlotType → Type 0 where
  of_objects : {i n : ℕ} → n < 2147483648 → Array τ es (object_array i n) 16 i n (replicate n S.Object)
  of_strings : {i n : ℕ} → n < 2147483648 → Array τ es (string_array i n) 17 i n (replicate n S.Text)
  of_primitives : {i n : ℕ} {b : PrimitiveCode} {vs : List Prefixed} → n < 2147483648 → Values τ b n vs → Array τ es (primitive_array i n b vs) 15 i n []
  of_any : {i type n : ℕ} {ns : List ℕ} {d : Detail Prefixed ℕ} {ts : List SlotType}
      → Shape type ns → n ≡ product ns → GoodDetail τ es d → takes_records (slot_for d) ≡ true → ts ≡ replicate n (slot_for d)
      → Array τ es (array i type ns d []) 7 i n ts
  of_values : {i type n : ℕ} {ns : List ℕ} {b : PrimitiveCode} {vs : List Prefixed}
      → Shape type ns → n ≡ product ns → Values τ b n vs → Array τ es (array i type ns (primitive b) vs) 7 i n []

pub data Objects (τ : Terms) : Cur → Type 0 where
  the_end : {at row : ℕ} {es : List Entry} {it : Row} → it ≡ row_of 11 at end 0 0 0 0 0 → Objects τ (cur at row es (end ∷ []) (it ∷ []))
  one_object : {c c₁ : Cur} → Object τ 64 0 0 c c₁ → Objects τ c₁ → Objects τ c
  one_string : {at row i : ℕ} {x : Prefixed} {es : List Entry} {rs : List Rec} {it : Row} {is : List Row}
      → ObjectId i es → Name τ x → it ≡ row_of 6 at (string i x) i 0 0 0 0
      → Objects τ (cur (at + size (string i x)) (suc row) (es ++ (another i ∷ [])) rs is)
      → Objects τ (cur at row es (string i x ∷ rs) (it ∷ is))
  one_array : {at row kind i n : ℕ} {r : Rec} {ts : List SlotType} {es : List Entry} {rs : List Rec} {it : Row} {is : List Row} {c : Cur}
      → ObjectId i es → Array τ es r kind i n ts → it ≡ row_of kind at r i 0 0 0 n
      → Body τ 64 (suc row) ts (cur (at + size r) (suc row) (es ++ (another i ∷ [])) rs is) c
      → Objects τ c → Objects τ (cur at row es (r ∷ rs) (it ∷ is))
  one_library : {at row i : ℕ} {n : Prefixed} {es : List Entry} {rs : List Rec} {it : Row} {is : List Row}
      → Positive i → known i es ≡ false → Name τ n → it ≡ row_of 12 at (library i n) i 0 0 0 0
      → Objects τ (cur (at + size (library i n)) (suc row) (es ++ (a_library i ∷ [])) rs is)
      → Objects τ (cur at row es (library i n ∷ rs) (it ∷ is))

-- ---- the whole stream

-- the ObjectIds of records, and the IdRefs
abbrev pub id_of : Rec → List ℕ
id_of (header r h) = []
id_of (class_by_id i k) = i ∷ []
id_of (system_class i n ms) = i ∷ []
id_of (library_class i n ms l) = i ∷ []
id_of (string i x) = i ∷ []
id_of (array i t ns d vs) = i ∷ []
id_of (typed_primitive b v) = []
id_of (reference i) = []
id_of null = []
id_of (nulls k) = []
id_of (many_nulls k) = []
id_of end = []
id_of (library i n) = []
id_of (primitive_array i n b vs) = i ∷ []
id_of (object_array i n) = i ∷ []
id_of (string_array i n) = i ∷ []
id_of (value b v) = []

abbrev pub ref_of : Rec → List ℕ
ref_of (header r h) = []
ref_of (class_by_id i k) = []
ref_of (system_class i n ms) = []
ref_of (library_class i n ms l) = []
ref_of (string i x) = []
ref_of (array i t ns d vs) = []
ref_of (typed_primitive b v) = []
ref_of (reference i) = i ∷ []
ref_of null = []
ref_of (nulls k) = []
ref_of (many_nulls k) = []
ref_of end = []
ref_of (library i n) = []
ref_of (primitive_array i n b vs) = []
ref_of (object_array i n) = []
ref_of (string_array i n) = []
ref_of (value b v) = []

abbrev pub ids_of : List Rec → List ℕ
ids_of [] = []
ids_of (r ∷ rs) = id_of r ++ ids_of rs

abbrev pub refs_of : List Rec → List ℕ
refs_of [] = []
refs_of (r ∷ rs) = ref_of r ++ refs_of rs

abbrev pub among : ℕ → List ℕ → Bool
among i [] = false
among i (j ∷ js) = eqb i j || among i js

-- ---- links

-- the record of this number, counted from 0, has this ObjectId
pub record Holds (rs : List Rec) (i j : ℕ) : Type 0 where
  pub inside : j < length rs
  pub id : id_of (get_or rs j end) ≡ i ∷ []

-- a row with its link (01, The table): the header's names the row of the root, a reference's that of its object, each plus 1; all others stay
pub data Link (rs : List Rec) : Row → Row → Type 0 where
  to_root : {it : Row} {j : ℕ} → it.kind ≡ 0 → Holds rs it.id j → Link rs it (with_link it (suc j))
  to_object : {it : Row} {j : ℕ} → it.kind ≡ 9 → Holds rs it.id j → Link rs it (with_link it (suc j))
  stays : {it : Row} → (it.kind ≡ 0 → ⊥) → (it.kind ≡ 9 → ⊥) → Link rs it it

pub data Links (rs : List Rec) : List Row → List Row → Type 0 where
  no_links : Links rs [] []
  one_link : {it row : Row} {is rows : List Row} → Link rs it row → Links rs is rows → Links rs (it ∷ is) (row ∷ rows)

-- a reading of a stream, with the rows that show it; the book is a good one, whether it is needed or not
pub record Reading (τ : Terms) (s : List ℕ) (rows : List Row) : Type 0 where
  pub classes : List Class
  pub book_is : Book τ.book classes
  pub root : ℕ
  pub header_id : ℕ
  pub rs : List Rec
  pub is : List Row
  pub root_bits : root < 4294967296
  pub header_bits : header_id < 4294967296
  pub bytes_are : s ≡ enc (header root header_id) ++ encs rs
  pub small : length s ≤ 16777216
  pub objects_are : Objects τ (cur 17 1 [] rs is)
  pub rooted : among root (ids_of rs) ≡ true
  pub targets : (i : ℕ) → among i (refs_of rs) ≡ true → among i (ids_of rs) ≡ true
  pub links_are : Links (header root header_id ∷ rs) (row_of 0 0 (header root header_id) root 0 0 0 0 ∷ is) rows
