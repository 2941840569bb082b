-- Records as data, with everything that they hold, and their bytes (01, Records; 2.3 to 2.6).
use Rattle.std.specs.Prelude.{ℕ, List, [], ◌∷◌, ◌++◌, Bool, true, false, length, eqb}
use Rattle.format.specs.declared.PrimitiveCode.{PrimitiveCode}
use Rattle.format.specs.declared.SlotType.{SlotType}
use Rattle.format.specs.declared.SlotType.TheVariants as S
use Rattle.format.specs.Numbers.{le_bytes}
use Rattle.format.specs.Bytes.{same_bytes}
use Rattle.format.specs.Prefix.{prefix_bytes, prefix_of}
use Rattle.format.specs.Types.{code_number}

-- ---- texts and values

-- A text or a value as a record has it: how many bytes its length prefix has, 0 where it has none, and what stands behind the prefix. Only strings,
-- names and Decimals have one; its number is the length of what stands behind it.
pub record Prefixed : Type 0 where
  pub width : ℕ
  pub text : List ℕ

abbrev pub bytes_in : Prefixed → List ℕ
bytes_in t = prefix_of t.width (length t.text) ++ t.text

-- without a prefix, and with the shortest one
abbrev pub bare : List ℕ → Prefixed
bare t = record { width = 0; text = t }

abbrev pub shortest : List ℕ → Prefixed
shortest t = record { width = length (prefix_bytes (length t)); text = t }

-- of all values only a Decimal, whose code is 5, has a prefix
abbrev pub has_prefix : PrimitiveCode → Bool
has_prefix c = eqb (code_number c) 5

-- what is behind the prefixes of several
abbrev pub texts_of : List Prefixed → List (List ℕ)
texts_of [] = []
texts_of (t ∷ ts) = t.text ∷ texts_of ts

-- ---- types

-- a member or item type with its own detail; a name and a library's number in a record, the text of a name and a library's name in what is said
pub data Detail (N L : Type 0) : Type 0 where
  primitive : (code : PrimitiveCode) → Detail N L
  text : Detail N L
  object : Detail N L
  system : (name : N) → Detail N L
  class : (name : N) (library : L) → Detail N L
  objects : Detail N L
  texts : Detail N L
  primitives : (code : PrimitiveCode) → Detail N L

pub record Member (N L : Type 0) : Type 0 where
  pub name : N
  pub type : Detail N L

-- ---- classes by content

-- where a class comes from: the system, or a library by its name
pub data From : Type 0 where
  the_system : From
  the_library : (name : List ℕ) → From

pub record Class : Type 0 where
  pub name : List ℕ
  pub from : From
  pub members : List (Member (List ℕ) (List ℕ))

-- the names of members, in order
abbrev pub member_names : {L : Type 0} → List (Member (List ℕ) L) → List (List ℕ)
member_names [] = []
member_names (m ∷ ms) = m.name ∷ member_names ms

abbrev pub same_from : From → From → Bool
same_from the_system the_system = true
same_from the_system (the_library n) = false
same_from (the_library m) the_system = false
same_from (the_library m) (the_library n) = same_bytes m n

-- ---- records

-- a record, or a member value; numbers are unsigned bits. Above each its kind, and its name and section in MS-NRBF
pub data Rec : Type 0 where
  -- 0, SerializationHeaderRecord (2.6.1)
  header : (root header : ℕ) → Rec
  -- 1, ClassWithId (2.3.2.5)
  class_by_id : (id metadata : ℕ) → Rec
  -- 4, SystemClassWithMembersAndTypes (2.3.2.3)
  system_class : (id : ℕ) (name : Prefixed) (members : List (Member Prefixed ℕ)) → Rec
  -- 5, ClassWithMembersAndTypes (2.3.2.1)
  library_class : (id : ℕ) (name : Prefixed) (members : List (Member Prefixed ℕ)) (from : ℕ) → Rec
  -- 6, BinaryObjectString (2.5.7)
  string : (id : ℕ) (text : Prefixed) → Rec
  -- 7, BinaryArray (2.4.3.1)
  array : (id type : ℕ) (lengths : List ℕ) (item : Detail Prefixed ℕ) (items : List Prefixed) → Rec
  -- 8, MemberPrimitiveTyped (2.5.1)
  typed_primitive : (code : PrimitiveCode) (value : Prefixed) → Rec
  -- 9, MemberReference (2.5.3)
  reference : (id : ℕ) → Rec
  -- 10, ObjectNull (2.5.4)
  null : Rec
  -- 13, ObjectNullMultiple256 (2.5.6)
  nulls : (count : ℕ) → Rec
  -- 14, ObjectNullMultiple (2.5.5)
  many_nulls : (count : ℕ) → Rec
  -- 11, MessageEnd (2.6.3)
  end : Rec
  -- 12, BinaryLibrary (2.6.2)
  library : (id : ℕ) (name : Prefixed) → Rec
  -- 15, ArraySinglePrimitive (2.4.3.3)
  primitive_array : (id count : ℕ) (code : PrimitiveCode) (items : List Prefixed) → Rec
  -- 16, ArraySingleObject (2.4.3.2)
  object_array : (id count : ℕ) → Rec
  -- 17, ArraySingleString (2.4.3.4)
  string_array : (id count : ℕ) → Rec
  -- a member value: MemberPrimitiveUnTyped (2.5.2)
  value : (code : PrimitiveCode) (value : Prefixed) → Rec

-- ---- bytes of types

abbrev pub type_byte : {N L : Type 0} → Detail N L → ℕ
type_byte (primitive c) = 0
type_byte text = 1
type_byte object = 2
type_byte (system n) = 3
type_byte (class n l) = 4
type_byte objects = 5
type_byte texts = 6
type_byte (primitives c) = 7

abbrev pub info_bytes : Detail Prefixed ℕ → List ℕ
info_bytes (primitive c) = code_number c ∷ []
info_bytes text = []
info_bytes object = []
info_bytes (system n) = bytes_in n
info_bytes (class n l) = bytes_in n ++ le_bytes 4 l
info_bytes objects = []
info_bytes texts = []
info_bytes (primitives c) = code_number c ∷ []

-- the type of a slot that has this detail
abbrev pub slot_for : {N L : Type 0} → Detail N L → SlotType
slot_for (primitive c) = S.Primitive c
slot_for text = S.Text
slot_for object = S.Object
slot_for (system n) = S.SystemClass
slot_for (class n l) = S.Class
slot_for objects = S.ObjectArray
slot_for texts = S.StringArray
slot_for (primitives c) = S.PrimitiveArray c

-- ---- bytes

abbrev pub names_bytes : List (Member Prefixed ℕ) → List ℕ
names_bytes [] = []
names_bytes (m ∷ ms) = bytes_in m.name ++ names_bytes ms

abbrev pub types_bytes : List (Member Prefixed ℕ) → List ℕ
types_bytes [] = []
types_bytes (m ∷ ms) = type_byte m.type ∷ types_bytes ms

abbrev pub infos_bytes : List (Member Prefixed ℕ) → List ℕ
infos_bytes [] = []
infos_bytes (m ∷ ms) = info_bytes m.type ++ infos_bytes ms

-- name, member count, names, type bytes, type infos
abbrev pub class_bytes : Prefixed → List (Member Prefixed ℕ) → List ℕ
class_bytes name ms = bytes_in name ++ (le_bytes 4 (length ms) ++ (names_bytes ms ++ (types_bytes ms ++ infos_bytes ms)))

abbrev pub numbers_bytes : List ℕ → List ℕ
numbers_bytes [] = []
numbers_bytes (n ∷ ns) = le_bytes 4 n ++ numbers_bytes ns

abbrev pub items_bytes : List Prefixed → List ℕ
items_bytes [] = []
items_bytes (v ∷ vs) = bytes_in v ++ items_bytes vs

-- the bytes of a record, its kind byte first; a member value has none
unfoldable pub enc : Rec → List ℕ
enc (header root h) = 0 ∷ (le_bytes 4 root ++ (le_bytes 4 h ++ (le_bytes 4 1 ++ le_bytes 4 0)))
enc (class_by_id id metadata) = 1 ∷ (le_bytes 4 id ++ le_bytes 4 metadata)
enc (system_class id name ms) = 4 ∷ (le_bytes 4 id ++ class_bytes name ms)
enc (library_class id name ms from) = 5 ∷ (le_bytes 4 id ++ (class_bytes name ms ++ le_bytes 4 from))
enc (string id t) = 6 ∷ (le_bytes 4 id ++ bytes_in t)
enc (array id type lengths item items) =
    7 ∷ (le_bytes 4 id ++ (type ∷ (le_bytes 4 (length lengths) ++ (numbers_bytes lengths ++ (type_byte item ∷ (info_bytes item ++ items_bytes items))))))
enc (typed_primitive code v) = 8 ∷ code_number code ∷ bytes_in v
enc (reference id) = 9 ∷ le_bytes 4 id
enc null = 10 ∷ []
enc (nulls count) = 13 ∷ count ∷ []
enc (many_nulls count) = 14 ∷ le_bytes 4 count
enc end = 11 ∷ []
enc (library id name) = 12 ∷ (le_bytes 4 id ++ bytes_in name)
enc (primitive_array id count code items) = 15 ∷ (le_bytes 4 id ++ (le_bytes 4 count ++ (code_number code ∷ items_bytes items)))
enc (object_array id count) = 16 ∷ (le_bytes 4 id ++ le_bytes 4 count)
enc (string_array id count) = 17 ∷ (le_bytes 4 id ++ le_bytes 4 count)
enc (value code v) = bytes_in v

-- the bytes of records, one after the other
unfoldable pub encs : List Rec → List ℕ
encs [] = []
encs (r ∷ rs) = enc r ++ encs rs
