-- Primitive codes and types (01, Field rules and Records; 2.1.2.2 and 2.1.2.3): a member or item type with its detail, and the types of an object's slots.
use Rattle.std.specs.Prelude.{ℕ, zero, suc, ◌+◌, Bool, true, false, ◌&&◌, ◌||◌, not, List, length, get_or, ltb, leb, eqb, Option, Some, None, Result, Ok, Err}
use Rattle.format.specs.declared.Refusal.{Refusal}
use Rattle.format.specs.declared.Span.{Span}
use Rattle.format.specs.declared.Setting.{Setting}
use Rattle.format.specs.declared.Refusal.TheVariants as R
use Rattle.format.specs.declared.PrimitiveCode.{PrimitiveCode}
use Rattle.format.specs.declared.PrimitiveCode.TheVariants as C
use Rattle.format.specs.declared.SlotType.{SlotType}
use Rattle.format.specs.declared.SlotType.TheVariants as S
use Rattle.format.specs.declared.Typed.{Typed}
use Rattle.format.specs.Bytes.{pick}
use Rattle.format.specs.Numbers.{u32_at, negative}
use Rattle.format.specs.Text.{string_at, span_at}
use Rattle.format.specs.Values.{on_end}

-- ---- primitive codes

abbrev pub code_number : PrimitiveCode → ℕ
code_number C.Boolean = 1
code_number C.Byte = 2
code_number C.Char = 3
code_number C.Decimal = 5
code_number C.Double = 6
code_number C.Int16 = 7
code_number C.Int32 = 8
code_number C.Int64 = 9
code_number C.SByte = 10
code_number C.Single = 11
code_number C.TimeSpan = 12
code_number C.DateTime = 13
code_number C.UInt16 = 14
code_number C.UInt32 = 15
code_number C.UInt64 = 16

-- the code of a byte; 4, 17, 18 and all others are none
unfoldable pub primitive_of : ℕ → Option PrimitiveCode
primitive_of b =
    pick (eqb b 1) (Some C.Boolean)
    (pick (eqb b 2) (Some C.Byte)
    (pick (eqb b 3) (Some C.Char)
    (pick (eqb b 5) (Some C.Decimal)
    (pick (eqb b 6) (Some C.Double)
    (pick (eqb b 7) (Some C.Int16)
    (pick (eqb b 8) (Some C.Int32)
    (pick (eqb b 9) (Some C.Int64)
    (pick (eqb b 10) (Some C.SByte)
    (pick (eqb b 11) (Some C.Single)
    (pick (eqb b 12) (Some C.TimeSpan)
    (pick (eqb b 13) (Some C.DateTime)
    (pick (eqb b 14) (Some C.UInt16)
    (pick (eqb b 15) (Some C.UInt32)
    (pick (eqb b 16) (Some C.UInt64)
    None))))))))))))))

-- a primitive code at a place
abbrev pub code_end : Option PrimitiveCode → ℕ → Result ℕ Refusal
code_end (Some c) at = Ok (at + 1)
code_end None at = Err R.BadType

unfoldable pub code_at : List ℕ → ℕ → Result ℕ Refusal
code_at s at = pick (ltb at (length s)) (code_end (primitive_of (get_or s at 0)) at) (Err R.CutShort)

-- the code of a byte that was found to be one
abbrev pub coded : Option PrimitiveCode → PrimitiveCode
coded (Some c) = c
coded None = C.Byte

-- ---- types and their details

-- a type byte at a place
unfoldable pub type_byte_at : List ℕ → ℕ → Result ℕ Refusal
type_byte_at s at = pick (ltb at (length s)) (pick (leb (get_or s at 0) 7) (Ok (at + 1)) (Err R.BadType)) (Err R.CutShort)

abbrev pub end_of : Result Span Refusal → Result ℕ Refusal
end_of (Ok t) = Ok t.to
end_of (Err f) = Err f

-- a name at a place
unfoldable pub name_at : Setting → List ℕ → ℕ → Result ℕ Refusal
name_at σ s at = end_of (string_at σ s at)

-- positive, by its unsigned bits
abbrev pub positive : ℕ → Bool
positive n = not (eqb n 0) && not (negative n)

abbrev pub positive_of : Option (ℕ × ℕ) → Result ℕ Refusal
positive_of (Some (v, next)) = pick (positive v) (Ok next) (Err R.BadId)
positive_of None = Err R.CutShort

-- a LibraryId at a place, by its sign alone
unfoldable pub library_id_at : List ℕ → ℕ → Result ℕ Refusal
library_id_at s at = positive_of (u32_at s at)

-- the detail of a type at a place: a primitive code, a class name, a class name and a LibraryId, or nothing
unfoldable pub info_at : Setting → List ℕ → ℕ → ℕ → Result ℕ Refusal
info_at σ s type at =
    pick (eqb type 0 || eqb type 7) (code_at s at)
    (pick (eqb type 3) (name_at σ s at)
    (pick (eqb type 4) (on_end (library_id_at s) (name_at σ s at))
    (Ok at)))

-- ---- the types of slots

-- the slot type of a type byte and, where it has one, its primitive code
unfoldable pub slot_of : ℕ → ℕ → SlotType
slot_of type code =
    pick (eqb type 0) (S.Primitive (coded (primitive_of code)))
    (pick (eqb type 1) S.Text
    (pick (eqb type 2) S.Object
    (pick (eqb type 3) S.SystemClass
    (pick (eqb type 4) S.Class
    (pick (eqb type 5) S.ObjectArray
    (pick (eqb type 6) S.StringArray
    (S.PrimitiveArray (coded (primitive_of code)))))))))

-- the type whose byte stands at one place and whose detail stands at another
unfoldable pub typed_at : List ℕ → ℕ → ℕ → Typed
typed_at s types infos = record { slot = slot_of (get_or s types 0) (get_or s infos 0); types = types; infos = infos }

-- all slots have this type
abbrev pub alike : SlotType → ℕ → Typed
alike slot infos = record { slot = slot; types = 0; infos = infos }

-- the next place, never past the end n
abbrev pub past : ℕ → ℕ → ℕ
past n p = pick (ltb p n) (p + 1) p

-- the places after a string, after a number and after a detail that were judged before
abbrev pub after_text : List ℕ → ℕ → ℕ
after_text s at = (span_at s at).to

abbrev pub after_number : List ℕ → ℕ → ℕ
after_number s at = pick (leb (at + 4) (length s)) (at + 4) at

unfoldable pub after_info : List ℕ → ℕ → ℕ → ℕ
after_info s type at =
    pick (eqb type 0 || eqb type 7) (past (length s) at)
    (pick (eqb type 3) (after_text s at)
    (pick (eqb type 4) (after_number s (after_text s at))
    at))

-- In the class book the detail of a type stands right after its type byte, then the next member's name, then its type byte. The place of a detail in the
-- book need not be kept, and so 0 as this place says that the type stands in the book.
abbrev pub book_typed : List ℕ → ℕ → Typed
book_typed β types = record { slot = slot_of (get_or β types 0) (get_or β (types + 1) 0); types = types; infos = 0 }

-- the place of the type byte after this one in the book
abbrev pub next_booked : List ℕ → ℕ → ℕ
next_booked β types = after_text β (after_info β (get_or β types 0) (past (length β) types))

-- places in a book that was judged before: after a member, after n members, of an entry's member count, and after an entry
abbrev pub after_member : List ℕ → ℕ → ℕ
after_member β at = after_info β (get_or β (after_text β at) 0) (past (length β) (after_text β at))

unfoldable pub after_members : List ℕ → ℕ → ℕ → ℕ
after_members β zero at = at
after_members β (suc n) at = after_members β n (after_member β at)

abbrev pub count_place : List ℕ → ℕ → ℕ
count_place β at = pick (eqb (get_or β at 0) 1) (after_text β (after_text β (at + 1))) (after_text β (at + 1))

abbrev pub after_entry : List ℕ → ℕ → ℕ
after_entry β at = after_members β (get_or β (count_place β at) 0) (count_place β at + 1)

-- the type of the slot after this one, in the book or in the stream
unfoldable pub moved : (β s : List ℕ) → Typed → Typed
moved β s t =
    pick (eqb t.types 0) t
    (pick (eqb t.infos 0) (book_typed β (next_booked β t.types))
    (typed_at s (past (length s) t.types) (after_info s (get_or s t.types 0) t.infos)))

abbrev pub is_primitive : SlotType → Bool
is_primitive (S.Primitive c) = true
is_primitive S.Text = false
is_primitive S.Object = false
is_primitive S.SystemClass = false
is_primitive S.Class = false
is_primitive S.ObjectArray = false
is_primitive S.StringArray = false
is_primitive (S.PrimitiveArray c) = false

-- n slots on, none of them primitive
unfoldable pub passed : (β s : List ℕ) → Typed → ℕ → Option Typed
passed β s t zero = Some t
passed β s t (suc n) = pick (is_primitive t.slot) None (passed β s (moved β s t) n)

abbrev pub passed_by : Bool → (β s : List ℕ) → Typed → ℕ → Option Typed
passed_by true β s t n = Some t
passed_by false β s t n = passed β s t n

-- a null run of n: the slots of an array are alike, and none of them is walked
unfoldable pub passed_of : (β s : List ℕ) → Typed → ℕ → Option Typed
passed_of β s t n = passed_by (eqb t.types 0) β s t n
