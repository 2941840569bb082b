-- Records (01, Records and Replies): what the fields of each kind say, every field judged where it stands, and what may stand where.
use Rattle.std.specs.Prelude.{ℕ, zero, suc, ◌+◌, ◌-◌, ◌*◌, Bool, true, false, ◌&&◌, ◌||◌, not, List, ◌∷◌, length, get_or, ltb, leb, eqb, Option, Some, None, Result, Ok, Err}
use Rattle.format.specs.declared.Refusal.{Refusal}
use Rattle.format.specs.declared.Head.{Head}
use Rattle.format.specs.Terms.{Terms}
use Rattle.format.specs.declared.Setting.{Setting}
use Rattle.format.specs.declared.Refusal.TheVariants as R
use Rattle.format.specs.declared.PrimitiveCode.{PrimitiveCode}
use Rattle.format.specs.declared.SlotType.{SlotType}
use Rattle.format.specs.declared.SlotType.TheVariants as S
use Rattle.format.specs.declared.Typed.{Typed}
use Rattle.format.specs.declared.Where.{Where}
use Rattle.format.specs.declared.Where.TheVariants as W
use Rattle.format.specs.declared.Row.{Row}
use Rattle.format.specs.Bytes.{pick, part}
use Rattle.format.specs.Numbers.{le, u32_at, negative}
use Rattle.format.specs.Values.{on_end, times, value_at, items_at}
use Rattle.format.specs.Types.{code_at, coded, primitive_of, type_byte_at, name_at, positive, library_id_at, info_at, typed_at, book_typed, alike}
use Rattle.format.specs.Rows.{blank, is_untyped, object_row, class_row, library_row}

-- ---- what may stand where

-- 0 to 17, 21 and 22
abbrev pub is_kind : ℕ → Bool
is_kind k = leb k 17 || (eqb k 21 || eqb k 22)

-- refused by name
abbrev pub not_taken : ℕ → Bool
not_taken k = eqb k 2 || (eqb k 3 || (eqb k 21 || eqb k 22))

-- references and nulls fill every slot; libraries stand wherever a kind byte is expected after the header
abbrev pub in_slot : ℕ → Bool
in_slot k = eqb k 9 || (eqb k 10 || (eqb k 12 || (eqb k 13 || eqb k 14)))

abbrev pub is_class_kind : ℕ → Bool
is_class_kind k = eqb k 1 || (eqb k 4 || eqb k 5)

unfoldable pub allowed : Where → ℕ → Bool
allowed W.Start k = eqb k 0
allowed W.Top k = is_class_kind k || (eqb k 6 || (eqb k 7 || (eqb k 11 || (eqb k 12 || (eqb k 15 || (eqb k 16 || eqb k 17))))))
allowed W.StringSlot k = eqb k 6 || in_slot k
allowed W.ObjectSlot k = is_class_kind k || (eqb k 6 || (eqb k 8 || in_slot k))
allowed W.ArraySlot k = in_slot k

-- a kind byte where it stands
unfoldable pub kind_of : Where → ℕ → Result ℕ Refusal
kind_of w k =
    pick (is_kind k)
    (pick (not_taken k) (Err R.NotTaken) (pick (allowed w k) (Ok k) (Err R.WrongPlace)))
    (Err R.UnknownKind)

unfoldable pub kind_at : List ℕ → Where → ℕ → Result ℕ Refusal
kind_at s w at = pick (ltb at (length s)) (kind_of w (get_or s at 0)) (Err R.CutShort)

-- ---- one field after another

abbrev pub on_number : (ℕ → ℕ → Result Head Refusal) → Option (ℕ × ℕ) → Result Head Refusal
on_number k (Some (v, next)) = k v next
on_number k None = Err R.CutShort

abbrev pub on_field : (ℕ → Result Head Refusal) → Result ℕ Refusal → Result Head Refusal
on_field k (Ok next) = k next
on_field k (Err f) = Err f

abbrev pub on_slots : (ℕ → ℕ → Result Head Refusal) → Result (ℕ × ℕ) Refusal → Result Head Refusal
on_slots k (Ok (n, next)) = k n next
on_slots k (Err f) = Err f

-- ---- ids

-- the ObjectId of a class is not 0, and is used once
abbrev pub good_class_id : List Row → ℕ → Bool
good_class_id rows id = not (eqb id 0) && eqb (object_row id rows) 0

-- the ObjectId of an array or a string is positive, and is used once
abbrev pub good_id : List Row → ℕ → Bool
good_id rows id = positive id && eqb (object_row id rows) 0

-- a LibraryId in a class or a type: by its sign, then known
abbrev pub known_library : List ℕ → List Row → ℕ → Result ℕ Refusal
known_library s rows end = pick (eqb (library_row (le (part s (end - 4) 4)) rows) 0) (Err R.NoLibrary) (Ok end)

unfoldable pub own_library_at : List ℕ → List Row → ℕ → Result ℕ Refusal
own_library_at s rows at = on_end (known_library s rows) (library_id_at s at)

-- ---- fields that have no slots

-- a record of these fields alone
abbrev pub plain : ℕ → ℕ → ℕ → Result Head Refusal
plain id end count = Ok (record { id = id; end = end; count = count; slots = 0; first = alike S.Object 0; link = 0 })

-- 0 header: RootId, HeaderId, major 1, minor 0
unfoldable pub header_at : List ℕ → ℕ → Result Head Refusal
header_at s at =
    on_number (λ root p.
    on_number (λ header q.
    on_number (λ major r.
    pick (eqb major 1)
    (on_number (λ minor end. pick (eqb minor 0) (plain root end 0) (Err R.BadVersion)) (u32_at s r))
    (Err R.BadVersion))
    (u32_at s q))
    (u32_at s p))
    (u32_at s (at + 1))

-- 6 string: ObjectId, text
unfoldable pub string_record_at : Setting → List ℕ → List Row → ℕ → Result Head Refusal
string_record_at σ s rows at =
    on_number (λ id p. pick (good_id rows id) (on_field (λ end. plain id end 0) (name_at σ s p)) (Err R.BadId)) (u32_at s (at + 1))

-- 8 typed primitive: code, value
unfoldable pub typed_primitive_at : Setting → List ℕ → ℕ → Result Head Refusal
typed_primitive_at σ s at =
    on_field (λ p. on_field (λ end. plain 0 end 0) (value_at σ s (coded (primitive_of (get_or s (at + 1) 0))) p)) (code_at s (at + 1))

-- 9 reference: IdRef
unfoldable pub reference_at : List ℕ → ℕ → Result Head Refusal
reference_at s at = on_number (λ id end. pick (positive id) (plain id end 0) (Err R.BadId)) (u32_at s (at + 1))

-- 13 nulls: a byte count
unfoldable pub nulls_at : List ℕ → ℕ → Result Head Refusal
nulls_at s at = pick (ltb (at + 1) (length s)) (plain 0 (at + 2) (get_or s (at + 1) 0)) (Err R.CutShort)

-- 14 nulls: an INT32 count from 1
unfoldable pub long_nulls_at : List ℕ → ℕ → Result Head Refusal
long_nulls_at s at = on_number (λ n end. pick (positive n) (plain 0 end n) (Err R.BadCount)) (u32_at s (at + 1))

-- 12 library: LibraryId, name
unfoldable pub library_at : Setting → List ℕ → List Row → ℕ → Result Head Refusal
library_at σ s rows at =
    on_number (λ id p. pick (positive id && eqb (library_row id rows) 0) (on_field (λ end. plain id end 0) (name_at σ s p)) (Err R.BadId)) (u32_at s (at + 1))

-- ---- classes

-- a detail, and for type 4 its library known
unfoldable pub info_known : Setting → List ℕ → List Row → ℕ → ℕ → Result ℕ Refusal
info_known σ s rows type at = on_end (λ end. pick (eqb type 4) (known_library s rows end) (Ok end)) (info_at σ s type at)

-- the details of n members, their type bytes from a place on
unfoldable pub infos_at : Setting → List ℕ → List Row → ℕ → ℕ → ℕ → Result ℕ Refusal
infos_at σ s rows zero types at = Ok at
infos_at σ s rows (suc n) types at = on_end (infos_at σ s rows n (types + 1)) (info_known σ s rows (get_or s types 0) at)

-- what follows the details: nothing, or the class's own LibraryId
abbrev pub after_infos : Bool → List ℕ → List Row → ℕ → Result ℕ Refusal
after_infos false s rows at = Ok at
after_infos true s rows at = own_library_at s rows at

-- n members: all names, then all type bytes, then the details
unfoldable pub members_at : Setting → List ℕ → List Row → Bool → ℕ → ℕ → ℕ → Result Head Refusal
members_at σ s rows own id n at =
    on_field (λ types.
    on_field (λ infos.
    on_field (λ p.
    on_field (λ end. Ok (record { id = id; end = end; count = n; slots = n; first = typed_at s types infos; link = types }))
    (after_infos own s rows p))
    (infos_at σ s rows n types infos))
    (times (type_byte_at s) n types))
    (times (name_at σ s) n at)

-- 4 system class: ObjectId, name, member count, members; 5 class: as 4, then LibraryId
unfoldable pub class_at : Setting → List ℕ → List Row → Bool → ℕ → Result Head Refusal
class_at σ s rows own at =
    on_number (λ id p.
    pick (good_class_id rows id)
    (on_field (λ q. on_number (λ n r. pick (negative n) (Err R.BadCount) (members_at σ s rows own id n r)) (u32_at s q)) (name_at σ s p))
    (Err R.BadId))
    (u32_at s (at + 1))

-- never past the end n
abbrev pub within : ℕ → ℕ → ℕ
within n p = pick (ltb n p) n p

-- the type of the first member of the class in this row, whose link is the place of its type byte: in its record or, for kinds 2 and 3, in the book
unfoldable pub first_type : (β s : List ℕ) → Row → Typed
first_type β s c = pick (is_untyped c.kind) (book_typed β c.link) (typed_at s c.link (within (length s) (c.link + c.count)))

-- an object of the class in this row
abbrev pub of_class : (β s : List ℕ) → ℕ → ℕ → ℕ → Row → Result Head Refusal
of_class β s id end row c =
    Ok (record { id = id; end = end; count = c.count; slots = c.count; first = first_type β s c; link = row })

abbrev pub by_row : (β s : List ℕ) → List Row → ℕ → ℕ → ℕ → Result Head Refusal
by_row β s rows id end row = pick (eqb row 0) (Err R.NoClass) (of_class β s id end row (get_or rows (row - 1) blank))

-- 1 class by id: ObjectId, MetadataId
unfoldable pub class_by_id_at : (β s : List ℕ) → List Row → ℕ → Result Head Refusal
class_by_id_at β s rows at =
    on_number (λ id p.
    pick (good_class_id rows id) (on_number (λ class end. by_row β s rows id end (class_row class rows)) (u32_at s p)) (Err R.BadId))
    (u32_at s (at + 1))

-- ---- arrays

-- an array of n slots that records fill
abbrev pub slotted : ℕ → ℕ → ℕ → Typed → Result Head Refusal
slotted id end n t = Ok (record { id = id; end = end; count = n; slots = n; first = t; link = 0 })

-- 16 object array, 17 string array: ObjectId, length
unfoldable pub slot_array_at : List ℕ → List Row → SlotType → ℕ → Result Head Refusal
slot_array_at s rows slot at =
    on_number (λ id p.
    pick (good_id rows id) (on_number (λ n end. pick (negative n) (Err R.BadCount) (slotted id end n (alike slot 0))) (u32_at s p)) (Err R.BadId))
    (u32_at s (at + 1))

-- the items of a primitive array lie in its own record
abbrev pub with_items : Setting → List ℕ → PrimitiveCode → ℕ → ℕ → ℕ → Result Head Refusal
with_items σ s code id n at = on_field (λ end. plain id end n) (items_at σ s code n at)

-- 15 primitive array: ObjectId, length, code, items
unfoldable pub primitive_array_at : Setting → List ℕ → List Row → ℕ → Result Head Refusal
primitive_array_at σ s rows at =
    on_number (λ id p.
    pick (good_id rows id)
    (on_number (λ n q. pick (negative n) (Err R.BadCount) (on_field (with_items σ s (coded (primitive_of (get_or s q 0))) id n) (code_at s q))) (u32_at s p))
    (Err R.BadId))
    (u32_at s (at + 1))

-- array types 0 and 1 have rank 1, type 2 has rank 2 to 32
abbrev pub good_rank : ℕ → ℕ → Bool
good_rank type rank = pick (eqb type 2) (leb 2 rank && leb rank 32) (eqb rank 1)

abbrev pub on_length : (ℕ → ℕ → Result (ℕ × ℕ) Refusal) → Option (ℕ × ℕ) → Result (ℕ × ℕ) Refusal
on_length k (Some (n, next)) = pick (negative n) (Err R.BadCount) (k n next)
on_length k None = Err R.CutShort

-- the lengths left, over the product of those before; the product is judged after the last
unfoldable pub lengths_at : List ℕ → ℕ → ℕ → ℕ → Result (ℕ × ℕ) Refusal
lengths_at s zero product at = pick (leb product 2147483647) (Ok (product, at)) (Err R.BadCount)
lengths_at s (suc k) product at = on_length (λ n next. lengths_at s k (product * n) next) (u32_at s at)

-- items of a type: primitive ones follow at once, the others fill slots
abbrev pub items_of : Setting → List ℕ → ℕ → ℕ → ℕ → ℕ → SlotType → Result Head Refusal
items_of σ s id n infos at (S.Primitive c) = with_items σ s c id n at
items_of σ s id n infos at S.Text = slotted id at n (alike S.Text infos)
items_of σ s id n infos at S.Object = slotted id at n (alike S.Object infos)
items_of σ s id n infos at S.SystemClass = slotted id at n (alike S.SystemClass infos)
items_of σ s id n infos at S.Class = slotted id at n (alike S.Class infos)
items_of σ s id n infos at S.ObjectArray = slotted id at n (alike S.ObjectArray infos)
items_of σ s id n infos at S.StringArray = slotted id at n (alike S.StringArray infos)
items_of σ s id n infos at (S.PrimitiveArray c) = slotted id at n (alike (S.PrimitiveArray c) infos)

-- the type byte and detail of the items
unfoldable pub item_type_at : Setting → List ℕ → List Row → ℕ → ℕ → ℕ → Result Head Refusal
item_type_at σ s rows id n types =
    on_field (λ infos. on_field (λ end. items_of σ s id n infos end (typed_at s types infos).slot) (info_known σ s rows (get_or s types 0) infos))
    (type_byte_at s types)

-- rank and lengths
unfoldable pub rank_at : Setting → List ℕ → List Row → ℕ → ℕ → ℕ → Result Head Refusal
rank_at σ s rows id type at =
    on_number (λ rank p. pick (good_rank type rank) (on_slots (item_type_at σ s rows id) (lengths_at s rank 1 p)) (Err R.BadCount)) (u32_at s at)

-- an array type: 0 to 2 are taken, 3 to 5 refused by name
abbrev pub array_type_at : Setting → List ℕ → List Row → ℕ → ℕ → Result Head Refusal
array_type_at σ s rows id at =
    pick (ltb at (length s))
    (pick (leb (get_or s at 0) 2) (rank_at σ s rows id (get_or s at 0) (at + 1)) (pick (leb (get_or s at 0) 5) (Err R.NotTaken) (Err R.BadType)))
    (Err R.CutShort)

-- 7 BinaryArray: ObjectId, array type, rank, lengths, type byte, type info
unfoldable pub binary_array_at : Setting → List ℕ → List Row → ℕ → Result Head Refusal
binary_array_at σ s rows at = on_number (λ id p. pick (good_id rows id) (array_type_at σ s rows id p) (Err R.BadId)) (u32_at s (at + 1))

-- ---- the fields of a record of a kind that is taken; 10 and 11 have none

unfoldable pub heading_at : Terms → List ℕ → List Row → ℕ → ℕ → Result Head Refusal
heading_at τ s rows k at =
    pick (eqb k 0) (header_at s at)
    (pick (eqb k 1) (class_by_id_at τ.book s rows at)
    (pick (eqb k 4) (class_at τ.setting s rows false at)
    (pick (eqb k 5) (class_at τ.setting s rows true at)
    (pick (eqb k 6) (string_record_at τ.setting s rows at)
    (pick (eqb k 7) (binary_array_at τ.setting s rows at)
    (pick (eqb k 8) (typed_primitive_at τ.setting s at)
    (pick (eqb k 9) (reference_at s at)
    (pick (eqb k 10) (plain 0 (at + 1) 1)
    (pick (eqb k 11) (plain 0 (at + 1) 0)
    (pick (eqb k 12) (library_at τ.setting s rows at)
    (pick (eqb k 13) (nulls_at s at)
    (pick (eqb k 14) (long_nulls_at s at)
    (pick (eqb k 15) (primitive_array_at τ.setting s rows at)
    (pick (eqb k 16) (slot_array_at s rows S.Object at)
    (slot_array_at s rows S.Text at)))))))))))))))
