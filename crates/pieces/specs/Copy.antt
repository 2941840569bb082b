-- The copy that is written from marked rows, one row after the other: bytes are parts of the stream, but for the numbers, the prefixes of names,
-- texts and Decimals, and the null runs. All of it is total.
use Rattle.std.specs.Prelude.{ℕ, zero, suc, ◌+◌, ◌-◌, ◌%◌, Bool, true, false, ◌||◌, ◌&&◌, List, [], ◌∷◌, ◌++◌, get_or, eqb}
use Rattle.format.specs.declared.Setting.{Setting}
use Rattle.format.specs.declared.Setting.TheVariants as Q
use Rattle.format.specs.declared.Row.{Row}
use Rattle.format.specs.Bytes.{pick}
use Rattle.format.specs.Numbers.{le_bytes}
use Rattle.format.specs.Rows.{is_class}
use Rattle.format.specs.Types.{after_info}
use Rattle.format.specs.Says.{is_nulls}
use Rattle.put.specs.Out.{between, text_out, texts_out, head_out, by_id_out, header_out, run_out}
use Rattle.pieces.specs.declared.Gathered.{Gathered}
use Rattle.marks.specs.Marks.{row_at, word, library_at, names_place, infos_place, item_type, is_first}

-- ---- libraries, each before the first record that needs it

-- the new number of the library whose number stands at a place
unfoldable pub library_number : List ℕ → List Row → ℕ → ℕ
library_number s rs p = (row_at rs (library_at s rs p)).link

unfoldable pub library_out : List ℕ → Row → List ℕ
library_out s g = head_out 12 g.link ++ text_out s (g.offset + 5)

-- the record of the library that the field at p is the first to need
abbrev pub need_row_out : List ℕ → ℕ → Row → List ℕ
need_row_out s p g = pick (eqb g.slot (word (p + 1))) (library_out s g) []

unfoldable pub need_out : List ℕ → List Row → ℕ → List ℕ
need_out s rs p = need_row_out s p (row_at rs (library_at s rs p))

-- for a detail that ends at e
unfoldable pub need_info_out : List ℕ → List Row → ℕ → ℕ → List ℕ
need_info_out s rs type e = pick (eqb type 4) (need_out s rs (e - 4)) []

unfoldable pub need_infos_out : List ℕ → List Row → ℕ → ℕ → ℕ → List ℕ
need_infos_out s rs zero types p = []
need_infos_out s rs (suc n) types p =
    let type = get_or s types 0 in
    let e = after_info s type p in
    need_info_out s rs type e ++ need_infos_out s rs n (types + 1) e

abbrev pub need_own_out : List ℕ → List Row → Row → List ℕ
need_own_out s rs r = pick (eqb r.kind 5) (need_out s rs (r.end - 4)) []

unfoldable pub need_class_out : List ℕ → List Row → Row → List ℕ
need_class_out s rs r = need_infos_out s rs r.count r.slot (infos_place r) ++ need_own_out s rs r

-- ---- classes

-- a detail from p to e, its library by the new number
unfoldable pub info_out : List ℕ → List Row → ℕ → ℕ → ℕ → List ℕ
info_out s rs type p e =
    pick (eqb type 4) (text_out s p ++ le_bytes 4 (library_number s rs (e - 4))) (pick (eqb type 3) (text_out s p) (between s p e))

unfoldable pub infos_out : List ℕ → List Row → ℕ → ℕ → ℕ → List ℕ
infos_out s rs zero types p = []
infos_out s rs (suc n) types p =
    let type = get_or s types 0 in
    let e = after_info s type p in
    info_out s rs type p e ++ infos_out s rs n (types + 1) e

abbrev pub own_out : List ℕ → List Row → Row → List ℕ
own_out s rs r = pick (eqb r.kind 5) (le_bytes 4 (library_number s rs (r.end - 4))) []

-- the details of the members and the class's own library
unfoldable pub details_out : List ℕ → List Row → Row → List ℕ
details_out s rs r = infos_out s rs r.count r.slot (infos_place r) ++ own_out s rs r

-- the names of the members, their type bytes, which are kept, and their details
unfoldable pub members_out : List ℕ → List Row → Row → List ℕ
members_out s rs r = texts_out s r.count (names_place s r) ++ (between s r.slot (infos_place r) ++ details_out s rs r)

-- after the ObjectId: name, member count, members
unfoldable pub class_out : List ℕ → List Row → Row → List ℕ
class_out s rs r = head_out (r.kind % 256) r.id ++ (text_out s (r.offset + 5) ++ (le_bytes 4 r.count ++ members_out s rs r))

-- the first object of a class in full, later ones by it
unfoldable pub object_out : List ℕ → List Row → ℕ → Row → List ℕ
object_out s rs i r =
    pick (is_first i r) (need_class_out s rs r ++ class_out s rs r) (by_id_out r.id (row_at rs r.link).id)

-- ---- values

-- Values of one code, δ, are written anew, with the shortest prefix of their text; all others are kept. In lenient that is the code of Decimals; in strict
-- a Decimal has the shortest prefix already and is kept too, and 0 is the number of no code.
abbrev pub anew_in : Setting → ℕ
anew_in Q.Strict = 0
anew_in Q.Lenient = 5

-- a primitive value from p to e: written anew it is a text, else it is kept
abbrev pub value_out : List ℕ → Bool → ℕ → ℕ → List ℕ
value_out s prefixed p e = pick prefixed (text_out s p) (between s p e)

-- n primitive values from p to e
abbrev pub values_out : List ℕ → Bool → ℕ → ℕ → ℕ → List ℕ
values_out s prefixed n p e = pick prefixed (texts_out s n p) (between s p e)

-- MemberPrimitiveTyped: its kind and its code, then its value
unfoldable pub typed_out : ℕ → List ℕ → Row → List ℕ
typed_out δ s r = between s r.offset (r.offset + 2) ++ value_out s (eqb (get_or s (r.offset + 1) 0) δ) (r.offset + 2) r.end

-- a member value, whose row has the number of its code as link
abbrev pub member_out : ℕ → List ℕ → Row → List ℕ
member_out δ s r = value_out s (eqb r.link δ) r.offset r.end

-- ---- arrays

-- from the item type at p on, its detail ending at e
unfoldable pub items_out : ℕ → List ℕ → List Row → ℕ → ℕ → Row → List ℕ
items_out δ s rs p e r =
    info_out s rs (get_or s p 0) (p + 1) e ++ values_out s (eqb (get_or s p 0) 0 && eqb (get_or s (p + 1) 0) δ) r.count e r.end

unfoldable pub body_out : ℕ → List ℕ → List Row → ℕ → ℕ → Row → List ℕ
body_out δ s rs p e r = head_out 7 r.id ++ (between s (r.offset + 5) (p + 1) ++ items_out δ s rs p e r)

unfoldable pub array_out : ℕ → List ℕ → List Row → Row → List ℕ
array_out δ s rs r =
    let p = item_type s r in
    let e = after_info s (get_or s p 0) (p + 1) in
    need_info_out s rs (get_or s p 0) e ++ body_out δ s rs p e r

-- ArraySinglePrimitive: its length and its code are kept, then its items
unfoldable pub primitive_items_out : ℕ → List ℕ → Row → List ℕ
primitive_items_out δ s r =
    between s (r.offset + 5) (r.offset + 10) ++ values_out s (eqb (get_or s (r.offset + 9) 0) δ) r.count (r.offset + 10) r.end

unfoldable pub primitives_out : ℕ → List ℕ → Row → List ℕ
primitives_out δ s r = head_out 15 r.id ++ primitive_items_out δ s r

-- ---- a row

-- an object whose bytes after the ObjectId are kept
unfoldable pub kept_out : List ℕ → Row → List ℕ
kept_out s r = head_out (r.kind % 256) r.id ++ between s (r.offset + 5) r.end

unfoldable pub string_out : List ℕ → Row → List ℕ
string_out s r = head_out 6 r.id ++ text_out s (r.offset + 5)

-- libraries and nulls are written with other rows; the end record is kept
unfoldable pub record_out : ℕ → List ℕ → List Row → ℕ → Row → List ℕ
record_out δ s rs i r =
    pick (eqb r.kind 0) (header_out (row_at rs r.link).id)
    (pick (eqb r.kind 1) (by_id_out r.id (row_at rs (row_at rs r.link).link).id)
    (pick (is_class r.kind) (object_out s rs i r)
    (pick (eqb r.kind 6) (string_out s r)
    (pick (eqb r.kind 7) (array_out δ s rs r)
    (pick (eqb r.kind 8) (typed_out δ s r)
    (pick (eqb r.kind 9) (head_out 9 (row_at rs r.link).id)
    (pick (is_nulls r.kind || eqb r.kind 12) []
    (pick (eqb r.kind 15) (primitives_out δ s r)
    (pick (eqb r.kind 16 || eqb r.kind 17) (kept_out s r)
    (pick (eqb r.kind 32) (member_out δ s r)
    (between s r.offset r.end)))))))))))

-- ---- null runs

-- nothing gathered yet
abbrev pub none_yet : Gathered
none_yet = record { owner = 0; count = 0 }

-- rows that a run is gathered across: libraries, and runs of 0
abbrev pub is_passed : Row → Bool
is_passed r = pick (eqb r.kind 12) true (pick (is_nulls r.kind) (eqb r.count 0) false)

-- the nulls gathered so far, if row r is no more of them
unfoldable pub before_out : Gathered → Row → List ℕ
before_out w r =
    pick (is_passed r) []
    (pick (is_nulls r.kind) (pick (eqb r.owner w.owner) [] (run_out w.count)) (run_out w.count))

abbrev pub more_of : Gathered → Row → Gathered
more_of w r = record { owner = r.owner; count = pick (eqb r.owner w.owner) (w.count + r.count) r.count }

unfoldable pub run_after : Gathered → Row → Gathered
run_after w r = pick (is_passed r) w (pick (is_nulls r.kind) (more_of w r) none_yet)

-- ---- the copy

unfoldable pub row_out : ℕ → List ℕ → List Row → ℕ → Gathered → Row → List ℕ
row_out δ s rs i w r = before_out w r ++ record_out δ s rs i r

-- the rows from i on, after a run
unfoldable pub copy_from : ℕ → List ℕ → List Row → ℕ → Gathered → List Row → List ℕ
copy_from δ s rs i w [] = run_out w.count
copy_from δ s rs i w (r ∷ more) = row_out δ s rs i w r ++ copy_from δ s rs (i + 1) (run_after w r) more

unfoldable pub copy_of : ℕ → List ℕ → List Row → List ℕ
copy_of δ s rs = copy_from δ s rs 0 none_yet rs
