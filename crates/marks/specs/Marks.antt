-- What tidying puts into words of rows before it writes anything (01, The tidy copy): objects get their new numbers, a library's row the first
-- row with its name, a class's row the place of its type bytes and the first row of its class, and a library's first row its new number and
-- the place of the field that needs it first. All of it is total: rows, links and places may be invented.
use Rattle.std.specs.Prelude.{ℕ, zero, suc, ◌+◌, ◌-◌, ◌*◌, ◌%◌, Bool, true, false, List, length, get_or, set, eqb}
use Rattle.format.specs.declared.Row.{Row}
use Rattle.format.specs.Bytes.{pick, same_part}
use Rattle.format.specs.Text.{span_at}
use Rattle.format.specs.Types.{after_text, after_info}
use Rattle.format.specs.Rows.{blank, is_object, is_class, find_from, library_row, with_link}
use Rattle.format.specs.Says.{number_from}

-- ---- rows

-- the row that a word names: a row's number plus 1
abbrev pub row_at : List Row → ℕ → Row
row_at rows f = get_or rows (f - 1) blank

abbrev pub with_id : Row → ℕ → Row
with_id r id =
    record { kind = r.kind; offset = r.offset; end = r.end; id = id; owner = r.owner; slot = r.slot; link = r.link; count = r.count }

abbrev pub with_slot : Row → ℕ → Row
with_slot r slot =
    record { kind = r.kind; offset = r.offset; end = r.end; id = r.id; owner = r.owner; slot = slot; link = r.link; count = r.count }

abbrev pub with_count : Row → ℕ → Row
with_count r count =
    record { kind = r.kind; offset = r.offset; end = r.end; id = r.id; owner = r.owner; slot = r.slot; link = r.link; count = count }

-- a number as a word has it
abbrev pub word : ℕ → ℕ
word n = n % 4294967296

-- ---- passes

-- how many things were numbered, and the rows
pub record Pass : Type 0 where
  pub count : ℕ
  pub rows : List Row

abbrev pub pass : ℕ → List Row → Pass
pass n rows = record { count = n; rows = rows }

-- a step at row i and at the k - 1 rows after it
unfoldable pub sweep : {S : Type 0} → (ℕ → S → S) → ℕ → ℕ → S → S
sweep f zero i st = st
sweep f (suc k) i st = sweep f k (i + 1) (f i st)

-- ---- objects are numbered in record order

abbrev pub number_row : Pass → ℕ → Row → Pass
number_row p i r = pick (is_object r.kind) (pass (word (p.count + 1)) (set p.rows i (with_id r (word (p.count + 1))))) p

unfoldable pub number_one : ℕ → Pass → Pass
number_one i p = number_row p i (get_or p.rows i blank)

unfoldable pub numbered : List Row → List Row
numbered rows = (sweep number_one (length rows) 0 (pass 0 rows)).rows

-- ---- a library's first row with its name, and where a class's type bytes stand

-- the bytes from a to x and those from b to y are the same
unfoldable pub same_between : List ℕ → ℕ → ℕ → ℕ → ℕ → Bool
same_between s a x b y = pick (eqb (x - a) (y - b)) (same_part s a b (x - a)) false

-- the strings at a and b have the same text
unfoldable pub same_text : List ℕ → ℕ → ℕ → Bool
same_text s a b = same_between s (span_at s a).from (span_at s a).to (span_at s b).from (span_at s b).to

unfoldable pub same_name : List ℕ → Row → Row → Bool
same_name s a b = pick (eqb b.kind 12) (same_text s (a.offset + 5) (b.offset + 5)) false

unfoldable pub first_library : List ℕ → List Row → Row → ℕ
first_library s rows r = find_from (same_name s r) 0 rows

-- the link with which a class's row is read is the place of its type bytes
abbrev pub place_row : List ℕ → List Row → ℕ → Row → List Row
place_row s rows i r =
    pick (eqb r.kind 12) (set rows i (with_count r (first_library s rows r)))
    (pick (is_class r.kind) (set rows i (with_slot r r.link)) rows)

unfoldable pub place_one : List ℕ → ℕ → List Row → List Row
place_one s i rows = place_row s rows i (get_or rows i blank)

unfoldable pub placed : List ℕ → List Row → List Row
placed s rows = sweep (place_one s) (length rows) 0 rows

-- ---- the first row of an equal class, libraries compared by their first rows

-- the first row, plus 1, of the library whose number stands at a place
unfoldable pub library_at : List ℕ → List Row → ℕ → ℕ
library_at s rows p = (row_at rows (library_row (number_from s p) rows)).count

-- details of one type, from a to x and from b to y
unfoldable pub same_info : List ℕ → List Row → ℕ → ℕ → ℕ → ℕ → ℕ → Bool
same_info s rows type a x b y =
    pick (eqb type 4)
    (pick (same_text s a b) (eqb (library_at s rows (x - 4)) (library_at s rows (y - 4))) false)
    (pick (eqb type 3) (same_text s a b) (same_between s a x b y))

-- n members of two classes: names at a and b, type bytes at t and u, details at p and q
unfoldable pub same_members_at : List ℕ → List Row → ℕ → ℕ → ℕ → ℕ → ℕ → ℕ → ℕ → Bool
same_members_at s rows zero a t p b u q = true
same_members_at s rows (suc n) a t p b u q =
    let type = get_or s t 0 in
    let x = after_info s type p in
    let y = after_info s type q in
    pick (same_text s a b)
    (pick (eqb type (get_or s u 0))
    (pick (same_info s rows type p x q y) (same_members_at s rows n (after_text s a) (t + 1) x (after_text s b) (u + 1) y) false)
    false)
    false

-- where the names of a class's members begin, after its name and its member count
abbrev pub names_place : List ℕ → Row → ℕ
names_place s r = after_text s (r.offset + 5) + 4

-- where the details of a class's members begin
abbrev pub infos_place : Row → ℕ
infos_place r = r.slot + r.count

-- two classes that both come from the system, or from libraries with one name
unfoldable pub same_own : List ℕ → List Row → Row → Row → Bool
same_own s rows a b = pick (eqb a.kind 5) (eqb (library_at s rows (a.end - 4)) (library_at s rows (b.end - 4))) true

-- the members of two classes, which have as many, and then their libraries
abbrev pub same_details : List ℕ → List Row → Row → Row → Bool
same_details s rows a b =
    pick (same_members_at s rows a.count (names_place s a) a.slot (infos_place a) (names_place s b) b.slot (infos_place b))
    (same_own s rows a b)
    false

-- kinds, member counts, names; then the members and the libraries
unfoldable pub same_class_row : List ℕ → List Row → Row → Row → Bool
same_class_row s rows a b =
    pick (eqb b.kind a.kind)
    (pick (eqb b.count a.count) (pick (same_text s (a.offset + 5) (b.offset + 5)) (same_details s rows a b) false) false)
    false

unfoldable pub first_class : List ℕ → List Row → Row → ℕ
first_class s rows r = find_from (same_class_row s rows r) 0 rows

abbrev pub first_row : List ℕ → List Row → ℕ → Row → List Row
first_row s rows i r = pick (is_class r.kind) (set rows i (with_link r (first_class s rows r))) rows

unfoldable pub first_one : List ℕ → ℕ → List Row → List Row
first_one s i rows = first_row s rows i (get_or rows i blank)

unfoldable pub firsts : List ℕ → List Row → List Row
firsts s rows = sweep (first_one s) (length rows) 0 rows

-- ---- libraries are numbered by first need, in the order of the fields that name them

-- the field at p needs the library whose first row is g, and which row f - 1 holds
abbrev pub need_row : ℕ → ℕ → Row → Pass → Pass
need_row p f g st =
    pick (eqb g.slot 0)
    (pass (word (st.count + 1)) (set st.rows (f - 1) (with_link (with_slot g (word (p + 1))) (word (st.count + 1)))))
    st

unfoldable pub need : List ℕ → ℕ → Pass → Pass
need s p st =
    let f = library_at s st.rows p in
    need_row p f (row_at st.rows f) st

-- a detail that ends at e
unfoldable pub need_info : List ℕ → ℕ → ℕ → Pass → Pass
need_info s type e st = pick (eqb type 4) (need s (e - 4) st) st

unfoldable pub need_infos : List ℕ → ℕ → ℕ → ℕ → Pass → Pass
need_infos s zero types p st = st
need_infos s (suc n) types p st =
    let type = get_or s types 0 in
    let e = after_info s type p in
    need_infos s n (types + 1) e (need_info s type e st)

abbrev pub need_own : List ℕ → Row → Pass → Pass
need_own s r st = pick (eqb r.kind 5) (need s (r.end - 4) st) st

unfoldable pub need_class : List ℕ → Row → Pass → Pass
need_class s r st = need_own s r (need_infos s r.count r.slot (infos_place r) st)

-- where the item type of a BinaryArray stands, after its rank and lengths
unfoldable pub item_type : List ℕ → Row → ℕ
item_type s r = r.offset + 10 + 4 * number_from s (r.offset + 6)

unfoldable pub need_array : List ℕ → Row → Pass → Pass
need_array s r st =
    let p = item_type s r in
    let type = get_or s p 0 in
    need_info s type (after_info s type (p + 1)) st

-- a class's first row has its own number as link
abbrev pub is_first : ℕ → Row → Bool
is_first i r = pick (is_class r.kind) (eqb r.link (i + 1)) false

abbrev pub needs_row : List ℕ → ℕ → Row → Pass → Pass
needs_row s i r st = pick (is_first i r) (need_class s r st) (pick (eqb r.kind 7) (need_array s r st) st)

unfoldable pub need_one : List ℕ → ℕ → Pass → Pass
need_one s i st = needs_row s i (get_or st.rows i blank) st

unfoldable pub needed : List ℕ → List Row → List Row
needed s rows = (sweep (need_one s) (length rows) 0 (pass 0 rows)).rows

-- ---- all marks

unfoldable pub marked : List ℕ → List Row → List Row
marked s rows = needed s (firsts s (placed s (numbered rows)))
