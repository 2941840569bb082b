-- The table (01, The table): rows, their words, and the lookups by number. Objects and libraries are two separate counts.
use Rattle.std.specs.Prelude.{ℕ, zero, suc, ◌+◌, ◌/◌, Bool, ◌&&◌, ◌||◌, List, [], ◌∷◌, map, length, get_or, drop, eqb}
use Rattle.format.specs.declared.Row.{Row}
use Rattle.format.specs.Bytes.{pick}

abbrev pub blank : Row
blank = record { kind = 0; offset = 0; end = 0; id = 0; owner = 0; slot = 0; link = 0; count = 0 }

-- how many whole rows a table has: the words of a broken last row count as words after the last row
abbrev pub room_of : List ℕ → ℕ
room_of t = length t / 8

-- the words of rows, eight to a row
unfoldable pub words : List Row → List ℕ
words [] = []
words (r ∷ rs) = r.kind ∷ r.offset ∷ r.end ∷ r.id ∷ r.owner ∷ r.slot ∷ r.link ∷ r.count ∷ words rs

-- the row that begins a list of words
abbrev pub row_of : List ℕ → Row
row_of t =
    record {
      kind = get_or t 0 0;
      offset = get_or t 1 0;
      end = get_or t 2 0;
      id = get_or t 3 0;
      owner = get_or t 4 0;
      slot = get_or t 5 0;
      link = get_or t 6 0;
      count = get_or t 7 0;
    }

-- the first n rows of a table
unfoldable pub rows_of : ℕ → List ℕ → List Row
rows_of zero t = []
rows_of (suc n) t = row_of t ∷ rows_of n (drop 8 t)

-- ---- which rows are objects, and which classes that a kind 1 may name

abbrev pub is_object : ℕ → Bool
is_object kind =
    eqb kind 1 || (eqb kind 4 || (eqb kind 5 || (eqb kind 6 || (eqb kind 7 || (eqb kind 15 || (eqb kind 16 || eqb kind 17))))))

abbrev pub is_class : ℕ → Bool
is_class kind = eqb kind 4 || eqb kind 5

-- kinds 2 and 3, whose types stand in the class book
abbrev pub is_untyped : ℕ → Bool
is_untyped kind = eqb kind 2 || eqb kind 3

-- ---- lookups: the number of the first row that passes, plus 1; 0 if there is none

unfoldable pub find_from : (Row → Bool) → ℕ → List Row → ℕ
find_from p i [] = 0
find_from p i (r ∷ rs) = pick (p r) (i + 1) (find_from p (i + 1) rs)

-- the object of this number
unfoldable pub object_row : ℕ → List Row → ℕ
object_row id rows = find_from (λ (r : Row). is_object r.kind && eqb r.id id) 0 rows

-- the record of kind 4 or 5 of this number
unfoldable pub class_row : ℕ → List Row → ℕ
class_row id rows = find_from (λ (r : Row). is_class r.kind && eqb r.id id) 0 rows

-- the library of this number
unfoldable pub library_row : ℕ → List Row → ℕ
library_row id rows = find_from (λ (r : Row). eqb r.kind 12 && eqb r.id id) 0 rows

-- ---- links: to the target of a reference, to the root from the header; a kind 1 has its class's already

abbrev pub with_link : Row → ℕ → Row
with_link r link =
    record { kind = r.kind; offset = r.offset; end = r.end; id = r.id; owner = r.owner; slot = r.slot; link = link; count = r.count }

unfoldable pub link_of : List Row → Row → ℕ
link_of rows r = pick (eqb r.kind 9 || eqb r.kind 0) (object_row r.id rows) (pick (eqb r.kind 1) r.link 0)

-- every row with its link
unfoldable pub linked : List Row → List Row
linked rows = map (λ (r : Row). with_link r (link_of rows r)) rows

-- references and the header get their links, all other rows keep theirs: what tidying starts from, of which no promise speaks
unfoldable pub bound_link : List Row → Row → ℕ
bound_link rows r = pick (eqb r.kind 9 || eqb r.kind 0) (object_row r.id rows) r.link

unfoldable pub bound : List Row → List Row
bound rows = map (λ (r : Row). with_link r (bound_link rows r)) rows

-- a reference with no target
abbrev pub is_lost : List Row → Row → Bool
is_lost rows r = eqb r.kind 9 && eqb (object_row r.id rows) 0
