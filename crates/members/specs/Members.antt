-- Rows by the names of their words, the slots that they fill, and what the record of a class says of its members. Every stream, table and row is taken.
use Rattle.std.specs.Prelude.{ℕ, zero, suc, ◌+◌, ◌-◌, ◌*◌, Bool, ◌||◌, List, get_or, ltb, leb, eqb}
use Rattle.format.specs.declared.Row.{Row}
use Rattle.format.specs.declared.Span.{Span}
use Rattle.format.specs.Bytes.{pick}
use Rattle.format.specs.Rows.{room_of}
use Rattle.peeking.specs.Peeking.{onward, byte_at, four_at, string_span, after_string}

-- ---- rows

-- word k of a row, 0 where there is none
unfoldable pub word_of : List ℕ → ℕ → ℕ → ℕ
word_of t row k = pick (ltb row (room_of t)) (pick (ltb k 8) (get_or t (8 * row + k) 0) 0) 0

unfoldable pub row_in : List ℕ → ℕ → Row
row_in t row =
    record {
      kind = word_of t row 0;
      offset = word_of t row 1;
      end = word_of t row 2;
      id = word_of t row 3;
      owner = word_of t row 4;
      slot = word_of t row 5;
      link = word_of t row 6;
      count = word_of t row 7;
    }

-- the row that an owner or link word names: the word is the row's number plus 1, and 0 names row 0
abbrev pub named_row : ℕ → ℕ
named_row w = w - 1

-- how many owners a row has, of which at most k are counted
unfoldable pub depth_from : ℕ → List ℕ → ℕ → ℕ
depth_from zero t w = 0
depth_from (suc k) t w = pick (eqb w 0) 0 (suc (depth_from k t (word_of t (named_row w) 4)))

abbrev pub depth_of : List ℕ → ℕ → ℕ
depth_of t owner = depth_from 64 t owner

-- how many slots a row fills: a null run as many as it counts, any other row one
unfoldable pub slots_filled : Row → ℕ
slots_filled r = pick (eqb r.kind 13 || eqb r.kind 14) r.count 1

-- the last of so many slots, of none the first; the first too where the one after the last has no number
unfoldable pub last_of : ℕ → ℕ → ℕ
last_of first count = pick (leb (first + count) 4294967295) (first + (count - 1)) first

unfoldable pub has_members : ℕ → Bool
has_members kind = eqb kind 1 || (eqb kind 4 || eqb kind 5)

-- ---- the fields of a class record

-- the row that has the fields of an object's class
unfoldable pub fields_row : List ℕ → Row → Row
fields_row t r = pick (eqb r.kind 1) (row_in t (named_row r.link)) r

-- the place of the first member name
unfoldable pub names_at : List ℕ → Row → ℕ
names_at s r = onward s (after_string s (onward s r.offset 5)) 4

-- the place after n strings
unfoldable pub after_strings : ℕ → List ℕ → ℕ → ℕ
after_strings zero s at = at
after_strings (suc n) s at = after_strings n s (after_string s at)

unfoldable pub member_name : List ℕ → Row → ℕ → Span
member_name s r k = string_span s (after_strings k s (names_at s r))

-- the place after the detail of a type
unfoldable pub after_detail : List ℕ → ℕ → ℕ → ℕ
after_detail s at t =
    pick (eqb t 0 || eqb t 7) (onward s at 1)
    (pick (eqb t 3) (after_string s at) (pick (eqb t 4) (onward s (after_string s at) 4) at))

-- the place after the details of the n types from number i on
unfoldable pub detail_from : ℕ → List ℕ → ℕ → ℕ → ℕ → ℕ
detail_from zero s types i at = at
detail_from (suc n) s types i at = detail_from n s types (i + 1) (after_detail s at (byte_at s (onward s types i)))

-- the place of the detail of member k
abbrev pub detail_of : List ℕ → ℕ → ℕ → ℕ → ℕ
detail_of s types details k = detail_from k s types 0 details

-- the primitive code of member k, where the type bytes are at a place
unfoldable pub code_from : List ℕ → Row → ℕ → ℕ → ℕ
code_from s r k types = byte_at s (detail_of s types (onward s types r.count) k)

unfoldable pub member_code : List ℕ → Row → ℕ → ℕ
member_code s r k = code_from s r k (after_strings r.count s (names_at s r))

-- the LibraryId of a class, its last four bytes
unfoldable pub library_of : List ℕ → Row → ℕ
library_of s r = pick (ltb r.end 4) 0 (four_at s (r.end - 4))

unfoldable pub class_name : List ℕ → Row → Span
class_name s r = string_span s (onward s r.offset 5)
