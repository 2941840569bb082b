-- A class book as it is judged (02, (ii)): entry by entry, all prefixes strict. Only the place of the first bad entry is told, not what is wrong with it.
use Rattle.std.specs.Prelude.{ℕ, zero, suc, ◌+◌, ◌||◌, List, length, get_or, ltb, leb, eqb, Result, Ok, Err}
use Rattle.format.specs.declared.Refusal.{Refusal}
use Rattle.format.specs.declared.Setting.TheVariants as Q
use Rattle.format.specs.declared.Refusal.TheVariants as R
use Rattle.format.specs.Bytes.{pick}
use Rattle.format.specs.Values.{on_end, times}
use Rattle.format.specs.Types.{type_byte_at, name_at, info_at}

-- the detail of a type; types 3 and 4 are bad
unfoldable pub coded_info_at : List ℕ → ℕ → ℕ → Result ℕ Refusal
coded_info_at β type at = pick (eqb type 3 || eqb type 4) (Err R.BadType) (info_at Q.Strict β type at)

-- a member: name, type byte, detail
unfoldable pub described_at : List ℕ → ℕ → Result ℕ Refusal
described_at β at = on_end (λ q. on_end (coded_info_at β (get_or β q 0)) (type_byte_at β q)) (name_at Q.Strict β at)

-- the member count in a byte, then so many members
unfoldable pub counted_at : List ℕ → ℕ → Result ℕ Refusal
counted_at β at = pick (ltb at (length β)) (times (described_at β) (get_or β at 0) (at + 1)) (Err R.CutShort)

-- the library name of a class whose entry begins with 1
unfoldable pub origin_at : List ℕ → ℕ → ℕ → Result ℕ Refusal
origin_at β first at = pick (eqb first 1) (name_at Q.Strict β at) (Ok at)

-- the places of a book are kept in 32 bits
abbrev pub kept : ℕ → Result ℕ Refusal
kept end = pick (leb end 4294967295) (Ok end) (Err R.CutShort)

-- an entry: the first byte, class name, library name, member count, members
unfoldable pub entry_at : List ℕ → ℕ → Result ℕ Refusal
entry_at β at =
    pick (ltb at (length β))
    (pick (leb (get_or β at 0) 1) (on_end kept (on_end (counted_at β) (on_end (origin_at β (get_or β at 0)) (name_at Q.Strict β (at + 1))))) (Err R.BadType))
    (Err R.CutShort)

-- the place, plus 1, of the first bad entry from a place on; 0 where there is none. An entry has a byte or more: k entries are enough for k bytes
abbrev pub on_entry : (ℕ → ℕ) → ℕ → Result ℕ Refusal → ℕ
on_entry f at (Ok next) = f next
on_entry f at (Err r) = at + 1

unfoldable pub bad_from : ℕ → List ℕ → ℕ → ℕ
bad_from zero β at = 0
bad_from (suc k) β at = pick (ltb at (length β)) (on_entry (bad_from k β) at (entry_at β at)) 0

unfoldable pub bad_entry : List ℕ → ℕ
bad_entry β = bad_from (length β) β 0
