-- Wrong programs by their names, and the lists on which they fail. That each fails the demand that is to stop it stands in proofs/ (Wrong).
use Rattle.std.specs.Prelude.{ℕ, ◌+◌, ◌-◌, ◌*◌, ◌≡◌, Bool, true, false, ◌||◌, List, [], ◌∷◌, ◌++◌, map, length, get_or, drop, replicate, leb, eqb, Result, Ok, Err}
use Rattle.format.specs.declared.Refused.{Refused}
use Rattle.format.specs.declared.Untidied.{Untidied}
use Rattle.format.specs.Terms.{Terms}
use Rattle.format.specs.declared.Row.{Row}
use Rattle.format.specs.Bytes.{pick, laid}
use Rattle.format.specs.Text.{after}
use Rattle.format.specs.Rows.{room_of, rows_of}
use Rattle.format.specs.Contents.{Rec, header, class_by_id, system_class, library_class, string, array, typed_primitive, reference, null, nulls, many_nulls, end, library, primitive_array, object_array, string_array, value, encs}
use Rattle.format.specs.Grammar.{ids_of, Reading}
use Rattle.format.specs.Machine.{Outcome, accepted, refused, object, read_of, table_words}
use Rattle.format.specs.Says.{Model, says}
use Rattle.format.specs.Tidy.{tidy_records}
use Rattle.format.specs.CounterExamples.{header_of, string_of, sevens, string_rows, case7}
use Rattle.demands.specs.Records.{rec_from, records_in}
use Rattle.demands.specs.Jobs.{Filler, Copier, Tidier}

-- the rows of counter examples 2, of it with sevens, and 7
abbrev pub rows2 : List Row
rows2 = rows_of 3 (string_rows 1)

abbrev pub rows27 : List Row
rows27 = rows_of 3 (string_rows 7)

abbrev pub rows7 : List Row
rows7 = rows_of 4 case7

-- two strings 12E5 after the header, the second with this ObjectId
abbrev pub two_strings : ℕ → List ℕ
two_strings id = header_of 1 1 ++ (string_of 1 ++ (string_of id ++ (11 ∷ [])))

abbrev pub two_rows : ℕ → List ℕ
two_rows id =
    0 ∷ 0 ∷ 17 ∷ 1 ∷ 0 ∷ 0 ∷ 2 ∷ 0
    ∷ 6 ∷ 17 ∷ 27 ∷ 1 ∷ 0 ∷ 0 ∷ 0 ∷ 0
    ∷ 6 ∷ 27 ∷ 37 ∷ id ∷ 0 ∷ 0 ∷ 0 ∷ 0
    ∷ 11 ∷ 37 ∷ 38 ∷ 0 ∷ 0 ∷ 0 ∷ 0 ∷ 0 ∷ []

abbrev pub two : ℕ → List Row
two id = rows_of 4 (two_rows id)

-- no row shows a record that needs the book
abbrev pub unneeded : List Row → Bool
unneeded [] = true
unneeded (row ∷ rows) = pick (eqb row.kind 2 || eqb row.kind 3) false (unneeded rows)

-- a table with a row for each byte
abbrev pub row_each : List ℕ → List ℕ
row_each s = replicate (8 * length s) 0

-- in full, with any answer and any table
abbrev pub nothing_written : (List ℕ → List ℕ → List ℕ → Result ℕ Untidied) → (List ℕ → List ℕ → List ℕ → List ℕ) → Tidier
nothing_written answer table τ s t d = (answer s t d, (table s t d, d))

-- one copy at the front of every output
abbrev pub one_written : List ℕ → (List ℕ → List ℕ → List ℕ → List ℕ) → Tidier
one_written copy table τ s t d = (Ok (length copy), (table s t d, laid copy d))

-- the objects of the copy after the first have the numbers that they have in the list
abbrev pub KeepsLater : Terms → Copier → Type 0
KeepsLater τ job = (s : List ℕ) (rows : List Row) (w : Reading τ s rows) (copies : List Row) (c : Reading τ (job τ s) copies)
    → drop 1 (ids_of (records_in τ c)) ≡ drop 1 (ids_of (records_in τ w))

-- two programs of that kind in full. Every number of an object by this function: ObjectIds, IdRefs, MetadataIds and the root, which HeaderId repeats
abbrev pub with_numbers : (ℕ → ℕ) → Rec → Rec
with_numbers f (header r h) = header (f r) (f r)
with_numbers f (class_by_id i k) = class_by_id (f i) (f k)
with_numbers f (system_class i n ms) = system_class (f i) n ms
with_numbers f (library_class i n ms l) = library_class (f i) n ms l
with_numbers f (string i x) = string (f i) x
with_numbers f (array i t ns d vs) = array (f i) t ns d vs
with_numbers f (typed_primitive c v) = typed_primitive c v
with_numbers f (reference i) = reference (f i)
with_numbers f null = null
with_numbers f (nulls k) = nulls k
with_numbers f (many_nulls k) = many_nulls k
with_numbers f end = end
with_numbers f (library i n) = library i n
with_numbers f (primitive_array i n c vs) = primitive_array (f i) n c vs
with_numbers f (object_array i n) = object_array (f i) n
with_numbers f (string_array i n) = string_array (f i) n
with_numbers f (value c v) = value c v

-- the first object of the list becomes 1, and the rest is copied
abbrev pub first_by : List Rec → List ℕ
first_by rs = let first = get_or (ids_of rs) 0 0 in encs (map (with_numbers (λ i. pick (eqb i first) 1 i)) rs)

abbrev pub first_from : (β s : List ℕ) → Outcome → List ℕ
first_from β s (accepted rows) = first_by (map (rec_from β s rows) rows)
first_from β s (refused r place) = []

unfoldable pub first_only : Copier
first_only τ s = first_from τ.book s (read_of τ s (length s))

-- the copy of 01, with packed nulls, shared classes and needed libraries, but every object after the first has its number in the list
abbrev pub tidy_by : List ℕ → Model → List ℕ
tidy_by ids m = encs (map (with_numbers (λ k. pick (leb k 1) k (get_or ids (k - 1) 0))) (tidy_records m))

abbrev pub tidy_from : (β s : List ℕ) → Outcome → List ℕ
tidy_from β s (accepted rows) = tidy_by (ids_of (map (rec_from β s rows) rows)) (says β s rows)
tidy_from β s (refused r place) = []

unfoldable pub tidy_first_only : Copier
tidy_first_only τ s = tidy_from τ.book s (read_of τ s (length s))

-- the table that reading promises, with a count of its own
abbrev pub count_by : ℕ → ℕ → Outcome → Result ℕ Refused × List ℕ
count_by k n (accepted rows) = (Ok k, table_words n (accepted rows))
count_by k n (refused r place) = (Err (record { refusal = r; place = place }), table_words n (refused r place))

unfoldable pub invented : Terms → (List ℕ → List ℕ → ℕ) → Filler
invented τ count s t = count_by (count s t) (length t) (read_of τ s (room_of t))
