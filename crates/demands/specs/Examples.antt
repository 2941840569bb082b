-- Worked examples of readings and of what is said, beside the computed ones: counter examples 2 and 7 have readings, 1, 8 and 9 have none; a list with
-- the last DateTime of 9999 has one, with a tick more it has none; 2 says the same with 7 for both object ids, and 2 and 7 do not say the same. Counter
-- example 6, with a prefix that is longer than need be, has no reading in strict and one in lenient, which says what 2 says and has its tidy copy.
use Rattle.std.specs.Prelude.{ℕ, zero, suc, ◌≡◌, refl, Bool, true, ◌&&◌, List, [], ◌∷◌, ◌++◌, length, ltb, leb}
use Rattle.std.proofs.Common.{sym, ap, ◌∙◌, arith, ltb-true, leb-true}
use Rattle.format.specs.Terms.{Terms, strict, lenient}
use Rattle.format.specs.declared.Refusal.{Refusal}
use Rattle.format.specs.declared.Refusal.TheVariants as R
use Rattle.format.specs.declared.Row.{Row}
use Rattle.format.specs.Numbers.{le, u32_at, u64_at, le_bytes}
use Rattle.format.specs.Prefix.{prefix_in, groups_of, groups_in, prefix_of}
use Rattle.format.specs.Text.{need_of, lo_of, hi_of, lead_of, step_of, after, well_formed, text_at, string_at, span_at}
use Rattle.format.specs.Values.{date_time_at, value_at}
use Rattle.format.specs.Types.{primitive_of, code_at, name_at, moved, passed, passed_of}
use Rattle.format.specs.Entries.{bad_entry}
use Rattle.format.specs.Rows.{rows_of, find_from, object_row, link_of, linked}
use Rattle.format.specs.Records.{allowed, kind_of, kind_at, header_at, string_record_at, typed_primitive_at, nulls_at, slot_array_at, heading_at}
use Rattle.format.specs.Contents.{enc, encs}
use Rattle.format.specs.Grammar.{Reading}
use Rattle.format.specs.Machine.{close, filled, opened, add, object, null_run, ending, act, record_step, step, finish, run, Outcome, accepted, refused, stream_of, with_links, read_of}
use Rattle.format.specs.Says.{objects_in, order_of, what_from, spread, nodes_of, nodes_from, Model, says, SayTheSame}
use Rattle.format.specs.Tidy.{records_of, after_what, pack, run_of, written, waiting, squeeze, tidy_records, tidy_of}
use Rattle.format.specs.Examples.{hex_onto, failing, None}
use Rattle.num.specs.Le.{Bytes}
use Rattle.format.specs.CounterExamples.{H, A, case2, case6, sevens, run_list, string_rows, prefixed_rows, case7, table}
use Rattle.format.proofs.CounterExamples.{counter_examples as starred}
use Rattle.laws.specs.Tests.{both_of}
use Rattle.books.specs.Books.{book_taken}
use Rattle.demands.specs.Readings.{accepted_exactly, no_reading}
use Rattle.demands.specs.Books.{GoodBook, no_bytes, good_read}

-- the starred counter examples, computed where the definitions stand
pub counter_examples : None (failing 0 table)
counter_examples = starred

-- whether every entry is a byte
unfoldable pub bytes : List ℕ → Bool
bytes [] = true
bytes (b ∷ s) = ltb b 256 && bytes s

pub bytes_are : (s : List ℕ) → bytes s ≡ true → Bytes s
unfolding bytes
bytes_are [] e i = omega arith
bytes_are (b ∷ s) e zero = ltb-true b 256 (both_of (ltb b 256) (bytes s) e).0
bytes_are (b ∷ s) e (suc i) = bytes_are s (both_of (ltb b 256) (bytes s) e).1 i

-- what computes, whatever the book is: the stream comes to this, where each byte has room for a row
abbrev Comes : Terms → List ℕ → Outcome → Type 0
Comes τ s o = (leb (length s) 16777216 ≡ true) × (with_links (stream_of τ s (length s)) ≡ o)

-- the list is of bytes and is accepted with these rows
abbrev pub Takes : Terms → List ℕ → List Row → Type 0
Takes τ s rows = (bytes s ≡ true) × Comes τ s (accepted rows)

-- with a good book reading comes to the same
comes_read : (τ : Terms) (s : List ℕ) (o : Outcome) → Comes τ s o → bad_entry τ.book ≡ 0 → read_of τ s (length s) ≡ o
comes_read τ s o w e = good_read τ s (leb-true (length s) 16777216 w.0) e (length s) ∙ w.1

pub accepted_reads : (τ : Terms) → GoodBook τ.book → (s : List ℕ) (rows : List Row) → Takes τ s rows → Reading τ s rows
accepted_reads τ good s rows w =
    ((accepted_exactly τ s good.0 (bytes_are s w.0) (length s) rows).0 (comes_read τ s (accepted rows) w.1 good.1)).0

-- a reading has a good book
refused_none : (τ : Terms) (s : List ℕ) (r : Refusal) (place : ℕ) → Comes τ s (refused r place) → (rows : List Row) → Reading τ s rows → ⊥
refused_none τ s r place c rows w =
    no_reading τ s r place (comes_read τ s (refused r place) c (book_taken τ.book w.classes w.book_is)) rows w

abbrev pub run7 : List ℕ
run7 = run_list 3 (11 ∷ [])

abbrev pub run8 : List ℕ
run8 = run_list 4 []

abbrev pub run9 : List ℕ
run9 = run_list 0 (11 ∷ [])

-- an array of one slot with a DateTime of these bits, and its rows
abbrev pub date_list : ℕ → List ℕ
date_list bits = H ++ (A 1 ++ (8 ∷ 13 ∷ (le_bytes 8 bits ++ (11 ∷ []))))

abbrev pub date_rows : List ℕ
date_rows =
    0 ∷ 0 ∷ 17 ∷ 1 ∷ 0 ∷ 0 ∷ 2 ∷ 0
    ∷ 16 ∷ 17 ∷ 26 ∷ 1 ∷ 0 ∷ 0 ∷ 0 ∷ 1
    ∷ 8 ∷ 26 ∷ 36 ∷ 0 ∷ 2 ∷ 0 ∷ 0 ∷ 0
    ∷ 11 ∷ 36 ∷ 37 ∷ 0 ∷ 0 ∷ 0 ∷ 0 ∷ 0 ∷ []

-- 9999-12-31 23:59:59.9999999, and a tick more
abbrev pub last_date : List ℕ
last_date = date_list 3155378975999999999

abbrev pub past_date : List ℕ
past_date = date_list 3155378976000000000

computed : (τ : Terms) → (Takes τ case2 (rows_of 3 (string_rows 1)) × (Takes τ sevens (rows_of 3 (string_rows 7)) × Takes τ run7 (rows_of 4 case7)))
    × (Comes τ [] (refused R.CutShort 0) × (Comes τ run8 (refused R.BadCount 26) × Comes τ run9 (refused R.WrongPlace 28)))
unfolding bytes rows_of stream_of run finish step record_step act ending null_run object add opened filled close heading_at slot_array_at nulls_at string_record_at header_at kind_at kind_of allowed linked link_of object_row find_from passed_of passed moved name_at string_at text_at well_formed after step_of lead_of hi_of lo_of need_of groups_of prefix_in le_bytes u32_at le hex_onto
computed τ = (((refl, (refl, refl)), ((refl, (refl, refl)), (refl, (refl, refl)))), ((refl, refl), ((refl, refl), (refl, refl))))

computed_dates : (τ : Terms) → Takes τ last_date (rows_of 4 date_rows) × Comes τ past_date (refused R.BadValue 26)
unfolding bytes rows_of stream_of run finish step record_step act ending null_run object add opened filled close heading_at slot_array_at typed_primitive_at header_at kind_at kind_of allowed linked link_of object_row find_from passed_of passed moved value_at date_time_at code_at primitive_of le_bytes u64_at u32_at le hex_onto
computed_dates τ = ((refl, (refl, refl)), (refl, refl))

computed_6 : Takes lenient case6 (rows_of 3 (prefixed_rows 28)) × Comes strict case6 (refused R.BadLength 17)
unfolding bytes rows_of stream_of run finish step record_step act ending object add filled close heading_at string_record_at header_at kind_at kind_of allowed linked link_of object_row find_from passed_of passed moved name_at string_at text_at well_formed after step_of lead_of hi_of lo_of need_of prefix_in le_bytes u32_at le hex_onto
computed_6 = ((refl, (refl, refl)), (refl, refl))

-- ---- readings, with any good book

pub reads_2 : (τ : Terms) → GoodBook τ.book → Reading τ case2 (rows_of 3 (string_rows 1))
reads_2 τ good = accepted_reads τ good case2 (rows_of 3 (string_rows 1)) (computed τ).0.0

pub reads_sevens : (τ : Terms) → GoodBook τ.book → Reading τ sevens (rows_of 3 (string_rows 7))
reads_sevens τ good = accepted_reads τ good sevens (rows_of 3 (string_rows 7)) (computed τ).0.1.0

pub reads_7 : (τ : Terms) → GoodBook τ.book → Reading τ run7 (rows_of 4 case7)
reads_7 τ good = accepted_reads τ good run7 (rows_of 4 case7) (computed τ).0.1.1

pub reads_last_date : (τ : Terms) → GoodBook τ.book → Reading τ last_date (rows_of 4 date_rows)
reads_last_date τ good = accepted_reads τ good last_date (rows_of 4 date_rows) (computed_dates τ).0

pub none_empty : (τ : Terms) (rows : List Row) → Reading τ [] rows → ⊥
none_empty τ = refused_none τ [] R.CutShort 0 (computed τ).1.0

pub none_8 : (τ : Terms) (rows : List Row) → Reading τ run8 rows → ⊥
none_8 τ = refused_none τ run8 R.BadCount 26 (computed τ).1.1.0

pub none_9 : (τ : Terms) (rows : List Row) → Reading τ run9 rows → ⊥
none_9 τ = refused_none τ run9 R.WrongPlace 28 (computed τ).1.1.1

pub none_past_date : (τ : Terms) (rows : List Row) → Reading τ past_date rows → ⊥
none_past_date τ = refused_none τ past_date R.BadValue 26 (computed_dates τ).1

-- without a book: lenient takes more than strict
pub reads_6 : Reading lenient case6 (rows_of 3 (prefixed_rows 28))
reads_6 = accepted_reads lenient no_bytes case6 (rows_of 3 (prefixed_rows 28)) computed_6.0

pub none_6 : (rows : List Row) → Reading strict case6 rows → ⊥
none_6 = refused_none strict case6 R.BadLength 17 computed_6.1

-- ---- what is said, by any books: these lists have no class

pub same_sevens : (β γ : List ℕ) → SayTheSame β case2 (rows_of 3 (string_rows 1)) γ sevens (rows_of 3 (string_rows 7))
unfolding rows_of says nodes_from nodes_of spread what_from order_of objects_in span_at groups_of prefix_in le_bytes le hex_onto
same_sevens β γ = refl

-- a longer prefix says nothing
pub same_6 : (β γ : List ℕ) → SayTheSame β case2 (rows_of 3 (string_rows 1)) γ case6 (rows_of 3 (prefixed_rows 28))
unfolding rows_of says nodes_from nodes_of spread what_from order_of objects_in span_at prefix_in le_bytes le hex_onto
same_6 β γ = refl

-- the list of 2 is its own tidy copy, and that of 6
pub tidy_2 : (β : List ℕ) → tidy_of (says β case2 (rows_of 3 (string_rows 1))) ≡ case2
unfolding tidy_of tidy_records squeeze waiting written run_of pack after_what records_of encs enc prefix_of groups_in groups_of rows_of says nodes_from nodes_of spread what_from order_of objects_in span_at prefix_in le_bytes le hex_onto
tidy_2 β = refl

pub tidy_6 : (β : List ℕ) → tidy_of (says β case6 (rows_of 3 (prefixed_rows 28))) ≡ case2
tidy_6 β = ap tidy_of (sym (same_6 β β)) ∙ tidy_2 β

-- one string is not an array with three nulls
pub not_same_7 : (β γ : List ℕ) → SayTheSame β case2 (rows_of 3 (string_rows 1)) γ run7 (rows_of 4 case7) → ⊥
unfolding rows_of says nodes_from nodes_of spread
not_same_7 β γ e = let z : ◌≡◌ {A = ℕ} 1 4 = ap (λ (m : Model). length m.nodes) e in omega arith
