-- Wrong programs against the demands (01, What the wording must hold): each kind of them, whatever else it computes, fails the demand that is to stop it;
-- the counter examples are the witnesses.
use Rattle.std.specs.Prelude.{ℕ, zero, suc, ◌+◌, ◌-◌, ◌*◌, ◌≤◌, ◌≡◌, refl, true, List, [], ◌∷◌, map, length, get_or, take, drop, replicate, Result, Ok, Err}
use Rattle.format.specs.declared.Refused.{Refused}
use Rattle.format.specs.declared.Untidied.{Untidied}
use Rattle.format.specs.declared.Untidied.TheVariants as Q
use Rattle.std.proofs.Common.{sym, ap, subst, ◌∙◌, arith}
use Rattle.std.proofs.lemmas.List.{length-replicate}
use Rattle.std.proofs.Math.Seq.{take-append_seam}
use Rattle.format.specs.Terms.{Terms, terms, strict, lenient}
use Rattle.format.specs.declared.Setting.{Setting}
use Rattle.format.specs.declared.Refusal.{Refusal}
use Rattle.format.specs.declared.Refusal.TheVariants as R
use Rattle.format.specs.declared.Row.{Row}
use Rattle.format.specs.Bytes.{laid}
use Rattle.format.specs.Numbers.{le, u32_at, le_bytes}
use Rattle.format.specs.Prefix.{prefix_in, groups_of, groups_in, prefix_of}
use Rattle.format.specs.Text.{need_of, lo_of, hi_of, lead_of, step_of, after, well_formed, text_at, string_at, span_at}
use Rattle.format.specs.Types.{name_at, moved, passed, passed_of}
use Rattle.format.specs.Entries.{entry_at, bad_from, bad_entry}
use Rattle.format.specs.Rows.{room_of, rows_of, find_from, object_row, link_of, linked}
use Rattle.format.specs.Records.{allowed, kind_of, kind_at, header_at, string_record_at, heading_at}
use Rattle.format.specs.Contents.{Rec, enc, encs}
use Rattle.format.specs.Grammar.{ids_of, Reading}
use Rattle.format.specs.Machine.{Outcome, accepted, refused, close, filled, opened, add, object, null_run, ending, act, record_step, step, finish, run, stream_of, read_of, table_words}
use Rattle.format.specs.Says.{objects_in, order_of, what_from, spread, nodes_of, nodes_from, says, SayTheSame}
use Rattle.format.specs.Tidy.{records_of, after_what, pack, run_of, written, waiting, squeeze, tidy_records, tidy_of}
use Rattle.format.specs.Promises.{ReadPromise}
use Rattle.format.specs.Examples.{hex_onto}
use Rattle.format.specs.CounterExamples.{case2, case6, sevens, prefixed_rows}
use Rattle.num.specs.Le.{Bytes}
use Rattle.readings.specs.Accept.{accepts}
use Rattle.demands.specs.Readings.{reading_unique, reading_short}
use Rattle.demands.specs.Books.{GoodBook, no_book, no_bytes, book_first_lem}
use Rattle.demands.specs.Calls.{tabled, read_accepted}
use Rattle.demands.specs.Examples.{bytes, bytes_are, Takes, accepted_reads, run7, reads_2, reads_sevens, reads_6, reads_7, none_empty, none_6, same_sevens, same_6, tidy_6, not_same_7}
use Rattle.demands.specs.Records.{rec_from, records_in, records_are}
use Rattle.demands.specs.Texts.{shown_in}
use Rattle.demands.proofs.Texts.{shown_rows}
use Rattle.demands.specs.Exactly.{same_meant, meant_small}
use Rattle.demands.specs.Jobs.{Reader, Demand2, Filler, Demand2Table, TableRule, Copier, Within, Demand3, Tidier, written_in, Demand3Job}
use Rattle.demands.specs.Wrong.{rows2, rows27, rows7, two_strings, two, unneeded, row_each, nothing_written, one_written, KeepsLater, first_by, first_from, first_only, tidy_by, tidy_from, tidy_first_only, count_by, invented}

-- ---- the witnesses

all_bytes : ((bytes case2 ≡ true) × ((bytes sevens ≡ true) × ((bytes run7 ≡ true) × (bytes case6 ≡ true)))) × ((bytes (two_strings 2) ≡ true) × (bytes (two_strings 3) ≡ true))
unfolding bytes le_bytes hex_onto
all_bytes = ((refl, (refl, (refl, refl))), (refl, refl))

bytes_2 : Bytes case2
bytes_2 = bytes_are case2 all_bytes.0.0

bytes_sevens : Bytes sevens
bytes_sevens = bytes_are sevens all_bytes.0.1.0

bytes_7 : Bytes run7
bytes_7 = bytes_are run7 all_bytes.0.1.1.0

bytes_6 : Bytes case6
bytes_6 = bytes_are case6 all_bytes.0.1.1.1

bytes_two : Bytes (two_strings 2)
bytes_two = bytes_are (two_strings 2) all_bytes.1.0

bytes_three : Bytes (two_strings 3)
bytes_three = bytes_are (two_strings 3) all_bytes.1.1

length_2 : length case2 ≡ 28
unfolding le_bytes hex_onto
length_2 = refl

counts : (length rows2 ≡ 3) × (length rows7 ≡ 4)
unfolding rows_of
counts = (refl, refl)

two_taken : (τ : Terms) → Takes τ (two_strings 2) (two 2) × Takes τ (two_strings 3) (two 3)
unfolding bytes rows_of stream_of run finish step record_step act ending null_run object add opened filled close heading_at string_record_at header_at kind_at kind_of allowed linked link_of object_row find_from passed_of passed moved name_at string_at text_at well_formed after step_of lead_of hi_of lo_of need_of groups_of prefix_in le_bytes u32_at le hex_onto
two_taken τ = ((refl, (refl, refl)), (refl, (refl, refl)))

pub reads_two : (τ : Terms) → GoodBook τ.book → Reading τ (two_strings 2) (two 2)
reads_two τ good = accepted_reads τ good (two_strings 2) (two 2) (two_taken τ).0

pub reads_three : (τ : Terms) → GoodBook τ.book → Reading τ (two_strings 3) (two 3)
reads_three τ good = accepted_reads τ good (two_strings 3) (two 3) (two_taken τ).1

-- they say the same, by any books
pub same_two : (β γ : List ℕ) → SayTheSame β (two_strings 2) (two 2) γ (two_strings 3) (two 3)
unfolding rows_of says nodes_from nodes_of spread what_from order_of objects_in span_at groups_of prefix_in le_bytes le hex_onto
same_two β γ = refl

-- the copies are as long as 01 says, and far within the stream limit
lengths : (β : List ℕ) → ((length (tidy_of (says β case2 rows2)) ≡ 28) × ((length (tidy_of (says β sevens rows27)) ≡ 28) × (length (tidy_of (says β run7 rows7)) ≡ 29)))
    × ((length (tidy_of (says β (two_strings 2) (two 2))) ≡ 38) × (length (tidy_of (says β (two_strings 3) (two 3))) ≡ 38))
unfolding rows_of tidy_of tidy_records squeeze waiting written run_of pack after_what records_of encs enc says nodes_from nodes_of spread what_from order_of objects_in span_at prefix_of groups_in groups_of prefix_in le_bytes le hex_onto
lengths β = ((refl, (refl, refl)), (refl, refl))

small_2 : (τ : Terms) (good : GoodBook τ.book) → Within (reads_2 τ good)
small_2 τ good = meant_small τ (reads_2 τ good) (omega (arith, (lengths τ.book).0.0))

small_sevens : (τ : Terms) (good : GoodBook τ.book) → Within (reads_sevens τ good)
small_sevens τ good = meant_small τ (reads_sevens τ good) (omega (arith, (lengths τ.book).0.1.0))

small_7 : (τ : Terms) (good : GoodBook τ.book) → Within (reads_7 τ good)
small_7 τ good = meant_small τ (reads_7 τ good) (omega (arith, (lengths τ.book).0.1.1))

small_6 : Within reads_6
small_6 = meant_small lenient reads_6 (omega (arith, ap length (tidy_6 []) ∙ length_2))

small_two : (τ : Terms) (good : GoodBook τ.book) → Within (reads_two τ good)
small_two τ good = meant_small τ (reads_two τ good) (omega (arith, (lengths τ.book).1.0))

small_three : (τ : Terms) (good : GoodBook τ.book) → Within (reads_three τ good)
small_three τ good = meant_small τ (reads_three τ good) (omega (arith, (lengths τ.book).1.1))

-- ---- readers

-- a reader that accepts nothing
pub refuses_all : (τ : Terms) → GoodBook τ.book → (job : Reader) → ((s : List ℕ) (room : ℕ) (rows : List Row) → job s room ≡ accepted rows → ⊥) → Demand2 τ job → ⊥
refuses_all τ good job none demand = none case2 3 rows2 ((demand case2 good.0 bytes_2 3 rows2).1 (reads_2 τ good, omega (arith, counts.0)))

pub all_refused : (τ : Terms) → GoodBook τ.book → (refusal : List ℕ → ℕ → Refusal) (place : List ℕ → ℕ → ℕ) → Demand2 τ (λ s room. refused (refusal s room) (place s room)) → ⊥
all_refused τ good refusal place = refuses_all τ good _ (λ s room rows e. let z : ◌≡◌ {A = ℕ} 0 1 = cc in omega arith)

-- a reader with one row set for all lists that it accepts
pub one_row_set : (τ : Terms) → GoodBook τ.book → (job : Reader) (fixed : List Row) → ((s : List ℕ) (room : ℕ) (rows : List Row) → job s room ≡ accepted rows → rows ≡ fixed) → Demand2 τ job → ⊥
one_row_set τ good job fixed one demand =
    let a = one case2 4 rows2 ((demand case2 good.0 bytes_2 4 rows2).1 (reads_2 τ good, omega (arith, counts.0))) in
    let b = one run7 4 rows7 ((demand run7 good.0 bytes_7 4 rows7).1 (reads_7 τ good, omega (arith, counts.1))) in
    let e : length rows2 ≡ length rows7 = ap length (a ∙ sym b) in
    let c = counts.0 in
    let d = counts.1 in
    omega arith

same_rows : {a b : List Row} → accepted a ≡ accepted b → b ≡ a
same_rows e = cc

pub fixed_rows : (τ : Terms) → GoodBook τ.book → (fixed : List Row) → Demand2 τ (λ s room. accepted fixed) → ⊥
fixed_rows τ good fixed = one_row_set τ good _ fixed (λ s room rows e. same_rows e)

-- the same of jobs with a table: nothing accepted
pub table_refuses_all : (τ : Terms) → GoodBook τ.book → (job : Filler) → ((s t : List ℕ) (n : ℕ) → (job s t).0 ≡ Ok n → ⊥) → Demand2Table τ job → ⊥
table_refuses_all τ good job none demand =
    let t : List ℕ = replicate 32 0 in
    none case2 t (length rows2) (demand.taken case2 t bytes_2 rows2 (reads_2 τ good) (omega (arith, counts.0))).0

-- and one row set in the table of every list that is accepted
pub table_one_row_set : (τ : Terms) → GoodBook τ.book → (job : Filler) (fixed : List Row) → ((s t : List ℕ) (n : ℕ) → (job s t).0 ≡ Ok n → (job s t).1 ≡ tabled (length t) fixed)
    → Demand2Table τ job → ⊥
table_one_row_set τ good job fixed one demand =
    let t : List ℕ = replicate 32 0 in
    let f = counts.0 in
    let g = counts.1 in
    let x = demand.taken case2 t bytes_2 rows2 (reads_2 τ good) (omega arith) in
    let y = demand.taken run7 t bytes_7 rows7 (reads_7 τ good) (omega arith) in
    let a = one case2 t (length rows2) x.0 in
    let b = one run7 t (length rows7) y.0 in
    let c = shown_rows τ (reads_2 τ good) t (omega arith) in
    let d = shown_rows τ (reads_7 τ good) t (omega arith) in
    let e : length rows2 ≡ length rows7 = sym c ∙ (ap shown_in (sym x.1 ∙ (a ∙ (sym b ∙ y.1))) ∙ d) in
    omega arith

pub table_fixed_rows : (τ : Terms) → GoodBook τ.book → (fixed : List Row) → Demand2Table τ (λ s t. (Ok (length fixed), tabled (length t) fixed)) → ⊥
table_fixed_rows τ good fixed = table_one_row_set τ good _ fixed (λ s t n e. refl)

-- one reader for both settings: whatever it says of counter example 6 is wrong under one of them
pub both_settings : (job : Reader) → Demand2 strict job → Demand2 lenient job → ⊥
both_settings job one other =
    let rows : List Row = rows_of 3 (prefixed_rows 28) in
    let e = (other case6 no_bytes.0 bytes_6 (length rows) rows).1 (reads_6, omega arith) in
    none_6 rows ((one case6 no_bytes.0 bytes_6 (length rows) rows).0 e).0

-- ---- readers that judge the book too late

plain_2 : unneeded rows2 ≡ true
unfolding rows_of
plain_2 = refl

-- an entry begins with 0 or 1
bad_2 : bad_entry (2 ∷ []) ≡ 0 + 1
unfolding bad_entry bad_from entry_at
bad_2 = refl

-- a job that judges the book only where a record of kind 2 or 3 comes reads any other list as it does without a book: with a bad one it accepts 2, and
-- the right answer is 22 at 0
pub book_when_needed : (job : Terms → Filler)
    → ((σ : Setting) (β s t : List ℕ) (rows : List Row) → Reading (terms σ []) s rows → unneeded rows ≡ true → job (terms σ β) s t ≡ job (terms σ []) s t)
    → ((τ : Terms) (s t : List ℕ) → ReadPromise τ s t (job τ s t).0 (job τ s t).1) → ⊥
book_when_needed job late keeps =
    let t : List ℕ = replicate 32 0 in
    let β : List ℕ = 2 ∷ [] in
    let σ : Setting = strict.setting in
    let w = reads_2 strict no_bytes in
    let a = (read_accepted strict case2 t rows2 w (omega (arith, counts.0)) _ _ (keeps strict case2 t)).0 in
    let b = (book_first_lem (terms σ β) case2 (omega (arith, length_2)) t 0 bad_2 _ _ (keeps (terms σ β) case2 t)).0 in
    let e : (job (terms σ β) case2 t).0 ≡ (job strict case2 t).0 = ap (λ (x : Result ℕ Refused × List ℕ). x.0) (late σ β case2 t rows2 w plain_2) in
    accepted_refused (length rows2) R.BadBook 0 (sym a ∙ (sym e ∙ b))
  where
    accepted_refused : (n : ℕ) (r : Refusal) (place : ℕ) → ◌≡◌ {A = Result ℕ Refused} (Ok n) (Err (record { refusal = r; place = place })) → ⊥
    accepted_refused n r place e = let z : ◌≡◌ {A = ℕ} 0 1 = cc in omega arith

-- ---- tidy jobs

-- one copy for all lists that have readings
pub one_copy : (τ : Terms) → GoodBook τ.book → (job : Copier) (copy : List ℕ) → ((s : List ℕ) (rows : List Row) → Reading τ s rows → job τ s ≡ copy) → Demand3 job → ⊥
one_copy τ good job copy one demand =
    let e = one case2 rows2 (reads_2 τ good) ∙ sym (one run7 rows7 (reads_7 τ good)) in
    not_same_7 τ.book τ.book ((same_meant τ τ (reads_2 τ good) (reads_7 τ good)).1 ((demand.same τ case2 bytes_2 rows2 (reads_2 τ good) (small_2 τ good) τ run7 bytes_7 rows7 (reads_7 τ good) (small_7 τ good)).1 e))

pub fixed_copy : (copy : List ℕ) → Demand3 (λ τ s. copy) → ⊥
fixed_copy copy = one_copy strict no_bytes (λ τ s. copy) copy (λ s rows w. refl)

-- no bytes
pub no_copy : Demand3 (λ τ s. []) → ⊥
no_copy = fixed_copy []

-- the list itself: nothing renumbered
pub list_itself : Demand3 (λ τ s. s) → ⊥
unfolding le_bytes hex_onto
list_itself demand =
    let τ : Terms = strict in
    let good = no_bytes in
    let means = (same_meant τ τ (reads_2 τ good) (reads_sevens τ good)).0 (same_sevens τ.book τ.book) in
    let e : case2 ≡ sevens = (demand.same τ case2 bytes_2 rows2 (reads_2 τ good) (small_2 τ good) τ sevens bytes_sevens rows27 (reads_sevens τ good) (small_sevens τ good)).0 means in
    let z : ◌≡◌ {A = ℕ} 1 7 = ap (λ (l : List ℕ). get_or l 1 0) e in
    omega arith

-- a padded prefix kept: the copy of 6 is 6, which has no reading in strict
pub padding_kept : (job : Copier) → job lenient case6 ≡ case6 → Demand3 job → ⊥
padding_kept job keeps demand =
    let x = demand.taken lenient case6 bytes_6 (rows_of 3 (prefixed_rows 28)) reads_6 small_6 in
    none_6 x.copies (subst (λ (c : List ℕ). Reading strict c x.copies) keeps (x.reads strict [] no_book))

-- the padding told apart: 2 and 6 mean the same, so no copy of 6 differs from that of 2, whatever the settings
pub padding_told : (job : Copier) → (τ : Terms) → GoodBook τ.book → (job τ case2 ≡ job lenient case6 → ⊥) → Demand3 job → ⊥
padding_told job τ good differ demand =
    let e = (same_meant τ lenient (reads_2 τ good) reads_6).0 (same_6 τ.book []) in
    differ ((demand.same τ case2 bytes_2 rows2 (reads_2 τ good) (small_2 τ good) lenient case6 bytes_6 (rows_of 3 (prefixed_rows 28)) reads_6 small_6).0 e)

-- no list begins with the byte 255
no_255 : (τ : Terms) (k n : ℕ) (rows : List Row) → Reading τ (take k (replicate n 255)) rows → ⊥
unfolding enc
no_255 τ zero n rows w = none_empty τ rows w
no_255 τ (suc k) zero rows w = none_empty τ rows w
no_255 τ (suc k) (suc n) rows w = let z : ◌≡◌ {A = ℕ} 255 0 = ap (λ (l : List ℕ). get_or l 0 0) w.bytes_are in omega arith

-- what is left of an output of these bytes has no reading, whatever was answered
none_left : (τ : Terms) (q : Result ℕ Untidied) (n : ℕ) (rows : List Row) → Reading τ (written_in q (replicate n 255)) rows → ⊥
none_left τ (Ok k) n rows w = no_255 τ k n rows w
none_left τ (Err (Q.Refused r)) n rows w = none_empty τ rows w
none_left τ (Err (Q.OutFull k)) n rows w = none_empty τ rows w

row_each_lem : (s : List ℕ) → length s ≤ room_of (row_each s)
row_each_lem s = let z = length-replicate {A = ℕ} (8 * length s) 0 in omega arith

-- a job that leaves the output as it was, whatever it answers, under some terms
pub writes_nothing : (τ : Terms) → GoodBook τ.book → (job : Tidier) → ((s t d : List ℕ) → (job τ s t d).1.1 ≡ d) → Demand3Job job → ⊥
writes_nothing τ good job leaves demand = go 16777216 (omega arith)
  where
    go : (n : ℕ) → 16777216 ≤ n → ⊥
    go n h =
        let d : List ℕ = replicate n 255 in
        let l : length d ≡ n = length-replicate {A = ℕ} n 255 in
        let x = (demand row_each row_each_lem d (omega arith)).taken τ case2 bytes_2 rows2 (reads_2 τ good) (small_2 τ good) in
        let q = (job τ case2 (row_each case2) d).0 in
        none_left τ q n x.copies (subst (λ (e : List ℕ). Reading τ (written_in q e) x.copies) (leaves case2 (row_each case2) d) (x.reads τ (reads_2 τ good).classes (reads_2 τ good).book_is))

pub nothing_written_lem : (answer : List ℕ → List ℕ → List ℕ → Result ℕ Untidied) (table : List ℕ → List ℕ → List ℕ → List ℕ)
    → Demand3Job (nothing_written answer table) → ⊥
nothing_written_lem answer table = writes_nothing strict no_bytes (nothing_written answer table) (λ s t d. refl)

pub one_written_lem : (copy : List ℕ) (table : List ℕ → List ℕ → List ℕ → List ℕ) → Demand3Job (one_written copy table) → ⊥
unfolding laid
one_written_lem copy table demand = go 16777216 (omega arith)
  where
    go : (n : ℕ) → 16777216 ≤ n → ⊥
    go n h =
        let d : List ℕ = replicate n 0 in
        let l : length d ≡ n = length-replicate {A = ℕ} n 0 in
        one_copy strict no_bytes _ copy (λ s rows w. take-append_seam copy (drop (length copy) d)) (demand row_each row_each_lem d (omega arith))

-- ---- tidy jobs that renumber only the first object

later_ids : (β : List ℕ) → (drop 1 (ids_of (map (rec_from β (two_strings 2) (two 2)) (two 2))) ≡ 2 ∷ []) × (drop 1 (ids_of (map (rec_from β (two_strings 3) (two 3)) (two 3))) ≡ 3 ∷ [])
unfolding rows_of rec_from
later_ids β = (refl, refl)

-- a job that meets demand 3 has one copy of both
one_for_two : (τ : Terms) → GoodBook τ.book → (job : Copier) → Demand3 job → job τ (two_strings 2) ≡ job τ (two_strings 3)
one_for_two τ good job demand =
    (demand.same τ (two_strings 2) bytes_two (two 2) (reads_two τ good) (small_two τ good) τ (two_strings 3) bytes_three (two 3) (reads_three τ good) (small_three τ good)).0
    ((same_meant τ τ (reads_two τ good) (reads_three τ good)).0 (same_two τ.book τ.book))

pub first_object_only : (τ : Terms) → GoodBook τ.book → (job : Copier) → KeepsLater τ job → Demand3 job → ⊥
first_object_only τ good job keeps demand =
    let x = demand.taken τ (two_strings 2) bytes_two (two 2) (reads_two τ good) (small_two τ good) in
    let copies = x.copies in
    let y = x.reads τ (reads_two τ good).classes (reads_two τ good).book_is in
    let later : List Rec → List ℕ = λ l. drop 1 (ids_of l) in
    let a : drop 1 (ids_of (records_in τ y)) ≡ 2 ∷ [] =
    keeps (two_strings 2) (two 2) (reads_two τ good) copies y ∙ (ap later (records_are τ (reads_two τ good)) ∙ (later_ids τ.book).0) in
    let f : (c : Reading τ (job τ (two_strings 3)) copies) → drop 1 (ids_of (records_in τ c)) ≡ 3 ∷ [] =
    λ c. keeps (two_strings 3) (two 3) (reads_three τ good) copies c ∙ (ap later (records_are τ (reads_three τ good)) ∙ (later_ids τ.book).1) in
    let g : (c : Reading τ (job τ (two_strings 2)) copies) → drop 1 (ids_of (records_in τ c)) ≡ 3 ∷ [] =
    subst (λ (l : List ℕ). (c : Reading τ l copies) → drop 1 (ids_of (records_in τ c)) ≡ 3 ∷ []) (sym (one_for_two τ good job demand)) f in
    let z : ◌≡◌ {A = ℕ} 2 3 = ap (λ (l : List ℕ). get_or l 0 0) (sym a ∙ g y) in
    omega arith

-- a job that copies the list is one of them
pub itself_keeps : (τ : Terms) → KeepsLater τ (λ υ s. s)
itself_keeps τ s rows w copies c =
    let e = records_are τ c ∙ (ap (λ (l : List Row). map (rec_from τ.book s l) l) (reading_unique τ s copies rows c w) ∙ sym (records_are τ w)) in
    ap (λ (l : List Rec). drop 1 (ids_of l)) e

unchanged : ((first_by (map (rec_from [] (two_strings 2) (two 2)) (two 2)) ≡ two_strings 2) × (first_by (map (rec_from [] (two_strings 3) (two 3)) (two 3)) ≡ two_strings 3))
    × ((tidy_by (ids_of (map (rec_from [] (two_strings 2) (two 2)) (two 2))) (says [] (two_strings 2) (two 2)) ≡ two_strings 2)
    × (tidy_by (ids_of (map (rec_from [] (two_strings 3) (two 3)) (two 3))) (says [] (two_strings 3) (two 3)) ≡ two_strings 3))
unfolding rows_of rec_from tidy_records squeeze waiting written run_of pack after_what records_of encs enc says nodes_from nodes_of spread what_from order_of objects_in span_at prefix_of groups_in groups_of prefix_in le_bytes le hex_onto
unchanged = ((refl, refl), (refl, refl))

-- a job that leaves the two lists as they are
pub keeps_both : (τ : Terms) → GoodBook τ.book → (job : Copier) → job τ (two_strings 2) ≡ two_strings 2 → job τ (two_strings 3) ≡ two_strings 3 → Demand3 job → ⊥
unfolding le_bytes hex_onto
keeps_both τ good job a b demand =
    let z : ◌≡◌ {A = ℕ} 2 3 = ap (λ (l : List ℕ). get_or l 28 0) (sym a ∙ (one_for_two τ good job demand ∙ b)) in
    omega arith

read_two : (τ : Terms) → GoodBook τ.book → read_of τ (two_strings 2) (length (two_strings 2)) ≡ accepted (two 2)
read_two τ good = accepts τ (reads_two τ good) (length (two_strings 2)) (reading_short τ (two_strings 2) (two 2) (reads_two τ good))

read_three : (τ : Terms) → GoodBook τ.book → read_of τ (two_strings 3) (length (two_strings 3)) ≡ accepted (two 3)
read_three τ good = accepts τ (reads_three τ good) (length (two_strings 3)) (reading_short τ (two_strings 3) (two 3) (reads_three τ good))

pub first_only_lem : Demand3 first_only → ⊥
unfolding first_only
first_only_lem =
    keeps_both strict no_bytes first_only (ap (first_from [] (two_strings 2)) (read_two strict no_bytes) ∙ unchanged.0.0) (ap (first_from [] (two_strings 3)) (read_three strict no_bytes) ∙ unchanged.0.1)

pub tidy_first_only_lem : Demand3 tidy_first_only → ⊥
unfolding tidy_first_only
tidy_first_only_lem =
    keeps_both strict no_bytes tidy_first_only (ap (tidy_from [] (two_strings 2)) (read_two strict no_bytes) ∙ unchanged.1.0) (ap (tidy_from [] (two_strings 3)) (read_three strict no_bytes) ∙ unchanged.1.1)

-- ---- an invented row count

-- a job that shows the reading and keeps the table rule answers the number of rows
pub count_settled : (τ : Terms) (job : Filler) → TableRule job → (s t : List ℕ) → Bytes s → (n : ℕ) → (job s t).0 ≡ Ok n → (rows : List Row) → Reading τ s rows
    → length rows ≤ room_of t → (job s t).1 ≡ tabled (length t) rows → n ≡ length rows
count_settled τ job rule s t byte n e rows w fit q = sym (rule s t byte n e) ∙ (ap shown_in q ∙ shown_rows τ w t fit)

-- so an invented count keeps the rule only where it is that number
pub invented_count : (τ : Terms) (count : List ℕ → List ℕ → ℕ) → TableRule (invented τ count) → (s t : List ℕ) → Bytes s → (rows : List Row) → Reading τ s rows
    → length rows ≤ room_of t → count s t ≡ length rows
unfolding invented table_words
invented_count τ count rule s t byte rows w fit =
    let e : invented τ count s t ≡ (Ok (count s t), tabled (length t) rows) = ap (count_by (count s t) (length t)) (accepts τ w (room_of t) fit) in
    count_settled τ (invented τ count) rule s t byte (count s t) (ap (λ (x : Result ℕ Refused × List ℕ). x.0) e) rows w fit (ap (λ (x : Result ℕ Refused × List ℕ). x.1) e)

-- one count for all lists
pub fixed_count : (τ : Terms) → GoodBook τ.book → (k : ℕ) → TableRule (invented τ (λ s t. k)) → ⊥
fixed_count τ good k rule =
    let t : List ℕ = replicate 32 0 in
    let a = invented_count τ (λ s t. k) rule case2 t bytes_2 rows2 (reads_2 τ good) (omega (arith, counts.0)) in
    let b = invented_count τ (λ s t. k) rule run7 t bytes_7 rows7 (reads_7 τ good) (omega (arith, counts.1)) in
    let c = counts.0 in
    let d = counts.1 in
    omega arith

-- a count that goes wrong for lists of three rows, as one that is always one too large
pub wrong_count : (τ : Terms) → GoodBook τ.book → (wrong : ℕ → ℕ) → (wrong 3 ≡ 3 → ⊥) → TableRule (invented τ (λ s t. wrong (shown_in (table_words (length t) (read_of τ s (room_of t)))))) → ⊥
unfolding table_words
wrong_count τ good wrong differs rule =
    let t : List ℕ = replicate 32 0 in
    let c = counts.0 in
    let fit : length rows2 ≤ room_of t = omega arith in
    let a = invented_count τ _ rule case2 t bytes_2 rows2 (reads_2 τ good) fit in
    let e : shown_in (table_words (length t) (read_of τ case2 (room_of t))) ≡ 3 =
    ap (λ (o : Outcome). shown_in (table_words (length t) o)) (accepts τ (reads_2 τ good) (room_of t) fit) ∙ (shown_rows τ (reads_2 τ good) t fit ∙ c) in
    differs (sym (ap wrong e) ∙ (a ∙ c))
