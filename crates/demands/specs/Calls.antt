-- What a caller learns of a list from the promises of the public jobs alone: what an answer of reading says about the list's readings, that tidy
-- copies tell whether two lists say the same, and that a copy is read and tidied again.
use Rattle.std.specs.Prelude.{ℕ, ◌-◌, ◌*◌, ◌≤◌, ◌≡◌, List, ◌++◌, length, take, drop, replicate, Result, Ok, Err}
use Rattle.format.specs.declared.Refused.{Refused}
use Rattle.format.specs.declared.Untidied.{Untidied}
use Rattle.std.proofs.Common.{sym, ap, subst, ◌∙◌, le-leb}
use Rattle.format.specs.Terms.{Terms}
use Rattle.format.specs.declared.Refusal.{Refusal}
use Rattle.format.specs.declared.Row.{Row}
use Rattle.format.specs.Bytes.{laid}
use Rattle.format.specs.Rows.{room_of, words}
use Rattle.format.specs.Grammar.{Reading}
use Rattle.format.specs.Machine.{read_of, read_answer, table_words}
use Rattle.format.specs.Says.{says, SayTheSame}
use Rattle.format.specs.Tidy.{tidy_of, tidy_answer, tidy_output, tidy_table}
use Rattle.num.specs.Le.{Bytes}
use Rattle.laws.specs.Answers.{accepted_of, refused_of}
use Rattle.readings.specs.Accept.{accepts}
use Rattle.demands.specs.Readings.{accepted_exactly, not_both}
use Rattle.format.specs.Promises.{ReadPromise, TidyPromise}

-- the rows of a reading in a table of n words
abbrev pub tabled : ℕ → List Row → List ℕ
tabled n rows = words rows ++ replicate (n - 8 * length rows) 0

-- ---- reading

-- s has a reading of n rows, which fit the table that held t and then holds u: the rows, then zeros
pub record HasRows (τ : Terms) (s t : List ℕ) (n : ℕ) (u : List ℕ) : Type 0 where
  pub rows : List Row
  pub reads : Reading τ s rows
  pub count : length rows ≡ n
  pub fit : n ≤ room_of t
  pub table_is : u ≡ tabled (length t) rows

pub read_accepts : (τ : Terms) (s t : List ℕ) → Bytes τ.book → Bytes s → (n : ℕ) (u : List ℕ) → ReadPromise τ s t (Ok n) u → HasRows τ s t n u
unfolding table_words
read_accepts τ s t booked byte n u p =
    let x = accepted_of (read_of τ s (room_of t)) n p.answer in
    let w = (accepted_exactly τ s booked byte (room_of t) x.0).0 x.1 in
    record {
      rows = x.0;
      reads = w.0;
      count = x.2;
      fit = subst (λ (k : ℕ). k ≤ room_of t) x.2 w.1;
      table_is = p.table ∙ ap (table_words (length t)) x.1;
    }

-- a reading whose rows fit the table is accepted
pub read_accepted : (τ : Terms) (s t : List ℕ) (rows : List Row) → Reading τ s rows → length rows ≤ room_of t → (a : Result ℕ Refused) (u : List ℕ) → ReadPromise τ s t a u
    → (a ≡ Ok (length rows)) × (u ≡ tabled (length t) rows)
unfolding read_answer table_words
read_accepted τ s t rows w l a u p =
    let e = accepts τ w (room_of t) l in
    (p.answer ∙ ap read_answer e, p.table ∙ ap (table_words (length t)) e)

-- after a refusal the table is all zeros, and no reading fits it
pub read_refuses : (τ : Terms) (s t : List ℕ) (r : Refusal) (place : ℕ) (u : List ℕ) → ReadPromise τ s t (Err (record { refusal = r; place = place })) u
    → (u ≡ replicate (length t) 0) × ((rows : List Row) → Reading τ s rows → length rows ≤ room_of t → ⊥)
unfolding table_words
read_refuses τ s t r place u p =
    let e = refused_of (read_of τ s (room_of t)) r place p.answer in
    (p.table ∙ ap (table_words (length t)) e, λ rows w l. not_both rows r place (sym (accepts τ w (room_of t) l) ∙ e))

-- ---- tidying

-- the reading of s fits the table that held t and then holds u; its tidy copy is the first n bytes of the output that held d and then holds e
pub record Tidied (τ : Terms) (s t d : List ℕ) (n : ℕ) (u e : List ℕ) : Type 0 where
  pub rows : List Row
  pub reads : Reading τ s rows
  pub fit : length rows ≤ room_of t
  pub table_is : u ≡ tabled (length t) rows
  pub size : length (tidy_of (says τ.book s rows)) ≡ n
  pub within : n ≤ length d
  pub small : length (tidy_of (says τ.book s rows)) ≤ 16777216
  pub copy_is : take n e ≡ tidy_of (says τ.book s rows)
  -- the rest of the output is as it was
  pub length_is : length e ≡ length d
  pub rest_is : drop n e ≡ drop n d

-- a reading whose rows fit the table, and whose copy fits the output and the stream limit, is written
pub tidy_written : (τ : Terms) (s t d : List ℕ) (rows : List Row) → Reading τ s rows → length rows ≤ room_of t → length (tidy_of (says τ.book s rows)) ≤ length d
    → length (tidy_of (says τ.book s rows)) ≤ 16777216 → (q : Result ℕ Untidied) (u e : List ℕ) → TidyPromise τ s t d q u e
    → (q ≡ Ok (length (tidy_of (says τ.book s rows)))) × ((u ≡ tabled (length t) rows) × (e ≡ laid (tidy_of (says τ.book s rows)) d))
unfolding tidy_answer tidy_table tidy_output table_words
tidy_written τ s t d rows w l within small q u e p =
    let c : List ℕ = tidy_of (says τ.book s rows) in
    let r = accepts τ w (room_of t) l in
    let i = le-leb (length c) (length d) within in
    let j = le-leb (length c) 16777216 small in (
      p.answer ∙ (ap (tidy_answer τ.book s d) r ∙ rw (i, j)),
      (p.table ∙ (ap (tidy_table (length t) τ.book s d) r ∙ rw (i, j)), p.output ∙ (ap (tidy_output τ.book s d) r ∙ rw (i, j))),
    )

-- the copy c of the list s, which is read under τ; read under υ with a table that held l: a is the answer, and v is then in the table
pub record CopyShown (τ υ : Terms) (s c l : List ℕ) (a : Result ℕ Refused) (v : List ℕ) : Type 0 where
  pub copies : List Row
  pub reads : Reading υ c copies
  pub answer_is : a ≡ Ok (length copies)
  pub table_is : v ≡ tabled (length l) copies
  -- no more rows than the list has, and by any book the same said
  pub no_more : (list : List Row) → Reading τ s list → length copies ≤ length list
  pub says_same : (β : List ℕ) (list : List Row) → Reading τ s list → SayTheSame β c copies τ.book s list
