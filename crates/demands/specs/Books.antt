-- The class book (02, (ii)) as a caller learns of it: where an entry is bad, reading and tidying answer so, at its place, whatever the list within the
-- stream limit is; and while no record can need the book, all good ones are alike.
use Rattle.std.specs.Prelude.{ℕ, ◌+◌, ◌≤◌, ◌≡◌, refl, List, [], length, replicate, ltb, Result, Err}
use Rattle.format.specs.declared.Refused.{Refused}
use Rattle.format.specs.declared.Untidied.{Untidied}
use Rattle.format.specs.declared.Untidied.TheVariants as Q
use Rattle.std.proofs.Math.Path.{ap}
use Rattle.std.proofs.Common.{◌∙◌}
use native.Mathlib.Omega.{arith}
use borrow.Author.Tests.{le-ltb, eq-eqb, ne_eqb}
use Rattle.format.specs.Terms.{Terms, terms}
use Rattle.format.specs.declared.Setting.{Setting}
use Rattle.format.specs.declared.Refusal.TheVariants as R
use Rattle.format.specs.Bytes.{pick}
use Rattle.format.specs.Book.{book_bytes}
use Rattle.format.specs.Entries.{bad_entry, bad_from}
use Rattle.format.specs.Rows.{room_of}
use Rattle.format.specs.Grammar.{no_entry, Book}
use Rattle.format.specs.Machine.{Outcome, refused, stream_of, raw_of, with_links, read_of, read_answer, table_words}
use Rattle.format.specs.Tidy.{tidy_answer, tidy_output, tidy_table}
use Rattle.format.specs.Promises.{ReadPromise, TidyPromise}
use Rattle.num.specs.Le.{Bytes}
use Rattle.demands.specs.Unneeded.{stream_same}

-- bytes of which no entry is bad
abbrev pub GoodBook : List ℕ → Type 0
GoodBook β = Bytes β × (bad_entry β ≡ 0)

-- no bytes are a good book, without entries
pub no_book : Book [] []
unfolding book_bytes
no_book = record { bytes_are = refl; good = no_entry; small = omega arith }

pub no_bytes : GoodBook []
unfolding bad_entry bad_from
no_bytes = (λ i. omega arith, refl)

-- with two good books under one setting every list comes to the same; no record of kind 2 or 3 is taken
pub books_alike : (σ : Setting) (β γ : List ℕ) → bad_entry β ≡ 0 → bad_entry γ ≡ 0 → (s : List ℕ) (room : ℕ) → read_of (terms σ β) s room ≡ read_of (terms σ γ) s room
unfolding read_of raw_of
books_alike σ β γ a b s room =
    rw (eq-eqb (bad_entry β) 0 a, eq-eqb (bad_entry γ) 0 b)
    (ap (λ (o : Outcome). with_links (pick (ltb 16777216 (length s)) (refused R.TooLarge 0) o)) (stream_same σ β γ s room))

-- ---- a list within the stream limit

module _ (τ : Terms) (s : List ℕ) (small : length s ≤ 16777216) where
  -- with a good book the stream decides
  pub good_read : bad_entry τ.book ≡ 0 → (room : ℕ) → read_of τ s room ≡ with_links (stream_of τ s room)
  unfolding read_of raw_of
  good_read e room = rw (le-ltb 16777216 (length s) small, eq-eqb (bad_entry τ.book) 0 e)

  -- with a bad one nothing of it is read; p is the place of the first bad entry
  pub bad_read : (p : ℕ) → bad_entry τ.book ≡ p + 1 → (room : ℕ) → read_of τ s room ≡ refused R.BadBook p
  unfolding read_of raw_of
  bad_read p e room =
      let n : p + 1 ≡ 0 → ⊥ = λ z. omega arith in
      rw (le-ltb 16777216 (length s) small, e, ne_eqb (p + 1) 0 n) (ap (refused R.BadBook) (omega arith))

  -- ---- from the promises

  -- the table is then all zeros
  pub book_first_lem : (t : List ℕ) (p : ℕ) → bad_entry τ.book ≡ p + 1 → (a : Result ℕ Refused) (u : List ℕ) → ReadPromise τ s t a u
      → (a ≡ Err (record { refusal = R.BadBook; place = p })) × (u ≡ replicate (length t) 0)
  unfolding read_answer table_words
  book_first_lem t p e a u w =
      let x = bad_read p e (room_of t) in
      (w.answer ∙ ap read_answer x, w.table ∙ ap (table_words (length t)) x)

  -- and the output as it was
  pub book_first_tidy : (t d : List ℕ) (p : ℕ) → bad_entry τ.book ≡ p + 1 → (q : Result ℕ Untidied) (u e : List ℕ) → TidyPromise τ s t d q u e
      → (q ≡ Err (Q.Refused (record { refusal = R.BadBook; place = p }))) × ((u ≡ replicate (length t) 0) × (e ≡ d))
  unfolding tidy_answer tidy_table tidy_output
  book_first_tidy t d p e q u f w =
      let x = bad_read p e (room_of t) in
      (w.answer ∙ ap (tidy_answer τ.book s d) x, (w.table ∙ ap (tidy_table (length t) τ.book s d) x, w.output ∙ ap (tidy_output τ.book s d) x))
