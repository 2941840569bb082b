-- Demand 3: a tidy copy is itself accepted, under any terms with a good book and with the same rows, no more than its list has; it says what its list said, by any
-- book, and comes out unchanged when tidied again; two lists, each read under terms of its own, say the same exactly when their tidy copies are equal, byte for byte.
-- Of every reading whose tidy copy is within the stream limit.
use Rattle.std.specs.Prelude.{ℕ, ◌≤◌, ◌≡◌, ◌↔◌, List, [], length}
use Rattle.std.proofs.Common.{sym, ap, subst, ◌∙◌, arith}
use Rattle.format.specs.Terms.{Terms}
use Rattle.format.specs.declared.Row.{Row}
use Rattle.format.specs.Contents.{Class}
use Rattle.format.specs.Grammar.{Book, Reading}
use Rattle.format.specs.Says.{says, SayTheSame}
use Rattle.format.specs.Tidy.{tidy_of}
use Rattle.num.specs.Le.{Bytes}
use Rattle.meaning.specs.FromReading.{stands}
use Rattle.readings.specs.Accept.{accepts}
use Rattle.saying.specs.SaidGood.{said_good}
use Rattle.again.specs.Read.{table_of, length_table, reading}
use Rattle.again.specs.Again.{written_says}
use Rattle.fewer.specs.Fewer.{fewer}
use Rattle.demands.specs.Readings.{reading_unique}

-- the tidy copy has a reading under any terms with a good book, with the same rows, no more than the list's
pub record Accepted (τ : Terms) (s : List ℕ) (rows : List Row) : Type 0 where
  pub copies : List Row
  pub reads : (υ : Terms) (cs : List Class) → Book υ.book cs → Reading υ (tidy_of (says τ.book s rows)) copies
  pub no_more : length copies ≤ length rows

pub tidy_accepted : (τ : Terms) (s : List ℕ) → Bytes s → (rows : List Row) → Reading τ s rows → length (tidy_of (says τ.book s rows)) ≤ 16777216 → Accepted τ s rows
tidy_accepted τ s byte rows w small =
    let m = says τ.book s rows in
    let f = fewer τ s rows (stands τ s byte (length rows) rows (accepts τ w (length rows) (omega arith))) in
    let l = length_table m in
    record { copies = table_of m; reads = λ υ cs book. reading υ m (said_good τ s rows w) small cs book; no_more = omega arith }

-- a list read under τ, its copy under υ
module _ (τ υ : Terms) (s : List ℕ) (rows : List Row) (w : Reading τ s rows) (small : length (tidy_of (says τ.book s rows)) ≤ 16777216) where
  -- every reading of the copy is the one that it was written for
  one_reading : (copies : List Row) → Reading υ (tidy_of (says τ.book s rows)) copies → copies ≡ table_of (says τ.book s rows)
  one_reading copies r = reading_unique υ (tidy_of (says τ.book s rows)) copies (table_of (says τ.book s rows)) r (reading υ (says τ.book s rows) (said_good τ s rows w) small r.classes r.book_is)

  -- by any book the copy says what the list says by its own
  pub tidy_says : (β : List ℕ) (copies : List Row) → Reading υ (tidy_of (says τ.book s rows)) copies → SayTheSame β (tidy_of (says τ.book s rows)) copies τ.book s rows
  tidy_says β copies r = ap (says β (tidy_of (says τ.book s rows))) (one_reading copies r) ∙ written_says υ (says τ.book s rows) (said_good τ s rows w) small β

  -- what a copy says depends on no book
  pub copy_says_alike : (β γ : List ℕ) (copies : List Row) → Reading υ (tidy_of (says τ.book s rows)) copies
      → says β (tidy_of (says τ.book s rows)) copies ≡ says γ (tidy_of (says τ.book s rows)) copies
  copy_says_alike β γ copies r = tidy_says β copies r ∙ sym (tidy_says γ copies r)

  pub tidy_again : (β : List ℕ) (copies : List Row) → Reading υ (tidy_of (says τ.book s rows)) copies → tidy_of (says β (tidy_of (says τ.book s rows)) copies) ≡ tidy_of (says τ.book s rows)
  tidy_again β copies r = ap tidy_of (tidy_says β copies r)

-- two lists say the same exactly when their tidy copies are equal, each read under its own terms
pub same_exactly : (τ : Terms) (s : List ℕ) (rows : List Row) → Reading τ s rows → length (tidy_of (says τ.book s rows)) ≤ 16777216
    → (υ : Terms) (t : List ℕ) (others : List Row) → Reading υ t others → length (tidy_of (says υ.book t others)) ≤ 16777216
    → SayTheSame τ.book s rows υ.book t others ↔ (tidy_of (says τ.book s rows) ≡ tidy_of (says υ.book t others))
same_exactly τ s rows a small υ t others b little = (ap tidy_of, back)
  where
    back : tidy_of (says τ.book s rows) ≡ tidy_of (says υ.book t others) → says τ.book s rows ≡ says υ.book t others
    back e =
        let m = says τ.book s rows in
        let r : Reading τ (tidy_of m) (table_of m) = reading τ m (said_good τ s rows a) small a.classes a.book_is in
        let x : says [] (tidy_of m) (table_of m) ≡ says τ.book s rows = tidy_says τ τ s rows a small [] (table_of m) r in
        let y = tidy_says υ τ t others b little [] (table_of m) (subst (λ (c : List ℕ). Reading τ c (table_of m)) e r) in
        sym x ∙ (ap (λ (c : List ℕ). says [] c (table_of m)) e ∙ y)
