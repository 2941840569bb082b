-- What a caller of the tidy job learns where no copy was written: a refusal is that of the reading, with the table all zeros and the output as it was;
-- a copy that has no room is announced with its length. And which lists come to that.
use Rattle.std.specs.Prelude.{ℕ, ◌≤◌, ◌<◌, ◌≡◌, refl, ◌⊎◌, Bool, true, false, ◌&&◌, List, length, replicate, leb, Result, Ok, Err}
use Rattle.format.specs.declared.Refused.{Refused}
use Rattle.format.specs.declared.Untidied.{Untidied}
use Rattle.format.specs.declared.Untidied.TheVariants as Q
use Rattle.std.proofs.Common.{sym, ap, ◌∙◌, inl, inr, arith}
use Rattle.std.proofs.lemmas.Bool.{lt-leb}
use Rattle.format.specs.Terms.{Terms}
use Rattle.format.specs.declared.Refusal.{Refusal}
use Rattle.format.specs.declared.Row.{Row}
use Rattle.format.specs.Bytes.{pick}
use Rattle.format.specs.Rows.{room_of}
use Rattle.format.specs.Grammar.{Reading}
use Rattle.format.specs.Machine.{Outcome, accepted, refused, read_of, read_answer, table_words}
use Rattle.format.specs.Says.{says}
use Rattle.format.specs.Tidy.{fits, tidy_of, tidy_answer, tidy_output, tidy_table}
use Rattle.format.specs.Promises.{ReadPromise, TidyPromise}
use Rattle.num.specs.Le.{Bytes}
use Rattle.readings.specs.Accept.{accepts}
use Rattle.demands.specs.Readings.{accepted_exactly, not_both}

-- ---- refused

-- a Refused answer is that of the reading
refused_by : (β s d : List ℕ) (o : Outcome) (r : Refusal) (p : ℕ) → Err (Q.Refused (record { refusal = r; place = p })) ≡ tidy_answer β s d o → o ≡ refused r p
unfolding tidy_answer
refused_by β s d (accepted rows) r p e = absurd (no (fits (tidy_of (says β s rows)) d) (length (tidy_of (says β s rows))) e)
  where
    no : (b : Bool) (n : ℕ) → Err (Q.Refused (record { refusal = r; place = p })) ≡ pick b (Ok n) (Err (Q.OutFull n)) → ⊥
    no true n e = let z : ◌≡◌ {A = ℕ} 0 1 = cc in omega arith
    no false n e = let z : ◌≡◌ {A = ℕ} 0 1 = cc in omega arith
refused_by β s d (refused x y) r p e =
    let w : ◌≡◌ {A = Refused} (record { refusal = r; place = p }) (record { refusal = x; place = y }) = cc in
    sym (ap (λ (z : Refused). refused z.refusal z.place) w)

-- after a refusal the table is all zeros, the output is as it was, and no reading fits the table
pub tidy_refuses : (τ : Terms) (s t d : List ℕ) (r : Refusal) (place : ℕ) (u e : List ℕ) → TidyPromise τ s t d (Err (Q.Refused (record { refusal = r; place = place }))) u e
    → (u ≡ replicate (length t) 0) × ((e ≡ d) × ((rows : List Row) → Reading τ s rows → length rows ≤ room_of t → ⊥))
unfolding tidy_table tidy_output
tidy_refuses τ s t d r place u e p =
    let x = refused_by τ.book s d (read_of τ s (room_of t)) r place p.answer in (
      p.table ∙ ap (tidy_table (length t) τ.book s d) x,
      (p.output ∙ ap (tidy_output τ.book s d) x, λ rows w l. not_both rows r place (sym (accepts τ w (room_of t) l) ∙ x)),
    )

-- and reading would be refused so
pub tidy_refused_as_read : (τ : Terms) (s t d : List ℕ) (r : Refusal) (place : ℕ) (u e : List ℕ) → TidyPromise τ s t d (Err (Q.Refused (record { refusal = r; place = place }))) u e
    → (a : Result ℕ Refused) (v : List ℕ) → ReadPromise τ s t a v → (a ≡ Err (record { refusal = r; place = place })) × (v ≡ u)
unfolding read_answer table_words tidy_table
tidy_refused_as_read τ s t d r place u e p a v q =
    let x = refused_by τ.book s d (read_of τ s (room_of t)) r place p.answer in (
      q.answer ∙ ap read_answer x,
      q.table ∙ (ap (table_words (length t)) x ∙ sym (p.table ∙ ap (tidy_table (length t) τ.book s d) x)),
    )

-- ---- no room for the copy

-- s has a reading that fits the table, and its copy, of n bytes, does not fit: the table that held t is all zeros, the output that held d holds it
pub record TooLong (τ : Terms) (s t d : List ℕ) (n : ℕ) (u e : List ℕ) : Type 0 where
  pub rows : List Row
  pub reads : Reading τ s rows
  pub fit : length rows ≤ room_of t
  pub table_is : u ≡ replicate (length t) 0
  pub output_is : e ≡ d
  pub size : length (tidy_of (says τ.book s rows)) ≡ n
  pub over : (length d < n) ⊎ (16777216 < n)

-- a reading that fits the table, with a copy that is too long, is announced so
pub tidy_over : (τ : Terms) (s t d : List ℕ) (rows : List Row) → Reading τ s rows → length rows ≤ room_of t
    → (length d < length (tidy_of (says τ.book s rows))) ⊎ (16777216 < length (tidy_of (says τ.book s rows))) → (q : Result ℕ Untidied) (u e : List ℕ) → TidyPromise τ s t d q u e
    → (q ≡ Err (Q.OutFull (length (tidy_of (says τ.book s rows))))) × ((u ≡ replicate (length t) 0) × (e ≡ d))
unfolding tidy_answer tidy_table tidy_output
tidy_over τ s t d rows w l over q u e p =
    let c : List ℕ = tidy_of (says τ.book s rows) in
    let r = accepts τ w (room_of t) l in
    let i : fits c d ≡ false = too_long (length c) (length d) over in (
      p.answer ∙ (ap (tidy_answer τ.book s d) r ∙ rw i),
      (p.table ∙ (ap (tidy_table (length t) τ.book s d) r ∙ rw i), p.output ∙ (ap (tidy_output τ.book s d) r ∙ rw i)),
    )
  where
    never : (b : Bool) → b && false ≡ false
    never true = refl
    never false = refl

    too_long : (n m : ℕ) → (m < n) ⊎ (16777216 < n) → leb n m && leb n 16777216 ≡ false
    too_long n m (inl h) = rw (lt-leb n m h)
    too_long n m (inr h) = rw (lt-leb n 16777216 h) (never (leb n m))

-- a list with no reading that fits the table is refused
pub tidy_none : (τ : Terms) (s t d : List ℕ) → Bytes τ.book → Bytes s → ((rows : List Row) → Reading τ s rows → length rows ≤ room_of t → ⊥) → (q : Result ℕ Untidied) (u e : List ℕ)
    → TidyPromise τ s t d q u e → (r : Refusal) × (place : ℕ) × (q ≡ Err (Q.Refused (record { refusal = r; place = place })))
unfolding tidy_answer
tidy_none τ s t d booked byte none q u e p = go (read_of τ s (room_of t)) refl
  where
    go : (o : Outcome) → read_of τ s (room_of t) ≡ o → (r : Refusal) × (place : ℕ) × (q ≡ Err (Q.Refused (record { refusal = r; place = place })))
    go (accepted rows) x = let w = (accepted_exactly τ s booked byte (room_of t) rows).0 x in absurd (none rows w.0 w.1)
    go (refused r place) x = (r, place, p.answer ∙ ap (tidy_answer τ.book s d) x)
