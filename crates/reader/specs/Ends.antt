-- The ends of a stream: what is judged after the end record, and the answer and the words that are left.
use Rattle.std.specs.Prelude.{ℕ, ◌-◌, ◌*◌, ◌/◌, ◌≤◌, ◌<◌, ◌≡◌, refl, Bool, false, List, ◌++◌, length, get_or, replicate, Result, Ok, Err}
use Rattle.format.specs.declared.Refused.{Refused}
use Rattle.std.proofs.Common.{sym, subst, ◌∙◌, arith}
use Rattle.std.proofs.Math.Path.{ap}
use borrow.Author.Tests.{lt-ltb, le-ltb, eq-eqb, ne_eqb}
use Rattle.format.specs.Terms.{Terms}
use Rattle.format.specs.declared.Refusal.{Refusal}
use Rattle.format.specs.declared.Refusal.TheVariants as R
use Rattle.format.specs.declared.Row.{Row}
use Rattle.format.specs.declared.Reader.{Reader}
use Rattle.format.specs.declared.Where.TheVariants as W
use Rattle.format.specs.Bytes.{pick}
use Rattle.format.specs.Entries.{bad_entry}
use Rattle.format.specs.Rows.{blank, room_of, rows_of, words, object_row, find_from, is_lost, linked, bound}
use Rattle.format.specs.Machine.{State, Next, go, ended, Outcome, accepted, refused, finish, begin, start, top_level, record_step, stream_of, raw_of, with_links, read_of, read_answer, table_words}
use Rattle.format.specs.Promises.{ReadPromise}
use Rattle.format.proofs.Promised.{read_promised}
use Rattle.table.specs.Rows.{length_rows_of}
use Rattle.frames.specs.Frames.{saved}
use Rattle.adding.specs.declared.Progress.{Progress}
use Rattle.adding.specs.declared.Progress.TheVariants as Q
use Rattle.adding.specs.Held.{state_of, after, Held}
use Rattle.reader.specs.Fine.{Fine, NextFine, record_fine}
use Rattle.reader.specs.Loop.{Runs}

-- what an answer says of the table that it leaves
abbrev pub outcome_of : List ℕ → Result ℕ Refused → Outcome
outcome_of t (Ok n) = accepted (rows_of n t)
outcome_of t (Err r) = refused r.refusal r.place

-- what is left of an outcome: with keep its rows with what they were read with, but for references and the header; else with their links
abbrev pub end_by : Bool → Outcome → Outcome
end_by keep (accepted rows) = accepted (pick keep (bound rows) (linked rows))
end_by keep (refused r place) = refused r place

pub linked_end : (τ : Terms) (s : List ℕ) (room : ℕ) → end_by false (raw_of τ s room) ≡ read_of τ s room
unfolding read_of
linked_end τ s room = go (raw_of τ s room)
  where
    go : (o : Outcome) → end_by false o ≡ with_links o
    go (accepted rows) = refl
    go (refused r place) = refl

-- rows that are taken are within the table
abbrev pub Within : ℕ → Result ℕ Refused → Type 0
Within room (Ok n) = n ≤ room
Within room (Err r) = Unit {0}

pub within_room : (t t₀ : List ℕ) (r : Result ℕ Refused) → length t ≡ length t₀ → Within (room_of t) r → Within (room_of t₀) r
within_room t t₀ r l h = subst (λ (n : ℕ). Within (n / 8) r) l h

-- ---- after the end record

module _ (s : List ℕ) (rows : List Row) (at : ℕ) where
  pub trailing : at < length s → refused R.Trailing at ≡ finish s rows at
  unfolding finish
  trailing h = rw (lt-ltb at (length s) h)

  module _ (h : length s ≤ at) where
    pub rootless : (r : Row) (o : ℕ) → r ≡ get_or rows 0 blank → o ≡ object_row r.id rows → o ≡ 0 → refused R.NoRoot 0 ≡ finish s rows at
    unfolding finish
    rootless r o e f z =
        let k : object_row (get_or rows 0 blank).id rows ≡ 0 = ap (λ (x : Row). object_row x.id rows) (sym e) ∙ (sym f ∙ z) in
        rw (le-ltb at (length s) h, eq-eqb (object_row (get_or rows 0 blank).id rows) 0 k)

    module _ (r : Row) (o : ℕ) (e : r ≡ get_or rows 0 blank) (f : o ≡ object_row r.id rows) (z : o ≡ 0 → ⊥) where
      there : object_row (get_or rows 0 blank).id rows ≡ 0 → ⊥
      there k = z (f ∙ (ap (λ (x : Row). object_row x.id rows) e ∙ k))

      pub lost : (l : ℕ) (x : Row) → l ≡ find_from (is_lost rows) 0 rows → (l ≡ 0 → ⊥) → x ≡ get_or rows (l - 1) blank → refused R.NoObject x.offset ≡ finish s rows at
      unfolding finish
      lost l x g y k =
          rw (le-ltb at (length s) h, ne_eqb (object_row (get_or rows 0 blank).id rows) 0 there, ← g, ne_eqb l 0 y)
          (ap (λ (v : Row). refused R.NoObject v.offset) k)

      pub whole : (l : ℕ) → l ≡ find_from (is_lost rows) 0 rows → l ≡ 0 → accepted rows ≡ finish s rows at
      unfolding finish
      whole l g y =
          rw (le-ltb at (length s) h, ne_eqb (object_row (get_or rows 0 blank).id rows) 0 there, ← g, eq-eqb l 0 y)

-- ---- the limit, the book, and the header

module _ (τ : Terms) (s : List ℕ) (room : ℕ) where
  pub too_large : 16777216 < length s → refused R.TooLarge 0 ≡ raw_of τ s room
  unfolding raw_of
  too_large h = rw (lt-ltb 16777216 (length s) h)

  pub bad_book : length s ≤ 16777216 → (bad : ℕ) → bad ≡ bad_entry τ.book → (bad ≡ 0 → ⊥) → refused R.BadBook (bad - 1) ≡ raw_of τ s room
  unfolding raw_of
  bad_book h bad e z = rw (le-ltb 16777216 (length s) h, ← e, ne_eqb bad 0 z)

  pub good_book : length s ≤ 16777216 → bad_entry τ.book ≡ 0 → stream_of τ s room ≡ raw_of τ s room
  unfolding raw_of
  good_book h e = rw (le-ltb 16777216 (length s) h, eq-eqb (bad_entry τ.book) 0 e)

-- the reader at the start holds the machine's start
pub fresh_start : (t f : List ℕ) (m : Reader) → m ≡ record { at = 0; rows = 0; depth = 0; top = top_level } → state_of t f m ≡ start
unfolding rows_of saved
fresh_start t f m e = rw e

module _ (τ : Terms) (s t u f g : List ℕ) (m : Reader) (z : m ≡ record { at = 0; rows = 0; depth = 0; top = top_level }) (q : Result Progress Refused) (e : after u g q ≡ record_step τ s (room_of t) (state_of t f m) W.Start) where
  -- what the header's step says of the whole
  told : begin τ s (room_of t) (after u g q) ≡ stream_of τ s (room_of t)
  unfolding stream_of
  told = ap (begin τ s (room_of t)) (e ∙ ap (λ (st : State). record_step τ s (room_of t) st W.Start) (fresh_start t f m z))

  begun : begin τ s (room_of t) (after u g q) ≡ stream_of τ s (room_of t) → (x : Result Progress Refused) → q ≡ x → begin τ s (room_of t) (after u g x) ≡ stream_of τ s (room_of t)
  begun k x c = ap (λ (y : Result Progress Refused). begin τ s (room_of t) (after u g y)) (sym c) ∙ k

  fine₀ : Fine s (room_of t) start
  fine₀ = record { inside = omega arith; counted = omega arith; roomy = omega arith; shallow = omega arith }

  headed : NextFine s (room_of t) 0 (after u g q)
  headed =
      subst (λ (x : Next). NextFine s (room_of t) 0 x) (sym (e ∙ ap (λ (st : State). record_step τ s (room_of t) st W.Start) (fresh_start t f m z)))
      (record_fine τ s (room_of t) start fine₀ W.Start)

  pub head_on : (n : Reader) → q ≡ Ok (Q.Go n) → length g ≡ 384 → Runs τ s (room_of t) (stream_of τ s (room_of t)) u g n
  head_on n c d =
      let w : NextFine s (room_of t) 0 (go (state_of u g n)) = subst (λ (x : Result Progress Refused). NextFine s (room_of t) 0 (after u g x)) c headed in
      record { framed = d; fine = w.0; fuel = length s; enough = omega arith; same = begun told (Ok (Q.Go n)) c }

  pub head_end : (n p : ℕ) → q ≡ Ok (Q.Ended n p) → finish s (rows_of n u) p ≡ stream_of τ s (room_of t)
  head_end n p c = begun told (Ok (Q.Ended n p)) c

  pub head_roomy : (n p : ℕ) → q ≡ Ok (Q.Ended n p) → (n ≤ room_of t) × (n ≤ length s)
  head_roomy n p c =
      let w : NextFine s (room_of t) 0 (ended (rows_of n u) p) = subst (λ (x : Result Progress Refused). NextFine s (room_of t) 0 (after u g x)) c headed in
      let k : length (rows_of n u) ≡ n = length_rows_of n u in
      let a = w.0 in
      let b = w.1 in
      (omega arith, omega arith)

  pub head_bad : (r : Refusal) (p : ℕ) → q ≡ Err (record { refusal = r; place = p }) → refused r p ≡ stream_of τ s (room_of t)
  head_bad r p c = begun told (Err (record { refusal = r; place = p })) c

-- the same, said of the room that the table has now
pub runs_room : (τ : Terms) (s t u g : List ℕ) (n : Reader) → length u ≡ length t → Runs τ s (room_of t) (stream_of τ s (room_of t)) u g n → Runs τ s (room_of u) (stream_of τ s (room_of u)) u g n
runs_room τ s t u g n l w = subst (λ (k : ℕ). Runs τ s (k / 8) (stream_of τ s (k / 8)) u g n) (sym l) w

pub fresh_held : (room : ℕ) (m : Reader) → m ≡ record { at = 0; rows = 0; depth = 0; top = top_level } → Held room m
fresh_held room m e = rw e (record { inside = omega arith; counted = omega arith; roomy = omega arith; shallow = omega arith })

pub answered_room : (τ : Terms) (keep : Bool) (s t u v : List ℕ) (r : Result ℕ Refused) → length u ≡ length t → (outcome_of v r ≡ end_by keep (stream_of τ s (room_of u))) × Within (room_of u) r
    → (outcome_of v r ≡ end_by keep (stream_of τ s (room_of t))) × Within (room_of t) r
answered_room τ keep s t u v r l w = subst (λ (k : ℕ). (outcome_of v r ≡ end_by keep (stream_of τ s (k / 8))) × Within (k / 8) r) l w

-- ---- the answer and the words

-- the words that are left of a table that held t
abbrev pub left_by : List ℕ → Result ℕ Refused → List ℕ
left_by t (Ok k) = words (rows_of k t) ++ replicate (length t - 8 * k) 0
left_by t (Err r) = replicate (length t) 0

pub left_words : (n : ℕ) (t u : List ℕ) (a : Result ℕ Refused) (v : Outcome) → length t ≡ n → outcome_of t a ≡ v → u ≡ left_by t a → (a ≡ read_answer v) × (u ≡ table_words n v)
unfolding read_answer table_words
left_words n t u (Ok k) v l e w =
    let x : v ≡ accepted (rows_of k t) = sym e in
    let r : length (rows_of k t) ≡ k = length_rows_of k t in
    (rw (x, r), w ∙ rw (x, r, l))
left_words n t u (Err r) v l e w =
    let x : v ≡ refused r.refusal r.place = sym e in
    (rw x, w ∙ rw (x, l))

-- a reading by what is judged and what is left
pub read_left : (τ : Terms) (s t t₁ u : List ℕ) (a : Result ℕ Refused) → length t₁ ≡ length t → outcome_of t₁ a ≡ end_by false (raw_of τ s (room_of t)) → u ≡ left_by t₁ a → ReadPromise τ s t a u
read_left τ s t t₁ u a l e w =
    let x = left_words (length t) t₁ u a (read_of τ s (room_of t)) l (e ∙ linked_end τ s (room_of t)) w in
    read_promised τ s t a u x.0 x.1

-- for the code that leaves it: one law for each answer
module _ (t u : List ℕ) (a : Result ℕ Refused) where
  pub left_rows : (k : ℕ) → a ≡ Ok k → u ≡ words (rows_of k t) ++ replicate (length t - 8 * k) 0 → u ≡ left_by t a
  left_rows k c w = w ∙ sym (ap (left_by t) c)

  pub left_zeros : (r : Refusal) (p : ℕ) → a ≡ Err (record { refusal = r; place = p }) → u ≡ replicate (length t) 0 → u ≡ left_by t a
  left_zeros r p c w = w ∙ sym (ap (left_by t) c)

  pub within_rows : (room k : ℕ) → a ≡ Ok k → Within room a → k ≤ room
  within_rows room k c w = subst (λ (x : Result ℕ Refused). Within room x) c w
