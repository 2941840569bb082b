-- What a caller learns of a list from the promises of the public jobs alone: what an answer of reading says about the list's readings, that tidy
-- copies tell whether two lists say the same, and that a copy is read and tidied again.
use Rattle.std.specs.Prelude.{ℕ, ◌/◌, ◌≤◌, ◌≡◌, refl, ◌↔◌, true, List, length, take, drop, leb, Result, Ok, Err}
use Rattle.format.specs.declared.Refused.{Refused}
use Rattle.format.specs.declared.Untidied.{Untidied}
use Rattle.format.specs.declared.Untidied.TheVariants as Q
use Rattle.std.proofs.Common.{sym, ap, subst, ◌∙◌, arith, length-append, length-drop, drop_at, leb-true}
use Rattle.std.proofs.Math.Seq.{take-append_seam}
use Rattle.format.specs.Terms.{Terms}
use Rattle.format.specs.declared.Row.{Row}
use Rattle.format.specs.Bytes.{laid}
use Rattle.format.specs.Rows.{room_of}
use Rattle.format.specs.Contents.{Class}
use Rattle.format.specs.Grammar.{Book, Reading}
use Rattle.format.specs.Machine.{Outcome, accepted, refused, read_of, table_words}
use Rattle.format.specs.Says.{says, SayTheSame}
use Rattle.format.specs.Tidy.{fits, tidy_of, tidy_answer, tidy_output, tidy_table}
use Rattle.fields.specs.Judged.{told}
use Rattle.num.specs.Le.{Bytes}
use Rattle.laws.specs.Tests.{both_of}
use Rattle.demands.specs.Readings.{accepted_exactly, reading_unique}
use Rattle.demands.specs.Copies.{tidy_accepted, tidy_says, tidy_again, same_exactly}
use Rattle.format.specs.Promises.{ReadPromise, TidyPromise}
use Rattle.demands.specs.Calls.{read_accepted, Tidied, tidy_written, CopyShown}

take_laid : (b d : List ℕ) → take (length b) (laid b d) ≡ b
unfolding laid
take_laid b d = take-append_seam b (drop (length b) d)

-- beyond the bytes that are laid
rest_laid : (b d : List ℕ) (n : ℕ) → length b ≡ n → n ≤ length d → (length (laid b d) ≡ length d) × (drop n (laid b d) ≡ drop n d)
unfolding laid
rest_laid b d n z w =
    let a = length-append b (drop (length b) d) in
    let c = length-drop (length b) d in
    (omega arith, drop_at b (drop (length b) d) n z ∙ ap (λ (k : ℕ). drop k d) z)

-- a Written answer: an accepted reading whose copy fits
record CopyFits (β s d : List ℕ) (o : Outcome) (n : ℕ) : Type 0 where
  rows : List Row
  taken : o ≡ accepted rows
  size : length (tidy_of (says β s rows)) ≡ n
  room : fits (tidy_of (says β s rows)) d ≡ true

wrote : (β s d : List ℕ) (o : Outcome) (n : ℕ) → Ok n ≡ tidy_answer β s d o → CopyFits β s d o n
unfolding tidy_answer
wrote β s d (accepted rows) n e =
    let c : List ℕ = tidy_of (says β s rows) in
    let x = told (fits c d) (Ok (length c)) (Err (Q.OutFull (length c))) (Ok n) (sym e) (λ h. let z : ◌≡◌ {A = ℕ} 0 1 = cc in omega arith) in
    record { rows = rows; taken = refl; size = (let y = x.1 in cc); room = x.0 }
wrote β s d (refused r p) n e = absurd (let z : ◌≡◌ {A = ℕ} 0 1 = cc in omega arith)

pub tidy_writes : (τ : Terms) (s t d : List ℕ) → Bytes τ.book → Bytes s → (n : ℕ) (u e : List ℕ) → TidyPromise τ s t d (Ok n) u e → Tidied τ s t d n u e
unfolding tidy_table tidy_output table_words
tidy_writes τ s t d booked byte n u e p =
    let o = read_of τ s (room_of t) in
    let x = wrote τ.book s d o n p.answer in
    let rows = x.rows in
    let c : List ℕ = tidy_of (says τ.book s rows) in
    let w = (accepted_exactly τ s booked byte (room_of t) rows).0 x.taken in
    let b = both_of (leb (length c) (length d)) (leb (length c) 16777216) x.room in
    let l : length c ≤ length d = leb-true (length c) (length d) b.0 in
    let z : e ≡ laid c d = p.output ∙ (ap (tidy_output τ.book s d) x.taken ∙ rw x.room) in
    let k : n ≤ length d = subst (λ (k : ℕ). k ≤ length d) x.size l in
    let r = rest_laid c d n x.size k in
    record {
      rows = rows;
      reads = w.0;
      fit = w.1;
      table_is = p.table ∙ (ap (tidy_table (length t) τ.book s d) x.taken ∙ rw x.room);
      size = x.size;
      within = k;
      small = leb-true (length c) 16777216 b.1;
      copy_is = ap (take n) z ∙ (ap (λ (k : ℕ). take k (laid c d)) (sym x.size) ∙ take_laid c d);
      length_is = ap length z ∙ r.0;
      rest_is = ap (drop n) z ∙ r.1;
    }

-- the copy of a list by any reading of it
copy_of : (τ : Terms) (s t d : List ℕ) (n : ℕ) (u e : List ℕ) → Tidied τ s t d n u e → (rows : List Row) → Reading τ s rows
    → (take n e ≡ tidy_of (says τ.book s rows)) × (length (tidy_of (says τ.book s rows)) ≤ 16777216)
copy_of τ s t d n u e x rows w =
    subst (λ (r : List Row). (take n e ≡ tidy_of (says τ.book s r)) × (length (tidy_of (says τ.book s r)) ≤ 16777216))
    (reading_unique τ s x.rows rows x.reads w) (x.copy_is, x.small)

-- two calls that both answer Written, each under its own terms, leave equal copies exactly when the lists say the same
pub two_tidied : (τ : Terms) (s t d : List ℕ) → Bytes τ.book → Bytes s → (n : ℕ) (u e : List ℕ) → TidyPromise τ s t d (Ok n) u e
    → (τ' : Terms) (s' t' d' : List ℕ) → Bytes τ'.book → Bytes s' → (m : ℕ) (u' e' : List ℕ) → TidyPromise τ' s' t' d' (Ok m) u' e'
    → (rows others : List Row) → Reading τ s rows → Reading τ' s' others → SayTheSame τ.book s rows τ'.book s' others ↔ (take n e ≡ take m e')
two_tidied τ s t d booked byte n u e p τ' s' t' d' booked' byte' m u' e' p' rows others w w' =
    let a = copy_of τ s t d n u e (tidy_writes τ s t d booked byte n u e p) rows w in
    let b = copy_of τ' s' t' d' m u' e' (tidy_writes τ' s' t' d' booked' byte' m u' e' p') others w' in
    let x = same_exactly τ s rows w a.1 τ' s' others w' b.1 in
    (λ h. a.0 ∙ (x.0 h ∙ sym b.0), λ h. x.1 (sym a.0 ∙ (h ∙ b.0)))

-- after a call that answers Written n, under any terms with a good book and with a table as long as the one that was lent
module _ (τ : Terms) (s t d : List ℕ) (booked : Bytes τ.book) (byte : Bytes s) (n : ℕ) (u e : List ℕ) (p : TidyPromise τ s t d (Ok n) u e) (l : List ℕ) (as_long : length l ≡ length t) where
  abbrev rows : List Row
  rows = (tidy_writes τ s t d booked byte n u e p).rows

  -- the rows of the copy's readings, which fit the table
  record CopyReads : Type 0 where
    copies : List Row
    reads : (υ : Terms) (cs : List Class) → Book υ.book cs → Reading υ (take n e) copies
    no_more : length copies ≤ length rows
    same : (β : List ℕ) → SayTheSame β (take n e) copies τ.book s rows
    fit : length copies ≤ room_of l

  again : CopyReads
  again =
      let x = tidy_writes τ s t d booked byte n u e p in
      let y = tidy_accepted τ s byte rows x.reads x.small in
      let k : length y.copies ≤ length rows = y.no_more in
      let f : length rows ≤ room_of t = x.fit in
      let r = y.reads τ x.reads.classes x.reads.book_is in
      record {
        copies = y.copies;
        reads = λ υ cs book. subst (λ (c : List ℕ). Reading υ c y.copies) (sym x.copy_is) (y.reads υ cs book);
        no_more = k;
        same = λ β. subst (λ (c : List ℕ). SayTheSame β c y.copies τ.book s rows) (sym x.copy_is) (tidy_says τ τ s rows x.reads x.small β y.copies r);
        fit = subst (λ (j : ℕ). length y.copies ≤ j / 8) (sym as_long) (omega arith);
      }

  -- reading the copy answers Accepted, with no more rows than the list has, and by any book the copy says what the list said
  pub tidied_read : (υ : Terms) (cs : List Class) → Book υ.book cs → (a : Result ℕ Refused) (v : List ℕ) → ReadPromise υ (take n e) l a v → CopyShown τ υ s (take n e) l a v
  tidied_read υ cs book a v q =
      let x = again in
      let r = (tidy_writes τ s t d booked byte n u e p).reads in
      let o = read_accepted υ (take n e) l x.copies (x.reads υ cs book) x.fit a v q in
      record {
        copies = x.copies;
        reads = x.reads υ cs book;
        answer_is = o.0;
        table_is = o.1;
        no_more = λ list w. subst (λ (z : List Row). length x.copies ≤ length z) (reading_unique τ s rows list r w) x.no_more;
        says_same = λ β list w. subst (λ (z : List Row). SayTheSame β (take n e) x.copies τ.book s z) (reading_unique τ s rows list r w) (x.same β);
      }

  -- tidying the copy writes the copy, into any output that holds it
  pub tidied_again : (υ : Terms) (cs : List Class) → Book υ.book cs → (f : List ℕ) → n ≤ length f → (q : Result ℕ Untidied) (v g : List ℕ) → TidyPromise υ (take n e) l f q v g
      → (q ≡ Ok n) × ((g ≡ laid (take n e) f) × (take n g ≡ take n e))
  tidied_again υ cs book f room q v g z =
      let x = tidy_writes τ s t d booked byte n u e p in
      let y = again in
      let same : tidy_of (says υ.book (take n e) y.copies) ≡ take n e =
      subst (λ (c : List ℕ). Reading υ c y.copies → tidy_of (says υ.book c y.copies) ≡ c) (sym x.copy_is)
      (tidy_again τ υ s rows x.reads x.small υ.book y.copies) (y.reads υ cs book)
      in
      let size : length (take n e) ≡ n = ap length x.copy_is ∙ x.size in
      let k = ap length same ∙ size in
      let few : n ≤ 16777216 = subst (λ (j : ℕ). j ≤ 16777216) x.size x.small in
      let o = tidy_written υ (take n e) l f y.copies (y.reads υ cs book) y.fit (omega arith) (omega arith) q v g z in
      let wrote : g ≡ laid (take n e) f = o.1.1 ∙ ap (λ (c : List ℕ). laid c f) same in (
        o.0 ∙ ap Ok k,
        (wrote, ap (take n) wrote ∙ (ap (λ (j : ℕ). take j (laid (take n e) f)) (sym size) ∙ take_laid (take n e) f)),
      )
