-- What a caller of the tidy job learns where no copy was written: a refusal is that of the reading, with the table all zeros and the output as it was;
-- a copy that has no room is announced with its length. And which lists come to that.
use Rattle.std.specs.Prelude.{ℕ, ◌<◌, ◌≡◌, refl, ◌⊎◌, Bool, true, false, ◌&&◌, List, length, leb, Ok, Err}
use Rattle.format.specs.declared.Untidied.TheVariants as Q
use Rattle.std.proofs.Common.{sym, ap, subst, ◌∙◌, inl, inr, arith, leb-false}
use Rattle.format.specs.Terms.{Terms}
use Rattle.format.specs.declared.Row.{Row}
use Rattle.format.specs.Rows.{room_of}
use Rattle.format.specs.Machine.{Outcome, accepted, refused, read_of}
use Rattle.format.specs.Says.{says}
use Rattle.format.specs.Tidy.{fits, tidy_of, tidy_answer, tidy_output, tidy_table}
use Rattle.format.specs.Promises.{TidyPromise}
use Rattle.fields.specs.Judged.{other}
use Rattle.num.specs.Le.{Bytes}
use Rattle.demands.specs.Readings.{accepted_exactly}
use Rattle.demands.specs.Tidyings.{TooLong}

record CopyOver (β s d : List ℕ) (o : Outcome) (n : ℕ) : Type 0 where
  rows : List Row
  taken : o ≡ accepted rows
  size : length (tidy_of (says β s rows)) ≡ n
  room : fits (tidy_of (says β s rows)) d ≡ false

full_by : (β s d : List ℕ) (o : Outcome) (n : ℕ) → Err (Q.OutFull n) ≡ tidy_answer β s d o → CopyOver β s d o n
unfolding tidy_answer
full_by β s d (accepted rows) n e =
    let c : List ℕ = tidy_of (says β s rows) in
    let x = other (fits c d) (Ok (length c)) (Err (Q.OutFull (length c))) (Err (Q.OutFull n)) (sym e) (λ h. let z : ◌≡◌ {A = ℕ} 0 1 = cc in omega arith) in
    record { rows = rows; taken = refl; size = (let y = x.1 in cc); room = x.0 }
full_by β s d (refused r p) n e = absurd (let z : ◌≡◌ {A = ℕ} 0 1 = cc in omega arith)

-- a copy that does not fit is longer than the output or than the stream limit
over_of : (n m : ℕ) → leb n m && leb n 16777216 ≡ false → (m < n) ⊎ (16777216 < n)
over_of n m e = go (leb n m) refl e
  where
    go : (b : Bool) → leb n m ≡ b → b && leb n 16777216 ≡ false → (m < n) ⊎ (16777216 < n)
    go true q e = inr (leb-false n 16777216 e)
    go false q e = inl (leb-false n m q)

pub tidy_full : (τ : Terms) (s t d : List ℕ) → Bytes τ.book → Bytes s → (n : ℕ) (u e : List ℕ) → TidyPromise τ s t d (Err (Q.OutFull n)) u e → TooLong τ s t d n u e
unfolding tidy_table tidy_output
tidy_full τ s t d booked byte n u e p =
    let x = full_by τ.book s d (read_of τ s (room_of t)) n p.answer in
    let rows = x.rows in
    let w = (accepted_exactly τ s booked byte (room_of t) rows).0 x.taken in
    record {
      rows = rows;
      reads = w.0;
      fit = w.1;
      table_is = p.table ∙ (ap (tidy_table (length t) τ.book s d) x.taken ∙ rw x.room);
      output_is = p.output ∙ (ap (tidy_output τ.book s d) x.taken ∙ rw x.room);
      size = x.size;
      over = subst (λ (k : ℕ). (length d < k) ⊎ (16777216 < k)) x.size (over_of (length (tidy_of (says τ.book s rows))) (length d) x.room);
    }
