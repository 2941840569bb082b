-- The tidy job from its parts: what an accepted reading says of the table, that the copy written from marked rows is the tidy copy, and the table
-- at the end.
use Rattle.std.specs.Prelude.{ℕ, zero, suc, ◌+◌, ◌≤◌, ◌<◌, refl, Bool, false, length, get_or, drop, replicate, Result, Ok, Err}
use Rattle.format.specs.declared.Refused.{Refused}
use Rattle.format.specs.declared.Untidied.{Untidied}
use Rattle.format.specs.declared.Untidied.TheVariants as Q
use Rattle.std.proofs.Math.Path.{◌≡◌, sym, ap}
use Rattle.std.proofs.Common.{ap₂, subst, ◌∙◌, arith, get_or-drop}
use Rattle.std.proofs.Math.Bool.{true}
use mathlib.Core.List.{List}
use Rattle.format.specs.Terms.{Terms}
use Rattle.format.specs.declared.Setting.{Setting}
use Rattle.format.specs.declared.Refusal.{Refusal}
use Rattle.format.specs.declared.Row.{Row}
use Rattle.format.specs.Bytes.{pick}
use Rattle.format.specs.Rows.{blank, room_of, rows_of, linked, bound}
use Rattle.format.specs.Machine.{Outcome, accepted, refused, raw_of, with_links, read_of, table_words}
use Rattle.format.specs.Says.{says}
use Rattle.format.specs.Tidy.{tidy_of, fits, answer_by, out_by, tidy_answer, tidy_output, tidy_table}
use Rattle.format.specs.Promises.{TidyPromise}
use Rattle.format.proofs.Promised.{tidy_promised}
use Rattle.table.specs.Rows.{length_rows_of, room_kept}
use Rattle.links.specs.Links.{length_bound}
use Rattle.reader.specs.Ends.{outcome_of, end_by}
use Rattle.standing.specs.Accepted.{raw_stands}
use Rattle.marks.specs.Marks.{marked}
use Rattle.pieces.specs.Copy.{anew_in, copy_of}
use Rattle.meaning.specs.FromReading.{members_small}
use Rattle.meaning.specs.Bound.{copy_is_tidy}
use Rattle.meaning.specs.Small.{copy_small}

-- the table after a copy, by the answer
abbrev pub restored : Terms → List ℕ → List ℕ → Result ℕ Untidied → List ℕ
restored τ s t (Ok n) = table_words (length t) (read_of τ s (room_of t))
restored τ s t (Err why) = replicate (length t) 0

module _ (τ : Terms) (s t u : List ℕ) (q : Result ℕ Untidied) where
  pub restored_read : (n : ℕ) → q ≡ Ok n → u ≡ table_words (length t) (read_of τ s (room_of t)) → u ≡ restored τ s t q
  restored_read n k e = e ∙ sym (ap (restored τ s t) k)

  pub restored_none : (why : Untidied) → q ≡ Err why → u ≡ replicate (length t) 0 → u ≡ restored τ s t q
  restored_none why k e = e ∙ sym (ap (restored τ s t) k)

  pub restored_refused : (r : Refusal) (p : ℕ) → q ≡ Err (Q.Refused (record { refusal = r; place = p })) → u ≡ replicate (length t) 0 → u ≡ restored τ s t q
  restored_refused r p = restored_none (Q.Refused (record { refusal = r; place = p }))

  pub restored_full : (n : ℕ) → q ≡ Err (Q.OutFull n) → u ≡ replicate (length t) 0 → u ≡ restored τ s t q
  restored_full n = restored_none (Q.OutFull n)

-- ---- an accepted reading

-- the stream s was read into a table that held t, which then held u and n bound rows
pub record Read (τ : Terms) (s t u : List ℕ) (n : ℕ) : Type 0 where
  pub raw : List Row
  pub reads : raw_of τ s (room_of t) ≡ accepted raw
  pub rows_are : rows_of n u ≡ bound raw
  pub few : n ≤ 16777216
  pub roomy : n ≤ room_of u

module _ (τ : Terms) (s t u : List ℕ) (a : Result ℕ Refused) (l : length u ≡ length t) (e : outcome_of u a ≡ end_by true (raw_of τ s (room_of t))) where
  pub read_of_lem : (n : ℕ) → a ≡ Ok n → Read τ s t u n
  read_of_lem n k = go (raw_of τ s (room_of t)) refl (sym (ap (outcome_of u) k) ∙ e)
    where
      go : (o : Outcome) → raw_of τ s (room_of t) ≡ o → accepted (rows_of n u) ≡ end_by true o → Read τ s t u n
      go (accepted raw) q e =
          let y = raw_stands τ s (room_of t) raw q in
          let same : rows_of n u ≡ bound raw = cc in
          let c : n ≡ length raw = sym (length_rows_of n u) ∙ (ap length same ∙ length_bound raw) in
          let d = y.stands.counted in
          let f = y.stands.fits in
          let g = y.roomy in
          let r = room_kept t u l in
          record { raw = raw; reads = q; rows_are = same; few = omega arith; roomy = omega arith }
      go (refused r place) q e = absurd (let z : ◌≡◌ {A = ℕ} 0 1 = cc in omega arith)

  -- a refused reading, and the outcome of the whole
  pub refused_read : (r : Refusal) (p : ℕ) → a ≡ Err (record { refusal = r; place = p }) → read_of τ s (room_of t) ≡ refused r p
  unfolding read_of
  refused_read r p k = go (raw_of τ s (room_of t)) (sym (ap (outcome_of u) k) ∙ e)
    where
      go : (o : Outcome) → refused r p ≡ end_by true o → with_links o ≡ refused r p
      go (accepted raw) e = absurd (let z : ◌≡◌ {A = ℕ} 0 1 = cc in omega arith)
      go (refused x y) e = sym e

-- ---- the code whose values are written anew, as the code hands it on

module _ (σ : Setting) (δ : ℕ) (e : δ ≡ anew_in σ) (s : List ℕ) (rs : List Row) where
  same_copy : copy_of δ s rs ≡ copy_of (anew_in σ) s rs
  same_copy = ap (λ (k : ℕ). copy_of k s rs) e

  pub anew_short : length (copy_of (anew_in σ) s rs) ≤ 18446744073709551615 → length (copy_of δ s rs) ≤ 18446744073709551615
  anew_short h = subst (λ (l : List ℕ). length l ≤ 18446744073709551615) (sym same_copy) h

  pub anew_answer : (q : Result ℕ Untidied) (d : List ℕ) → q ≡ answer_by (copy_of δ s rs) d → q ≡ answer_by (copy_of (anew_in σ) s rs) d
  anew_answer q d a = a ∙ ap (λ (l : List ℕ). answer_by l d) same_copy

  pub anew_output : (d d' : List ℕ) → d' ≡ out_by (copy_of δ s rs) d → d' ≡ out_by (copy_of (anew_in σ) s rs) d
  anew_output d d' o = o ∙ ap (λ (l : List ℕ). out_by l d) same_copy

-- ---- the copy

-- a row's words are words of the table
counts_small : (n : ℕ) (t : List ℕ) → ((i : ℕ) → get_or t i 0 < 4294967296) → (j : ℕ) → (get_or (rows_of n t) j blank).count < 4294967296
unfolding rows_of
counts_small zero t h j = omega arith
counts_small (suc n) t h zero = h 7
counts_small (suc n) t h (suc j) = counts_small n (drop 8 t) (λ i. rw (get_or-drop 8 t i 0) (h (8 + i))) j

module _ (τ : Terms) (s t u v : List ℕ) (n : ℕ) (byte : (i : ℕ) → get_or s i 0 < 256) (w : Read τ s t u n) (m : rows_of n v ≡ marked s (rows_of n u)) where
  abbrev copy : List ℕ
  copy = copy_of (anew_in τ.setting) s (rows_of n v)

  copy_rows : copy ≡ copy_of (anew_in τ.setting) s (marked s (bound w.raw))
  copy_rows = ap (copy_of (anew_in τ.setting) s) (m ∙ ap (marked s) w.rows_are)

  -- the rows of the reading
  abbrev rows : List Row
  rows = linked w.raw

  reads : read_of τ s (room_of t) ≡ accepted rows
  unfolding read_of
  reads = ap with_links w.reads

  copy_is : copy ≡ tidy_of (says τ.book s rows)
  copy_is = copy_rows ∙ copy_is_tidy τ s byte (room_of t) w.raw w.reads

  -- the words of the table are words
  pub copy_short : ((i : ℕ) → get_or v i 0 < 4294967296) → length copy ≤ 18446744073709551615
  copy_short words =
      let x = raw_stands τ s (room_of t) w.raw w.reads in
      let c : length (bound w.raw) ≡ n = ap length (sym w.rows_are) ∙ length_rows_of n u in
      let f = w.few in
      let same : rows_of n v ≡ marked s (bound w.raw) = m ∙ ap (marked s) w.rows_are in
      rw copy_rows
      (copy_small (anew_in τ.setting) s (bound w.raw) x.stands.fits (omega arith) (members_small τ s (room_of t) w.raw w.reads)
      (subst (λ (rows : List Row). (j : ℕ) → (get_or rows j blank).count < 4294967296) same (counts_small n v words)))

  module _ (d e y : List ℕ) (q : Result ℕ Untidied) (a : q ≡ answer_by copy d) (o : e ≡ out_by copy d) (l : length v ≡ length t) (z : y ≡ restored τ s v q) where
    answer_is : q ≡ tidy_answer τ.book s d (read_of τ s (room_of t))
    unfolding tidy_answer
    answer_is = rw reads (a ∙ ap (λ (c : List ℕ). answer_by c d) copy_is)

    output_is : e ≡ tidy_output τ.book s d (read_of τ s (room_of t))
    unfolding tidy_output
    output_is = rw reads (o ∙ ap (λ (c : List ℕ). out_by c d) copy_is)

    by_fits : (b : Bool) (x : ℕ) → restored τ s v (pick b (Ok x) (Err (Q.OutFull x))) ≡ pick b (table_words (length v) (read_of τ s (room_of v))) (replicate (length v) 0)
    by_fits true x = refl
    by_fits false x = refl

    table_is : y ≡ tidy_table (length t) τ.book s d (read_of τ s (room_of t))
    unfolding tidy_table
    table_is =
        let c = tidy_of (says τ.book s rows) in
        let r : read_of τ s (room_of v) ≡ accepted rows = ap (read_of τ s) (room_kept t v l) ∙ reads in
        z
        ∙ (ap (restored τ s v) (a ∙ ap (λ (c : List ℕ). answer_by c d) copy_is)
        ∙ (by_fits (fits c d) (length c)
        ∙ (ap₂ (λ (o : Outcome) (k : ℕ). pick (fits c d) (table_words k o) (replicate k 0)) r l
        ∙ ap (tidy_table (length t) τ.book s d) (sym reads))))

    -- answer, table and output together
    pub tidied : TidyPromise τ s t d q y e
    tidied = tidy_promised τ s t d q y e answer_is table_is output_is

-- ---- a refused reading

module _ (τ : Terms) (s t u d : List ℕ) (r : Refusal) (p : ℕ) (outcome : read_of τ s (room_of t) ≡ refused r p) (w : u ≡ replicate (length t) 0) where
  refused_answer : Err (Q.Refused (record { refusal = r; place = p })) ≡ tidy_answer τ.book s d (read_of τ s (room_of t))
  unfolding tidy_answer
  refused_answer = rw outcome

  refused_table : u ≡ tidy_table (length t) τ.book s d (read_of τ s (room_of t))
  unfolding tidy_table
  refused_table = w ∙ rw outcome

  refused_output : d ≡ tidy_output τ.book s d (read_of τ s (room_of t))
  unfolding tidy_output
  refused_output = rw outcome

  pub untidied : TidyPromise τ s t d (Err (Q.Refused (record { refusal = r; place = p }))) u d
  untidied = tidy_promised τ s t d (Err (Q.Refused (record { refusal = r; place = p }))) u d refused_answer refused_table refused_output
