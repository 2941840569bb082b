-- The comparing job from its parts: what a written copy says of its list and its output, and one law for each way that a function ends.
use Rattle.std.specs.Prelude.{ℕ, ◌-◌, ◌/◌, ◌≤◌, ◌≡◌, refl, Bool, true, false, drop, leb, eqb, Result, Ok, Err, MatchResult}
use Rattle.format.specs.declared.Untidied.{Untidied}
use Rattle.format.specs.declared.Uncompared.{Uncompared}
use Rattle.format.specs.declared.Untidied.TheVariants as Q
use Rattle.format.specs.declared.Uncompared.TheVariants as S
use Rattle.std.proofs.Common.{sym, ap, ◌∙◌, arith, leb-true}
use Rattle.std.proofs.Math.Path.{ap₂}
use mathlib.Core.List.{List}
use Rattle.std.proofs.Math.ListN.{length, take}
use Rattle.std.proofs.Math.Seq.{take-append_seam}
use Rattle.format.specs.Terms.{Terms}
use Rattle.format.specs.declared.Refusal.{Refusal}
use Rattle.format.specs.declared.Refusal.TheVariants as R
use Rattle.format.specs.declared.Row.{Row}
use Rattle.format.specs.Bytes.{pick, same_bytes, laid}
use Rattle.format.specs.Rows.{room_of}
use Rattle.format.specs.Machine.{Outcome, accepted, refused, read_of}
use Rattle.format.specs.Says.{says}
use Rattle.format.specs.Tidy.{tidy_of, fits, tidy_answer, tidy_output, tidy_table}
use Rattle.format.specs.Replies.{number_of, reply, tidy_reply, same_reply, of_tidying, of_comparing}
use Rattle.format.specs.Promises.{TidyPromise}
use Rattle.format.proofs.Promised.{tidy_promised}
use Rattle.num.specs.Le.{Bytes}
use Rattle.same.specs.Laws.{same_eq}
use Rattle.laws.specs.Tests.{bool_ext, both_of, apart, true_same}
use Rattle.demands.specs.Readings.{accepted_exactly}
use Rattle.demands.specs.Copies.{same_exactly}
use Rattle.demands.specs.Exactly.{same_meant}
use Rattle.sameness.specs.Sameness.{copied, answer_of, is_written, is_compared, Exact, ComparePromise}
use Rattle.sameness.specs.Laws.{compared_as, Against}

-- ---- two copies

-- whether they are the same list is the answer of the comparing
pub told : (z : Bool) (l m : List ℕ) → (z ≡ true → l ≡ m) × (l ≡ m → z ≡ true) → Ok z ≡ compared_as l m
told z l m w = ap Ok (bool_ext z (same_bytes l m) (λ i. true_same l m (w.0 i)) (λ i. w.1 (same_eq l m i)))

is_same : (z : Bool) → ◌≡◌ {A = Result Bool Uncompared} (Ok z) (Ok true) → z ≡ true
is_same true e = refl
is_same false e = absurd (let z : ◌≡◌ {A = ℕ} 0 1 = cc in omega arith)

-- ---- one tidying

-- an answer that `map_err` hands on as `Ok` was `Ok` before
pub kept : (r : Result ℕ Untidied) (n : ℕ) → MatchResult r (λ (x : ℕ). ◌≡◌ {A = Result ℕ Uncompared} (Ok n) (Ok x)) (λ (e : Untidied). ⊥) → r ≡ Ok n
kept (Ok x) n q = let w : n ≡ x = cc in ap Ok (sym w)
kept (Err e) n q = absurd q

-- the list s with this book and this outcome has its tidy copy in an output that held d
record Copy (β s d : List ℕ) (o : Outcome) : Type 0 where
  pub rows : List Row
  pub reads : o ≡ accepted rows
  pub roomy : length (copied β s o) ≤ length d
  pub small : length (tidy_of (says β s rows)) ≤ 16777216
  pub answer : tidy_answer β s d o ≡ Ok (length (copied β s o))
  pub output : tidy_output β s d o ≡ laid (copied β s o) d

fitting : (f : Bool) (n : ℕ) → is_written (pick f (Ok n) (Err (Q.OutFull n))) ≡ true → f ≡ true
fitting true n h = refl
fitting false n h = apart h

copy_of : (β s d : List ℕ) (o : Outcome) → is_written (tidy_answer β s d o) ≡ true → Copy β s d o
unfolding tidy_answer tidy_output
copy_of β s d (accepted rows) h =
    let c = tidy_of (says β s rows) in
    let f = fitting (fits c d) (length c) h in
    let b = both_of (leb (length c) (length d)) (leb (length c) 16777216) f in
    record {
      rows = rows;
      reads = refl;
      roomy = leb-true (length c) (length d) b.0;
      small = leb-true (length c) 16777216 b.1;
      answer = ap (λ (x : Bool). pick x (Ok (length c)) (Err (Q.OutFull (length c)))) f;
      output = ap (λ (x : Bool). pick x (laid c d) d) f;
    }
copy_of β s d (refused r p) h = apart h

module _ (τ : Terms) (s t d u e : List ℕ) (p : Result ℕ Untidied) (w : TidyPromise τ s t d p u e) (n : ℕ) (h : p ≡ Ok n) where
  copy_in : Copy τ.book s d (read_of τ s (room_of t))
  copy_in = copy_of τ.book s d (read_of τ s (room_of t)) (sym (ap is_written w.answer) ∙ ap is_written h)

  long : n ≡ length (copied τ.book s (read_of τ s (room_of t)))
  long = let k = copy_in.answer in cc

  pub copy_within : length e ≡ length d → n ≤ length e
  copy_within l = omega (arith, long, copy_in.roomy, l)

  -- the front of the output, as the code has it, is the copy
  front : take (n - 0) (drop 0 e) ≡ copied τ.book s (read_of τ s (room_of t))
  unfolding laid
  front =
      let m : n - 0 ≡ length (copied τ.book s (read_of τ s (room_of t))) = omega (arith, long) in
      ap₂ (λ (j : ℕ) (x : List ℕ). take j x) m (w.output ∙ copy_in.output) ∙ take-append_seam (copied τ.book s (read_of τ s (room_of t))) _

-- ---- the second list against a copy of the first

module _ (τ : Terms) (copy b t d u f : List ℕ) (p : Result ℕ Untidied) (w : TidyPromise τ b t d p u f) where
  abbrev answers : Result ℕ Untidied → Result Bool Uncompared
  answers x = answer_of (Ok (length copy)) x (same_bytes copy (copied τ.book b (read_of τ b (room_of t))))

  ends : (x : Result ℕ Untidied) → p ≡ x → (q : Result Bool Uncompared) → q ≡ answers x → Against τ copy b t d u f q
  ends x h q e = record { answer = e ∙ ap answers (sym h ∙ w.answer); table = w.table; second = w.output }

  pub second_written : (n : ℕ) → p ≡ Ok n → (q : Result Bool Uncompared) → q ≡ compared_as copy (take (n - 0) (drop 0 f)) → Against τ copy b t d u f q
  second_written n h q e = ends (Ok n) h q (e ∙ ap (compared_as copy) (front τ b t d u f p w n h))

  pub second_none : (why : Untidied) → p ≡ Err why → Against τ copy b t d u f (Err (S.Second why))
  second_none why h = ends (Err why) h (Err (S.Second why)) refl

-- ---- in numbers

-- no refusal has the number 0
number_not_0 : (r : Refusal) → eqb (number_of r) 0 ≡ false
number_not_0 R.TooLarge = refl
number_not_0 R.CutShort = refl
number_not_0 R.UnknownKind = refl
number_not_0 R.NotTaken = refl
number_not_0 R.WrongPlace = refl
number_not_0 R.BadVersion = refl
number_not_0 R.BadLength = refl
number_not_0 R.BadText = refl
number_not_0 R.BadCount = refl
number_not_0 R.BadType = refl
number_not_0 R.BadValue = refl
number_not_0 R.BadId = refl
number_not_0 R.NoLibrary = refl
number_not_0 R.NoClass = refl
number_not_0 R.TooDeep = refl
number_not_0 R.NoRoom = refl
number_not_0 R.Trailing = refl
number_not_0 R.NoRoot = refl
number_not_0 R.NoObject = refl
number_not_0 R.OutFull = refl
number_not_0 R.NoSuchRow = refl
number_not_0 R.BadBook = refl

-- the reply of an answer is that of the tidying that ends it
ended_by : (p q : Result ℕ Untidied) (z : Bool) → same_reply (answer_of p q z) ≡ of_comparing (tidy_reply p) (tidy_reply q)
ended_by (Ok m) (Ok n) z = refl
ended_by (Ok m) (Err (Q.Refused r)) z = sym (ap (λ (b : Bool). pick b (reply 0 0 0) (reply (number_of r.refusal) r.place 0)) (number_not_0 r.refusal))
ended_by (Ok m) (Err (Q.OutFull n)) z = refl
ended_by (Err (Q.Refused r)) q z =
    sym (ap (λ (b : Bool). pick b (pick (eqb (tidy_reply q).number 0) (reply 0 0 0) (tidy_reply q)) (reply (number_of r.refusal) r.place 0)) (number_not_0 r.refusal))
ended_by (Err (Q.OutFull m)) q z = refl

-- ---- both lists

both_written : (p q : Result ℕ Untidied) (z : Bool) → is_compared (answer_of p q z) ≡ true → (is_written p ≡ true) × (is_written q ≡ true)
both_written (Ok m) (Ok n) z h = (refl, refl)
both_written (Ok m) (Err why) z h = apart h
both_written (Err why) q z h = apart h

module _ (τ υ : Terms) (a b t c d : List ℕ) where
  -- the answer by what came of the first list, where the second is tidied with a table of k words
  abbrev answer_by : ℕ → Result ℕ Untidied → Result Bool Uncompared
  answer_by k x = answer_of x (tidy_answer υ.book b d (read_of υ b (k / 8))) (same_bytes (copied τ.book a (read_of τ a (room_of t))) (copied υ.book b (read_of υ b (k / 8))))

  abbrev Answer : Result Bool Uncompared → Type 0
  Answer q = q ≡ answer_by (length t) (tidy_answer τ.book a c (read_of τ a (room_of t)))

  -- and its reply
  numbered : same_reply (answer_by (length t) (tidy_answer τ.book a c (read_of τ a (room_of t)))) ≡ of_comparing (of_tidying τ.book a c (read_of τ a (room_of t))) (of_tidying υ.book b d (read_of υ b (room_of t)))
  numbered =
      ended_by (tidy_answer τ.book a c (read_of τ a (room_of t))) (tidy_answer υ.book b d (read_of υ b (room_of t))) _
      ∙ ap₂ of_comparing (tidy_promised τ a t c _ _ _ refl refl refl).numbers (tidy_promised υ b t d _ _ _ refl refl refl).numbers

  -- an answer that compares is right about what the lists mean
  right : Bytes τ.book → Bytes a → Bytes υ.book → Bytes b → (q : Result Bool Uncompared) → Answer q → is_compared q ≡ true → Exact τ υ a b (room_of t) q
  right booked byte other octet q e h =
      let o = read_of τ a (room_of t) in
      let r = read_of υ b (room_of t) in
      let equal = same_bytes (copied τ.book a o) (copied υ.book b r) in
      let w = both_written (tidy_answer τ.book a c o) (tidy_answer υ.book b d r) equal (sym (ap is_compared e) ∙ h) in
      let x = copy_of τ.book a c o w.0 in
      let y = copy_of υ.book b d r w.1 in
      let one = (accepted_exactly τ a booked byte (room_of t) x.rows).0 x.reads in
      let two = (accepted_exactly υ b other octet (room_of t) y.rows).0 y.reads in
      let say = same_exactly τ a x.rows one.0 x.small υ b y.rows two.0 y.small in
      let mean = same_meant τ υ one.0 two.0 in
      let k = ap (copied τ.book a) x.reads in
      let l = ap (copied υ.book b) y.reads in
      let z : q ≡ Ok equal = e ∙ ap₂ (λ (i j : Result ℕ Untidied). answer_of i j equal) x.answer y.answer in
      record {
        rows = x.rows;
        others = y.rows;
        first = one.0;
        second = two.0;
        first_fits = one.1;
        second_fits = two.1;
        exactly = (
          λ i. mean.0 (say.1 (sym k ∙ (same_eq (copied τ.book a o) (copied υ.book b r) (is_same equal (sym z ∙ i)) ∙ l))),
          λ i. z ∙ ap (λ (j : Bool). Ok j) (true_same (copied τ.book a o) (copied υ.book b r) (k ∙ (say.0 (mean.1 i) ∙ sym l))),
        );
      }

  module _ (u e : List ℕ) (p : Result ℕ Untidied) (w : TidyPromise τ a t c p u e) where
    abbrev table_by : ℕ → Result ℕ Untidied → List ℕ
    table_by k x = pick (is_written x) (tidy_table k υ.book b d (read_of υ b (k / 8))) (tidy_table (length t) τ.book a c (read_of τ a (room_of t)))

    abbrev second_by : ℕ → Result ℕ Untidied → List ℕ
    second_by k x = pick (is_written x) (tidy_output υ.book b d (read_of υ b (k / 8))) d

    answered : (x : Result ℕ Untidied) → p ≡ x → (v f : List ℕ) (q : Result Bool Uncompared) → q ≡ answer_by (length t) x
        → (Answer q → is_compared q ≡ true → Exact τ υ a b (room_of t) q) → v ≡ table_by (length t) x → f ≡ second_by (length t) x → ComparePromise τ υ a b t c d q v e f
    answered x h v f q y g i j =
        let k : x ≡ tidy_answer τ.book a c (read_of τ a (room_of t)) = sym h ∙ w.answer in
        let z : Answer q = y ∙ ap (answer_by (length t)) k in
        record {
          answer = z;
          numbers = ap same_reply z ∙ numbered;
          exact = g z;
          table = i ∙ ap (table_by (length t)) k;
          first = w.output;
          second = j ∙ ap (second_by (length t)) k;
        }

    -- the table is as long as it was, so the second reading has the same room
    pub first_written : Bytes τ.book → Bytes a → Bytes υ.book → Bytes b → length u ≡ length t → (m : ℕ) → p ≡ Ok m → (v f : List ℕ) (q : Result Bool Uncompared)
        → Against υ (take (m - 0) (drop 0 e)) b u d v f q → ComparePromise τ υ a b t c d q v e f
    first_written booked byte other octet l m h v f q g =
        let r = read_of υ b (room_of u) in
        let i = front τ a t c u e p w m h in
        let n = ap Ok (sym (long τ a t c u e p w m h)) in
        answered (Ok m) h v f q
        (g.answer
        ∙ (ap (λ (x : List ℕ). answer_of (Ok (length x)) (tidy_answer υ.book b d r) (same_bytes x (copied υ.book b r))) i
        ∙ ap₂ answer_by l n))
        (right booked byte other octet q) (g.table ∙ ap (λ (k : ℕ). table_by k (Ok m)) l) (g.second ∙ ap (λ (k : ℕ). second_by k (Ok m)) l)

    -- where the first list has no copy, the second is not tidied
    pub first_none : (why : Untidied) → p ≡ Err why → ComparePromise τ υ a b t c d (Err (S.First why)) u e d
    first_none why h = answered (Err why) h u d (Err (S.First why)) refl (λ z i. apart i) w.table refl
