-- Text at a place: one law for each answer, where it ends, `Local`; and the bound of the bytes that a first byte announces.
use Rattle.std.specs.Prelude.{ℕ, ◌+◌, ◌-◌, ◌≤◌, ◌<◌, ◌≡◌, List, ◌++◌, true, false, length, drop, ltb, Ok, Err}
use Rattle.std.proofs.Common.{arith}
use Rattle.format.specs.declared.Refusal.TheVariants as R
use Rattle.format.specs.Bytes.{part}
use Rattle.format.specs.Text.{need_of, well_formed, text_at}
use Rattle.format.specs.Local.{Local}
use Rattle.fields.specs.Judged.{picked, judged_at, judged_short, judged_good, judged_bad, Taken, judged_taken, judged_only, judged_local}

pub text_short : (s : List ℕ) (at n : ℕ) → length s < at + n → text_at s at n ≡ Err R.CutShort
unfolding text_at judged_at
text_short s at n h = judged_short well_formed R.BadText s at n h

-- the part as code has it, from at to at + n
module _ (s : List ℕ) (at n : ℕ) (h : at + n ≤ length s) where
  pub text_good : well_formed (part s at (at + n - at)) ≡ true → text_at s at n ≡ Ok (at + n)
  unfolding text_at judged_at
  text_good g = judged_good well_formed R.BadText s at n h g

  pub text_bad : well_formed (part s at (at + n - at)) ≡ false → text_at s at n ≡ Err R.BadText
  unfolding text_at judged_at
  text_bad g = judged_bad well_formed R.BadText s at n h g

-- what an end says: where it is, that the part is there, and that it is text
pub text_taken : (s : List ℕ) (at n e : ℕ) → text_at s at n ≡ Ok e → Taken well_formed s at n e
unfolding text_at judged_at
text_taken s at n e q = judged_taken well_formed R.BadText s at n e q

pub text_moves : (s : List ℕ) (at n e : ℕ) → text_at s at n ≡ Ok e → (e ≡ at + n) × (e ≤ length s)
text_moves s at n e q =
    let w = text_taken s at n e q in
    let ends = w.ends in
    let room = w.room in
    (ends, omega arith)

-- also where n is 0, at a place that the stream has
pub text_only : (s t rest : List ℕ) (p q n e : ℕ) → text_at s p n ≡ Ok e → q ≤ length t → drop q t ≡ part s p (e - p) ++ rest
    → text_at t q n ≡ Ok (q + (e - p))
unfolding text_at judged_at
text_only s t rest p q n e f h d = judged_only well_formed R.BadText s t rest p q n e f h d

-- past the end of a stream no bytes stand too, but there no text of 0 bytes is read: hence 0 < n
pub text_local : (n : ℕ) → 0 < n → Local (λ s p. text_at s p n)
unfolding text_at judged_at
text_local n h = judged_local well_formed R.BadText n h

pub need_bound : (b : ℕ) → need_of b ≤ 4
unfolding need_of
need_bound b =
    picked (λ n. n ≤ 4) (ltb b 0x80) (λ t. omega arith)
    (λ t. picked (λ n. n ≤ 4) (ltb b 0xC2) (λ t. omega arith)
    (λ t. picked (λ n. n ≤ 4) (ltb b 0xE0) (λ t. omega arith)
    (λ t. picked (λ n. n ≤ 4) (ltb b 0xF0) (λ t. omega arith)
    (λ t. picked (λ n. n ≤ 4) (ltb b 0xF5) (λ t. omega arith) (λ t. omega arith)))))
