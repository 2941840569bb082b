-- Fields one after the other keep to what each of them keeps to.
use Prim.Native.Nat.{ℕ, zero, suc, ◌+◌, ◌-◌, ◌≤◌, ◌<◌}
use Rattle.std.specs.Prelude.{◌≡◌, refl, Bool, drop, Result, Ok, Err}
use Rattle.std.proofs.Common.{sym, ap, ◌∙◌}
use mathlib.Core.List.{List, ◌++◌}
use native.Mathlib.Omega.{arith}
use Rattle.std.proofs.Math.ListN.{length}
use Rattle.format.specs.declared.Refusal.{Refusal}
use Rattle.format.specs.Bytes.{part}
use Rattle.format.specs.Local.{Local}
use Rattle.format.specs.Values.{on_end, times}
use Rattle.fields.specs.Parts.{length_part, halves, stands_at}
use Rattle.fields.specs.Judged.{no_end, judged_at, judged_taken, judged_only}

-- What format's Local says, of places within a stream: for fields that may have no bytes.
pub record Kept (field : List ℕ → ℕ → Result ℕ Refusal) : Type 0 where
  pub moves : (s : List ℕ) (p e : ℕ) → p ≤ length s → field s p ≡ Ok e → (p ≤ e) × (e ≤ length s)
  pub only : (s t rest : List ℕ) (p q e : ℕ) → p ≤ length s → q ≤ length t → field s p ≡ Ok e → drop q t ≡ part s p (e - p) ++ rest
      → field t q ≡ Ok (q + (e - p))

pub local_kept : (field : List ℕ → ℕ → Result ℕ Refusal) → Local field → Kept field
local_kept field f = record { moves = λ s p e h q. f.moves s p e q; only = λ s t rest p q e h g x d. f.only s t rest p q e x d }

-- two fields with the same answers
pub same_local : (f g : List ℕ → ℕ → Result ℕ Refusal) → ((s : List ℕ) (p : ℕ) → f s p ≡ g s p) → Local g → Local f
same_local f g same v =
    record {
      moves = λ s p e q. v.moves s p e (sym (same s p) ∙ q);
      only = λ s t rest p q e x d. same t q ∙ v.only s t rest p q e (sym (same s p) ∙ x) d;
    }

pub judged_kept : (test : List ℕ → Bool) (refusal : Refusal) (n : ℕ) → Kept (λ s p. judged_at test refusal s p n)
judged_kept test refusal n =
    record {
      moves = λ s p e h q. let w = judged_taken test refusal s p n e q in (omega arith, omega arith);
      only = λ s t rest p q e h i x d. judged_only test refusal s t rest p q n e x i d;
    }

-- the place in between
pub through : (k : ℕ → Result ℕ Refusal) (r : Result ℕ Refusal) (e : ℕ) → on_end k r ≡ Ok e → (m : ℕ) × (r ≡ Ok m) × (k m ≡ Ok e)
through k (Ok m) e q = (m, refl, q)
through k (Err f) e q = absurd (no_end f e q)

module _ (f g : List ℕ → ℕ → Result ℕ Refusal) where
  abbrev pub then : List ℕ → ℕ → Result ℕ Refusal
  then s p = on_end (g s) (f s p)

  pub then_kept : Kept f → Kept g → Kept then
  then_kept u v = record { moves = moves; only = only }
    where
      moves : (s : List ℕ) (p e : ℕ) → p ≤ length s → then s p ≡ Ok e → (p ≤ e) × (e ≤ length s)
      moves s p e h q =
          let x = through (g s) (f s p) e q in
          let a = u.moves s p x.0 h x.1 in
          let b = v.moves s x.0 e a.1 x.2 in
          (omega arith, b.1)

      only : (s t rest : List ℕ) (p q e : ℕ) → p ≤ length s → q ≤ length t → then s p ≡ Ok e → drop q t ≡ part s p (e - p) ++ rest
          → then t q ≡ Ok (q + (e - p))
      only s t rest p q e h i z d =
          let x = through (g s) (f s p) e z in
          let m = x.0 in
          let a = u.moves s p m h x.1 in
          let b = v.moves s m e a.1 x.2 in
          let d2 = halves s t rest p m e q a.0 b.0 d in
          let j : p + (m - p) ≤ length s = omega arith in
          let w = stands_at t (part s p (m - p)) (part s m (e - m) ++ rest) q (m - p) (length_part s p (m - p) j) i d2 in
          let y = u.only s t (part s m (e - m) ++ rest) p q m h i x.1 d2 in
          let r = v.only s t rest m (q + (m - p)) e a.1 w.room x.2 w.after in
          let k : q + (m - p) + (e - m) ≡ q + (e - p) = omega arith in
          rw (y, r, k)

  -- where the first has bytes, the places need not be within the streams
  pub then_local : Local f → Kept g → Local then
  then_local u v = record { moves = moves; only = only }
    where
      inside : (s : List ℕ) (p m : ℕ) → f s p ≡ Ok m → p ≤ length s
      inside s p m q = let a = u.moves s p m q in omega arith

      moves : (s : List ℕ) (p e : ℕ) → then s p ≡ Ok e → (p ≤ e) × (e ≤ length s)
      moves s p e q =
          let x = through (g s) (f s p) e q in
          (then_kept (local_kept f u) v).moves s p e (inside s p x.0 x.1) q

      only : (s t rest : List ℕ) (p q e : ℕ) → then s p ≡ Ok e → drop q t ≡ part s p (e - p) ++ rest → then t q ≡ Ok (q + (e - p))
      only s t rest p q e z d =
          let x = through (g s) (f s p) e z in
          let m = x.0 in
          let a = u.moves s p m x.1 in
          let b = v.moves s m e a.1 x.2 in
          let y = u.only s t (part s m (e - m) ++ rest) p q m x.1 (halves s t rest p m e q a.0 b.0 d) in
          (then_kept (local_kept f u) v).only s t rest p q e (inside s p m x.1) (inside t q (q + (m - p)) y) z d

module _ (f : List ℕ → ℕ → Result ℕ Refusal) where
  pub times_kept : Kept f → (n : ℕ) → Kept (λ s p. times (f s) n p)
  unfolding times
  times_kept u zero = record { moves = none; only = same }
    where
      none : (s : List ℕ) (p e : ℕ) → p ≤ length s → ◌≡◌ {A = Result ℕ Refusal} (Ok p) (Ok e) → (p ≤ e) × (e ≤ length s)
      none s p e h q = let a : p ≡ e = cc in (omega arith, omega arith)

      same : (s t rest : List ℕ) (p q e : ℕ) → p ≤ length s → q ≤ length t → ◌≡◌ {A = Result ℕ Refusal} (Ok p) (Ok e) → drop q t ≡ part s p (e - p) ++ rest → ◌≡◌ {A = Result ℕ Refusal} (Ok q) (Ok (q + (e - p)))
      same s t rest p q e h i z d =
          let a : p ≡ e = cc in
          ap Ok (omega arith)
  times_kept u (suc n) = then_kept f (λ s p. times (f s) n p) u (times_kept u n)

  pub times_local : Local f → (n : ℕ) → Local (λ s p. times (f s) (suc n) p)
  unfolding times
  times_local u n = then_local f (λ s p. times (f s) n p) u (times_kept (local_kept f u) n)

-- ---- for a loop: no field is left, or one more is read

pub times_none : (f : ℕ → Result ℕ Refusal) (n p : ℕ) → n ≤ 0 → times f n p ≡ Ok p
unfolding times
times_none f zero p h = refl
times_none f (suc n) p h = absurd (omega arith)

pub times_step : (f : ℕ → Result ℕ Refusal) (n p : ℕ) → 0 < n → times f n p ≡ on_end (times f (n - 1)) (f p)
unfolding times
times_step f zero p h = absurd (omega arith)
times_step f (suc n) p h =
    let d : suc n - 1 ≡ n = omega arith in
    rw d

-- what the field at p answered, r, decides the rest
pub times_more : (f : ℕ → Result ℕ Refusal) (n p q : ℕ) (r : Result ℕ Refusal) → 0 < n → r ≡ f p → r ≡ Ok q → times f n p ≡ times f (n - 1) q
times_more f n p q r h e d = times_step f n p h ∙ ap (on_end (times f (n - 1))) (sym e ∙ d)

pub times_fault : (f : ℕ → Result ℕ Refusal) (n p : ℕ) (x : Refusal) (r : Result ℕ Refusal) → 0 < n → r ≡ f p → r ≡ Err x → times f n p ≡ Err x
times_fault f n p x r h e d = times_step f n p h ∙ ap (on_end (times f (n - 1))) (sym e ∙ d)

-- ---- the same, by the turns of a loop: i fields of n are read

pub turn_first : (f : ℕ → Result ℕ Refusal) (n p : ℕ) → times f n p ≡ times f (n - 0) p
turn_first f n p = let e : n - 0 ≡ n = omega arith in rw e

pub turn_more : (f : ℕ → Result ℕ Refusal) (n i p q : ℕ) (r : Result ℕ Refusal) → i < n → r ≡ f p → r ≡ Ok q → times f (n - i) p ≡ times f (n - (i + 1)) q
turn_more f n i p q r h e d =
    let k : n - (i + 1) ≡ n - i - 1 = omega arith in
    rw k (times_more f (n - i) p q r (omega arith) e d)

pub turn_fault : (f : ℕ → Result ℕ Refusal) (n i p : ℕ) (x : Refusal) (r : Result ℕ Refusal) → i < n → r ≡ f p → r ≡ Err x → times f (n - i) p ≡ Err x
turn_fault f n i p x r h e d = times_fault f (n - i) p x r (omega arith) e d

pub turn_last : (f : ℕ → Result ℕ Refusal) (n i p : ℕ) → n ≤ i → times f (n - i) p ≡ Ok p
turn_last f n i p h = times_none f (n - i) p (omega arith)
