-- Each value is some bytes that a test judges.
use Rattle.std.specs.Prelude.{ℕ, ◌+◌, ◌<◌, ◌≡◌, refl, Bool, List, length, ltb, leb, eqb, Some, None, Result, Ok, Err}
use Rattle.format.specs.declared.Refusal.{Refusal}
use Rattle.std.proofs.Common.{◌∙◌, arith, lt-ltb, le-ltb, le-leb}
use Rattle.std.proofs.Math.Bool.{true, false}
use Rattle.std.proofs.Math.Decide.{dec_lt}
use Rattle.std.proofs.Math.ListN.{get_or}
use Rattle.std.proofs.lemmas.Bool.{eqb-false, lt-leb}
use Rattle.format.specs.declared.Setting.{Setting}
use Rattle.format.specs.declared.Refusal.TheVariants as R
use Rattle.format.specs.declared.Setting.TheVariants as Q
use Rattle.format.specs.Bytes.{pick, part}
use Rattle.format.specs.Numbers.{le, u64_at}
use Rattle.format.specs.Prefix.{prefix_at}
use Rattle.format.specs.Text.{need_of, well_formed}
use Rattle.format.specs.Values.{bytes_at, boolean_at, scalar_at, char_at, decimal, decimal_text, decimal_from, decimal_at, date_time, date_time_of, date_time_at}
use Rattle.fields.specs.Parts.{part_first}
use Rattle.fields.specs.Judged.{told, other, passes, no_end, Taken, judged_at, judged_taken, judged_end}
use Rattle.strings.specs.Counted.{Counted}
use Rattle.value_forms.specs.Ends.{char_scalar}

abbrev pub any : List ℕ → Bool
any l = true

pub bytes_judged : (s : List ℕ) (p n : ℕ) → bytes_at s p n ≡ judged_at any R.BadValue s p n
unfolding bytes_at judged_at
bytes_judged s p n = refl

-- ---- Boolean

abbrev pub truth : List ℕ → Bool
truth l = leb (get_or l 0 0) 1

pub boolean_judged : (s : List ℕ) (p : ℕ) → boolean_at s p ≡ judged_at truth R.BadValue s p 1
unfolding boolean_at judged_at
boolean_judged s p = go (dec_lt p (length s))
  where
    go : Dec (p < length s)
        → pick (ltb p (length s)) (pick (leb (get_or s p 0) 1) (Ok (p + 1)) (Err R.BadValue)) (Err R.CutShort)
        ≡ pick (leb (p + 1) (length s)) (pick (leb (get_or (part s p 1) 0 0) 1) (Ok (p + 1)) (Err R.BadValue)) (Err R.CutShort)
    go (yes h) = rw (lt-ltb p (length s) h, le-leb (p + 1) (length s) (omega arith), part_first s p 1 (omega arith))
    go (no h) = rw (le-ltb p (length s) (omega arith), lt-leb (p + 1) (length s) (omega arith))

-- ---- DateTime

abbrev pub moment : List ℕ → Bool
moment l = date_time (le l)

pub date_judged : (s : List ℕ) (p : ℕ) → date_time_at s p ≡ judged_at moment R.BadValue s p 8
unfolding date_time_at u64_at judged_at
date_judged s p = go (leb (p + 8) (length s))
  where
    x : ℕ
    x = le (part s p 8)

    go : (t : Bool) → date_time_of (pick t (Some (le (part s p 8), p + 8)) None)
        ≡ pick t (pick (date_time (le (part s p 8))) (Ok (p + 8)) (Err R.BadValue)) (Err R.CutShort)
    go true = refl
    go false = refl

-- ---- Char: its first byte tells how many

abbrev pub char_width : ℕ → ℕ
char_width b = need_of b + 1

abbrev pub one_scalar : List ℕ → Bool
one_scalar l = pick (eqb (need_of (get_or l 0 0)) 4) false (well_formed l)

module _ (s : List ℕ) (p e : ℕ) where
  pub char_taken : char_at s p ≡ Ok e → Taken one_scalar s p (char_width (get_or s p 0)) e
  unfolding char_at scalar_at judged_at
  char_taken q =
      let b = get_or s p 0 in
      let n = need_of b + 1 in
      let u = told (ltb p (length s)) (pick (eqb (need_of b) 4) (Err R.BadValue) (scalar_at s p n)) (Err R.CutShort) (Ok e) q (no_end R.CutShort e) in
      let v = other (eqb (need_of b) 4) (Err R.BadValue) (scalar_at s p n) (Ok e) u.1 (no_end R.BadValue e) in
      let w = judged_taken well_formed R.BadValue s p n e v.1 in
      record { ends = w.ends; room = w.room; good = rw (part_first s p n (omega arith), v.0) w.good }

  pub char_of : Taken one_scalar s p (char_width (get_or s p 0)) e → char_at s p ≡ Ok e
  unfolding scalar_at judged_at
  char_of w =
      let b = get_or s p 0 in
      let n = need_of b + 1 in
      let g : pick (eqb (need_of b) 4) false (well_formed (part s p n)) ≡ true = rw (part_first s p n (omega arith)) at w.good in
      let v = passes (eqb (need_of b) 4) (well_formed (part s p n)) g in
      char_scalar s p (omega (arith, w.room)) (eqb-false (need_of b) 4 v.0)
      ∙ judged_end well_formed R.BadValue s p n e (record { ends = w.ends; room = w.room; good = v.1 })

-- ---- Decimal: a prefix, and as many bytes as it says

pub decimal_told : (σ : Setting) (s : List ℕ) (p e : ℕ) → decimal_at σ s p ≡ Ok e → (n : ℕ) × (a : ℕ) × Counted σ decimal R.BadValue s p n a e
unfolding decimal_at decimal_text judged_at
decimal_told σ s p e q = go (prefix_at σ s p) refl q
  where
    go : (r : Result (ℕ × ℕ) Refusal) → prefix_at σ s p ≡ r → decimal_from s r ≡ Ok e → (n : ℕ) × (a : ℕ) × Counted σ decimal R.BadValue s p n a e
    go (Ok (n, a)) h q = (n, a, record { says = h; ends = q })
    go (Err f) h q = absurd (no_end f e q)

pub decimal_of_lem : (σ : Setting) (s : List ℕ) (p n a e : ℕ) → Counted σ decimal R.BadValue s p n a e → decimal_at σ s p ≡ Ok e
unfolding decimal_at decimal_text judged_at
decimal_of_lem σ s p n a e c = rw c.says c.ends
