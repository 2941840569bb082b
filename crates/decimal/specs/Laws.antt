-- Decimal text, a byte at a time: one law for each way that a digit or a byte is taken.
use Rattle.std.specs.Prelude.{ℕ, ◌+◌, ◌-◌, ◌*◌, ◌≤◌, ◌<◌, ◌≡◌}
use native.Mathlib.Omega.{arith}
use borrow.Author.Tests.{lt-ltb, le-ltb, le-leb, lt-leb, eq-eqb, ne_eqb}
use Rattle.format.specs.Values.{Read, most, refused, whole_digit, fraction_digit, digit, decimal_byte}

-- a digit
module _ (r : Read) (d : ℕ) where
  pub whole_over : most < 10 * r.whole + d → whole_digit r d ≡ refused
  unfolding whole_digit
  whole_over h = simp lt-leb

  pub whole_on : (w : ℕ) → w ≡ 10 * r.whole + d → w ≤ most → whole_digit r d ≡ record { phase = 2; whole = w }
  unfolding whole_digit
  whole_on w e h = rw (← e) (simp le-leb)

  pub fraction_zero : d ≡ 0 → fraction_digit r d ≡ record { phase = 4; whole = r.whole }
  unfolding fraction_digit
  fraction_zero e = simp eq-eqb

  pub fraction_on : (d ≡ 0 → ⊥) → r.whole < most → fraction_digit r d ≡ record { phase = 4; whole = r.whole }
  unfolding fraction_digit
  fraction_on n h = simp (ne_eqb, lt-ltb)

  pub fraction_over : (d ≡ 0 → ⊥) → most ≤ r.whole → fraction_digit r d ≡ refused
  unfolding fraction_digit
  fraction_over n h = simp (ne_eqb, le-ltb)

  pub digit_whole : r.phase ≤ 2 → digit r d ≡ whole_digit r d
  unfolding digit
  digit_whole h = simp le-leb

  pub digit_fraction : 2 < r.phase → r.phase ≤ 4 → digit r d ≡ fraction_digit r d
  unfolding digit
  digit_fraction h g = simp (lt-leb, le-leb)

  pub digit_late : 4 < r.phase → digit r d ≡ refused
  unfolding digit
  digit_late h =
      let g : 2 < r.phase = omega arith in
      simp lt-leb

-- a byte
module _ (r : Read) (b : ℕ) where
  pub byte_digit : 48 ≤ b → b ≤ 57 → decimal_byte r b ≡ digit r (b - 48)
  unfolding decimal_byte
  byte_digit h g = simp (le-leb)

  pub byte_minus : b ≡ 45 → r.phase ≡ 0 → decimal_byte r b ≡ record { phase = 1; whole = 0 }
  unfolding decimal_byte
  byte_minus e f =
      let h : b < 48 = omega arith in
      simp (lt-leb, eq-eqb)

  pub byte_point : b ≡ 46 → r.phase ≡ 2 → decimal_byte r b ≡ record { phase = 3; whole = r.whole }
  unfolding decimal_byte
  byte_point e f =
      let h : b < 48 = omega arith in
      let n : b ≡ 45 → ⊥ = omega arith in
      simp (lt-leb, ne_eqb, eq-eqb)

  pub byte_high : 57 < b → decimal_byte r b ≡ refused
  unfolding decimal_byte
  byte_high h =
      let l : 48 ≤ b = omega arith in
      let m : b ≡ 45 → ⊥ = omega arith in
      let n : b ≡ 46 → ⊥ = omega arith in
      simp (le-leb, lt-leb, ne_eqb)

  pub minus_late : b ≡ 45 → (r.phase ≡ 0 → ⊥) → decimal_byte r b ≡ refused
  unfolding decimal_byte
  minus_late e f =
      let h : b < 48 = omega arith in
      let n : b ≡ 46 → ⊥ = omega arith in
      simp (lt-leb, eq-eqb b 45 e, ne_eqb)

  pub point_late : b ≡ 46 → (r.phase ≡ 2 → ⊥) → decimal_byte r b ≡ refused
  unfolding decimal_byte
  point_late e f =
      let h : b < 48 = omega arith in
      let n : b ≡ 45 → ⊥ = omega arith in
      simp (lt-leb, eq-eqb b 46 e, ne_eqb)

  pub byte_other : b < 48 → (b ≡ 45 → ⊥) → (b ≡ 46 → ⊥) → decimal_byte r b ≡ refused
  unfolding decimal_byte
  byte_other h m n = simp (lt-leb, ne_eqb)
