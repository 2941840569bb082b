-- The definition byte by byte: what any byte leads to, what is refused, a digit before and behind the point.
use Rattle.std.specs.Prelude.{ℕ, ◌+◌, ◌-◌, ◌*◌, ◌≤◌, ◌<◌, ◌≡◌, refl, Bool, false, List, [], ◌∷◌}
use Rattle.std.proofs.Common.{ap, ◌∙◌, arith}
use Rattle.std.proofs.Math.Decide.{dec_le, ℕ_discrete}
use Rattle.format.specs.Values.{Read, most, refused, fraction_digit, digit, decimal_byte, decimal_after, ends}
use Rattle.decimal.specs.Laws.{whole_over, whole_on, fraction_zero, fraction_on, fraction_over, digit_whole, digit_fraction, digit_late, byte_digit, byte_minus, byte_point, byte_high, minus_late, point_late, byte_other}

-- what has been read, by its phase and the value of the whole part
abbrev pub stage : ℕ → ℕ → Read
stage p w = record { phase = p; whole = w }

-- whether what is read and then these bytes is a Decimal
unfoldable pub taken_from : Read → List ℕ → Bool
taken_from r l = ends (decimal_after r l).phase

pub taken_step : (r next : Read) (b : ℕ) (l : List ℕ) → decimal_byte r b ≡ next → taken_from r (b ∷ l) ≡ taken_from next l
unfolding taken_from decimal_after
taken_step r next b l e = ap (λ (x : Read). ends (decimal_after x l).phase) e

-- ---- a byte

pub digit_byte : (r : Read) (d : ℕ) → d < 10 → decimal_byte r (48 + d) ≡ digit r d
digit_byte r d h =
    let e : 48 + d - 48 ≡ d = omega arith in
    byte_digit r (48 + d) (omega arith) (omega arith) ∙ ap (digit r) e

-- what a byte leads to
pub data Next (r : Read) : ℕ → Type 0 where
  a_digit : (d : ℕ) → d < 10 → Next r (48 + d)
  a_minus : r.phase ≡ 0 → decimal_byte r 45 ≡ stage 1 0 → Next r 45
  a_point : r.phase ≡ 2 → decimal_byte r 46 ≡ stage 3 r.whole → Next r 46
  no_more : {b : ℕ} → decimal_byte r b ≡ refused → Next r b

pub next_of : (r : Read) (b : ℕ) → Next r b
next_of r b = go (dec_le 48 b) (dec_le b 57) (ℕ_discrete b 45) (ℕ_discrete b 46)
  where
    minus : b ≡ 45 → Dec (r.phase ≡ 0) → Next r b
    minus e (yes h) = rw e (a_minus h (byte_minus r 45 refl h))
    minus e (no h) = no_more (minus_late r b e h)

    point : b ≡ 46 → Dec (r.phase ≡ 2) → Next r b
    point e (yes h) = rw e (a_point h (byte_point r 46 refl h))
    point e (no h) = no_more (point_late r b e h)

    go : Dec (48 ≤ b) → Dec (b ≤ 57) → Dec (b ≡ 45) → Dec (b ≡ 46) → Next r b
    go (yes h) (yes g) m p = let e : b ≡ 48 + (b - 48) = omega arith in rw e (a_digit (b - 48) (omega arith))
    go (yes h) (no g) m p = no_more (byte_high r b (omega arith))
    go (no h) g (yes e) p = minus e (ℕ_discrete r.phase 0)
    go (no h) g (no m) (yes e) = point e (ℕ_discrete r.phase 2)
    go (no h) g (no m) (no p) = no_more (byte_other r b (omega arith) m p)

-- what is refused stays refused
pub refused_byte : (b : ℕ) → decimal_byte refused b ≡ refused
refused_byte b = go (next_of refused b)
  where
    go : {b : ℕ} → Next refused b → decimal_byte refused b ≡ refused
    go (a_digit d h) = digit_byte refused d h ∙ digit_late refused d (omega arith)
    go (a_minus h e) = absurd (omega arith)
    go (a_point h e) = absurd (omega arith)
    go (no_more e) = e

pub refused_stays : (l : List ℕ) → taken_from refused l ≡ false
unfolding taken_from decimal_after
refused_stays [] = refl
refused_stays (b ∷ l) = taken_step refused refused b l (refused_byte b) ∙ refused_stays l

-- ---- a digit, before and behind the point

pub whole_digit_lem : (p w d : ℕ) → p ≤ 2 → d < 10 → 10 * w + d ≤ most → decimal_byte (stage p w) (48 + d) ≡ stage 2 (10 * w + d)
whole_digit_lem p w d h g m = digit_byte (stage p w) d g ∙ (digit_whole (stage p w) d h ∙ whole_on (stage p w) d (10 * w + d) refl m)

pub whole_too_great : (p w d : ℕ) → p ≤ 2 → d < 10 → most < 10 * w + d → decimal_byte (stage p w) (48 + d) ≡ refused
whole_too_great p w d h g m = digit_byte (stage p w) d g ∙ (digit_whole (stage p w) d h ∙ whole_over (stage p w) d m)

module _ (p w d : ℕ) (h : 2 < p) (k : p ≤ 4) (g : d < 10) where
  behind : decimal_byte (stage p w) (48 + d) ≡ fraction_digit (stage p w) d
  behind = digit_byte (stage p w) d g ∙ digit_fraction (stage p w) d h k

  pub zero_behind : d ≡ 0 → decimal_byte (stage p w) (48 + d) ≡ stage 4 w
  zero_behind e = behind ∙ fraction_zero (stage p w) d e

  pub digit_behind : (d ≡ 0 → ⊥) → w < most → decimal_byte (stage p w) (48 + d) ≡ stage 4 w
  digit_behind n m = behind ∙ fraction_on (stage p w) d n m

  pub behind_the_greatest : (d ≡ 0 → ⊥) → most ≤ w → decimal_byte (stage p w) (48 + d) ≡ refused
  behind_the_greatest n m = behind ∙ fraction_over (stage p w) d n m
