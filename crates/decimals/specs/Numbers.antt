-- The values of digits: two runs one behind the other, and when a value with its fraction is within the range.
use Rattle.std.specs.Prelude.{ℕ, ◌+◌, ◌*◌, ◌^◌, ◌≤◌, ◌<◌, ◌≡◌, refl, List, [], ◌∷◌, ◌++◌, length}
use Rattle.std.proofs.Common.{sym, ap, ◌∙◌, arith, pow-suc, mul-le-mul_left, mul-le-mul_right, le_of_mul-le-mul_right}
use Rattle.std.proofs.Math.Decide.{dec_lt}
use Rattle.format.specs.Values.{most}
use Rattle.format.specs.Decimals.{value_of, Each, Fraction, no_point, point}

-- the value of digits behind others of value w, as it grows digit by digit
unfoldable pub value_from : ℕ → List ℕ → ℕ
value_from w [] = w
value_from w (d ∷ ds) = value_from (10 * w + d) ds

from_is : (w : ℕ) (ds : List ℕ) → value_from w ds ≡ w * 10 ^ length ds + value_of ds
unfolding value_from value_of
from_is w [] = omega arith
from_is w (d ∷ ds) = from_is (10 * w + d) ds ∙ rw pow-suc (omega arith)

pub from_nothing : (ds : List ℕ) → value_from 0 ds ≡ value_of ds
from_nothing ds = from_is 0 ds ∙ omega arith

from_append : (w : ℕ) (a b : List ℕ) → value_from w (a ++ b) ≡ value_from (value_from w a) b
unfolding value_from
from_append w [] b = refl
from_append w (d ∷ a) b = from_append (10 * w + d) a b

value_append : (a b : List ℕ) → value_of (a ++ b) ≡ value_of a * 10 ^ length b + value_of b
value_append a b =
    sym (from_nothing (a ++ b))
    ∙ (from_append 0 a b ∙ (from_is (value_from 0 a) b ∙ ap (λ (x : ℕ). x * 10 ^ length b + value_of b) (from_nothing a)))

value_below : (ds : List ℕ) → Each ds → value_of ds < 10 ^ length ds
unfolding value_of
value_below [] e = omega arith
value_below (d ∷ ds) e =
    let h : d ≤ 9 = omega (arith, e.0) in
    rw pow-suc (omega (arith, mul-le-mul_right (10 ^ length ds) h, value_below ds e.1))

-- a value only grows
pub from_grows : (w : ℕ) (ds : List ℕ) → w ≤ value_from w ds
unfolding value_from
from_grows w [] = omega arith
from_grows w (d ∷ ds) = omega (arith, from_grows (10 * w + d) ds)

-- ---- the range

abbrev pub Zeros : List ℕ → Type 0
Zeros [] = Unit {0}
Zeros (d ∷ ds) = (d ≡ 0) × Zeros ds

zeros_value : (ds : List ℕ) → Zeros ds → value_of ds ≡ 0
unfolding value_of
zeros_value [] z = refl
zeros_value (d ∷ ds) z = rw z.0 (omega (arith, zeros_value ds z.1))

value_zeros : (ds : List ℕ) → Each ds → value_of ds ≡ 0 → Zeros ds
unfolding value_of
value_zeros [] e h = tt
value_zeros (d ∷ ds) e h =
    let p : 1 ≤ 10 ^ length ds = omega (arith, value_below ds e.1) in
    (omega (arith, mul-le-mul_left d p), value_zeros ds e.1 (omega arith))

-- a whole part of value w with these digits behind the point: below the greatest, or the greatest and zeros
pub data Within (w : ℕ) (ds : List ℕ) : Type 0 where
  below : w < most → Within w ds
  greatest : w ≡ most → Zeros ds → Within w ds

-- nothing behind the point
pub within_none : {w : ℕ} → w ≤ most → Within w []
within_none {w} h = go (dec_lt w most)
  where
    go : Dec (w < most) → Within w []
    go (yes m) = below m
    go (no m) = greatest (omega arith) tt

pub within_zero : {w d : ℕ} {ds : List ℕ} → d ≡ 0 → Within w ds → Within w (d ∷ ds)
within_zero e (below m) = below m
within_zero e (greatest m z) = greatest m (e, z)

pub within_rest : {w d : ℕ} {ds : List ℕ} → Within w (d ∷ ds) → Within w ds
within_rest (below m) = below m
within_rest (greatest m z) = greatest m z.1

pub within_most : {w : ℕ} {ds : List ℕ} → Within w ds → w ≤ most
within_most (below m) = omega arith
within_most (greatest m z) = omega arith

pub each_of : {fraction rest : List ℕ} → Fraction fraction rest → Each fraction
each_of no_point = tt
each_of (point x) = x.each

-- over plain numbers: f is less than one unit of the whole part
fits : (w f p m : ℕ) → f < p → w < m → w * p + f ≤ m * p
fits w f p m h g = omega (arith, mul-le-mul_right p g)

no_less : (w f p m : ℕ) → f < p → w * p + f ≤ m * p → m ≤ w → (w ≡ m) × (f ≡ 0)
no_less w f p m h r g =
    let a : w ≤ m = le_of_mul-le-mul_right {m = w} {n = m} {k = p} (omega arith) (omega arith) in
    (omega arith, omega (arith, mul-le-mul_right p g))

module _ (whole fraction : List ℕ) (e : Each fraction) where
  pub range_within : value_of (whole ++ fraction) ≤ most * 10 ^ length fraction → Within (value_of whole) fraction
  range_within r = go (dec_lt (value_of whole) most)
    where
      go : Dec (value_of whole < most) → Within (value_of whole) fraction
      go (yes h) = below h
      go (no h) =
          let x = no_less (value_of whole) (value_of fraction) (10 ^ length fraction) most (value_below fraction e) (rw value_append at r) (omega arith) in
          greatest x.0 (value_zeros fraction e x.1)

  pub within_range : Within (value_of whole) fraction → value_of (whole ++ fraction) ≤ most * 10 ^ length fraction
  within_range (below h) = rw value_append (fits (value_of whole) (value_of fraction) (10 ^ length fraction) most (value_below fraction e) h)
  within_range (greatest h z) = rw (value_append, h, zeros_value fraction z) (omega arith)
