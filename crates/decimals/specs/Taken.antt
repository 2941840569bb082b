-- What the definition takes, the rules say is a Decimal: the digits are found again, byte by byte.
use Prim.Native.Nat.{ℕ, ◌+◌, ◌*◌, ◌≤◌, ◌<◌}
use Rattle.std.specs.Prelude.{◌≡◌, refl, true}
use Rattle.std.proofs.Common.{sym, ◌∙◌, arith}
use Rattle.std.proofs.Math.Path.{ap}
use Rattle.std.proofs.lemmas.Bool.{false≢true}
use mathlib.Core.List.{List, [], ◌∷◌, ◌++◌}
use Rattle.std.proofs.Math.Decide.{dec_le, dec_lt, ℕ_discrete}
use Rattle.format.specs.Values.{Read, most, refused, decimal_byte, decimal_after}
use Rattle.format.specs.Decimals.{value_of, written, Each, Sign, no_minus, minus, Fraction, no_point, point, Decimal}
use Rattle.decimals.specs.Numbers.{value_from, from_nothing, Within, below, within_none, within_zero, each_of, within_range}
use Rattle.decimals.specs.Bytes.{stage, taken_from, taken_step, Next, a_digit, a_minus, a_point, no_more, next_of, refused_stays, whole_digit_lem, whole_too_great, zero_behind, digit_behind, behind_the_greatest}

module _ (r : Read) (b : ℕ) (l : List ℕ) (t : taken_from r (b ∷ l) ≡ true) where
  goes_on : (next : Read) → decimal_byte r b ≡ next → taken_from next l ≡ true
  goes_on next e = sym (taken_step r next b l e) ∙ t

  not_refused : decimal_byte r b ≡ refused → ⊥
  not_refused e = false≢true (sym (refused_stays l) ∙ goes_on refused e)

-- ---- one digit

whole_found : (p w d : ℕ) (l : List ℕ) → p ≤ 2 → d < 10 → taken_from (stage p w) ((48 + d) ∷ l) ≡ true
    → (10 * w + d ≤ most) × (taken_from (stage 2 (10 * w + d)) l ≡ true)
whole_found p w d l h g t = go (dec_le (10 * w + d) most)
  where
    go : Dec (10 * w + d ≤ most) → (10 * w + d ≤ most) × (taken_from (stage 2 (10 * w + d)) l ≡ true)
    go (yes m) = (m, goes_on (stage p w) (48 + d) l t (stage 2 (10 * w + d)) (whole_digit_lem p w d h g m))
    go (no m) = absurd (not_refused (stage p w) (48 + d) l t (whole_too_great p w d h g (omega arith)))

-- a digit behind the point, in front of others that are within the range
abbrev Found : ℕ → ℕ → List ℕ → Type 0
Found w d l = (taken_from (stage 4 w) l ≡ true) × ((ds : List ℕ) → Within w ds → Within w (d ∷ ds))

fraction_found : (p w d : ℕ) (l : List ℕ) → 2 < p → p ≤ 4 → d < 10 → taken_from (stage p w) ((48 + d) ∷ l) ≡ true → Found w d l
fraction_found p w d l h k g t = go (ℕ_discrete d 0) (dec_lt w most)
  where
    go : Dec (d ≡ 0) → Dec (w < most) → Found w d l
    go (yes e) m = (goes_on (stage p w) (48 + d) l t (stage 4 w) (zero_behind p w d h k g e), λ ds i. within_zero e i)
    go (no n) (yes m) = (goes_on (stage p w) (48 + d) l t (stage 4 w) (digit_behind p w d h k g n m), λ ds i. below m)
    go (no n) (no m) = absurd (not_refused (stage p w) (48 + d) l t (behind_the_greatest p w d h k g n (omega arith)))

-- ---- behind the point

-- bytes that are digits, which a whole part of value w may have behind the point
record Tail (w : ℕ) (l : List ℕ) : Type 0 where
  ds : List ℕ
  each : Each ds
  same : l ≡ written ds
  within : Within w ds

one_more_rule : (w d : ℕ) (l : List ℕ) → d < 10 → Found w d l → (taken_from (stage 4 w) l ≡ true → Tail w l) → Tail w ((48 + d) ∷ l)
unfolding written
one_more_rule w d l g f again =
    let x = again f.0 in
    record { ds = d ∷ x.ds; each = (g, x.each); same = ap (λ (m : List ℕ). (48 + d) ∷ m) x.same; within = f.1 x.ds x.within }

tail_found : (w : ℕ) (l : List ℕ) → w ≤ most → taken_from (stage 4 w) l ≡ true → Tail w l
unfolding written
tail_found w [] m t = record { ds = []; each = tt; same = refl; within = within_none m }
tail_found w (b ∷ l) m t = go (next_of (stage 4 w) b) t (tail_found w l m)
  where
    go : {b : ℕ} → Next (stage 4 w) b → taken_from (stage 4 w) (b ∷ l) ≡ true → (taken_from (stage 4 w) l ≡ true → Tail w l) → Tail w (b ∷ l)
    go (a_digit d g) t again = one_more_rule w d l g (fraction_found 4 w d l (omega arith) (omega arith) g t) again
    go (a_minus e q) t again = absurd (omega arith)
    go (a_point e q) t again = absurd (omega arith)
    go (no_more {b = b} e) t again = absurd (not_refused (stage 4 w) b l t e)

-- ---- from the whole part on

-- bytes that go on with digits behind a whole part of value w, and may have a point
record Rest (w : ℕ) (l : List ℕ) : Type 0 where
  more : List ℕ
  fraction : List ℕ
  behind : List ℕ
  each : Each more
  pointed : Fraction fraction behind
  same : l ≡ written more ++ behind
  within : Within (value_from w more) fraction

point_found : (w : ℕ) (l : List ℕ) → w ≤ most → taken_from (stage 3 w) l ≡ true → Rest w (46 ∷ l)
unfolding taken_from decimal_after written value_from
point_found w [] m t = absurd (false≢true t)
point_found w (b ∷ l) m t = go (next_of (stage 3 w) b) t
  where
    go : {b : ℕ} → Next (stage 3 w) b → taken_from (stage 3 w) (b ∷ l) ≡ true → Rest w (46 ∷ b ∷ l)
    go (a_digit d g) t =
        let f = fraction_found 3 w d l (omega arith) (omega arith) g t in
        let x = tail_found w l m f.0 in
        record {
          more = [];
          fraction = d ∷ x.ds;
          behind = 46 ∷ written (d ∷ x.ds);
          each = tt;
          pointed = point {ds = d ∷ x.ds} (record { some = omega arith; each = (g, x.each) });
          same = ap (λ (m : List ℕ). 46 ∷ (48 + d) ∷ m) x.same;
          within = f.1 x.ds x.within;
        }
    go (a_minus e q) t = absurd (omega arith)
    go (a_point e q) t = absurd (omega arith)
    go (no_more {b = b} e) t = absurd (not_refused (stage 3 w) b l t e)

digit_first : (w d : ℕ) (l : List ℕ) → d < 10 → Rest (10 * w + d) l → Rest w ((48 + d) ∷ l)
unfolding written value_from
digit_first w d l g x =
    record {
      more = d ∷ x.more;
      fraction = x.fraction;
      behind = x.behind;
      each = (g, x.each);
      pointed = x.pointed;
      same = ap (λ (m : List ℕ). (48 + d) ∷ m) x.same;
      within = x.within;
    }

rest_found : (w : ℕ) (l : List ℕ) → w ≤ most → taken_from (stage 2 w) l ≡ true → Rest w l
unfolding written value_from
rest_found w [] m t = record { more = []; fraction = []; behind = []; each = tt; pointed = no_point; same = refl; within = within_none m }
rest_found w (b ∷ l) m t = go (next_of (stage 2 w) b) t (λ v. rest_found v l)
  where
    go : {b : ℕ} → Next (stage 2 w) b → taken_from (stage 2 w) (b ∷ l) ≡ true
        → ((v : ℕ) → v ≤ most → taken_from (stage 2 v) l ≡ true → Rest v l) → Rest w (b ∷ l)
    go (a_digit d g) t again =
        let f = whole_found 2 w d l (omega arith) g t in
        digit_first w d l g (again (10 * w + d) f.0 f.1)
    go (a_minus e q) t again = absurd (omega arith)
    go (a_point e q) t again = point_found w l m (goes_on (stage 2 w) 46 l t (stage 3 w) q)
    go (no_more {b = b} e) t again = absurd (not_refused (stage 2 w) b l t e)

-- ---- the whole text

module _ {sign : List ℕ} (s : Sign sign) (p d : ℕ) (l : List ℕ) (h : p ≤ 2) (g : d < 10) (t : taken_from (stage p 0) ((48 + d) ∷ l) ≡ true) where
  digits_found : Decimal (sign ++ ((48 + d) ∷ l))
  unfolding written value_from
  digits_found =
      let f = whole_found p 0 d l h g t in
      let x = rest_found (10 * 0 + d) l f.0 f.1 in
      let whole : List ℕ = d ∷ x.more in
      let v : value_from 0 whole ≡ value_of whole = from_nothing whole in
      record {
        sign = sign;
        whole = whole;
        fraction = x.fraction;
        behind = x.behind;
        signed = s;
        digits = record { some = omega arith; each = (g, x.each) };
        pointed = x.pointed;
        text = ap (λ (m : List ℕ). sign ++ ((48 + d) ∷ m)) x.same;
        range = omega (arith, within_range whole x.fraction (each_of x.pointed) (rw v at x.within));
      }

minus_found : (l : List ℕ) → taken_from (stage 1 0) l ≡ true → Decimal (45 ∷ l)
unfolding taken_from decimal_after
minus_found [] t = absurd (false≢true t)
minus_found (b ∷ l) t = go (next_of (stage 1 0) b) t
  where
    go : {b : ℕ} → Next (stage 1 0) b → taken_from (stage 1 0) (b ∷ l) ≡ true → Decimal (45 ∷ b ∷ l)
    go (a_digit d g) t = digits_found minus 1 d l (omega arith) g t
    go (a_minus e q) t = absurd (omega arith)
    go (a_point e q) t = absurd (omega arith)
    go (no_more {b = b} e) t = absurd (not_refused (stage 1 0) b l t e)

pub taken_decimal : (l : List ℕ) → taken_from (stage 0 0) l ≡ true → Decimal l
unfolding taken_from decimal_after
taken_decimal [] t = absurd (false≢true t)
taken_decimal (b ∷ l) t = go (next_of (stage 0 0) b) t
  where
    go : {b : ℕ} → Next (stage 0 0) b → taken_from (stage 0 0) (b ∷ l) ≡ true → Decimal (b ∷ l)
    go (a_digit d g) t = digits_found no_minus 0 d l (omega arith) g t
    go (a_minus e q) t = minus_found l (goes_on (stage 0 0) 45 l t (stage 1 0) q)
    go (a_point e q) t = absurd (omega arith)
    go (no_more {b = b} e) t = absurd (not_refused (stage 0 0) b l t e)
