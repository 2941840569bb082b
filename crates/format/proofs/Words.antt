-- Worked facts of the grammar's words, on either side of each bound: the widths of a prefix, scalar values and their bytes, the digits of a Decimal and its
-- range, the ticks of a DateTime.
use Rattle.std.specs.Prelude.{ℕ, zero, suc, ◌+◌, ◌*◌, ◌%◌, ◌^◌, ◌≤◌, ◌<◌, ◌≡◌, refl, List, [], ◌∷◌}
use Rattle.std.proofs.Common.{arith}
use Rattle.format.specs.declared.Setting.TheVariants as Q
use Rattle.format.specs.Unicode.{Scalar, encode}
use Rattle.format.specs.Decimals.{value_of, written, Each, Digits, minus, point, InRange, Decimal}
use Rattle.format.specs.Grammar.{Width, Moment}

-- ---- widths of a prefix

-- one byte for 0 and 127, two for 128; in lenient also two for 4, and five for 0
pub widths : Width Q.Strict 1 0 × Width Q.Strict 1 127 × Width Q.Strict 2 128 × Width Q.Lenient 2 4 × Width Q.Lenient 5 0
widths = (
  record { some = omega arith; most = omega arith; holds = omega arith; least = λ e v i h. i },
  record { some = omega arith; most = omega arith; holds = omega arith; least = λ e v i h. i },
  record { some = omega arith; most = omega arith; holds = omega arith; least = λ e v i h. two v i h },
  record { some = omega arith; most = omega arith; holds = omega arith; least = λ e. absurd (no_strict e) },
  record { some = omega arith; most = omega arith; holds = omega arith; least = λ e. absurd (no_strict e) },
)
  where
    no_strict : Q.Lenient ≡ Q.Strict → ⊥
    no_strict e = let z : ◌≡◌ {A = ℕ} 0 1 = cc in omega arith

    two : (v : ℕ) → 0 < v → 128 < 128 ^ v → 2 ≤ v
    two zero i h = absurd (omega arith)
    two (suc zero) i h = absurd (omega arith)
    two (suc (suc v)) i h = omega arith

-- strict does not pad; one byte has seven bits; a sixth byte is never one of a prefix; no bytes are none
pub no_widths : (Width Q.Strict 2 4 → ⊥) × (Width Q.Lenient 1 128 → ⊥) × (Width Q.Lenient 6 4 → ⊥) × (Width Q.Lenient 0 0 → ⊥)
no_widths = (
  λ w. omega (arith, w.least refl 1 (omega arith) (omega arith)),
  λ w. omega (arith, w.holds),
  λ w. omega (arith, w.most),
  λ w. omega (arith, w.some),
)

-- ---- text

-- the last before the surrogates, the first after them, the last of all
pub scalars : Scalar 0xD7FF × Scalar 0xE000 × Scalar 0x10FFFF
scalars = (
  record { code_point = omega arith; no_surrogate = λ a b. omega arith },
  record { code_point = omega arith; no_surrogate = λ a b. omega arith },
  record { code_point = omega arith; no_surrogate = λ a b. omega arith },
)

pub no_scalars : (Scalar 0xD800 → ⊥) × (Scalar 0xDFFF → ⊥) × (Scalar 0x110000 → ⊥)
no_scalars = (λ w. w.no_surrogate (omega arith) (omega arith), λ w. w.no_surrogate (omega arith) (omega arith), λ w. omega (arith, w.code_point))

-- the first and the last of each width, and the euro sign
pub bytes : (encode 0x7F ≡ 0x7F ∷ [])
    × (encode 0x80 ≡ 0xC2 ∷ 0x80 ∷ []) × (encode 0x7FF ≡ 0xDF ∷ 0xBF ∷ [])
    × (encode 0x800 ≡ 0xE0 ∷ 0xA0 ∷ 0x80 ∷ []) × (encode 0x20AC ≡ 0xE2 ∷ 0x82 ∷ 0xAC ∷ []) × (encode 0xFFFF ≡ 0xEF ∷ 0xBF ∷ 0xBF ∷ [])
    × (encode 0x10000 ≡ 0xF0 ∷ 0x90 ∷ 0x80 ∷ 0x80 ∷ []) × (encode 0x10FFFF ≡ 0xF4 ∷ 0x8F ∷ 0xBF ∷ 0xBF ∷ [])
unfolding encode
bytes = (refl, refl, refl, refl, refl, refl, refl, refl)

-- ---- Decimal

-- the digits of the greatest value
abbrev greatest : List ℕ
greatest = 7 ∷ 9 ∷ 2 ∷ 2 ∷ 8 ∷ 1 ∷ 6 ∷ 2 ∷ 5 ∷ 1 ∷ 4 ∷ 2 ∷ 6 ∷ 4 ∷ 3 ∷ 3 ∷ 7 ∷ 5 ∷ 9 ∷ 3 ∷ 5 ∷ 4 ∷ 3 ∷ 9 ∷ 5 ∷ 0 ∷ 3 ∷ 3 ∷ 5 ∷ []

-- one more
abbrev over : List ℕ
over = 7 ∷ 9 ∷ 2 ∷ 2 ∷ 8 ∷ 1 ∷ 6 ∷ 2 ∷ 5 ∷ 1 ∷ 4 ∷ 2 ∷ 6 ∷ 4 ∷ 3 ∷ 3 ∷ 7 ∷ 5 ∷ 9 ∷ 3 ∷ 5 ∷ 4 ∷ 3 ∷ 9 ∷ 5 ∷ 0 ∷ 3 ∷ 3 ∷ 6 ∷ []

-- the greatest value is in the range, also with a fraction of 0; one more is not, and no other fraction behind it
pub in_range : InRange greatest [] × InRange greatest (0 ∷ [])
unfolding value_of
in_range = (omega arith, omega arith)

pub out_of_range : (InRange over [] → ⊥) × (InRange greatest (1 ∷ []) → ⊥)
unfolding value_of
out_of_range = (λ h. omega arith, λ h. omega arith)

-- no digits are none, and 10 is no digit
pub no_digits : (Digits [] → ⊥) × (Each (10 ∷ []) → ⊥)
no_digits = (λ w. omega (arith, w.some), λ w. omega (arith, w.0))

-- -0.5
pub half : Decimal (0x2D ∷ 0x30 ∷ 0x2E ∷ 0x35 ∷ [])
unfolding value_of written
half =
    record {
      sign = 45 ∷ [];
      whole = 0 ∷ [];
      fraction = 5 ∷ [];
      behind = 46 ∷ 53 ∷ [];
      signed = minus;
      digits = record { some = omega arith; each = (omega arith, tt) };
      pointed = point {ds = 5 ∷ []} (record { some = omega arith; each = (omega arith, tt) });
      text = refl;
      range = omega arith;
    }

-- ---- DateTime

dated : (kind ticks : ℕ) → kind ≤ 2 → ticks ≤ 3155378975999999999 → Moment (kind * 4611686018427387904 + ticks)
dated kind ticks k t = record { kind = kind; ticks = ticks; kind_known = k; ticks_known = t; bits = refl }

past : (x : ℕ) → 3155378975999999999 < x % 4611686018427387904 → Moment x → ⊥
past x h w = omega (arith, w.kind_known, w.ticks_known, w.bits)

-- the first tick and the last one of each kind; and one that is negative to who reads 62 signed bits
pub moments : Moment 0 × Moment 3155378975999999999
    × Moment 0x4000000000000000 × Moment 0x6BCA2875F4373FFF
    × Moment 0x8000000000000000 × Moment 0xABCA2875F4373FFF
    × Moment 0x2000000000000000
moments = (
  dated 0 0 (omega arith) (omega arith),
  dated 0 3155378975999999999 (omega arith) (omega arith),
  dated 1 0 (omega arith) (omega arith),
  dated 1 3155378975999999999 (omega arith) (omega arith),
  dated 2 0 (omega arith) (omega arith),
  dated 2 3155378975999999999 (omega arith) (omega arith),
  dated 0 0x2000000000000000 (omega arith) (omega arith),
)

-- one tick more than the last, one less than the first of the next kind, and nothing of kind 3
pub no_moments : (Moment 3155378976000000000 → ⊥) × (Moment 0x3FFFFFFFFFFFFFFF → ⊥)
    × (Moment 0x6BCA2875F4374000 → ⊥) × (Moment 0x7FFFFFFFFFFFFFFF → ⊥)
    × (Moment 0xABCA2875F4374000 → ⊥) × (Moment 0xBFFFFFFFFFFFFFFF → ⊥)
    × (Moment 0xC000000000000000 → ⊥)
no_moments = (
  past 3155378976000000000 (omega arith),
  past 0x3FFFFFFFFFFFFFFF (omega arith),
  past 0x6BCA2875F4374000 (omega arith),
  past 0x7FFFFFFFFFFFFFFF (omega arith),
  past 0xABCA2875F4374000 (omega arith),
  past 0xBFFFFFFFFFFFFFFF (omega arith),
  λ w. omega (arith, w.kind_known, w.ticks_known, w.bits),
)
