-- Primitive values at a place: one law for each answer.
use Rattle.std.specs.Prelude.{ℕ, ◌+◌, ◌-◌, ◌*◌, ◌/◌, ◌%◌, ◌≤◌, ◌<◌, ◌≡◌, refl, true, false, List, length, get_or, Some, None, Ok, Err}
use Rattle.std.proofs.Common.{sym, ap, ◌∙◌, arith, mul-le-mul_right}
use borrow.Author.Tests.{lt-ltb, le-ltb, le-leb, lt-leb, eq-eqb, ne_eqb}
use Rattle.format.specs.declared.Setting.{Setting}
use Rattle.format.specs.declared.Refusal.TheVariants as R
use Rattle.format.specs.declared.PrimitiveCode.{PrimitiveCode}
use Rattle.format.specs.declared.PrimitiveCode.TheVariants as C
use Rattle.format.specs.Bytes.{part}
use Rattle.format.specs.Text.{need_of, well_formed}
use Rattle.format.specs.Numbers.{u64_at}
use Rattle.format.specs.Values.{bytes_at, boolean_at, scalar_at, char_at, decimal, decimal_text, last_tick, date_time_at, size_of, value_at, times, items_at}
use Rattle.fields.specs.Judged.{judged_at, judged_short, judged_good, judged_bad}

module _ (s : List ℕ) (p : ℕ) where
  module _ (n : ℕ) where
    pub bytes_short : length s < p + n → bytes_at s p n ≡ Err R.CutShort
    unfolding bytes_at
    bytes_short h = simp lt-leb

    pub bytes_end : p + n ≤ length s → bytes_at s p n ≡ Ok (p + n)
    unfolding bytes_at
    bytes_end h = simp le-leb

    pub scalar_short : length s < p + n → scalar_at s p n ≡ Err R.CutShort
    unfolding scalar_at judged_at
    scalar_short h = judged_short well_formed R.BadValue s p n h

    pub decimal_short : length s < p + n → decimal_text s p n ≡ Err R.CutShort
    unfolding decimal_text judged_at
    decimal_short h = judged_short decimal R.BadValue s p n h

    -- the part as code has it, from p to p + n
    module _ (h : p + n ≤ length s) where
      pub scalar_end : well_formed (part s p (p + n - p)) ≡ true → scalar_at s p n ≡ Ok (p + n)
      unfolding scalar_at judged_at
      scalar_end g = judged_good well_formed R.BadValue s p n h g

      pub scalar_bad : well_formed (part s p (p + n - p)) ≡ false → scalar_at s p n ≡ Err R.BadValue
      unfolding scalar_at judged_at
      scalar_bad g = judged_bad well_formed R.BadValue s p n h g

      pub decimal_end : decimal (part s p (p + n - p)) ≡ true → decimal_text s p n ≡ Ok (p + n)
      unfolding decimal_text judged_at
      decimal_end g = judged_good decimal R.BadValue s p n h g

      pub decimal_bad : decimal (part s p (p + n - p)) ≡ false → decimal_text s p n ≡ Err R.BadValue
      unfolding decimal_text judged_at
      decimal_bad g = judged_bad decimal R.BadValue s p n h g

  pub boolean_short : length s ≤ p → boolean_at s p ≡ Err R.CutShort
  unfolding boolean_at
  boolean_short h = simp le-ltb

  pub char_short : length s ≤ p → char_at s p ≡ Err R.CutShort
  unfolding char_at
  char_short h = simp le-ltb

  module _ (i : p < length s) where
    pub boolean_bad : 1 < get_or s p 0 → boolean_at s p ≡ Err R.BadValue
    unfolding boolean_at
    boolean_bad h = simp (lt-ltb, lt-leb)

    pub boolean_end : get_or s p 0 ≤ 1 → boolean_at s p ≡ Ok (p + 1)
    unfolding boolean_at
    boolean_end h = simp (lt-ltb, le-leb)

    pub char_bad : need_of (get_or s p 0) ≡ 4 → char_at s p ≡ Err R.BadValue
    unfolding char_at
    char_bad h = simp (lt-ltb, eq-eqb (need_of (get_or s p 0)) 4 h)

    pub char_scalar : (need_of (get_or s p 0) ≡ 4 → ⊥) → char_at s p ≡ scalar_at s p (need_of (get_or s p 0) + 1)
    unfolding char_at
    char_scalar h = simp (lt-ltb, ne_eqb)

-- ---- DateTime

module _ (s : List ℕ) (p : ℕ) where
  pub date_short : u64_at s p ≡ None → date_time_at s p ≡ Err R.CutShort
  unfolding date_time_at
  date_short h = rw h

  module _ (x e : ℕ) (h : u64_at s p ≡ Some (x, e)) where
    pub date_kind : 3 ≤ x / 4611686018427387904 → date_time_at s p ≡ Err R.BadValue
    unfolding date_time_at
    date_kind k = rw (h, le-ltb (x / 4611686018427387904) 3 k)

    pub date_ticks : x / 4611686018427387904 < 3 → last_tick < x % 4611686018427387904 → date_time_at s p ≡ Err R.BadValue
    unfolding date_time_at
    date_ticks k t = rw h (simp (lt-ltb, lt-leb))

    pub date_end : x / 4611686018427387904 < 3 → x % 4611686018427387904 ≤ last_tick → date_time_at s p ≡ Ok e
    unfolding date_time_at
    date_end k t = rw h (simp (lt-ltb, le-leb))

-- ---- values of a fixed size

-- a value of a code that has a size is so many bytes, whatever they are
value_bytes : (σ : Setting) (s : List ℕ) (code : PrimitiveCode) (p : ℕ) → (size_of code ≡ 0 → ⊥) → bytes_at s p (size_of code) ≡ value_at σ s code p
unfolding value_at
value_bytes σ s C.Boolean p h = absurd (h (omega arith))
value_bytes σ s C.Byte p h = refl
value_bytes σ s C.Char p h = absurd (h (omega arith))
value_bytes σ s C.Decimal p h = absurd (h (omega arith))
value_bytes σ s C.Double p h = refl
value_bytes σ s C.Int16 p h = refl
value_bytes σ s C.Int32 p h = refl
value_bytes σ s C.Int64 p h = refl
value_bytes σ s C.SByte p h = refl
value_bytes σ s C.Single p h = refl
value_bytes σ s C.TimeSpan p h = refl
value_bytes σ s C.DateTime p h = absurd (h (omega arith))
value_bytes σ s C.UInt16 p h = refl
value_bytes σ s C.UInt32 p h = refl
value_bytes σ s C.UInt64 p h = refl

pub value_sized : (σ : Setting) (s : List ℕ) (code : PrimitiveCode) (p size : ℕ) → size ≡ size_of code → (size ≡ 0 → ⊥) → bytes_at s p size ≡ value_at σ s code p
value_sized σ s code p size e h = ap (bytes_at s p) e ∙ value_bytes σ s code p (λ z. h (e ∙ z))

-- ---- items

pub size_small : (code : PrimitiveCode) → size_of code ≤ 8
size_small C.Boolean = omega arith
size_small C.Byte = omega arith
size_small C.Char = omega arith
size_small C.Decimal = omega arith
size_small C.Double = omega arith
size_small C.Int16 = omega arith
size_small C.Int32 = omega arith
size_small C.Int64 = omega arith
size_small C.SByte = omega arith
size_small C.Single = omega arith
size_small C.TimeSpan = omega arith
size_small C.DateTime = omega arith
size_small C.UInt16 = omega arith
size_small C.UInt32 = omega arith
size_small C.UInt64 = omega arith

-- so the size of n numbers has three bits more than n
pub size_times : (code : PrimitiveCode) (size n : ℕ) → size ≡ size_of code → size * n ≤ 8 * n
size_times code size n e = rw e (mul-le-mul_right n (size_small code))

-- the size as code has it
module _ (σ : Setting) (s : List ℕ) (code : PrimitiveCode) (n p size : ℕ) (e : size ≡ size_of code) where
  pub items_each : size ≡ 0 → items_at σ s code n p ≡ times (value_at σ s code) n p
  unfolding items_at
  items_each h = rw (eq-eqb (size_of code) 0 (sym e ∙ h))

  pub items_bytes_lem : (size ≡ 0 → ⊥) → items_at σ s code n p ≡ bytes_at s p (size * n)
  unfolding items_at
  items_bytes_lem h = rw (ne_eqb (size_of code) 0 (λ z. h (e ∙ z)), e)
