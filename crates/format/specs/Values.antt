-- Primitive values (01, Field rules), and the items of a primitive array.
use Rattle.std.specs.Prelude.{ℕ, zero, suc, ◌+◌, ◌-◌, ◌*◌, ◌/◌, ◌%◌, Bool, ◌&&◌, ◌||◌, List, [], ◌∷◌, length, get_or, ltb, leb, eqb, Option, Some, None, Result, Ok, Err}
use Rattle.format.specs.declared.Refusal.{Refusal}
use Rattle.format.specs.declared.Refusal.TheVariants as R
use Rattle.format.specs.declared.PrimitiveCode.{PrimitiveCode}
use Rattle.format.specs.declared.PrimitiveCode.TheVariants as C
use Rattle.format.specs.declared.Setting.{Setting}
use Rattle.format.specs.declared.Span.{Span}
use Rattle.format.specs.Bytes.{pick, part}
use Rattle.format.specs.Numbers.{u64_at}
use Rattle.format.specs.Prefix.{prefix_at}
use Rattle.format.specs.Text.{need_of, well_formed, span_at}

-- n bytes at a place, whatever they are
unfoldable pub bytes_at : List ℕ → ℕ → ℕ → Result ℕ Refusal
bytes_at s at n = pick (leb (at + n) (length s)) (Ok (at + n)) (Err R.CutShort)

-- ---- Boolean: 0 or 1

unfoldable pub boolean_at : List ℕ → ℕ → Result ℕ Refusal
boolean_at s at = pick (ltb at (length s)) (pick (leb (get_or s at 0) 1) (Ok (at + 1)) (Err R.BadValue)) (Err R.CutShort)

-- ---- Char: one scalar, whose first byte announces its size

-- a scalar of n bytes
unfoldable pub scalar_at : List ℕ → ℕ → ℕ → Result ℕ Refusal
scalar_at s at n = pick (leb (at + n) (length s)) (pick (well_formed (part s at n)) (Ok (at + n)) (Err R.BadValue)) (Err R.CutShort)

unfoldable pub char_at : List ℕ → ℕ → Result ℕ Refusal
char_at s at =
    pick (ltb at (length s))
    (pick (eqb (need_of (get_or s at 0)) 4) (Err R.BadValue) (scalar_at s at (need_of (get_or s at 0) + 1)))
    (Err R.CutShort)

-- ---- Decimal (2.1.1.7): optional minus, digits, optionally a point and digits; its exact value within the range

-- what has been read: the phase (0 nothing, 1 the minus, 2 the whole part, 3 the point, 4 the fraction, 5 refused) and the value of the whole part
pub record Read : Type 0 where
  pub phase : ℕ
  pub whole : ℕ

abbrev pub most : ℕ
most = 79228162514264337593543950335

abbrev pub refused : Read
refused = record { phase = 5; whole = 0 }

abbrev pub begun : Read
begun = record { phase = 0; whole = 0 }

-- a digit of the whole part, which stays within the range
unfoldable pub whole_digit : Read → ℕ → Read
whole_digit r d = pick (leb (10 * r.whole + d) most) (record { phase = 2; whole = 10 * r.whole + d }) refused

-- a digit of the fraction: only 0 where the whole part is the greatest
unfoldable pub fraction_digit : Read → ℕ → Read
fraction_digit r d =
    pick (eqb d 0) (record { phase = 4; whole = r.whole })
    (pick (ltb r.whole most) (record { phase = 4; whole = r.whole }) refused)

unfoldable pub digit : Read → ℕ → Read
digit r d = pick (leb r.phase 2) (whole_digit r d) (pick (leb r.phase 4) (fraction_digit r d) refused)

unfoldable pub decimal_byte : Read → ℕ → Read
decimal_byte r b =
    pick (leb 48 b && leb b 57) (digit r (b - 48))
    (pick (eqb b 45 && eqb r.phase 0) (record { phase = 1; whole = 0 })
    (pick (eqb b 46 && eqb r.phase 2) (record { phase = 3; whole = r.whole }) refused))

unfoldable pub decimal_after : Read → List ℕ → Read
decimal_after r [] = r
decimal_after r (b ∷ l) = decimal_after (decimal_byte r b) l

-- the text ends in the whole part or in the fraction
abbrev pub ends : ℕ → Bool
ends phase = eqb phase 2 || eqb phase 4

unfoldable pub decimal : List ℕ → Bool
decimal l = ends (decimal_after begun l).phase

-- n bytes of Decimal text
unfoldable pub decimal_text : List ℕ → ℕ → ℕ → Result ℕ Refusal
decimal_text s at n = pick (leb (at + n) (length s)) (pick (decimal (part s at n)) (Ok (at + n)) (Err R.BadValue)) (Err R.CutShort)

abbrev pub decimal_from : List ℕ → Result (ℕ × ℕ) Refusal → Result ℕ Refusal
decimal_from s (Ok (n, next)) = decimal_text s next n
decimal_from s (Err f) = Err f

unfoldable pub decimal_at : Setting → List ℕ → ℕ → Result ℕ Refusal
decimal_at σ s at = decimal_from s (prefix_at σ s at)

-- ---- DateTime (2.1.1.5; 02, (i)): the top two bits are the kind, 0 to 2; the low 62 bits are ticks without a sign, up to the last of the year 9999

-- 9999-12-31 23:59:59.9999999
abbrev pub last_tick : ℕ
last_tick = 3155378975999999999

abbrev pub date_time : ℕ → Bool
date_time x = ltb (x / 4611686018427387904) 3 && leb (x % 4611686018427387904) last_tick

abbrev pub date_time_of : Option (ℕ × ℕ) → Result ℕ Refusal
date_time_of (Some (x, next)) = pick (date_time x) (Ok next) (Err R.BadValue)
date_time_of None = Err R.CutShort

unfoldable pub date_time_at : List ℕ → ℕ → Result ℕ Refusal
date_time_at s at = date_time_of (u64_at s at)

-- ---- a value by its code

-- how many bytes a value has whose every pattern is taken; 0 for a value that is judged
abbrev pub size_of : PrimitiveCode → ℕ
size_of C.Boolean = 0
size_of C.Byte = 1
size_of C.Char = 0
size_of C.Decimal = 0
size_of C.Double = 8
size_of C.Int16 = 2
size_of C.Int32 = 4
size_of C.Int64 = 8
size_of C.SByte = 1
size_of C.Single = 4
size_of C.TimeSpan = 8
size_of C.DateTime = 0
size_of C.UInt16 = 2
size_of C.UInt32 = 4
size_of C.UInt64 = 8

unfoldable pub value_at : Setting → List ℕ → PrimitiveCode → ℕ → Result ℕ Refusal
value_at σ s C.Boolean at = boolean_at s at
value_at σ s C.Byte at = bytes_at s at 1
value_at σ s C.Char at = char_at s at
value_at σ s C.Decimal at = decimal_at σ s at
value_at σ s C.Double at = bytes_at s at 8
value_at σ s C.Int16 at = bytes_at s at 2
value_at σ s C.Int32 at = bytes_at s at 4
value_at σ s C.Int64 at = bytes_at s at 8
value_at σ s C.SByte at = bytes_at s at 1
value_at σ s C.Single at = bytes_at s at 4
value_at σ s C.TimeSpan at = bytes_at s at 8
value_at σ s C.DateTime at = date_time_at s at
value_at σ s C.UInt16 at = bytes_at s at 2
value_at σ s C.UInt32 at = bytes_at s at 4
value_at σ s C.UInt64 at = bytes_at s at 8

-- ---- values that were judged before

-- how many bytes a value has that has no prefix; 0 for a Decimal, which has one
abbrev pub size_from : List ℕ → PrimitiveCode → ℕ → ℕ
size_from s C.Boolean at = 1
size_from s C.Byte at = 1
size_from s C.Char at = need_of (get_or s at 0) + 1
size_from s C.Decimal at = 0
size_from s C.Double at = 8
size_from s C.Int16 at = 2
size_from s C.Int32 at = 4
size_from s C.Int64 at = 8
size_from s C.SByte at = 1
size_from s C.Single at = 4
size_from s C.TimeSpan at = 8
size_from s C.DateTime at = 8
size_from s C.UInt16 at = 2
size_from s C.UInt32 at = 4
size_from s C.UInt64 at = 8

-- where what a value says stands: of a Decimal the text behind its prefix, of any other all its bytes
unfoldable pub value_span : List ℕ → PrimitiveCode → ℕ → Span
value_span s c at = pick (eqb (size_from s c at) 0) (span_at s at) (record { from = at; to = at + size_from s c at })

-- ---- fields in a row

-- what follows a field that is good
abbrev pub on_end : (ℕ → Result ℕ Refusal) → Result ℕ Refusal → Result ℕ Refusal
on_end k (Ok next) = k next
on_end k (Err f) = Err f

-- n fields, one after the other
unfoldable pub times : (ℕ → Result ℕ Refusal) → ℕ → ℕ → Result ℕ Refusal
times field zero at = Ok at
times field (suc n) at = on_end (times field n) (field at)

-- the n items of a primitive array: numbers in one step, judged values one by one
unfoldable pub items_at : Setting → List ℕ → PrimitiveCode → ℕ → ℕ → Result ℕ Refusal
items_at σ s code n at = pick (eqb (size_of code) 0) (times (value_at σ s code) n at) (bytes_at s at (size_of code * n))
