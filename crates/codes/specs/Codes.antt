-- A code and its number: each undoes the other; which numbers are none.
use Rattle.std.specs.Prelude.{ℕ, ◌≤◌, ◌<◌, ◌≡◌, refl, eqb, Option, Some, None}
use Rattle.std.proofs.Common.{sym, arith, eqb-true}
use Rattle.format.specs.declared.PrimitiveCode.{PrimitiveCode}
use Rattle.format.specs.declared.PrimitiveCode.TheVariants as C
use Rattle.format.specs.Bytes.{pick}
use Rattle.format.specs.Types.{code_number, primitive_of}
use Rattle.fields.specs.Judged.{picked}

pub primitive_number : (c : PrimitiveCode) → primitive_of (code_number c) ≡ Some c
unfolding primitive_of
primitive_number C.Boolean = refl
primitive_number C.Byte = refl
primitive_number C.Char = refl
primitive_number C.Decimal = refl
primitive_number C.Double = refl
primitive_number C.Int16 = refl
primitive_number C.Int32 = refl
primitive_number C.Int64 = refl
primitive_number C.SByte = refl
primitive_number C.Single = refl
primitive_number C.TimeSpan = refl
primitive_number C.DateTime = refl
primitive_number C.UInt16 = refl
primitive_number C.UInt32 = refl
primitive_number C.UInt64 = refl

-- the code, where there is one, has the number b
abbrev Numbered : ℕ → Option PrimitiveCode → Type 0
Numbered b (Some c) = code_number c ≡ b
Numbered b None = Unit {0}

-- a pick of the code that has the number b, and else of what keeps to it
or : (b : ℕ) (c : PrimitiveCode) (r : Option PrimitiveCode) → Numbered b r → Numbered b (pick (eqb b (code_number c)) (Some c) r)
or b c r h = picked (Numbered b) (eqb b (code_number c)) (λ t. sym (eqb-true b (code_number c) t)) (λ t. h)

numbered : (b : ℕ) → Numbered b (primitive_of b)
unfolding primitive_of
numbered b =
    or b C.Boolean _ (or b C.Byte _ (or b C.Char _ (or b C.Decimal _ (or b C.Double _ (or b C.Int16 _ (or b C.Int32 _ (or b C.Int64 _
    (or b C.SByte _ (or b C.Single _ (or b C.TimeSpan _ (or b C.DateTime _ (or b C.UInt16 _ (or b C.UInt32 _ (or b C.UInt64 None tt))))))))))))))

pub number_primitive : (b : ℕ) (c : PrimitiveCode) → primitive_of b ≡ Some c → code_number c ≡ b
number_primitive b c q = rw q at (numbered b)

-- no code has a number above 16
pub no_code : (b : ℕ) → 16 < b → primitive_of b ≡ None
no_code b h = go (primitive_of b) refl
  where
    small : (c : PrimitiveCode) → code_number c ≤ 16
    small C.Boolean = omega arith
    small C.Byte = omega arith
    small C.Char = omega arith
    small C.Decimal = omega arith
    small C.Double = omega arith
    small C.Int16 = omega arith
    small C.Int32 = omega arith
    small C.Int64 = omega arith
    small C.SByte = omega arith
    small C.Single = omega arith
    small C.TimeSpan = omega arith
    small C.DateTime = omega arith
    small C.UInt16 = omega arith
    small C.UInt32 = omega arith
    small C.UInt64 = omega arith

    go : (r : Option PrimitiveCode) → primitive_of b ≡ r → r ≡ None
    go None q = refl
    go (Some c) q = let n = number_primitive b c q in absurd (omega (arith, small c))
