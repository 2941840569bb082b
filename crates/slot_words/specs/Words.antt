-- A slot type as a word, the slot type of a word, and that it comes back.
use Rattle.std.specs.Prelude.{◌≡◌, refl, ℕ, ◌+◌, ◌-◌, ◌≤◌, ltb, eqb}
use Rattle.std.proofs.Common.{arith}
use Rattle.format.specs.declared.PrimitiveCode.{PrimitiveCode}
use Rattle.format.specs.declared.PrimitiveCode.TheVariants as C
use Rattle.format.specs.declared.SlotType.{SlotType}
use Rattle.format.specs.declared.SlotType.TheVariants as S
use Rattle.format.specs.Bytes.{pick}
use Rattle.format.specs.Types.{code_number, primitive_of, coded}

-- a slot type as a word
abbrev pub slot_code : SlotType → ℕ
slot_code (S.Primitive c) = code_number c
slot_code S.Text = 20
slot_code S.Object = 21
slot_code S.SystemClass = 22
slot_code S.Class = 23
slot_code S.ObjectArray = 24
slot_code S.StringArray = 25
slot_code (S.PrimitiveArray c) = 32 + code_number c

-- the slot type of a word; one that no slot type has is some primitive type
unfoldable pub slot_from : ℕ → SlotType
slot_from k =
    pick (ltb k 20) (S.Primitive (coded (primitive_of k)))
    (pick (eqb k 20) S.Text
    (pick (eqb k 21) S.Object
    (pick (eqb k 22) S.SystemClass
    (pick (eqb k 23) S.Class
    (pick (eqb k 24) S.ObjectArray
    (pick (eqb k 25) S.StringArray
    (S.PrimitiveArray (coded (primitive_of (k - 32))))))))))

pub code_small : (c : PrimitiveCode) → code_number c ≤ 16
code_small C.Boolean = omega arith
code_small C.Byte = omega arith
code_small C.Char = omega arith
code_small C.Decimal = omega arith
code_small C.Double = omega arith
code_small C.Int16 = omega arith
code_small C.Int32 = omega arith
code_small C.Int64 = omega arith
code_small C.SByte = omega arith
code_small C.Single = omega arith
code_small C.TimeSpan = omega arith
code_small C.DateTime = omega arith
code_small C.UInt16 = omega arith
code_small C.UInt32 = omega arith
code_small C.UInt64 = omega arith

-- a primitive code comes back from both its words
both_back : (c : PrimitiveCode) → (slot_from (code_number c) ≡ S.Primitive c) × (slot_from (32 + code_number c) ≡ S.PrimitiveArray c)
unfolding slot_from primitive_of
both_back C.Boolean = (refl, refl)
both_back C.Byte = (refl, refl)
both_back C.Char = (refl, refl)
both_back C.Decimal = (refl, refl)
both_back C.Double = (refl, refl)
both_back C.Int16 = (refl, refl)
both_back C.Int32 = (refl, refl)
both_back C.Int64 = (refl, refl)
both_back C.SByte = (refl, refl)
both_back C.Single = (refl, refl)
both_back C.TimeSpan = (refl, refl)
both_back C.DateTime = (refl, refl)
both_back C.UInt16 = (refl, refl)
both_back C.UInt32 = (refl, refl)
both_back C.UInt64 = (refl, refl)

pub slot_back : (t : SlotType) → slot_from (slot_code t) ≡ t
unfolding slot_from
slot_back (S.Primitive c) = (both_back c).0
slot_back S.Text = refl
slot_back S.Object = refl
slot_back S.SystemClass = refl
slot_back S.Class = refl
slot_back S.ObjectArray = refl
slot_back S.StringArray = refl
slot_back (S.PrimitiveArray c) = (both_back c).1
