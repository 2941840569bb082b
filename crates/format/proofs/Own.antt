-- The grammar's own words (01, Field rules) against the tests of the machine: each says the same as the test, in words that need no machine.
use Rattle.std.specs.Prelude.{ℕ, ◌/◌, ◌%◌, ◌<◌, ◌≡◌, refl, ◌↔◌, Bool, true, false, not, ◌&&◌, ltb, leb, eqb}
use Rattle.std.proofs.Common.{sym, subst, arith, ltb-true, leb-true, lt-ltb, le-leb, ne_eqb, leb-false}
use Rattle.std.proofs.lemmas.Bool.{eqb-false, lt-leb}
use Rattle.format.specs.declared.PrimitiveCode.{PrimitiveCode}
use Rattle.format.specs.declared.PrimitiveCode.TheVariants as C
use Rattle.format.specs.declared.SlotType.{SlotType}
use Rattle.format.specs.declared.SlotType.TheVariants as S
use Rattle.format.specs.Numbers.{negative}
use Rattle.format.specs.Values.{last_tick, date_time, size_of}
use Rattle.format.specs.Types.{positive, is_primitive}
use Rattle.format.specs.Grammar.{Positive, Moment, takes_records, Sized, a_byte, an_sbyte, an_int16, a_uint16, an_int32, a_uint32, a_single, an_int64, a_uint64, a_double, a_time_span}

-- ---- numbers

-- for every number: the machine takes it as positive exactly when the grammar does
pub positive_exactly : (n : ℕ) → (positive n ≡ true) ↔ Positive n
positive_exactly n = (go (eqb n 0) (negative n) refl refl, λ w. rw (ne_eqb n 0 (λ e. omega arith), lt-leb 2147483648 n w.below))
  where
    go : (a b : Bool) → eqb n 0 ≡ a → negative n ≡ b → (not a && not b) ≡ true → Positive n
    go false false e h q = let x = eqb-false n 0 e in let y = leb-false 2147483648 n h in record { above = omega arith; below = y }
    go true b e h q = absurd (let z : ◌≡◌ {A = ℕ} 0 1 = cc in omega arith)
    go false true e h q = absurd (let z : ◌≡◌ {A = ℕ} 0 1 = cc in omega arith)

-- for every number, also one of more than 64 bits: the machine takes it as a DateTime exactly when the grammar does
pub moment_exactly : (x : ℕ) → (date_time x ≡ true) ↔ Moment x
moment_exactly x = (go (ltb (x / 4611686018427387904) 3) (leb (x % 4611686018427387904) last_tick) refl refl, back)
  where
    back : Moment x → date_time x ≡ true
    back w = rw (lt-ltb (x / 4611686018427387904) 3 (omega arith), le-leb (x % 4611686018427387904) last_tick (omega arith))

    go : (a b : Bool) → ltb (x / 4611686018427387904) 3 ≡ a → leb (x % 4611686018427387904) last_tick ≡ b → (a && b) ≡ true → Moment x
    go true true e h q =
        let k = ltb-true (x / 4611686018427387904) 3 e in
        let t = leb-true (x % 4611686018427387904) last_tick h in
        record { kind = x / 4611686018427387904; ticks = x % 4611686018427387904; kind_known = omega arith; ticks_known = t; bits = omega arith }
    go true false e h q = absurd (let z : ◌≡◌ {A = ℕ} 0 1 = cc in omega arith)
    go false b e h q = absurd (let z : ◌≡◌ {A = ℕ} 0 1 = cc in omega arith)

-- ---- sizes

-- for every code and number: the machine's table gives this size, and not 0, exactly when the grammar does
pub sized_exactly : (c : PrimitiveCode) (n : ℕ) → ((0 < size_of c) × (n ≡ size_of c)) ↔ Sized c n
sized_exactly c n = (λ w. subst (Sized c) (sym w.1) (there c w.0), back)
  where
    there : (c : PrimitiveCode) → 0 < size_of c → Sized c (size_of c)
    there C.Boolean h = absurd (omega arith)
    there C.Byte h = a_byte
    there C.Char h = absurd (omega arith)
    there C.Decimal h = absurd (omega arith)
    there C.Double h = a_double
    there C.Int16 h = an_int16
    there C.Int32 h = an_int32
    there C.Int64 h = an_int64
    there C.SByte h = an_sbyte
    there C.Single h = a_single
    there C.TimeSpan h = a_time_span
    there C.DateTime h = absurd (omega arith)
    there C.UInt16 h = a_uint16
    there C.UInt32 h = a_uint32
    there C.UInt64 h = a_uint64

    back : {c : PrimitiveCode} {n : ℕ} → Sized c n → (0 < size_of c) × (n ≡ size_of c)
    back a_byte = (omega arith, refl)
    back an_sbyte = (omega arith, refl)
    back an_int16 = (omega arith, refl)
    back a_uint16 = (omega arith, refl)
    back an_int32 = (omega arith, refl)
    back a_uint32 = (omega arith, refl)
    back a_single = (omega arith, refl)
    back an_int64 = (omega arith, refl)
    back a_uint64 = (omega arith, refl)
    back a_double = (omega arith, refl)
    back a_time_span = (omega arith, refl)

-- ---- slots

-- for every slot: to the machine it is not primitive exactly when the grammar lets it take records
pub takes_exactly : (t : SlotType) → (is_primitive t ≡ false) ↔ (takes_records t ≡ true)
takes_exactly t = (there t, back t)
  where
    there : (t : SlotType) → is_primitive t ≡ false → takes_records t ≡ true
    there (S.Primitive c) e = absurd (let z : ◌≡◌ {A = ℕ} 0 1 = cc in omega arith)
    there S.Text e = refl
    there S.Object e = refl
    there S.SystemClass e = refl
    there S.Class e = refl
    there S.ObjectArray e = refl
    there S.StringArray e = refl
    there (S.PrimitiveArray c) e = refl

    back : (t : SlotType) → takes_records t ≡ true → is_primitive t ≡ false
    back (S.Primitive c) e = absurd (let z : ◌≡◌ {A = ℕ} 0 1 = cc in omega arith)
    back S.Text e = refl
    back S.Object e = refl
    back S.SystemClass e = refl
    back S.Class e = refl
    back S.ObjectArray e = refl
    back S.StringArray e = refl
    back (S.PrimitiveArray c) e = refl
