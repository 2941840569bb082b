-- Every value moves forward within the stream and looks only at its own bytes, and so do the items of a primitive array.
use Rattle.std.specs.Prelude.{ℕ, zero, suc, ◌+◌, ◌-◌, ◌*◌, ◌≤◌, ◌<◌, ◌≡◌, refl, Bool, true, false, List, ◌++◌, length, drop, eqb, Ok}
use Rattle.std.proofs.Common.{sym, ◌∙◌, arith, mul-le-mul}
use Rattle.std.proofs.lemmas.Bool.{eqb-false}
use Rattle.format.specs.declared.Setting.{Setting}
use Rattle.format.specs.declared.Refusal.TheVariants as R
use Rattle.format.specs.declared.PrimitiveCode.{PrimitiveCode}
use Rattle.format.specs.declared.PrimitiveCode.TheVariants as C
use Rattle.format.specs.Bytes.{pick, part}
use Rattle.format.specs.Local.{Local}
use Rattle.format.specs.Values.{bytes_at, boolean_at, char_at, decimal, decimal_at, date_time_at, size_of, value_at, times, items_at}
use Rattle.fields.specs.Judged.{judged_at, judged_taken, judged_local, local_of}
use Rattle.fields.specs.Sequence.{Kept, local_kept, judged_kept, times_kept, times_local, same_local}
use Rattle.strings.specs.Counted.{counted_moves, counted_only}
use Rattle.items.specs.Judged.{any, truth, moment, one_scalar, char_width, bytes_judged, boolean_judged, date_judged, char_taken, char_of, decimal_told, decimal_of_lem}

-- ---- the bytes

pub bytes_local : (n : ℕ) → 0 < n → Local (λ s p. bytes_at s p n)
bytes_local n h = same_local (λ s p. bytes_at s p n) (λ s p. judged_at any R.BadValue s p n) (λ s p. bytes_judged s p n) (judged_local any R.BadValue n h)

-- also of no bytes
pub bytes_kept : (n : ℕ) → Kept (λ s p. bytes_at s p n)
unfolding bytes_at judged_at
bytes_kept n = judged_kept any R.BadValue n

pub boolean_local : Local boolean_at
boolean_local = same_local boolean_at (λ s p. judged_at truth R.BadValue s p 1) boolean_judged (judged_local truth R.BadValue 1 (omega arith))

pub date_local : Local date_time_at
date_local = same_local date_time_at (λ s p. judged_at moment R.BadValue s p 8) date_judged (judged_local moment R.BadValue 8 (omega arith))

pub char_local : Local char_at
char_local = local_of one_scalar char_width char_at (λ b. omega arith) char_taken char_of

pub decimal_local : (σ : Setting) → Local (decimal_at σ)
decimal_local σ = record { moves = moves; only = only }
  where
    moves : (s : List ℕ) (p e : ℕ) → decimal_at σ s p ≡ Ok e → (p ≤ e) × (e ≤ length s)
    moves s p e q =
        let w = decimal_told σ s p e q in
        let m = counted_moves σ decimal R.BadValue s p w.0 w.1 e w.2 in
        (omega arith, omega arith)

    only : (s t rest : List ℕ) (p q e : ℕ) → decimal_at σ s p ≡ Ok e → drop q t ≡ part s p (e - p) ++ rest → decimal_at σ t q ≡ Ok (q + (e - p))
    only s t rest p q e h d =
        let w = decimal_told σ s p e h in
        let c = counted_only σ decimal R.BadValue s t rest p q w.0 w.1 e w.2 d in
        decimal_of_lem σ t q w.0 (q + (w.1 - p)) (q + (e - p)) c

pub value_local : (σ : Setting) (code : PrimitiveCode) → Local (λ s p. value_at σ s code p)
unfolding value_at
value_local σ C.Boolean = boolean_local
value_local σ C.Byte = bytes_local 1 (omega arith)
value_local σ C.Char = char_local
value_local σ C.Decimal = decimal_local σ
value_local σ C.Double = bytes_local 8 (omega arith)
value_local σ C.Int16 = bytes_local 2 (omega arith)
value_local σ C.Int32 = bytes_local 4 (omega arith)
value_local σ C.Int64 = bytes_local 8 (omega arith)
value_local σ C.SByte = bytes_local 1 (omega arith)
value_local σ C.Single = bytes_local 4 (omega arith)
value_local σ C.TimeSpan = bytes_local 8 (omega arith)
value_local σ C.DateTime = date_local
value_local σ C.UInt16 = bytes_local 2 (omega arith)
value_local σ C.UInt32 = bytes_local 4 (omega arith)
value_local σ C.UInt64 = bytes_local 8 (omega arith)

-- ---- at least one byte

bytes_some : (s : List ℕ) (p n e : ℕ) → 0 < n → bytes_at s p n ≡ Ok e → p < e
bytes_some s p n e h q =
    let w = judged_taken any R.BadValue s p n e (sym (bytes_judged s p n) ∙ q) in
    omega arith

value_some : (σ : Setting) (s : List ℕ) (code : PrimitiveCode) (p e : ℕ) → value_at σ s code p ≡ Ok e → p < e
unfolding value_at
value_some σ s C.Boolean p e q =
    let w = judged_taken truth R.BadValue s p 1 e (sym (boolean_judged s p) ∙ q) in
    omega arith
value_some σ s C.Byte p e q = bytes_some s p 1 e (omega arith) q
value_some σ s C.Char p e q =
    let w = char_taken s p e q in
    omega arith
value_some σ s C.Decimal p e q =
    let w = decimal_told σ s p e q in
    let m = counted_moves σ decimal R.BadValue s p w.0 w.1 e w.2 in
    omega arith
value_some σ s C.Double p e q = bytes_some s p 8 e (omega arith) q
value_some σ s C.Int16 p e q = bytes_some s p 2 e (omega arith) q
value_some σ s C.Int32 p e q = bytes_some s p 4 e (omega arith) q
value_some σ s C.Int64 p e q = bytes_some s p 8 e (omega arith) q
value_some σ s C.SByte p e q = bytes_some s p 1 e (omega arith) q
value_some σ s C.Single p e q = bytes_some s p 4 e (omega arith) q
value_some σ s C.TimeSpan p e q = bytes_some s p 8 e (omega arith) q
value_some σ s C.DateTime p e q =
    let w = judged_taken moment R.BadValue s p 8 e (sym (date_judged s p) ∙ q) in
    omega arith
value_some σ s C.UInt16 p e q = bytes_some s p 2 e (omega arith) q
value_some σ s C.UInt32 p e q = bytes_some s p 4 e (omega arith) q
value_some σ s C.UInt64 p e q = bytes_some s p 8 e (omega arith) q

pub value_moves : (σ : Setting) (s : List ℕ) (code : PrimitiveCode) (p e : ℕ) → value_at σ s code p ≡ Ok e → (p < e) × (e ≤ length s)
value_moves σ s code p e q = (value_some σ s code p e q, ((value_local σ code).moves s p e q).1)

-- ---- the items

-- from places within the streams, also of no items
pub items_kept : (σ : Setting) (code : PrimitiveCode) (n : ℕ) → Kept (λ s p. items_at σ s code n p)
unfolding items_at
items_kept σ code n = go (eqb (size_of code) 0)
  where
    go : (t : Bool) → Kept (λ s p. pick t (times (value_at σ s code) n p) (bytes_at s p (size_of code * n)))
    go true = times_kept (λ s p. value_at σ s code p) (local_kept (λ s p. value_at σ s code p) (value_local σ code)) n
    go false = bytes_kept (size_of code * n)

-- Past the end of the stream no judged values end where they begin, and no bytes are cut short: hence 0 < n.
pub items_local : (σ : Setting) (code : PrimitiveCode) (n : ℕ) → 0 < n → Local (λ s p. items_at σ s code n p)
unfolding items_at
items_local σ code zero h = absurd (omega arith)
items_local σ code (suc n) h = go (eqb (size_of code) 0) refl
  where
    go : (t : Bool) → eqb (size_of code) 0 ≡ t → Local (λ s p. pick t (times (value_at σ s code) (suc n) p) (bytes_at s p (size_of code * suc n)))
    go true e = times_local (λ s p. value_at σ s code p) (value_local σ code) n
    go false e =
        let some : 1 ≤ size_of code = let z = eqb-false (size_of code) 0 e in omega arith in
        bytes_local (size_of code * suc n) (mul-le-mul {n₁ = 1} {m₁ = 1} {n₂ = size_of code} {m₂ = suc n} some (omega arith))
