-- Where the format reads a value, in strict or lenient, programs for people find the same place after it.
use Rattle.std.specs.Prelude.{ℕ, ◌+◌, ◌≤◌, ◌≡◌, refl, List, length, get_or, ltb, leb, eqb, Option, Some, None, Result, Ok, Err}
use Rattle.format.specs.declared.Refusal.{Refusal}
use Rattle.std.proofs.Common.{sym, ap, ◌∙◌, arith, ltb-true, leb-true}
use Rattle.std.proofs.lemmas.Bool.{eqb-false}
use Rattle.format.specs.declared.Setting.{Setting}
use Rattle.format.specs.declared.Refusal.TheVariants as R
use Rattle.format.specs.declared.PrimitiveCode.{PrimitiveCode}
use Rattle.format.specs.declared.PrimitiveCode.TheVariants as C
use Rattle.format.specs.declared.Span.{Span}
use Rattle.format.specs.Bytes.{pick}
use Rattle.format.specs.Numbers.{u64_at}
use Rattle.format.specs.Prefix.{prefix_at}
use Rattle.format.specs.Text.{need_of, well_formed}
use Rattle.format.specs.Types.{code_number}
use Rattle.format.specs.Values.{bytes_at, boolean_at, scalar_at, char_at, decimal, decimal_text, decimal_from, decimal_at, date_time, date_time_of, date_time_at, value_at}
use Rattle.fields.specs.Judged.{picked, told, other, no_end, judged_at, judged_taken}
use Rattle.num.specs.Read.{u64_says}
use Rattle.peeking.specs.Peeking.{onward, byte_at, after_string, char_size, fixed_size, after_value}
use Rattle.peeking.specs.Laws.{onward_in}
use Rattle.peeked.specs.Strings.{prefix_found}

-- n bytes that are there
on_to : (s : List ℕ) (p n e : ℕ) → e ≡ p + n → p + n ≤ length s → onward s p n ≡ e
on_to s p n e q h = sym (onward_in s p n h) ∙ sym q

-- ---- values whose code alone says how many bytes they have

bytes_on : (s : List ℕ) (p n e : ℕ) → bytes_at s p n ≡ Ok e → onward s p n ≡ e
unfolding bytes_at
bytes_on s p n e q =
    let w = told (leb (p + n) (length s)) (Ok (p + n)) (Err R.CutShort) (Ok e) q (no_end R.CutShort e) in
    let x = w.1 in
    on_to s p n e (cc) (leb-true (p + n) (length s) w.0)

boolean_on : (s : List ℕ) (p e : ℕ) → boolean_at s p ≡ Ok e → onward s p 1 ≡ e
unfolding boolean_at
boolean_on s p e q =
    let inner = pick (leb (get_or s p 0) 1) (Ok (p + 1)) (Err R.BadValue) in
    let w = told (ltb p (length s)) inner (Err R.CutShort) (Ok e) q (no_end R.CutShort e) in
    let v = told (leb (get_or s p 0) 1) (Ok (p + 1)) (Err R.BadValue) (Ok e) w.1 (no_end R.BadValue e) in
    let x = v.1 in
    let h = ltb-true p (length s) w.0 in
    on_to s p 1 e (cc) (omega arith)

date_told : (s : List ℕ) (p e : ℕ) (r : Option (ℕ × ℕ)) → u64_at s p ≡ r → date_time_of r ≡ Ok e → onward s p 8 ≡ e
date_told s p e (Some (x, next)) u q =
    let w = u64_says s p x next u in
    let v = told (date_time x) (Ok next) (Err R.BadValue) (Ok e) q (no_end R.BadValue e) in
    let y = v.1 in
    let z : next ≡ e = cc in
    on_to s p 8 e (sym z ∙ w.next) w.within
date_told s p e None u q = absurd (no_end R.CutShort e q)

date_on : (s : List ℕ) (p e : ℕ) → date_time_at s p ≡ Ok e → onward s p 8 ≡ e
unfolding date_time_at
date_on s p e q = date_told s p e (u64_at s p) refl q

-- ---- Char

-- a first byte that is one announces as many bytes as a Char has
need_size : (b : ℕ) → (need_of b ≡ 4 → ⊥) → need_of b + 1 ≡ char_size b
unfolding need_of char_size
need_size b =
    picked (λ n. (n ≡ 4 → ⊥) → n + 1 ≡ char_size b) (ltb b 0x80) (λ t h. rw t)
    (λ t0. picked (λ n. (n ≡ 4 → ⊥) → n + 1 ≡ char_size b) (ltb b 0xC2) (λ t h. absurd (h refl))
    (λ t1. picked (λ n. (n ≡ 4 → ⊥) → n + 1 ≡ char_size b) (ltb b 0xE0) (λ t h. rw (t0, t))
    (λ t2. picked (λ n. (n ≡ 4 → ⊥) → n + 1 ≡ char_size b) (ltb b 0xF0) (λ t h. rw (t0, t2, t))
    (λ t3. picked (λ n. (n ≡ 4 → ⊥) → n + 1 ≡ char_size b) (ltb b 0xF5) (λ t h. rw (t0, t2, t3)) (λ t h. absurd (h refl))))))

char_on : (s : List ℕ) (p e : ℕ) → char_at s p ≡ Ok e → onward s p (char_size (byte_at s p)) ≡ e
unfolding char_at scalar_at judged_at
char_on s p e q =
    let b = get_or s p 0 in
    let inner = pick (eqb (need_of b) 4) (Err R.BadValue) (scalar_at s p (need_of b + 1)) in
    let w = told (ltb p (length s)) inner (Err R.CutShort) (Ok e) q (no_end R.CutShort e) in
    let v = other (eqb (need_of b) 4) (Err R.BadValue) (scalar_at s p (need_of b + 1)) (Ok e) w.1 (no_end R.BadValue e) in
    let t = judged_taken well_formed R.BadValue s p (need_of b + 1) e v.1 in
    rw (← need_size b (eqb-false (need_of b) 4 v.0)) (on_to s p (need_of b + 1) e t.ends t.room)

-- ---- Decimal

decimal_told : (σ : Setting) (s : List ℕ) (p e : ℕ) (r : Result (ℕ × ℕ) Refusal) → prefix_at σ s p ≡ r → decimal_from s r ≡ Ok e → after_string s p ≡ e
unfolding decimal_text judged_at after_string
decimal_told σ s p e (Ok (n, next)) u q =
    let t = judged_taken decimal R.BadValue s next n e q in
    let ends : e ≡ next + n = t.ends in
    let room : next + n ≤ length s = t.room in
    ap (λ (x : Span). x.to) (prefix_found σ s p n next room u) ∙ sym ends
decimal_told σ s p e (Err f) u q = absurd (no_end f e q)

decimal_on : (σ : Setting) (s : List ℕ) (p e : ℕ) → decimal_at σ s p ≡ Ok e → after_string s p ≡ e
unfolding decimal_at
decimal_on σ s p e q = decimal_told σ s p e (prefix_at σ s p) refl q

-- ---- a value by its code

pub value_found : (σ : Setting) (s : List ℕ) (code : PrimitiveCode) (p e : ℕ) → value_at σ s code p ≡ Ok e → after_value s p (code_number code) ≡ e
unfolding value_at after_value fixed_size
value_found σ s C.Boolean p e q = boolean_on s p e q
value_found σ s C.Byte p e q = bytes_on s p 1 e q
value_found σ s C.Char p e q = char_on s p e q
value_found σ s C.Decimal p e q = decimal_on σ s p e q
value_found σ s C.Double p e q = bytes_on s p 8 e q
value_found σ s C.Int16 p e q = bytes_on s p 2 e q
value_found σ s C.Int32 p e q = bytes_on s p 4 e q
value_found σ s C.Int64 p e q = bytes_on s p 8 e q
value_found σ s C.SByte p e q = bytes_on s p 1 e q
value_found σ s C.Single p e q = bytes_on s p 4 e q
value_found σ s C.TimeSpan p e q = bytes_on s p 8 e q
value_found σ s C.DateTime p e q = date_on s p e q
value_found σ s C.UInt16 p e q = bytes_on s p 2 e q
value_found σ s C.UInt32 p e q = bytes_on s p 4 e q
value_found σ s C.UInt64 p e q = bytes_on s p 8 e q
