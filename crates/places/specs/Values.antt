-- Values and the items of a primitive array at a place (01, Field rules): those that the grammar takes are those that end, and read at a place
-- they are those written there. Of a Decimal what stands behind its prefix is judged, of any other value all its bytes.
use Rattle.std.specs.Prelude.{ℕ, ◌+◌, ◌-◌, ◌<◌, ◌≡◌, refl, Bool, true, false, List, length, get_or, Ok}
use Rattle.std.proofs.Common.{sym, ◌∙◌, subst, arith, leb-true, ne_eqb}
use Rattle.format.specs.Terms.{Terms}
use Rattle.format.specs.declared.Refusal.TheVariants as R
use Rattle.format.specs.declared.Setting.TheVariants as Q
use Rattle.format.specs.declared.PrimitiveCode.{PrimitiveCode}
use Rattle.format.specs.declared.PrimitiveCode.TheVariants as C
use Rattle.format.specs.Bytes.{part}
use Rattle.format.specs.Numbers.{le}
use Rattle.format.specs.Prefix.{prefix_of}
use Rattle.format.specs.Values.{bytes_at, boolean_at, char_at, decimal, decimal_at, date_time_at, size_of, value_at, size_from, value_span}
use Rattle.format.specs.Unicode.{Scalar, encode}
use Rattle.format.specs.Decimals.{Decimal}
use Rattle.format.specs.Contents.{Prefixed, bytes_in, has_prefix}
use Rattle.format.specs.Says.{content_from}
use Rattle.format.specs.Grammar.{Width, Sized, a_byte, an_sbyte, an_int16, a_uint16, an_int32, a_uint32, a_single, an_int64, a_uint64, a_double, a_time_span, Content, number, boolean, scalar, exact, moment, PrefixIf, Value}
use Rattle.format.proofs.Own.{moment_exactly, sized_exactly}
use Rattle.fields.specs.Parts.{length_part, part_cons, part_first}
use Rattle.fields.specs.Judged.{judged_taken, judged_end}
use Rattle.num.specs.Le.{Bytes}
use Rattle.value_forms.specs.Ends.{bytes_end, boolean_end}
use Rattle.items.specs.Judged.{any, truth, bytes_judged, boolean_judged, date_judged, char_taken, decimal_told, decimal_of_lem}
use Rattle.items.specs.Judged as J
use Rattle.items.specs.Keeps.{value_moves}
use Rattle.laws.specs.Tests.{apart, differ, either}
use Rattle.utf8.specs.Chars.{char_exactly}
use Rattle.decimals.specs.Exactly.{decimal_exactly}
use Rattle.places.specs.Stand.{Stand, stand_size, stand_same, stand_part, stand_inside, stand_here}
use Rattle.places.specs.Prefixes.{prefixed, behind, counted_there, counted_span, written_at, counted_back}

-- ---- values whose every pattern is taken

pub value_bytes : (τ : Terms) (s : List ℕ) (c : PrimitiveCode) (p : ℕ) → 0 < size_of c → value_at τ.setting s c p ≡ bytes_at s p (size_of c)
unfolding value_at
value_bytes τ s C.Boolean p h = absurd (omega arith)
value_bytes τ s C.Byte p h = refl
value_bytes τ s C.Char p h = absurd (omega arith)
value_bytes τ s C.Decimal p h = absurd (omega arith)
value_bytes τ s C.Double p h = refl
value_bytes τ s C.Int16 p h = refl
value_bytes τ s C.Int32 p h = refl
value_bytes τ s C.Int64 p h = refl
value_bytes τ s C.SByte p h = refl
value_bytes τ s C.Single p h = refl
value_bytes τ s C.TimeSpan p h = refl
value_bytes τ s C.DateTime p h = absurd (omega arith)
value_bytes τ s C.UInt16 p h = refl
value_bytes τ s C.UInt32 p h = refl
value_bytes τ s C.UInt64 p h = refl

-- a code whose every pattern is taken, and what has a prefix
sized_bare : {c : PrimitiveCode} {n : ℕ} → Sized c n → has_prefix c ≡ false
sized_bare a_byte = refl
sized_bare an_sbyte = refl
sized_bare an_int16 = refl
sized_bare a_uint16 = refl
sized_bare an_int32 = refl
sized_bare a_uint32 = refl
sized_bare a_single = refl
sized_bare an_int64 = refl
sized_bare a_uint64 = refl
sized_bare a_double = refl
sized_bare a_time_span = refl

-- ---- what is written is read

scalar_there : (s v : List ℕ) (p e c : ℕ) → Scalar c → v ≡ encode c → Stand s v p e → char_at s p ≡ Ok e
scalar_there s v p e c i q w =
    let k = stand_size w in
    let z : e - p ≡ length v = omega arith in
    let same : part s p (length v) ≡ v = rw z at (stand_same w) in
    (char_exactly s p e).1 (c, record { scalar = i; bytes = rw (← q) same; ends = rw (← q) k })

-- without a prefix
bare_there : (τ : Terms) (s : List ℕ) (c : PrimitiveCode) (v : List ℕ) (p e : ℕ) → Content c v → has_prefix c ≡ false → Stand s v p e → value_at τ.setting s c p ≡ Ok e
unfolding value_at
bare_there τ s c v p e (number {n = n} g l) f w =
    let k = stand_size w in
    let h = (sized_exactly c n).1 g in
    let z : e ≡ p + size_of c = omega arith in
    value_bytes τ s c p h.0 ∙ rw z (bytes_end s p (size_of c) (omega (arith, w.room)))
bare_there τ s c v p e (boolean h) f w =
    let k = stand_size w in
    rw k (boolean_end s p (stand_inside w) (rw (stand_here w) h))
bare_there τ s c v p e (scalar x i q) f w = scalar_there s v p e x i q w
bare_there τ s c v p e (exact g h) f w = differ f
bare_there τ s c v p e (moment l d) f w =
    let k = stand_size w in
    let z : e - p ≡ 8 = omega arith in
    let same : part s p 8 ≡ v = rw z at (stand_same w) in
    date_judged s p ∙ judged_end J.moment R.BadValue s p 8 e (record { ends = omega arith; room = omega (arith, w.room); good = rw same ((moment_exactly (le v)).1 d) })

-- and with one, which only a Decimal has
pub decimal_only : {c : PrimitiveCode} {v : List ℕ} → Content c v → has_prefix c ≡ true → (c ≡ C.Decimal) × Decimal v × (length v < 2147483648)
decimal_only (number g l) f = apart (sym (sized_bare g) ∙ f)
decimal_only (boolean h) f = apart f
decimal_only (scalar x h q) f = apart f
decimal_only (exact g h) f = (refl, g, h)
decimal_only (moment l d) f = apart f

prefixed_there : (τ : Terms) (s : List ℕ) (c : PrimitiveCode) (v : Prefixed) (p e : ℕ) → Content c v.text → has_prefix c ≡ true
    → Width τ.setting v.width (length v.text) → Stand s (bytes_in v) p e → value_at τ.setting s c p ≡ Ok e
unfolding value_at
prefixed_there τ s c v p e g f i w =
    let d = decimal_only g f in
    rw d.0
    (decimal_of_lem τ.setting s p (length v.text) (p + v.width) e (counted_there τ decimal R.BadValue s p e v i d.2 ((decimal_exactly v.text).1 d.1) w))

no_prefix : (v : Prefixed) → v.width ≡ 0 → bytes_in v ≡ v.text
unfolding prefix_of
no_prefix v z = rw z

pub value_there : (τ : Terms) (s : List ℕ) (c : PrimitiveCode) (v : Prefixed) (p e : ℕ) → Value τ c v → Stand s (bytes_in v) p e → value_at τ.setting s c p ≡ Ok e
value_there τ s c v p e g w = go (has_prefix c) refl g.prefix
  where
    go : (t : Bool) → has_prefix c ≡ t → PrefixIf τ t v.width (length v.text) → value_at τ.setting s c p ≡ Ok e
    go true f i = prefixed_there τ s c v p e g.content f i w
    go false f i = bare_there τ s c v.text p e g.content f (subst (λ (b : List ℕ). Stand s b p e) (no_prefix v i) w)

-- ---- what is read is written so

-- the value that stands at a place: the width of its prefix, if it has one, and what is behind it
abbrev pub value_in : List ℕ → PrimitiveCode → ℕ → Prefixed
value_in s c p = record { width = (value_span s c p).from - p; text = content_from s c p }

-- a value from p to e that has no prefix
record Bare (s : List ℕ) (c : PrimitiveCode) (p e : ℕ) : Type 0 where
  content : Content c (part s p (e - p))
  some : 0 < size_from s c p
  ends : e ≡ p + size_from s c p

number_back : (τ : Terms) (s : List ℕ) (c : PrimitiveCode) (p e : ℕ) → 0 < size_of c → size_from s c p ≡ size_of c → value_at τ.setting s c p ≡ Ok e → Bare s c p e
number_back τ s c p e h i q =
    let w = judged_taken any R.BadValue s p (size_of c) e (sym (bytes_judged s p (size_of c)) ∙ (sym (value_bytes τ s c p h) ∙ q)) in
    let z : e - p ≡ size_of c = omega arith in
    let g = (sized_exactly c (size_of c)).0 (h, refl) in
    record {
      content = rw z (number {c = c} {v = part s p (size_of c)} g (length_part s p (size_of c) w.room));
      some = rw i h;
      ends = rw i w.ends;
    }

boolean_back : (s : List ℕ) (p e : ℕ) → boolean_at s p ≡ Ok e → Bare s C.Boolean p e
boolean_back s p e q =
    let w = judged_taken truth R.BadValue s p 1 e (sym (boolean_judged s p) ∙ q) in
    let z : e - p ≡ 1 = omega arith in
    let f : get_or (part s p 1) 0 0 ≡ get_or s p 0 = part_first s p 1 (omega arith) in
    record {
      content = rw (z, part_cons s p 0 (omega (arith, w.room))) (boolean (rw f at (leb-true (get_or (part s p 1) 0 0) 1 w.good)));
      some = omega arith;
      ends = w.ends;
    }

char_back : (s : List ℕ) (p e : ℕ) → char_at s p ≡ Ok e → Bare s C.Char p e
char_back s p e q =
    let w = (char_exactly s p e).0 q in
    let z : e - p ≡ length (encode w.0) = omega (arith, w.1.ends) in
    record {
      content = scalar {v = part s p (e - p)} w.0 w.1.scalar (rw z w.1.bytes);
      some = omega arith;
      ends = (char_taken s p e q).ends;
    }

date_back : (s : List ℕ) (p e : ℕ) → date_time_at s p ≡ Ok e → Bare s C.DateTime p e
date_back s p e q =
    let w = judged_taken J.moment R.BadValue s p 8 e (sym (date_judged s p) ∙ q) in
    let z : e - p ≡ 8 = omega arith in
    record {
      content = rw z (moment (length_part s p 8 w.room) ((moment_exactly (le (part s p 8))).0 w.good));
      some = omega arith;
      ends = w.ends;
    }

bare_back : (τ : Terms) (s : List ℕ) (c : PrimitiveCode) (p e : ℕ) → has_prefix c ≡ false → value_at τ.setting s c p ≡ Ok e → Bare s c p e
unfolding value_at
bare_back τ s C.Boolean p e f q = boolean_back s p e q
bare_back τ s C.Byte p e f q = number_back τ s C.Byte p e (omega arith) refl q
bare_back τ s C.Char p e f q = char_back s p e q
bare_back τ s C.Decimal p e f q = differ f
bare_back τ s C.Double p e f q = number_back τ s C.Double p e (omega arith) refl q
bare_back τ s C.Int16 p e f q = number_back τ s C.Int16 p e (omega arith) refl q
bare_back τ s C.Int32 p e f q = number_back τ s C.Int32 p e (omega arith) refl q
bare_back τ s C.Int64 p e f q = number_back τ s C.Int64 p e (omega arith) refl q
bare_back τ s C.SByte p e f q = number_back τ s C.SByte p e (omega arith) refl q
bare_back τ s C.Single p e f q = number_back τ s C.Single p e (omega arith) refl q
bare_back τ s C.TimeSpan p e f q = number_back τ s C.TimeSpan p e (omega arith) refl q
bare_back τ s C.DateTime p e f q = date_back s p e q
bare_back τ s C.UInt16 p e f q = number_back τ s C.UInt16 p e (omega arith) refl q
bare_back τ s C.UInt32 p e f q = number_back τ s C.UInt32 p e (omega arith) refl q
bare_back τ s C.UInt64 p e f q = number_back τ s C.UInt64 p e (omega arith) refl q

bare_span : (τ : Terms) (s : List ℕ) (c : PrimitiveCode) (p e : ℕ) → has_prefix c ≡ false → value_at τ.setting s c p ≡ Ok e → value_span s c p ≡ record { from = p; to = e }
unfolding value_span
bare_span τ s c p e f q =
    let w = bare_back τ s c p e f q in
    let k : p + size_from s c p ≡ e = sym w.ends in
    rw (ne_eqb (size_from s c p) 0 (λ x. omega (arith, w.some)), k)

-- what a value that ends tells: it is one of the grammar, it is written there, and it ends where the total reader ends it
abbrev Told : Terms → List ℕ → PrimitiveCode → ℕ → ℕ → Type 0
Told τ s c p e = Value τ c (value_in s c p) × Stand s (bytes_in (value_in s c p)) p e × ((value_span s c p).to ≡ e)

bare_told : (τ : Terms) (s : List ℕ) (c : PrimitiveCode) (p e : ℕ) → has_prefix c ≡ false → value_at τ.setting s c p ≡ Ok e → Told τ s c p e
unfolding prefix_of
bare_told τ s c p e f q =
    let w = bare_back τ s c p e f q in
    let m = value_moves τ.setting s c p e q in
    let z : p - p ≡ 0 = omega arith in
    rw (bare_span τ s c p e f q, z)
    (record { content = w.content; prefix = rw f refl }, stand_part (omega arith) m.1, refl)

decimal_back : (τ : Terms) (s : List ℕ) (p e : ℕ) → Bytes s → decimal_at τ.setting s p ≡ Ok e → Told τ s C.Decimal p e
unfolding value_span
decimal_back τ s p e b q =
    let x = decimal_told τ.setting s p e q in
    let n = x.0 in
    let a = x.1 in
    let y = counted_back τ decimal R.BadValue s p e n a b x.2 in
    let g : Value τ C.Decimal (written_at s p a e) =
    record { content = exact ((decimal_exactly (part s a (e - a))).0 y.good) y.short; prefix = y.width } in
    rw (counted_span τ decimal R.BadValue s p e n a x.2) (g, y.stands, refl)

prefixed_told : (τ : Terms) (s : List ℕ) (c : PrimitiveCode) (p e : ℕ) → Bytes s → has_prefix c ≡ true → value_at τ.setting s c p ≡ Ok e → Told τ s c p e
unfolding value_at
prefixed_told τ s C.Boolean p e b f q = apart f
prefixed_told τ s C.Byte p e b f q = apart f
prefixed_told τ s C.Char p e b f q = apart f
prefixed_told τ s C.Decimal p e b f q = decimal_back τ s p e b q
prefixed_told τ s C.Double p e b f q = apart f
prefixed_told τ s C.Int16 p e b f q = apart f
prefixed_told τ s C.Int32 p e b f q = apart f
prefixed_told τ s C.Int64 p e b f q = apart f
prefixed_told τ s C.SByte p e b f q = apart f
prefixed_told τ s C.Single p e b f q = apart f
prefixed_told τ s C.TimeSpan p e b f q = apart f
prefixed_told τ s C.DateTime p e b f q = apart f
prefixed_told τ s C.UInt16 p e b f q = apart f
prefixed_told τ s C.UInt32 p e b f q = apart f
prefixed_told τ s C.UInt64 p e b f q = apart f

pub value_back : (τ : Terms) (s : List ℕ) (c : PrimitiveCode) (p e : ℕ) → Bytes s → value_at τ.setting s c p ≡ Ok e
    → Value τ c (value_in s c p) × Stand s (bytes_in (value_in s c p)) p e × ((value_span s c p).to ≡ e)
value_back τ s c p e b q = either (has_prefix c) (λ f. prefixed_told τ s c p e b f q) (λ f. bare_told τ s c p e f q)

-- ---- what is written is what is read

prefixed_span : (τ : Terms) (s : List ℕ) (c : PrimitiveCode) (v : Prefixed) (p e : ℕ) → Content c v.text → has_prefix c ≡ true
    → Width τ.setting v.width (length v.text) → Stand s (bytes_in v) p e → value_span s c p ≡ record { from = p + v.width; to = e }
unfolding value_span
prefixed_span τ s c v p e g f i w =
    let d = decimal_only g f in
    let x = counted_there τ decimal R.BadValue s p e v i d.2 ((decimal_exactly v.text).1 d.1) w in
    rw d.0 (counted_span τ decimal R.BadValue s p e (length v.text) (p + v.width) x)

module _ (τ : Terms) (s : List ℕ) (c : PrimitiveCode) (v : Prefixed) (p e : ℕ) (g : Value τ c v) (w : Stand s (bytes_in v) p e) where
  pub value_span_lem : value_span s c p ≡ record { from = p + v.width; to = e }
  value_span_lem = go (has_prefix c) refl g.prefix
    where
      go : (t : Bool) → has_prefix c ≡ t → PrefixIf τ t v.width (length v.text) → value_span s c p ≡ record { from = p + v.width; to = e }
      go true f i = prefixed_span τ s c v p e g.content f i w
      go false f i =
          let z : p + v.width ≡ p = omega arith in
          rw z (bare_span τ s c p e f (value_there τ s c v p e g w))

  pub value_content : content_from s c p ≡ v.text
  value_content = rw value_span_lem (stand_same (behind s v p e w))

  pub value_in_lem : value_in s c p ≡ v
  value_in_lem = prefixed v ((value_span s c p).from - p) (content_from s c p) (rw value_span_lem (omega arith)) value_content
