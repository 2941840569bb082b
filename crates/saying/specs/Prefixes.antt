-- From what is said to what a record holds, and back: what is said has no prefix, the tidy copy gives each name, text and Decimal the shortest one.
use Rattle.std.specs.Prelude.{ℕ, ◌<◌, ◌≡◌, refl, Bool, true, false, List, [], ◌∷◌, length}
use Rattle.std.proofs.Common.{sym, subst, arith}
use Rattle.format.specs.Terms.{Terms}
use Rattle.format.specs.declared.PrimitiveCode.{PrimitiveCode}
use Rattle.format.specs.declared.Setting.TheVariants as Q
use Rattle.format.specs.Bytes.{pick}
use Rattle.format.specs.Contents.{Prefixed, bare, shortest, has_prefix, texts_of}
use Rattle.format.specs.Grammar.{Characters, Name, Sized, a_byte, an_sbyte, an_int16, a_uint16, an_int32, a_uint32, a_single, an_int64, a_uint64, a_double, a_time_span, Content, number, boolean, scalar, exact, moment, PrefixIf, Value, Values, none, more}
use Rattle.format.specs.Tidy.{value_by, values_by}
use Rattle.prefix.specs.Widths.{shortest_width}
use Rattle.laws.specs.Tests.{apart}
use Rattle.saying.specs.Good.{Contents, no_item, an_item}

-- ---- names and texts

pub shortest_name : (τ : Terms) {t : List ℕ} → Characters t → Name τ (shortest t)
shortest_name τ {t} g = record { characters = g; prefix = shortest_width (length t) g.short τ.setting }

-- ---- values

-- a value of a fixed size has no prefix
sized_bare : {c : PrimitiveCode} {n : ℕ} → Sized c n → has_prefix c ≡ false
sized_bare a_byte = refl
sized_bare an_sbyte = refl
sized_bare an_int16 = refl
sized_bare a_uint16 = refl
sized_bare an_int32 = refl
sized_bare a_uint32 = refl
sized_bare a_single = refl
sized_bare an_int64 = refl
sized_bare a_uint64 = refl
sized_bare a_double = refl
sized_bare a_time_span = refl

-- what has a prefix is short enough for one
short_enough : {c : PrimitiveCode} {v : List ℕ} → Content c v → has_prefix c ≡ true → length v < 2147483648
short_enough (number g e) p = absurd (let q = sized_bare g in let z : ◌≡◌ {A = ℕ} 0 1 = cc in omega arith)
short_enough (boolean h) p = apart p
short_enough (scalar k g e) p = apart p
short_enough (exact g h) p = h
short_enough (moment e g) p = apart p

-- what stands behind the prefix is what was said
pub text_by_lem : (c : PrimitiveCode) (v : List ℕ) → (value_by c v).text ≡ v
text_by_lem c v = go (has_prefix c)
  where
    go : (b : Bool) → (pick b (shortest v) (bare v)).text ≡ v
    go true = refl
    go false = refl

pub texts_by : (c : PrimitiveCode) (vs : List (List ℕ)) → texts_of (values_by c vs) ≡ vs
texts_by c [] = refl
texts_by c (v ∷ vs) = rw (text_by_lem c v, texts_by c vs)

pub value_by_lem : (τ : Terms) {c : PrimitiveCode} {v : List ℕ} → Content c v → Value τ c (value_by c v)
value_by_lem τ {c} {v} g = record { content = subst (Content c) (sym (text_by_lem c v)) g; prefix = go (has_prefix c) (short_enough g) }
  where
    go : (b : Bool) → (b ≡ true → length v < 2147483648) → PrefixIf τ b (pick b (shortest v) (bare v)).width (length (pick b (shortest v) (bare v)).text)
    go true h = shortest_width (length v) (h refl) τ.setting
    go false h = refl

-- ---- items

pub values_by_lem : (τ : Terms) {c : PrimitiveCode} {n : ℕ} {vs : List (List ℕ)} → Contents c n vs → Values τ c n (values_by c vs)
values_by_lem τ no_item = none
values_by_lem τ (an_item g gs) = more (value_by_lem τ g) (values_by_lem τ gs)

pub contents_of : (τ : Terms) {c : PrimitiveCode} {n : ℕ} {vs : List Prefixed} → Values τ c n vs → Contents c n (texts_of vs)
contents_of τ none = no_item
contents_of τ (more g gs) = an_item g.content (contents_of τ gs)
