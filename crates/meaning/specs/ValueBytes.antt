-- The bytes written for values are those of what they say: a Decimal with the shortest prefix, which it has already where strict took it; any other as it
-- stands.
use Prim.Native.Nat.{ℕ, zero, suc, ◌+◌, ◌-◌, ◌≤◌}
use Rattle.std.specs.Prelude.{◌≡◌, Bool, true, false, length, eqb, Some, None, Ok}
use Rattle.std.proofs.Math.Path.{refl, ap₂}
use Rattle.std.proofs.Common.{sym, ap, subst, ◌∙◌, arith, eqb-true}
use mathlib.Core.List.{List, ◌++◌}
use Rattle.format.specs.Terms.{Terms, strict, lenient}
use Rattle.format.specs.declared.Setting.{Setting}
use Rattle.format.specs.declared.Setting.TheVariants as S
use Rattle.format.specs.declared.PrimitiveCode.{PrimitiveCode}
use Rattle.format.specs.declared.PrimitiveCode.TheVariants as C
use Rattle.format.specs.Bytes.{pick}
use Rattle.format.specs.Prefix.{prefix_of}
use Rattle.format.specs.Values.{value_at, items_at, value_span}
use Rattle.format.specs.Types.{code_number, coded, primitive_of, after_text}
use Rattle.format.specs.Contents.{Prefixed, bytes_in, bare, shortest, has_prefix, texts_of, items_bytes}
use Rattle.format.specs.Grammar.{Width, PrefixIf, Value, Values, none, more}
use Rattle.format.specs.Says.{content_from, items_from}
use Rattle.format.specs.Tidy.{value_by, values_by}
use Rattle.num.specs.Le.{Bytes}
use Rattle.codes.specs.Codes.{primitive_number}
use Rattle.places.specs.Stand.{stand_same}
use Rattle.places.specs.Values.{value_in, value_back, decimal_only}
use Rattle.prefix.specs.Widths.{strict_width}
use Rattle.places.specs.Items.{items_in, items_from_lem, items_back}
use Rattle.put.specs.Out.{text_out, texts_out}
use Rattle.pieces.specs.Copy.{value_out, values_out, anew_in}
use Rattle.laws.specs.Tests.{either}
use Rattle.meaning.specs.Bytes.{text_is}

-- ---- Decimals

decimal_code : (c : PrimitiveCode) → has_prefix c ≡ true → c ≡ C.Decimal
unfolding primitive_of
decimal_code c f = sym (ap coded (primitive_number c)) ∙ ap (λ (n : ℕ). coded (primitive_of n)) (eqb-true (code_number c) 5 f)

module _ (s : List ℕ) where
  decimal_is : (p : ℕ) → text_out s p ≡ bytes_in (shortest (content_from s C.Decimal p))
  unfolding value_span
  decimal_is p = text_is s p

  decimals_are : (n p : ℕ) → texts_out s n p ≡ items_bytes (values_by C.Decimal (items_from s C.Decimal n p))
  unfolding texts_out items_from value_span
  decimals_are zero p = refl
  decimals_are (suc n) p = ap₂ (λ (x y : List ℕ). x ++ y) (text_is s p) (decimals_are n (after_text s p))

-- ---- values without a prefix

bare_one : (τ : Terms) (c : PrimitiveCode) (v : Prefixed) → has_prefix c ≡ false → Value τ c v → bytes_in v ≡ bytes_in (value_by c v.text)
bare_one τ c v f g =
    let z : v.width ≡ 0 = subst (λ (t : Bool). PrefixIf τ t v.width (length v.text)) f g.prefix in
    ap (λ (w : ℕ). prefix_of w (length v.text) ++ v.text) z ∙ ap (λ (t : Bool). bytes_in (pick t (shortest v.text) (bare v.text))) (sym f)

bare_all : (τ : Terms) (c : PrimitiveCode) (n : ℕ) (vs : List Prefixed) → has_prefix c ≡ false → Values τ c n vs → items_bytes vs ≡ items_bytes (values_by c (texts_of vs))
bare_all τ c n vs f none = refl
bare_all τ c n vs f (more {n = k} {v = v} {vs = us} g gs) = ap₂ (λ (x y : List ℕ). x ++ y) (bare_one τ c v f g) (bare_all τ c k us f gs)

-- ---- values that strict took

-- a Decimal with the prefix that strict takes, and any other value
strict_one : (c : PrimitiveCode) (v : Prefixed) → Value strict c v → bytes_in v ≡ bytes_in (value_by c v.text)
strict_one c v g = either (has_prefix c) prefixed (λ f. bare_one strict c v f g)
  where
    prefixed : has_prefix c ≡ true → bytes_in v ≡ bytes_in (value_by c v.text)
    prefixed f =
        let l = (decimal_only g.content f).2 in
        let w : Width S.Strict v.width (length v.text) = subst (λ (t : Bool). PrefixIf strict t v.width (length v.text)) f g.prefix in
        ap (λ (k : ℕ). prefix_of k (length v.text) ++ v.text) (strict_width (length v.text) l v.width w)
        ∙ ap (λ (t : Bool). bytes_in (pick t (shortest v.text) (bare v.text))) (sym f)

strict_all : (c : PrimitiveCode) (n : ℕ) (vs : List Prefixed) → Values strict c n vs → items_bytes vs ≡ items_bytes (values_by c (texts_of vs))
strict_all c n vs none = refl
strict_all c n vs (more {n = k} {v = v} {vs = us} g gs) = ap₂ (λ (x y : List ℕ). x ++ y) (strict_one c v g) (strict_all c k us gs)

-- 0 is the number of no code
no_code_0 : (c : PrimitiveCode) → eqb (code_number c) 0 ≡ false
unfolding primitive_of
no_code_0 c = either (eqb (code_number c) 0) never (λ f. f)
  where
    never : eqb (code_number c) 0 ≡ true → eqb (code_number c) 0 ≡ false
    never f =
        let e : Some c ≡ None = sym (primitive_number c) ∙ ap primitive_of (eqb-true (code_number c) 0 f) in
        absurd (let z : ◌≡◌ {A = ℕ} 0 1 = cc in omega arith)

-- ---- any value, and items

-- as they are written where Decimals are written anew
module _ (τ : Terms) (s : List ℕ) (byte : Bytes s) (c : PrimitiveCode) where
  value_anew : (p e : ℕ) → value_at τ.setting s c p ≡ Ok e → value_out s (has_prefix c) p e ≡ bytes_in (value_by c (content_from s c p))
  value_anew p e q = either (has_prefix c) prefixed plain
    where
      prefixed : has_prefix c ≡ true → value_out s (has_prefix c) p e ≡ bytes_in (value_by c (content_from s c p))
      prefixed f =
          ap (λ (x : PrimitiveCode). value_out s (has_prefix x) p e) (decimal_code c f)
          ∙ (decimal_is s p ∙ ap (λ (x : PrimitiveCode). bytes_in (value_by x (content_from s x p))) (sym (decimal_code c f)))

      plain : has_prefix c ≡ false → value_out s (has_prefix c) p e ≡ bytes_in (value_by c (content_from s c p))
      plain f =
          let w = value_back τ s c p e byte q in
          ap (λ (t : Bool). value_out s t p e) f ∙ (stand_same w.1 ∙ bare_one τ c (value_in s c p) f w.0)

  items_anew : (n p e : ℕ) → p ≤ length s → items_at τ.setting s c n p ≡ Ok e
      → values_out s (has_prefix c) n p e ≡ items_bytes (values_by c (items_from s c n p))
  items_anew n p e h q = either (has_prefix c) prefixed plain
    where
      prefixed : has_prefix c ≡ true → values_out s (has_prefix c) n p e ≡ items_bytes (values_by c (items_from s c n p))
      prefixed f =
          ap (λ (x : PrimitiveCode). values_out s (has_prefix x) n p e) (decimal_code c f)
          ∙ (decimals_are s n p ∙ ap (λ (x : PrimitiveCode). items_bytes (values_by x (items_from s x n p))) (sym (decimal_code c f)))

      plain : has_prefix c ≡ false → values_out s (has_prefix c) n p e ≡ items_bytes (values_by c (items_from s c n p))
      plain f =
          let w = items_back τ s c n p e byte h q in
          ap (λ (t : Bool). values_out s t n p e) f
          ∙ (stand_same w.1
          ∙ (bare_all τ c n (items_in s c n p) f w.0 ∙ ap (λ (l : List (List ℕ)). items_bytes (values_by c l)) (items_from_lem s c n p)))

-- and as they are written under these terms
module _ (τ : Terms) (s : List ℕ) (byte : Bytes s) (c : PrimitiveCode) where
  pub value_is : (p e : ℕ) → value_at τ.setting s c p ≡ Ok e → value_out s (eqb (code_number c) (anew_in τ.setting)) p e ≡ bytes_in (value_by c (content_from s c p))
  value_is p e q = go τ.setting q
    where
      go : (σ : Setting) → value_at σ s c p ≡ Ok e → value_out s (eqb (code_number c) (anew_in σ)) p e ≡ bytes_in (value_by c (content_from s c p))
      go S.Strict q =
          let w = value_back strict s c p e byte q in
          ap (λ (t : Bool). value_out s t p e) (no_code_0 c) ∙ (stand_same w.1 ∙ strict_one c (value_in s c p) w.0)
      go S.Lenient q = value_anew lenient s byte c p e q

  pub items_are : (n p e : ℕ) → p ≤ length s → items_at τ.setting s c n p ≡ Ok e
      → values_out s (eqb (code_number c) (anew_in τ.setting)) n p e ≡ items_bytes (values_by c (items_from s c n p))
  items_are n p e h q = go τ.setting q
    where
      go : (σ : Setting) → items_at σ s c n p ≡ Ok e → values_out s (eqb (code_number c) (anew_in σ)) n p e ≡ items_bytes (values_by c (items_from s c n p))
      go S.Strict q =
          let w = items_back strict s c n p e byte h q in
          ap (λ (t : Bool). values_out s t n p e) (no_code_0 c)
          ∙ (stand_same w.1
          ∙ (strict_all c n (items_in s c n p) w.0 ∙ ap (λ (l : List (List ℕ)). items_bytes (values_by c l)) (items_from_lem s c n p)))
      go S.Lenient q = items_anew lenient s byte c n p e h q
