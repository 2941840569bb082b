-- The items of a primitive array at a place (01, Field rules): those that the grammar takes are those that end, and read at a place they are
-- those written there, one after the other.
use Rattle.std.specs.Prelude.{ℕ, zero, suc, ◌+◌, ◌*◌, ◌≤◌, ◌<◌, ◌≡◌, refl, Bool, true, false, List, [], ◌∷◌, length, eqb, Ok}
use Rattle.std.proofs.Common.{sym, ap, ◌∙◌, subst, arith}
use Rattle.std.proofs.Math.Decide.{dec_lt}
use Rattle.std.proofs.lemmas.Bool.{eqb-false}
use Rattle.format.specs.Terms.{Terms}
use Rattle.format.specs.declared.PrimitiveCode.{PrimitiveCode}
use Rattle.format.specs.Bytes.{pick}
use Rattle.format.specs.Values.{bytes_at, size_of, value_at, value_span, times, items_at}
use Rattle.format.specs.Contents.{Prefixed, bytes_in, texts_of, items_bytes}
use Rattle.format.specs.Says.{content_from, items_from}
use Rattle.format.specs.Grammar.{Values, none, more}
use Rattle.fields.specs.Parts.{pieces}
use Rattle.fields.specs.Sequence.{through}
use Rattle.num.specs.Le.{Bytes}
use Rattle.value_forms.specs.Ends.{bytes_short, bytes_end}
use Rattle.items.specs.Keeps.{value_moves}
use Rattle.places.specs.Stand.{Stand, stand_size, stand_none, stand_then, stand_split}
use Rattle.places.specs.Values.{value_bytes, value_there, value_in, value_back, value_span_lem, value_in_lem}

-- bytes in two steps
two_steps : (s : List ℕ) (p a b : ℕ) → bytes_at s (p + a) b ≡ bytes_at s p (a + b)
unfolding bytes_at
two_steps s p a b = let y : p + a + b ≡ p + (a + b) = omega arith in rw y

-- numbers in one step are numbers one by one
numbers_each : (τ : Terms) (s : List ℕ) (c : PrimitiveCode) (n p : ℕ) → 0 < size_of c → p ≤ length s → times (value_at τ.setting s c) n p ≡ bytes_at s p (size_of c * n)
unfolding times
numbers_each τ s c zero p h i =
    let z : size_of c * 0 ≡ 0 = omega arith in
    let y : p + 0 ≡ p = omega arith in
    rw z (ap Ok (sym y) ∙ sym (bytes_end s p 0 (omega arith)))
numbers_each τ s c (suc n) p h i = go (dec_lt (length s) (p + size_of c)) (numbers_each τ s c n (p + size_of c) h)
  where
    go : Dec (length s < p + size_of c) → (p + size_of c ≤ length s → times (value_at τ.setting s c) n (p + size_of c) ≡ bytes_at s (p + size_of c) (size_of c * n))
        → times (value_at τ.setting s c) (suc n) p ≡ bytes_at s p (size_of c * suc n)
    go (yes l) again =
        rw (value_bytes τ s c p h, bytes_short s p (size_of c) l, pieces (size_of c) n) (sym (bytes_short s p (size_of c + size_of c * n) (omega arith)))
    go (no l) again =
        rw (value_bytes τ s c p h, bytes_end s p (size_of c) (omega arith), pieces (size_of c) n)
        (again (omega arith) ∙ two_steps s p (size_of c) (size_of c * n))

items_each : (τ : Terms) (s : List ℕ) (c : PrimitiveCode) (n p : ℕ) → p ≤ length s → items_at τ.setting s c n p ≡ times (value_at τ.setting s c) n p
unfolding items_at
items_each τ s c n p i = go (eqb (size_of c) 0) refl
  where
    go : (t : Bool) → eqb (size_of c) 0 ≡ t → pick t (times (value_at τ.setting s c) n p) (bytes_at s p (size_of c * n)) ≡ times (value_at τ.setting s c) n p
    go true t = refl
    go false t =
        let f = eqb-false (size_of c) 0 t in
        sym (numbers_each τ s c n p (omega arith) i)

-- ---- what is written is read

each_there : (τ : Terms) (s : List ℕ) (c : PrimitiveCode) (n : ℕ) (vs : List Prefixed) (p e : ℕ) → Values τ c n vs → Stand s (items_bytes vs) p e → times (value_at τ.setting s c) n p ≡ Ok e
unfolding times
each_there τ s c n vs p e none w =
    let k = stand_size w in
    ap Ok (omega arith)
each_there τ s c n vs p e (more {n = k} {v = v} {vs = us} g gs) w =
    let x = stand_split (bytes_in v) (items_bytes us) w in
    rw (value_there τ s c v p x.0 g x.1) (each_there τ s c k us x.0 e gs x.2)

pub items_there : (τ : Terms) (s : List ℕ) (c : PrimitiveCode) (n : ℕ) (vs : List Prefixed) (p e : ℕ) → Values τ c n vs → Stand s (items_bytes vs) p e → items_at τ.setting s c n p ≡ Ok e
items_there τ s c n vs p e g w = items_each τ s c n p (omega (arith, w.onward, w.room)) ∙ each_there τ s c n vs p e g w

-- ---- what is read is written so

-- n values that stand at a place, one after the other
unfoldable pub items_in : List ℕ → PrimitiveCode → ℕ → ℕ → List Prefixed
items_in s c zero p = []
items_in s c (suc n) p = value_in s c p ∷ items_in s c n (value_span s c p).to

-- and what they say
pub items_from_lem : (s : List ℕ) (c : PrimitiveCode) (n p : ℕ) → texts_of (items_in s c n p) ≡ items_from s c n p
unfolding items_in items_from
items_from_lem s c zero p = refl
items_from_lem s c (suc n) p = ap (λ (ts : List (List ℕ)). content_from s c p ∷ ts) (items_from_lem s c n (value_span s c p).to)

each_back : (τ : Terms) (s : List ℕ) (c : PrimitiveCode) (n p e : ℕ) → Bytes s → p ≤ length s → times (value_at τ.setting s c) n p ≡ Ok e
    → Values τ c n (items_in s c n p) × Stand s (items_bytes (items_in s c n p)) p e
unfolding times items_in
each_back τ s c zero p e b h q =
    let a : p ≡ e = cc in
    rw (← a) (none, stand_none h)
each_back τ s c (suc n) p e b h q =
    let x = through (times (value_at τ.setting s c) n) (value_at τ.setting s c p) e q in
    let m = value_moves τ.setting s c p x.0 x.1 in
    let v = value_back τ s c p x.0 b x.1 in
    let y = each_back τ s c n x.0 e b m.1 x.2 in
    subst (λ (m : ℕ). Values τ c (suc n) (value_in s c p ∷ items_in s c n m) × Stand s (items_bytes (value_in s c p ∷ items_in s c n m)) p e) (sym v.2)
    (more v.0 y.0, stand_then v.1 y.1)

pub items_back : (τ : Terms) (s : List ℕ) (c : PrimitiveCode) (n p e : ℕ) → Bytes s → p ≤ length s → items_at τ.setting s c n p ≡ Ok e
    → Values τ c n (items_in s c n p) × Stand s (items_bytes (items_in s c n p)) p e
items_back τ s c n p e b h q = each_back τ s c n p e b h (sym (items_each τ s c n p h) ∙ q)

-- ---- what is written is what is read

pub items_in_lem : (τ : Terms) (s : List ℕ) (c : PrimitiveCode) (n : ℕ) (vs : List Prefixed) (p e : ℕ) → Values τ c n vs → Stand s (items_bytes vs) p e → items_in s c n p ≡ vs
unfolding items_in
items_in_lem τ s c n vs p e none w = refl
items_in_lem τ s c n vs p e (more {n = k} {v = v} {vs = us} g gs) w =
    let x = stand_split (bytes_in v) (items_bytes us) w in
    let a : (value_span s c p).to ≡ x.0 = rw (value_span_lem τ s c v p x.0 g x.1) in
    ap (λ (u : Prefixed). u ∷ items_in s c k (value_span s c p).to) (value_in_lem τ s c v p x.0 g x.1)
    ∙ ap (λ (us : List Prefixed). v ∷ us) (ap (items_in s c k) a ∙ items_in_lem τ s c k us x.0 e gs x.2)
