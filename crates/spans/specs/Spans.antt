-- Places after strings, numbers and details: one law for each way that the definitions go, and that they stay within the stream.
use Prim.Native.Nat.{ℕ, zero, suc, ◌+◌, ◌-◌, ◌≤◌, ◌<◌}
use Rattle.std.specs.Prelude.{◌≡◌, refl, Bool, true, false, ◌||◌, List, length, ltb, leb, Result, Ok, Err}
use Rattle.std.proofs.Common.{arith}
use Rattle.std.proofs.Math.Dec.{eqb}
use borrow.Author.Tests.{eq-eqb, ne_eqb, ltb-true, leb-true, le-leb, lt-leb}
use Rattle.format.specs.declared.Refusal.{Refusal}
use Rattle.format.specs.declared.Setting.TheVariants as Q
use Rattle.format.specs.declared.Span.{Span}
use Rattle.format.specs.Bytes.{pick}
use Rattle.format.specs.Prefix.{prefix_at}
use Rattle.format.specs.Text.{span_from, span_at}
use Rattle.format.specs.Types.{past, after_text, after_number, after_info}
use Rattle.format.specs.Says.{after_texts}
use Rattle.fields.specs.Judged.{picked}
use Rattle.prefix.specs.Laws.{moves}

-- ---- spans

module _ (s : List ℕ) (p : ℕ) where
  module _ (n next : ℕ) (q : prefix_at Q.Lenient s p ≡ Ok (n, next)) where
    pub span_there : next + n ≤ length s → span_at s p ≡ record { from = next; to = next + n }
    unfolding span_at
    span_there h = rw (q, le-leb (next + n) (length s) h)

    pub span_cut : length s < next + n → span_at s p ≡ record { from = p; to = p }
    unfolding span_at
    span_cut h = rw (q, lt-leb (next + n) (length s) h)

  pub span_none : (f : Refusal) → prefix_at Q.Lenient s p ≡ Err f → span_at s p ≡ record { from = p; to = p }
  unfolding span_at
  span_none f q = rw q

-- a span begins at its place or later, ends where it begins or later, and ends within the stream or at its place
pub record Within (s : List ℕ) (p : ℕ) (x : Span) : Type 0 where
  pub starts : p ≤ x.from
  pub rises : x.from ≤ x.to
  pub ends : (m : ℕ) → p ≤ m → length s ≤ m → x.to ≤ m

pub span_within : (s : List ℕ) (p : ℕ) → Within s p (span_at s p)
unfolding span_at
span_within s p = go (prefix_at Q.Lenient s p) refl
  where
    stays : Within s p (record { from = p; to = p })
    stays = record { starts = omega arith; rises = omega arith; ends = λ m h g. h }

    go : (r : Result (ℕ × ℕ) Refusal) → prefix_at Q.Lenient s p ≡ r → Within s p (span_from s p r)
    go (Ok (n, next)) q =
        picked (Within s p) (leb (next + n) (length s))
        (λ t.
        let w = moves Q.Lenient s p n next q in
        let l = leb-true (next + n) (length s) t in
        record { starts = omega arith; rises = omega arith; ends = λ m h g. omega arith })
        (λ t. stays)
    go (Err f) q = stays

-- ---- the place after one string

module _ (s : List ℕ) (p : ℕ) where
  pub text_rises : p ≤ after_text s p
  text_rises =
      let w = span_within s p in
      omega (arith, w.starts, w.rises)

  -- within the stream, or where it begins
  pub text_within : (m : ℕ) → p ≤ m → length s ≤ m → after_text s p ≤ m
  text_within m h g = (span_within s p).ends m h g

-- ---- the place after n strings

pub texts_within : (s : List ℕ) (n p m : ℕ) → p ≤ m → length s ≤ m → (p ≤ after_texts s n p) × (after_texts s n p ≤ m)
unfolding after_texts
texts_within s zero p m h g = (omega arith, h)
texts_within s (suc n) p m h g =
    let r = text_rises s p in
    let w = texts_within s n (after_text s p) m (text_within s p m h g) g in
    (omega (arith, w.0), w.1)

-- ---- the place after a byte and after a number

byte_place : (s : List ℕ) (p m : ℕ) → p ≤ m → length s ≤ m → (p ≤ past (length s) p) × (past (length s) p ≤ m)
byte_place s p m h g =
    picked (λ (e : ℕ). (p ≤ e) × (e ≤ m)) (ltb p (length s))
    (λ t. let l = ltb-true p (length s) t in (omega arith, omega arith))
    (λ t. (omega arith, h))

number_place : (s : List ℕ) (p m : ℕ) → p ≤ m → length s ≤ m → (p ≤ after_number s p) × (after_number s p ≤ m)
number_place s p m h g =
    picked (λ (e : ℕ). (p ≤ e) × (e ≤ m)) (leb (p + 4) (length s))
    (λ t. let l = leb-true (p + 4) (length s) t in (omega arith, omega arith))
    (λ t. (omega arith, h))

-- ---- the place after a detail

module _ (s : List ℕ) (type p : ℕ) where
  pub after_primitive : type ≡ 0 → after_info s type p ≡ past (length s) p
  unfolding after_info
  after_primitive h = rw (eq-eqb type 0 h)

  pub after_array : type ≡ 7 → after_info s type p ≡ past (length s) p
  unfolding after_info
  after_array h = rw h

  pub after_system : type ≡ 3 → after_info s type p ≡ after_text s p
  unfolding after_info
  after_system h = rw h

  pub after_class : type ≡ 4 → after_info s type p ≡ after_number s (after_text s p)
  unfolding after_info
  after_class h = rw h

  pub after_none : (type ≡ 0 → ⊥) → (type ≡ 7 → ⊥) → (type ≡ 3 → ⊥) → (type ≡ 4 → ⊥) → after_info s type p ≡ p
  unfolding after_info
  after_none a b c d = rw (ne_eqb type 0 a, ne_eqb type 7 b, ne_eqb type 3 c, ne_eqb type 4 d)

  -- within the stream, or where it begins
  pub info_place : (m : ℕ) → p ≤ m → length s ≤ m → (p ≤ after_info s type p) × (after_info s type p ≤ m)
  unfolding after_info
  info_place m h g = go (eqb type 0 || eqb type 7) (eqb type 3) (eqb type 4)
    where
      In : ℕ → Type 0
      In e = (p ≤ e) × (e ≤ m)

      class : In (after_number s (after_text s p))
      class =
          let w = number_place s (after_text s p) m (text_within s p m h g) g in
          (omega (arith, text_rises s p, w.0), w.1)

      go : (x y z : Bool) → In (pick x (past (length s) p) (pick y (after_text s p) (pick z (after_number s (after_text s p)) p)))
      go true y z = byte_place s p m h g
      go false true z = (text_rises s p, text_within s p m h g)
      go false false true = class
      go false false false = (omega arith, h)
