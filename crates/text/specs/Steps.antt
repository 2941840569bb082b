-- The machine of well-formed text by its first bytes and by the bytes that it waits for.
use Rattle.std.specs.Prelude.{ℕ, suc, ◌-◌, ◌≤◌, ◌<◌, ◌≡◌, refl, List, [], ◌∷◌, ltb, eqb}
use Rattle.std.proofs.Common.{ap, arith}
use Rattle.std.proofs.Math.Decide.{dec_lt}
use borrow.Author.Tests.{ltb-true, ltb-false, eqb-true, eqb-false, lt-ltb, le-ltb, ne_eqb}
use Rattle.format.specs.declared.Utf8.{Utf8}
use Rattle.format.specs.Text.{need_of, lo_of, hi_of, lead_of, broken, between, step_of, after}
use Rattle.fields.specs.Judged.{picked}

-- k bytes to come, the next of them from lo to hi
abbrev pub waits : ℕ → ℕ → ℕ → Utf8
waits k lo hi = record { need = k; lo = lo; hi = hi }

-- ---- first bytes

-- how many bytes follow
pub by_lead : (P : ℕ → Type 0) (b : ℕ) → (b < 0x80 → P 0) → (0xC2 ≤ b → b < 0xE0 → P 1) → (0xE0 ≤ b → b < 0xF0 → P 2) → (0xF0 ≤ b → b < 0xF5 → P 3) → P 4
    → P (need_of b)
unfolding need_of
by_lead P b none one two three never =
    picked P (ltb b 0x80) (λ t. none (ltb-true b 0x80 t))
    (λ t. picked P (ltb b 0xC2) (λ u. never)
    (λ u. picked P (ltb b 0xE0) (λ v. one (ltb-false b 0xC2 u) (ltb-true b 0xE0 v))
    (λ v. picked P (ltb b 0xF0) (λ w. two (ltb-false b 0xE0 v) (ltb-true b 0xF0 w))
    (λ w. picked P (ltb b 0xF5) (λ x. three (ltb-false b 0xF0 w) (ltb-true b 0xF5 x)) (λ x. never)))))

-- from where and up to where the second byte lies
pub by_second : (P : ℕ → ℕ → Type 0) (b : ℕ) → (b ≡ 0xE0 → P 0xA0 0xBF) → (b ≡ 0xED → P 0x80 0x9F) → (b ≡ 0xF0 → P 0x90 0xBF) → (b ≡ 0xF4 → P 0x80 0x8F)
    → ((b ≡ 0xE0 → ⊥) → (b ≡ 0xED → ⊥) → (b ≡ 0xF0 → ⊥) → (b ≡ 0xF4 → ⊥) → P 0x80 0xBF)
    → P (lo_of b) (hi_of b)
unfolding lo_of hi_of
by_second P b e0 ed f0 f4 other =
    picked (λ lo. P lo (hi_of b)) (eqb b 0xE0) (λ t. let e = eqb-true b 0xE0 t in rw (ne_eqb b 0xED (omega arith), ne_eqb b 0xF4 (omega arith)) (e0 e))
    (λ t. picked (λ lo. P lo (hi_of b)) (eqb b 0xF0) (λ u. let e = eqb-true b 0xF0 u in rw (ne_eqb b 0xED (omega arith), ne_eqb b 0xF4 (omega arith)) (f0 e))
    (λ u. picked (P 0x80) (eqb b 0xED) (λ v. ed (eqb-true b 0xED v))
    (λ v. picked (P 0x80) (eqb b 0xF4) (λ w. f4 (eqb-true b 0xF4 w))
    (λ w. other (eqb-false b 0xE0 t) (eqb-false b 0xED v) (eqb-false b 0xF0 u) (eqb-false b 0xF4 w)))))

-- a first byte by its range, and the state after one that k bytes follow
module _ (b : ℕ) where
  pub need_none : b < 0x80 → need_of b ≡ 0
  unfolding need_of
  need_none h = rw (lt-ltb b 0x80 h)

  pub need_one_lem : 0xC2 ≤ b → b < 0xE0 → need_of b ≡ 1
  unfolding need_of
  need_one_lem h g = rw (le-ltb b 0x80 (omega arith), le-ltb b 0xC2 h, lt-ltb b 0xE0 g)

  pub need_two : 0xE0 ≤ b → b < 0xF0 → need_of b ≡ 2
  unfolding need_of
  need_two h g = rw (le-ltb b 0x80 (omega arith), le-ltb b 0xC2 (omega arith), le-ltb b 0xE0 h, lt-ltb b 0xF0 g)

  pub need_three : 0xF0 ≤ b → b < 0xF5 → need_of b ≡ 3
  unfolding need_of
  need_three h g = rw (le-ltb b 0x80 (omega arith), le-ltb b 0xC2 (omega arith), le-ltb b 0xE0 (omega arith), le-ltb b 0xF0 h, lt-ltb b 0xF5 g)

  pub lead : (k : ℕ) → need_of b ≡ k → k < 4 → step_of between b ≡ waits k (lo_of b) (hi_of b)
  unfolding step_of lead_of
  lead k e h = rw (e, ne_eqb k 4 (omega arith))

-- between two scalars the bounds are not looked at
pub begins : (lo hi : ℕ) (l : List ℕ) → (after (waits 0 lo hi) l).need ≡ (after between l).need
unfolding after step_of
begins lo hi [] = refl
begins lo hi (b ∷ l) = refl

-- ---- bytes that are waited for

pub along : (st u : Utf8) (b : ℕ) (l : List ℕ) → step_of st b ≡ u → after st (b ∷ l) ≡ after u l
unfolding after
along st u b l e = ap (λ (v : Utf8). after v l) e

pub next : (k lo hi x : ℕ) → lo ≤ x → x ≤ hi → step_of (waits (suc k) lo hi) x ≡ waits k 0x80 0xBF
unfolding step_of
next k lo hi x h g =
    let d : suc k - 1 ≡ k = omega arith in
    rw (ne_eqb (suc k) 0 (omega arith), le-ltb x lo h, le-ltb hi x g, d)

-- nothing mends what is broken
break_on : (b : ℕ) → step_of broken b ≡ broken
unfolding step_of
break_on b = go (dec_lt b 255)
  where
    go : Dec (b < 255) → step_of broken b ≡ broken
    go (yes h) = rw (lt-ltb b 255 h)
    go (no h) = rw (le-ltb b 255 (omega arith), lt-ltb 0 b (omega arith))

pub stays_broken : (l : List ℕ) → after broken l ≡ broken
unfolding after
stays_broken [] = refl
stays_broken (b ∷ l) = rw (break_on b) (stays_broken l)

pub not_broken : {X : Type 0} (l : List ℕ) → (after broken l).need ≡ 0 → X
not_broken l e = absurd (let z : ◌≡◌ {A = ℕ} 4 0 = rw (stays_broken l) at e in omega arith)

-- text that ends well after a scalar's byte has the next one, in its bounds
pub record Next (k lo hi : ℕ) (l : List ℕ) : Type 0 where
  pub byte : ℕ
  pub rest : List ℕ
  pub split : l ≡ byte ∷ rest
  pub low : lo ≤ byte
  pub high : byte ≤ hi
  pub on : (after (waits k 0x80 0xBF) rest).need ≡ 0

module _ (k lo hi x : ℕ) where
  pub too_low : x < lo → step_of (waits (suc k) lo hi) x ≡ broken
  unfolding step_of
  too_low h = rw (ne_eqb (suc k) 0 (omega arith), lt-ltb x lo h)

  pub too_high : lo ≤ x → hi < x → step_of (waits (suc k) lo hi) x ≡ broken
  unfolding step_of
  too_high h g = rw (ne_eqb (suc k) 0 (omega arith), le-ltb x lo h, lt-ltb hi x g)

pub has_next : (k lo hi : ℕ) (l : List ℕ) → (after (waits (suc k) lo hi) l).need ≡ 0 → Next k lo hi l
unfolding after
has_next k lo hi [] e = absurd (omega arith)
has_next k lo hi (x ∷ l) e = go (dec_lt x lo) (dec_lt hi x)
  where
    on : (u : Utf8) → step_of (waits (suc k) lo hi) x ≡ u → (after u l).need ≡ 0
    on u f = rw (along (waits (suc k) lo hi) u x l f) at e

    go : Dec (x < lo) → Dec (hi < x) → Next k lo hi (x ∷ l)
    go (yes h) g = not_broken l (on broken (too_low k lo hi x h))
    go (no h) (yes g) = not_broken l (on broken (too_high k lo hi x (omega arith) g))
    go (no h) (no g) =
        let n = next k lo hi x (omega arith) (omega arith) in
        record { byte = x; rest = l; split = refl; low = omega arith; high = omega arith; on = on (waits k 0x80 0xBF) n }
