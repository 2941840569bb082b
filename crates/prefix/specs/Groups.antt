-- Laws of how a number is written: its groups one by one, and how many there are.
use Rattle.std.specs.Prelude.{ℕ, zero, suc, ◌+◌, ◌-◌, ◌*◌, ◌/◌, ◌%◌, ◌^◌, ◌≤◌, ◌<◌, ◌≡◌, refl, [], ◌∷◌, length}
use Rattle.std.proofs.Common.{arith, pow-suc, add-one, pow-add, pow_mono, lt-ltb, le-ltb}
use Rattle.std.proofs.Math.Decide.{dec_lt}
use Rattle.std.specs.Int.Count.{count_leading_zeros}
use Rattle.std.proofs.lemmas.Nat.{leading_top}
use Rattle.format.specs.Prefix.{groups_of, prefix_bytes}

-- ---- one by one
groups_fifth : (n : ℕ) → groups_of 0 n ≡ n ∷ []
unfolding groups_of
groups_fifth n = refl

pub groups_last : (k n : ℕ) → n < 128 → groups_of k n ≡ n ∷ []
unfolding groups_of
groups_last zero n h = refl
groups_last (suc k) n h = simp lt-ltb

pub groups_more : (k n : ℕ) → 128 ≤ n → groups_of (suc k) n ≡ (128 + n % 128) ∷ groups_of k (n / 128)
unfolding groups_of
groups_more k n h = simp le-ltb

pub groups_next : (k n : ℕ) → 1 ≤ k → 128 ≤ n → groups_of k n ≡ (128 + n % 128) ∷ groups_of (k - 1) (n / 128)
groups_next zero n h l = absurd (omega arith)
groups_next (suc k) n h l =
    let d : suc k - 1 ≡ k = omega arith in
    rw d (groups_more k n l)

-- a number that fits k + 1 groups and has more than one: the others fit k groups
pub groups_room : (k n : ℕ) → n < 128 ^ (k + 1) → 128 ≤ n → (1 ≤ k) × (n / 128 < 128 ^ (k - 1 + 1))
groups_room zero n h l = absurd (omega arith)
groups_room (suc k) n h l =
    let d : suc k - 1 + 1 ≡ suc k = omega arith in
    (omega arith, rw d (omega (arith, rw (add-one (suc k), pow-suc 128 (suc k)) at h)))

-- ---- how many
pub groups_some : (k n : ℕ) → 1 ≤ length (groups_of k n)
groups_some zero n = rw (groups_fifth n) (omega arith)
groups_some (suc k) n = go (dec_lt n 128)
  where
    go : Dec (n < 128) → 1 ≤ length (groups_of (suc k) n)
    go (yes y) = rw (groups_last (suc k) n y) (omega arith)
    go (no y) = rw (groups_more k n (omega arith)) (omega arith)

-- a number whose highest one bit is bit j
pub groups_count : (k j n : ℕ) → 2 ^ j ≤ n → n < 2 ^ suc j → j < 7 * suc k → length (groups_of k n) ≡ j / 7 + 1
unfolding groups_of
groups_count zero j n a b h = omega arith
groups_count (suc k) j n a b h = go (groups_count k (j - 7) (n / 128)) (dec_lt n 128) (dec_lt j 7)
  where
    Again : Type 0
    Again =
        2 ^ (j - 7) ≤ n / 128 → n / 128 < 2 ^ suc (j - 7) → j - 7 < 7 * suc k
        → length (groups_of k (n / 128)) ≡ (j - 7) / 7 + 1

    go : Again → Dec (n < 128) → Dec (j < 7) → length (groups_of (suc k) n) ≡ j / 7 + 1
    go again (yes y) (yes z) = rw (groups_last (suc k) n y) (omega arith)
    go again (yes y) (no z) =
        let w : 7 ≤ j = omega arith in
        let v : 128 ≤ 2 ^ j = pow_mono w in
        absurd (omega arith)
    go again (no y) (yes z) =
        let v : 2 ^ suc j ≤ 128 = pow_mono z in
        absurd (omega arith)
    go again (no y) (no z) =
        let e : j - 7 + 7 ≡ j = omega arith in
        let d : 2 ^ j ≡ 2 ^ (j - 7) * 128 = rw e at (pow-add 2 (j - 7) 7) in
        let b2 = rw pow-suc at b in
        let i = again (omega arith) (rw pow-suc (omega arith)) (omega arith) in
        rw (groups_more k n (omega arith)) (omega arith)

pub bytes_count : (n : ℕ) → 0 < n → n < 2 ^ 32 → length (prefix_bytes n) ≡ (32 - count_leading_zeros 32 n + 6) / 7
bytes_count n h l =
    let (j, e, a, b) = leading_top 32 n h l in
    let i = groups_count 4 j n a b (omega arith) in
    omega arith
