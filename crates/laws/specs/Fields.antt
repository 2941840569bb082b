-- Fields by themselves (01, Field rules): numbers that are positive, how long numbers in a row are, the eight type bytes, the header.
use Rattle.std.specs.Prelude.{ℕ, zero, suc, ◌+◌, ◌*◌, ◌≤◌, ◌<◌, ◌≡◌, refl, List, [], ◌∷◌, length}
use Rattle.std.proofs.Common.{ap, arith, length-append}
use Rattle.format.specs.Contents.{header, numbers_bytes, enc}
use Rattle.format.specs.Says.{numbers_from}
use Rattle.format.specs.Grammar.{Positive, size}
use Rattle.num.specs.Le.{length_le_bytes}

pub positive_bits : (n : ℕ) → Positive n → n < 4294967296
positive_bits n w = omega (arith, w.below)

pub length_numbers : (s : List ℕ) (n p : ℕ) → length (numbers_from s n p) ≡ n
unfolding numbers_from
length_numbers s zero p = refl
length_numbers s (suc n) p = ap suc (length_numbers s n (p + 4))

pub length_numbers_bytes : (ns : List ℕ) → length (numbers_bytes ns) ≡ 4 * length ns
length_numbers_bytes [] = refl
length_numbers_bytes (n ∷ ns) = simp (length-append, length_le_bytes) (omega (arith, length_numbers_bytes ns))

-- the eight type bytes
pub by_type : (P : ℕ → Type 0) → P 0 → P 1 → P 2 → P 3 → P 4 → P 5 → P 6 → P 7 → (b : ℕ) → b ≤ 7 → P b
by_type P p0 p1 p2 p3 p4 p5 p6 p7 zero h = p0
by_type P p0 p1 p2 p3 p4 p5 p6 p7 (suc zero) h = p1
by_type P p0 p1 p2 p3 p4 p5 p6 p7 (suc (suc zero)) h = p2
by_type P p0 p1 p2 p3 p4 p5 p6 p7 (suc (suc (suc zero))) h = p3
by_type P p0 p1 p2 p3 p4 p5 p6 p7 (suc (suc (suc (suc zero)))) h = p4
by_type P p0 p1 p2 p3 p4 p5 p6 p7 (suc (suc (suc (suc (suc zero))))) h = p5
by_type P p0 p1 p2 p3 p4 p5 p6 p7 (suc (suc (suc (suc (suc (suc zero)))))) h = p6
by_type P p0 p1 p2 p3 p4 p5 p6 p7 (suc (suc (suc (suc (suc (suc (suc zero))))))) h = p7
by_type P p0 p1 p2 p3 p4 p5 p6 p7 (suc (suc (suc (suc (suc (suc (suc (suc n)))))))) h = absurd (omega arith)

pub size_header : (root h : ℕ) → size (header root h) ≡ 17
unfolding enc
size_header root h = simp (length-append, length_le_bytes)
