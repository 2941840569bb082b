-- Where the format reads a number at a place, programs for people find the same.
use Rattle.std.specs.Prelude.{ℕ, ◌+◌, ◌≤◌, ◌≡◌, List, length, Some}
use Rattle.std.proofs.Common.{sym, ◌∙◌, arith}
use Rattle.format.specs.Bytes.{part}
use Rattle.format.specs.Numbers.{le, u16_at, u32_at, u64_at}
use Rattle.num.specs.Le.{le_join, le_byte}
use Rattle.num.specs.Read.{u16_says, u32_says, u64_says}
use Rattle.peeking.specs.Peeking.{two_at, four_at, eight_at}
use Rattle.peeking.specs.Laws.{onward_in}

two_part : (s : List ℕ) (p : ℕ) → p + 2 ≤ length s → two_at s p ≡ le (part s p 2)
unfolding two_at
two_part s p h =
    rw (← onward_in s p 1 (omega arith))
    (omega (arith, le_join s p 1 1 (omega arith), le_byte s p (omega arith), le_byte s (p + 1) (omega arith)))

four_part : (s : List ℕ) (p : ℕ) → p + 4 ≤ length s → four_at s p ≡ le (part s p 4)
unfolding four_at
four_part s p h =
    rw (← onward_in s p 2 (omega arith), two_part s p (omega arith), two_part s (p + 2) (omega arith)) (omega (arith, le_join s p 2 2 (omega arith)))

eight_part : (s : List ℕ) (p : ℕ) → p + 8 ≤ length s → eight_at s p ≡ le (part s p 8)
unfolding eight_at
eight_part s p h =
    rw (← onward_in s p 4 (omega arith), four_part s p (omega arith), four_part s (p + 4) (omega arith)) (omega (arith, le_join s p 4 4 (omega arith)))

pub u16_found : (s : List ℕ) (p v e : ℕ) → u16_at s p ≡ Some (v, e) → two_at s p ≡ v
u16_found s p v e q =
    let w = u16_says s p v e q in
    two_part s p w.within ∙ sym w.value

pub u32_found : (s : List ℕ) (p v e : ℕ) → u32_at s p ≡ Some (v, e) → four_at s p ≡ v
u32_found s p v e q =
    let w = u32_says s p v e q in
    four_part s p w.within ∙ sym w.value

pub u64_found : (s : List ℕ) (p v e : ℕ) → u64_at s p ≡ Some (v, e) → eight_at s p ≡ v
u64_found s p v e q =
    let w = u64_says s p v e q in
    eight_part s p w.within ∙ sym w.value
