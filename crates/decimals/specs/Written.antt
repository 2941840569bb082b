-- What the rules say is a Decimal, the definition takes: runs of digits within the range lead on.
use Rattle.std.specs.Prelude.{ℕ, ◌+◌, ◌*◌, ◌≤◌, ◌<◌, ◌≡◌, refl, true, List, [], ◌∷◌, ◌++◌}
use Rattle.std.proofs.Common.{ap, ◌∙◌, arith}
use Rattle.std.proofs.Math.Decide.{ℕ_discrete}
use Rattle.format.specs.Values.{most, decimal_byte, decimal_after}
use Rattle.decimal.specs.Laws.{byte_minus, byte_point}
use Rattle.format.specs.Decimals.{value_of, written, Each, Digits, Sign, no_minus, minus, Fraction, no_point, point, Decimal}
use Rattle.decimals.specs.Numbers.{value_from, from_nothing, from_grows, Within, below, greatest, within_rest, within_most, each_of, range_within}
use Rattle.decimals.specs.Bytes.{stage, taken_from, taken_step, whole_digit_lem, zero_behind, digit_behind}

whole_run : (p w d : ℕ) (ds rest : List ℕ) → p ≤ 2 → Each (d ∷ ds) → value_from w (d ∷ ds) ≤ most
    → taken_from (stage p w) (written (d ∷ ds) ++ rest) ≡ taken_from (stage 2 (value_from w (d ∷ ds))) rest
unfolding value_from written
whole_run p w d [] rest h e m = taken_step (stage p w) (stage 2 (10 * w + d)) (48 + d) rest (whole_digit_lem p w d h e.0 m)
whole_run p w d (c ∷ ds) rest h e m =
    let g = from_grows (10 * w + d) (c ∷ ds) in
    taken_step (stage p w) (stage 2 (10 * w + d)) (48 + d) (written (c ∷ ds) ++ rest) (whole_digit_lem p w d h e.0 (omega arith))
    ∙ whole_run 2 (10 * w + d) c ds rest (omega arith) e.1 m

fraction_digit_lem : (p w d : ℕ) (ds : List ℕ) → 2 < p → p ≤ 4 → d < 10 → Within w (d ∷ ds) → decimal_byte (stage p w) (48 + d) ≡ stage 4 w
fraction_digit_lem p w d ds h k g i = go (ℕ_discrete d 0) i
  where
    go : Dec (d ≡ 0) → Within w (d ∷ ds) → decimal_byte (stage p w) (48 + d) ≡ stage 4 w
    go (yes e) i = zero_behind p w d h k g e
    go (no n) (below m) = digit_behind p w d h k g n m
    go (no n) (greatest m z) = absurd (n z.0)

fraction_run : (p w d : ℕ) (ds : List ℕ) → 2 < p → p ≤ 4 → Each (d ∷ ds) → Within w (d ∷ ds) → taken_from (stage p w) (written (d ∷ ds)) ≡ true
unfolding written taken_from decimal_after
fraction_run p w d [] h k e i = taken_step (stage p w) (stage 4 w) (48 + d) [] (fraction_digit_lem p w d [] h k e.0 i)
fraction_run p w d (c ∷ ds) h k e i =
    taken_step (stage p w) (stage 4 w) (48 + d) (written (c ∷ ds)) (fraction_digit_lem p w d (c ∷ ds) h k e.0 i)
    ∙ fraction_run 4 w c ds (omega arith) (omega arith) e.1 (within_rest i)

-- behind the whole part
fraction_taken : (w : ℕ) {fraction rest : List ℕ} → Fraction fraction rest → Within w fraction → taken_from (stage 2 w) rest ≡ true
unfolding taken_from decimal_after
fraction_taken w no_point i = refl
fraction_taken w (point {ds = []} x) i = absurd (omega arith)
fraction_taken w (point {ds = d ∷ ds} x) i =
    taken_step (stage 2 w) (stage 3 w) _ (written (d ∷ ds)) (byte_point (stage 2 w) _ (omega arith) refl)
    ∙ fraction_run 3 w d ds (omega arith) (omega arith) x.each i

-- behind the sign
digits_taken : (p : ℕ) (whole fraction rest : List ℕ) → p ≤ 2 → Digits whole → Fraction fraction rest → Within (value_of whole) fraction
    → taken_from (stage p 0) (written whole ++ rest) ≡ true
digits_taken p [] fraction rest h x f i = absurd (omega arith)
digits_taken p (d ∷ ds) fraction rest h x f i =
    let e = from_nothing (d ∷ ds) in
    let m = within_most i in
    whole_run p 0 d ds rest h x.each (omega arith) ∙ fraction_taken (value_from 0 (d ∷ ds)) f (rw e i)

pub decimal_taken : (l : List ℕ) → Decimal l → taken_from (stage 0 0) l ≡ true
decimal_taken l x = ap (taken_from (stage 0 0)) x.text ∙ go x.signed
  where
    within : Within (value_of x.whole) x.fraction
    within = range_within x.whole x.fraction (each_of x.pointed) (omega (arith, x.range))

    go : {sign : List ℕ} → Sign sign → taken_from (stage 0 0) (sign ++ (written x.whole ++ x.behind)) ≡ true
    go no_minus = digits_taken 0 x.whole x.fraction x.behind (omega arith) x.digits x.pointed within
    go minus =
        taken_step (stage 0 0) (stage 1 0) _ (written x.whole ++ x.behind) (byte_minus (stage 0 0) _ (omega arith) refl)
        ∙ digits_taken 1 x.whole x.fraction x.behind (omega arith) x.digits x.pointed within
