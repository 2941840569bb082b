-- The format's definition of Decimal texts takes exactly those of which the rules say so.
use Rattle.std.specs.Prelude.{ℕ, ◌≡◌, true, ◌↔◌, List}
use Rattle.format.specs.Values.{decimal}
use Rattle.format.specs.Decimals.{Decimal}
use Rattle.decimals.specs.Bytes.{taken_from}
use Rattle.decimals.specs.Written.{decimal_taken}
use Rattle.decimals.specs.Taken.{taken_decimal}

-- for every list of bytes
pub decimal_exactly : (l : List ℕ) → (decimal l ≡ true) ↔ Decimal l
unfolding decimal taken_from
decimal_exactly l = (taken_decimal l, decimal_taken l)
