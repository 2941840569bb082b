-- The plain bytes that begin a list, as std counts a beginning.
use Rattle.std.specs.Prelude.{ℕ, suc, ◌+◌, ◌≡◌, refl, Bool, true, false, List, [], ◌∷◌, length, drop}
use Rattle.std.proofs.Common.{◌∙◌, cond, arith, length-drop}
use Rattle.std.proofs.Math.Seq.{take-length}
use Rattle.std.specs.List.{prefix_len, slice_range}
use Rattle.format.specs.Bytes.{pick}
use Rattle.peeking.specs.Peeking.{is_plain, plain_count}

pub plain_prefix : (l : List ℕ) → prefix_len is_plain l ≡ plain_count l
unfolding plain_count
plain_prefix [] = refl
plain_prefix (b ∷ l) = go (is_plain b) (plain_prefix l)
  where
    go : (t : Bool) → prefix_len is_plain l ≡ plain_count l → cond t (1 + prefix_len is_plain l) 0 ≡ pick t (suc (plain_count l)) 0
    go true h = omega arith
    go false h = refl

-- the part of a list from a place up to its end
pub rest_all : (s r : List ℕ) (at : ℕ) → r ≡ slice_range s at (length s) → r ≡ drop at s
rest_all s r at e = e ∙ rw (← length-drop at s) (take-length (drop at s))
