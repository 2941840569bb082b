-- The bytes in common, as std counts a beginning of pairs.
use Rattle.std.specs.Prelude.{ℕ, suc, ◌+◌, ◌≡◌, refl, Bool, true, false, List, [], ◌∷◌, eqb}
use Rattle.std.proofs.Common.{cond, arith}
use Rattle.std.specs.List.{prefix_len, zip}
use Rattle.format.specs.Bytes.{pick}
use Rattle.difference.specs.Difference.{common_of}

pub common_prefix : (a b : List ℕ) → prefix_len (λ (p : ℕ × ℕ). eqb p.0 p.1) (zip a b) ≡ common_of a b
unfolding common_of
common_prefix [] b = refl
common_prefix (x ∷ a) [] = refl
common_prefix (x ∷ a) (y ∷ b) = go (eqb x y) (common_prefix a b)
  where
    go : (t : Bool) → prefix_len (λ (p : ℕ × ℕ). eqb p.0 p.1) (zip a b) ≡ common_of a b
        → cond t (1 + prefix_len (λ (p : ℕ × ℕ). eqb p.0 p.1) (zip a b)) 0 ≡ pick t (suc (common_of a b)) 0
    go true h = omega arith
    go false h = refl
