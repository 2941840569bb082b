-- Laws of a walk from the first byte or row on, from those that make the answers the right ones: one for each way that it ends, and one more turn.
use Rattle.std.specs.Prelude.{ℕ, ◌+◌, ◌≤◌, ◌<◌, ◌≡◌, refl, Bool, true, false, List, length, get_or, ltb}
use Rattle.std.proofs.Common.{ap, arith, ltb-true, ltb-false}
use Rattle.format.specs.declared.Row.{Row}
use Rattle.members.specs.Members.{row_in}
use Rattle.difference.specs.Difference.{common_of, common_apart, common_within, common_before, end_of, row_holding, row_before, row_past, row_within}

module _ (a b : List ℕ) (i : ℕ) (h : i ≤ common_of a b) where
  pub common_first : length a ≤ i → i ≡ common_of a b
  common_first g = omega (arith, (common_within a b).0)

  pub common_second : length b ≤ i → i ≡ common_of a b
  common_second g = omega (arith, (common_within a b).1)

  pub common_here : (get_or a i 0 ≡ get_or b i 0 → ⊥) → i ≡ common_of a b
  common_here n = go (ltb i (common_of a b)) refl
    where
      go : (z : Bool) → ltb i (common_of a b) ≡ z → i ≡ common_of a b
      go true e = absurd (n (common_before a b i (ltb-true i (common_of a b) e)))
      go false e = let w = ltb-false i (common_of a b) e in omega arith

  pub common_on : i < length a → i < length b → get_or a i 0 ≡ get_or b i 0 → i + 1 ≤ common_of a b
  common_on k l e = go (ltb i (common_of a b)) refl
    where
      go : (z : Bool) → ltb i (common_of a b) ≡ z → i + 1 ≤ common_of a b
      go true f = let w = ltb-true i (common_of a b) f in omega arith
      go false f =
          let w : common_of a b ≡ i = let v = ltb-false i (common_of a b) f in omega arith in
          absurd (common_apart a b (omega arith) (omega arith) (rw w e))

module _ (t : List ℕ) (end place i : ℕ) (h : i ≤ row_holding t end place) where
  pub row_here : (r : Row) → r ≡ row_in t i → place < r.end → i ≡ row_holding t end place
  row_here r e g = go (ltb i (row_holding t end place)) refl
    where
      go : (z : Bool) → ltb i (row_holding t end place) ≡ z → i ≡ row_holding t end place
      go true f =
          let w : r.end ≡ end_of t i = ap (λ (x : Row). x.end) e in
          absurd (omega (arith, row_before t end place i (ltb-true i (row_holding t end place) f)))
      go false f = let w = ltb-false i (row_holding t end place) f in omega arith

  pub row_on : (r : Row) → r ≡ row_in t i → i < end → r.end ≤ place → i + 1 ≤ row_holding t end place
  row_on r e g k = go (ltb i (row_holding t end place)) refl
    where
      go : (z : Bool) → ltb i (row_holding t end place) ≡ z → i + 1 ≤ row_holding t end place
      go true f = let w = ltb-true i (row_holding t end place) f in omega arith
      go false f =
          let w : row_holding t end place ≡ i = let v = ltb-false i (row_holding t end place) f in omega arith in
          let v : r.end ≡ end_of t i = ap (λ (x : Row). x.end) e in
          absurd (omega (arith, rw w at (row_past t end place (omega arith))))

  pub row_none : end ≤ i → end ≡ row_holding t end place
  row_none g = omega (arith, row_within t end place)
