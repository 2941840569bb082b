-- Where two copies first differ, the row that holds the byte at a place, and how long a copy is. After each definition stand the laws that make it
-- the right one; the proof of the code that looks for a row uses these laws alone.
use Rattle.std.specs.Prelude.{ℕ, zero, suc, ◌+◌, ◌≤◌, ◌<◌, ◌≡◌, refl, Bool, true, false, List, [], ◌∷◌, length, take, get_or, ltb, eqb, Result, Ok, Err}
use Rattle.format.specs.declared.Untidied.{Untidied}
use Rattle.std.proofs.Common.{sym, ap, ap₂, ◌∙◌, arith, get_or-take, ltb-true, ltb-false, eqb-true}
use Rattle.std.proofs.Math.Seq.{take-length}
use Rattle.std.proofs.lemmas.Bool.{eqb-false}
use Rattle.format.specs.Bytes.{pick}
use Rattle.members.specs.Members.{row_in}

-- ---- where two copies first differ

-- how many bytes two lists have in common from their first on
unfoldable pub common_of : List ℕ → List ℕ → ℕ
common_of [] b = 0
common_of (x ∷ a) [] = 0
common_of (x ∷ a) (y ∷ b) = pick (eqb x y) (suc (common_of a b)) 0

-- up to the place the lists are alike
pub common_alike : (a b : List ℕ) → take (common_of a b) a ≡ take (common_of a b) b
unfolding common_of
common_alike [] [] = refl
common_alike [] (y ∷ b) = refl
common_alike (x ∷ a) [] = refl
common_alike (x ∷ a) (y ∷ b) = go (eqb x y) refl (common_alike a b)
  where
    go : (z : Bool) → eqb x y ≡ z → take (common_of a b) a ≡ take (common_of a b) b
        → take (pick z (suc (common_of a b)) 0) (x ∷ a) ≡ take (pick z (suc (common_of a b)) 0) (y ∷ b)
    go true f again = ap₂ (λ (n : ℕ) (l : List ℕ). n ∷ l) (eqb-true x y f) again
    go false f again = refl

-- where the place lies in both lists, their bytes there differ
pub common_apart : (a b : List ℕ) → common_of a b < length a → common_of a b < length b
    → get_or a (common_of a b) 0 ≡ get_or b (common_of a b) 0 → ⊥
unfolding common_of
common_apart [] b h g e = omega arith
common_apart (x ∷ a) [] h g e = omega arith
common_apart (x ∷ a) (y ∷ b) h g e = go (eqb x y) refl h g e (common_apart a b)
  where
    go : (z : Bool) → eqb x y ≡ z → pick z (suc (common_of a b)) 0 < suc (length a) → pick z (suc (common_of a b)) 0 < suc (length b)
        → get_or (x ∷ a) (pick z (suc (common_of a b)) 0) 0 ≡ get_or (y ∷ b) (pick z (suc (common_of a b)) 0) 0
        → (common_of a b < length a → common_of a b < length b → get_or a (common_of a b) 0 ≡ get_or b (common_of a b) 0 → ⊥) → ⊥
    go true f h g e again = again (omega arith) (omega arith) e
    go false f h g e again = eqb-false x y f e

-- the place is at most both lengths
pub common_within : (a b : List ℕ) → (common_of a b ≤ length a) × (common_of a b ≤ length b)
unfolding common_of
common_within [] b = (omega arith, omega arith)
common_within (x ∷ a) [] = (omega arith, omega arith)
common_within (x ∷ a) (y ∷ b) = go (eqb x y) (common_within a b)
  where
    go : (z : Bool) → (common_of a b ≤ length a) × (common_of a b ≤ length b)
        → (pick z (suc (common_of a b)) 0 ≤ suc (length a)) × (pick z (suc (common_of a b)) 0 ≤ suc (length b))
    go true again = (omega arith, omega arith)
    go false again = (omega arith, omega arith)

-- where the place is the length of both, the lists are equal: two copies that differ have a place where they do
pub common_whole : (a b : List ℕ) → common_of a b ≡ length a → common_of a b ≡ length b → a ≡ b
common_whole a b h g =
    sym (take-length a) ∙ (ap (λ (n : ℕ). take n a) (sym h) ∙ (common_alike a b ∙ (ap (λ (n : ℕ). take n b) g ∙ take-length b)))

-- a byte before the place is the same in both
pub common_before : (a b : List ℕ) (k : ℕ) → k < common_of a b → get_or a k 0 ≡ get_or b k 0
common_before a b k h =
    sym (get_or-take (common_of a b) a k 0 h) ∙ (ap (λ (l : List ℕ). get_or l k 0) (common_alike a b) ∙ get_or-take (common_of a b) b k 0 h)

-- ---- the row that holds a place

-- where a row's own bytes end
abbrev pub end_of : List ℕ → ℕ → ℕ
end_of t i = (row_in t i).end

-- of the n rows from row i on the first that ends past the place, or the row after them
unfoldable pub row_from : ℕ → List ℕ → ℕ → ℕ → ℕ
row_from zero t place i = i
row_from (suc n) t place i = pick (ltb place (end_of t i)) i (row_from n t place (i + 1))

-- the first row below `end` that ends past the place, or `end`
abbrev pub row_holding : List ℕ → ℕ → ℕ → ℕ
row_holding t end place = row_from end t place 0

-- the laws of the n rows from row i on, from which those of all rows follow
from_within : (n : ℕ) (t : List ℕ) (p i : ℕ) → (i ≤ row_from n t p i) × (row_from n t p i ≤ i + n)
unfolding row_from
from_within zero t p i = (omega arith, omega arith)
from_within (suc n) t p i = go (ltb p (end_of t i)) (from_within n t p (i + 1))
  where
    go : (z : Bool) → (i + 1 ≤ row_from n t p (i + 1)) × (row_from n t p (i + 1) ≤ i + 1 + n)
        → (i ≤ pick z i (row_from n t p (i + 1))) × (pick z i (row_from n t p (i + 1)) ≤ i + suc n)
    go true again = (omega arith, omega arith)
    go false again = (omega arith, omega arith)

from_before : (n : ℕ) (t : List ℕ) (p i k : ℕ) → i ≤ k → k < row_from n t p i → end_of t k ≤ p
unfolding row_from
from_before zero t p i k h g = absurd (omega arith)
from_before (suc n) t p i k h g = go (ltb p (end_of t i)) (eqb k i) refl refl g (from_before n t p (i + 1) k)
  where
    go : (y z : Bool) → ltb p (end_of t i) ≡ y → eqb k i ≡ z → k < pick y i (row_from n t p (i + 1))
        → (i + 1 ≤ k → k < row_from n t p (i + 1) → end_of t k ≤ p) → end_of t k ≤ p
    go true z f e g again = absurd (omega arith)
    go false true f e g again = let w : k ≡ i = eqb-true k i e in rw w (ltb-false p (end_of t i) f)
    go false false f e g again = let w = eqb-false k i e in again (omega arith) g

from_past : (n : ℕ) (t : List ℕ) (p i : ℕ) → row_from n t p i < i + n → p < end_of t (row_from n t p i)
unfolding row_from
from_past zero t p i h = absurd (omega arith)
from_past (suc n) t p i h = go (ltb p (end_of t i)) refl h (from_past n t p (i + 1))
  where
    go : (z : Bool) → ltb p (end_of t i) ≡ z → pick z i (row_from n t p (i + 1)) < i + suc n
        → (row_from n t p (i + 1) < i + 1 + n → p < end_of t (row_from n t p (i + 1))) → p < end_of t (pick z i (row_from n t p (i + 1)))
    go true f h again = ltb-true p (end_of t i) f
    go false f h again = again (omega arith)

-- every row before it ends at or before the place
pub row_before : (t : List ℕ) (end place k : ℕ) → k < row_holding t end place → end_of t k ≤ place
row_before t end place k h = from_before end t place 0 k (omega arith) h

-- where it is below `end`, it ends past the place
pub row_past : (t : List ℕ) (end place : ℕ) → row_holding t end place < end → place < end_of t (row_holding t end place)
row_past t end place h = from_past end t place 0 (omega arith)

-- it is at most `end`
pub row_within : (t : List ℕ) (end place : ℕ) → row_holding t end place ≤ end
row_within t end place = let w = from_within end t place 0 in omega arith

-- ---- how long a copy is

-- the length of a copy that was written, else 0
abbrev pub length_of : Result ℕ Untidied → ℕ
length_of (Ok n) = n
length_of (Err why) = 0
