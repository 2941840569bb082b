-- First rows (01, The table): rows that pass equal tests give equal first rows, and the first row that passes stands before every other.
use Rattle.std.specs.Prelude.{ℕ, zero, suc, ◌+◌, ◌≤◌, ◌<◌, ◌≡◌, refl, Bool, true, false, List, [], ◌∷◌, length, get_or}
use Rattle.std.proofs.Common.{sym, ◌∙◌, arith}
use Rattle.format.specs.declared.Row.{Row}
use Rattle.format.specs.Bytes.{pick}
use Rattle.format.specs.Rows.{blank, find_from}
use Rattle.laws.specs.Tests.{apart}

-- rows that pass one test where others pass another
pub find_alike : (p q : Row → Bool) (k : ℕ) (xs ys : List Row) → length xs ≡ length ys
    → ((i : ℕ) → i < length xs → p (get_or xs i blank) ≡ q (get_or ys i blank)) → find_from p k xs ≡ find_from q k ys
unfolding find_from
find_alike p q k [] [] l h = refl
find_alike p q k [] (y ∷ ys) l h = absurd (omega arith)
find_alike p q k (x ∷ xs) [] l h = absurd (omega arith)
find_alike p q k (x ∷ xs) (y ∷ ys) l h =
    let a : p x ≡ q y = h 0 (omega arith) in
    let b = find_alike p q (k + 1) xs ys (omega arith) (λ i j. h (suc i) (omega arith)) in
    rw (a, b)

-- a row that passes is the first, or the first stands before it
pub find_some : (p : Row → Bool) (k : ℕ) (rows : List Row) (i : ℕ) → i < length rows → p (get_or rows i blank) ≡ true
    → (j : ℕ) × (find_from p k rows ≡ suc (k + j)) × (j ≤ i)
unfolding find_from
find_some p k [] i h e = absurd (omega arith)
find_some p k (r ∷ rows) i h e = go (p r) refl i h e (find_some p (k + 1) rows)
  where
    go : (b : Bool) → p r ≡ b → (i : ℕ) → i < suc (length rows) → p (get_or (r ∷ rows) i blank) ≡ true
        → ((i : ℕ) → i < length rows → p (get_or rows i blank) ≡ true → (j : ℕ) × (find_from p (k + 1) rows ≡ suc (k + 1 + j)) × (j ≤ i))
        → (j : ℕ) × (pick b (k + 1) (find_from p (k + 1) rows) ≡ suc (k + j)) × (j ≤ i)
    go true f i h e again = (0, omega arith, omega arith)
    go false f zero h e again = apart (sym f ∙ e)
    go false f (suc i) h e again =
        let w = again i (omega arith) e in
        (suc w.0, w.1 ∙ omega arith, omega arith)
