-- Rows: the row that a word names, a row written over, a library by its first row, a class's first row.
use Rattle.std.specs.Prelude.{ℕ, ◌+◌, ◌-◌, ◌≤◌, ◌≡◌, Bool, true, false, List, eqb, length, get_or, set}
use Rattle.std.proofs.Common.{sym, arith, eq-eqb, ne_eqb}
use Rattle.std.proofs.Math.Decide.{ℕ_discrete}
use Rattle.std.proofs.Math.Seq.{set_out}
use Rattle.format.specs.declared.Row.{Row}
use Rattle.format.specs.Rows.{blank, rows_of, is_class, library_row}
use Rattle.format.specs.Says.{number_from}
use Rattle.table.specs.Rows.{length_rows_of}
use Rattle.marks.specs.Marks.{row_at, library_at, is_first}

pub row_is : (rows : List Row) (f j : ℕ) (r : Row) → j ≡ f - 1 → r ≡ get_or rows j blank → r ≡ row_at rows f
row_is rows f j r e q = rw (← e) q

pub put_past : (n i : ℕ) (t : List ℕ) (r : Row) → n ≤ i → rows_of n t ≡ set (rows_of n t) i r
put_past n i t r h =
    let l : length (rows_of n t) ≡ n = length_rows_of n t in
    sym (set_out (rows_of n t) i r (omega arith))

module _ (s : List ℕ) (rows : List Row) where
  pub library_is : (p id row j : ℕ) (r : Row) → id ≡ number_from s p → row ≡ library_row id rows → j ≡ row - 1 → r ≡ get_or rows j blank
      → r.count ≡ library_at s rows p
  unfolding library_at
  library_is p id row j r w x y z = rw (z, y, x, w)

-- ---- a class's first row

-- a link is a row's number plus 1
one_less : (f i : ℕ) → (f ≡ 0 → ⊥) → eqb (f - 1) i ≡ eqb f (i + 1)
one_less f i h = go (ℕ_discrete (f - 1) i)
  where
    go : Dec (f - 1 ≡ i) → eqb (f - 1) i ≡ eqb f (i + 1)
    go (yes e) = rw (eq-eqb (f - 1) i e, eq-eqb f (i + 1) (omega arith))
    go (no e) = rw (ne_eqb (f - 1) i e, ne_eqb f (i + 1) (λ z. e (omega arith)))

module _ (i : ℕ) (r : Row) (q : Bool) (y : q ≡ is_class r.kind) where
  pub is_first_lem : q ≡ true → (r.link ≡ 0 → ⊥) → eqb (r.link - 1) i ≡ is_first i r
  is_first_lem z h = rw (← y, z) (one_less r.link i h)

  pub is_unlinked : q ≡ true → r.link ≡ 0 → false ≡ is_first i r
  is_unlinked z h = let n : r.link ≡ i + 1 → ⊥ = λ e. omega arith in rw (← y, z, ne_eqb _ _ n)

  pub is_no_class : q ≡ false → false ≡ is_first i r
  is_no_class z = rw (← y, z)
