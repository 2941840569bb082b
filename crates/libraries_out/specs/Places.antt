-- The new number of a library, by the row that its field leads to.
use Rattle.std.specs.Prelude.{ℕ, ◌≡◌, List}
use Rattle.std.proofs.Common.{ap, ◌∙◌}
use Rattle.format.specs.declared.Row.{Row}
use Rattle.marks.specs.Marks.{row_at, library_at}
use Rattle.pieces.specs.Copy.{library_number}

pub library_number_is : (s : List ℕ) (rs : List Row) (p f : ℕ) (g : Row) → f ≡ library_at s rs p → g ≡ row_at rs f → g.link ≡ library_number s rs p
unfolding library_number
library_number_is s rs p f g x y = ap (λ (q : Row). q.link) (y ∙ ap (λ (k : ℕ). row_at rs k) x)
