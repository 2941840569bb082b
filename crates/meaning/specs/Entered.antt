-- The libraries that were entered for the fields that name them, field by field.
use Rattle.std.specs.Prelude.{ℕ, ◌≡◌, refl, List, [], ◌∷◌, ◌++◌}
use Rattle.std.proofs.Common.{ap}
use Rattle.format.specs.declared.Row.{Row}
use Rattle.format.specs.Tidy.{Libraries, all_entered}
use Rattle.laws.specs.Numbers.{all_append}
use Rattle.meaning.specs.Marked.{name_at_field, names_of}

pub names_append : (s : List ℕ) (rows : List Row) (ps qs : List ℕ) → names_of s rows (ps ++ qs) ≡ names_of s rows ps ++ names_of s rows qs
unfolding names_of
names_append s rows [] qs = refl
names_append s rows (p ∷ ps) qs = ap (◌∷◌ (name_at_field s rows p)) (names_append s rows ps qs)

-- the libraries that were entered for the fields at these places
abbrev pub libraries_for : List ℕ → List Row → List ℕ → Libraries
libraries_for s rows ps = all_entered (names_of s rows ps) []

pub libraries_append : (s : List ℕ) (rows : List Row) (ps mid : List ℕ)
    → libraries_for s rows (ps ++ mid) ≡ all_entered (names_of s rows mid) (libraries_for s rows ps)
libraries_append s rows ps mid = rw (names_append s rows ps mid) (all_append (names_of s rows ps) (names_of s rows mid) [])
