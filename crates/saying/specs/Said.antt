-- What a record says by itself, given the names of libraries, the classes of objects and the order of objects by their numbers.
use Rattle.std.specs.Prelude.{ℕ, List, [], ◌∷◌}
use Rattle.format.specs.Contents.{Rec, Class}
use Rattle.format.specs.Says.{What}
use Rattle.format.specs.Meant.{Sense, silent, opens, item, empties, sense_of}

abbrev pub whats_by : Sense → List What
whats_by silent = []
whats_by (opens x k) = x ∷ []
whats_by (item x) = x ∷ []
whats_by (empties k) = []

-- what a record or value says; a library, nulls, the header and the end say nothing of this kind
abbrev pub said_by : (ℕ → List ℕ) → (ℕ → Class) → (ℕ → ℕ) → Rec → List What
said_by name of order r = whats_by (sense_of name of order r)
