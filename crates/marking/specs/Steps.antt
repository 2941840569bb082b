-- What each pass does to a row: an object's number, a library's first row, a class's type bytes and first row. One law for each way that a step
-- ends; then the passes, one after the other.
use Rattle.std.specs.Prelude.{ℕ, ◌+◌, ◌≡◌, Bool, true, false, List, get_or, set}
use borrow.Author.Tests.{eq-eqb, ne_eqb}
use Rattle.format.specs.declared.Row.{Row}
use Rattle.format.specs.Rows.{blank, is_object, is_class, with_link}
use Rattle.marks.specs.Marks.{with_id, with_slot, with_count, word, pass, number_one, first_library, place_one, first_class, first_one, needed, firsts, placed, numbered, marked}

-- ---- objects

module _ (rows : List Row) (i c : ℕ) (r : Row) (q : Bool) (x : r ≡ get_or rows i blank) (y : q ≡ is_object r.kind) where
  pub number_object : (next : List Row) (a : Row) (v : ℕ) → q ≡ true → v ≡ word (c + 1) → a ≡ with_id r v → next ≡ set rows i a
      → pass v next ≡ number_one i (pass c rows)
  unfolding number_one
  number_object next a v z e f g = rw (← x, ← y, z, g, f, e)

  pub number_other : q ≡ false → pass c rows ≡ number_one i (pass c rows)
  unfolding number_one
  number_other z = rw (← x, ← y, z)

-- ---- libraries and type bytes

module _ (s : List ℕ) (rows : List Row) (i : ℕ) (r : Row) (x : r ≡ get_or rows i blank) where
  pub place_library : (next : List Row) (a : Row) (f : ℕ) → r.kind ≡ 12 → f ≡ first_library s rows r → a ≡ with_count r f → next ≡ set rows i a
      → next ≡ place_one s i rows
  unfolding place_one
  place_library next a f k e g h = rw (← x, eq-eqb _ _ k, h, g, e)

  module _ (q : Bool) (k : r.kind ≡ 12 → ⊥) (y : q ≡ is_class r.kind) where
    pub place_class : (next : List Row) (a : Row) → q ≡ true → a ≡ with_slot r r.link → next ≡ set rows i a
        → next ≡ place_one s i rows
    unfolding place_one
    place_class next a z g h = rw (← x, ne_eqb _ _ k, ← y, z, h, g)

    pub place_other : q ≡ false → rows ≡ place_one s i rows
    unfolding place_one
    place_other z = rw (← x, ne_eqb _ _ k, ← y, z)

-- ---- first rows of classes

module _ (s : List ℕ) (rows : List Row) (i : ℕ) (r : Row) (q : Bool) (x : r ≡ get_or rows i blank) (y : q ≡ is_class r.kind) where
  pub first_class_lem : (next : List Row) (a : Row) (f : ℕ) → q ≡ true → f ≡ first_class s rows r → a ≡ with_link r f → next ≡ set rows i a
      → next ≡ first_one s i rows
  unfolding first_one
  first_class_lem next a f z e g h = rw (← x, ← y, z, h, g, e)

  pub first_other : q ≡ false → rows ≡ first_one s i rows
  unfolding first_one
  first_other z = rw (← x, ← y, z)

-- ---- the passes, one after the other

pub marked_is : (s : List ℕ) (rows a b c d : List Row) → a ≡ numbered rows → b ≡ placed s a → c ≡ firsts s b → d ≡ needed s c → d ≡ marked s rows
unfolding marked
marked_is s rows a b c d e f g h = rw (← e, ← f, ← g) h
