-- Codes, type bytes, LibraryIds and details at a place: one law for each answer.
use Rattle.std.specs.Prelude.{ℕ, ◌+◌, ◌≤◌, ◌<◌, ◌≡◌, true, false, List, length, get_or, Some, None, Ok, Err}
use borrow.Author.Tests.{lt-ltb, le-ltb, le-leb, lt-leb, ne_eqb}
use Rattle.format.specs.declared.Setting.{Setting}
use Rattle.format.specs.declared.Refusal.{Refusal}
use Rattle.format.specs.declared.Refusal.TheVariants as R
use Rattle.format.specs.declared.PrimitiveCode.{PrimitiveCode}
use Rattle.format.specs.Numbers.{u32_at}
use Rattle.format.specs.Text.{string_at}
use Rattle.format.specs.Values.{on_end}
use Rattle.format.specs.Types.{primitive_of, code_at, type_byte_at, name_at, positive, library_id_at, info_at}

module _ (s : List ℕ) (p : ℕ) where
  pub code_short : length s ≤ p → code_at s p ≡ Err R.CutShort
  unfolding code_at
  code_short h = simp le-ltb

  pub type_short : length s ≤ p → type_byte_at s p ≡ Err R.CutShort
  unfolding type_byte_at
  type_short h = simp le-ltb

  module _ (i : p < length s) where
    pub code_end_lem : (c : PrimitiveCode) → primitive_of (get_or s p 0) ≡ Some c → code_at s p ≡ Ok (p + 1)
    unfolding code_at
    code_end_lem c h = rw (lt-ltb p (length s) i, h)

    pub code_bad : primitive_of (get_or s p 0) ≡ None → code_at s p ≡ Err R.BadType
    unfolding code_at
    code_bad h = rw (lt-ltb p (length s) i, h)

    pub type_end : get_or s p 0 ≤ 7 → type_byte_at s p ≡ Ok (p + 1)
    unfolding type_byte_at
    type_end h = simp (lt-ltb, le-leb)

    pub type_bad : 7 < get_or s p 0 → type_byte_at s p ≡ Err R.BadType
    unfolding type_byte_at
    type_bad h = simp (lt-ltb, lt-leb)

  pub library_short : u32_at s p ≡ None → library_id_at s p ≡ Err R.CutShort
  unfolding library_id_at
  library_short h = rw h

  module _ (v e : ℕ) (h : u32_at s p ≡ Some (v, e)) where
    pub library_end : positive v ≡ true → library_id_at s p ≡ Ok e
    unfolding library_id_at
    library_end g = rw (h, g)

    pub library_bad : positive v ≡ false → library_id_at s p ≡ Err R.BadId
    unfolding library_id_at
    library_bad g = rw (h, g)

-- ---- names, and details by the type byte

module _ (σ : Setting) (s : List ℕ) (p : ℕ) where
  pub name_end : (a e : ℕ) → string_at σ s p ≡ Ok (record { from = a; to = e }) → name_at σ s p ≡ Ok e
  unfolding name_at
  name_end a e h = rw h

  pub name_bad : (f : Refusal) → string_at σ s p ≡ Err f → name_at σ s p ≡ Err f
  unfolding name_at
  name_bad f h = rw h

  pub info_primitive : (b : ℕ) → b ≡ 0 → info_at σ s b p ≡ code_at s p
  unfolding info_at
  info_primitive b h = rw h

  pub info_array : (b : ℕ) → b ≡ 7 → info_at σ s b p ≡ code_at s p
  unfolding info_at
  info_array b h = rw h

  pub info_system : (b : ℕ) → b ≡ 3 → info_at σ s b p ≡ name_at σ s p
  unfolding info_at
  info_system b h = rw h

  pub info_class : (b : ℕ) → b ≡ 4 → info_at σ s b p ≡ on_end (library_id_at s) (name_at σ s p)
  unfolding info_at
  info_class b h = rw h

  pub info_none : (b : ℕ) → (b ≡ 0 → ⊥) → (b ≡ 7 → ⊥) → (b ≡ 3 → ⊥) → (b ≡ 4 → ⊥) → info_at σ s b p ≡ Ok p
  unfolding info_at
  info_none b zero seven three four = rw (ne_eqb b 0 zero, ne_eqb b 7 seven, ne_eqb b 3 three, ne_eqb b 4 four)
