-- What the fields of a record say: one law for each answer.
use Rattle.std.specs.Prelude.{ℕ, ◌+◌, ◌≤◌, ◌<◌, ◌≡◌, Bool, true, false, ◌&&◌, List, length, get_or, eqb, Some, None, Ok, Err}
use Rattle.std.proofs.Common.{ap}
use borrow.Author.Tests.{lt-ltb, le-ltb, ne_eqb}
use Rattle.format.specs.declared.Setting.{Setting}
use Rattle.format.specs.declared.Refusal.{Refusal}
use Rattle.format.specs.declared.Refusal.TheVariants as R
use Rattle.format.specs.declared.PrimitiveCode.{PrimitiveCode}
use Rattle.format.specs.declared.Row.{Row}
use Rattle.format.specs.Numbers.{u32_at}
use Rattle.format.specs.Values.{value_at}
use Rattle.format.specs.Types.{primitive_of, coded, code_at, name_at, positive}
use Rattle.format.specs.Rows.{library_row}
use Rattle.format.specs.Records.{plain, header_at, typed_primitive_at, nulls_at}
use Rattle.records.specs.Stages.{version_at, named_at, free_library}

-- ---- ids

module _ (rows : List Row) (id : ℕ) where
  pub library_negative : positive id ≡ false → free_library rows id ≡ false
  library_negative h = ap (λ (b : Bool). b && eqb (library_row id rows) 0) h

  pub library_used : positive id ≡ true → free_library rows id ≡ eqb (library_row id rows) 0
  library_used h = ap (λ (b : Bool). b && eqb (library_row id rows) 0) h

-- ---- the text that ends a record

module _ (σ : Setting) (s : List ℕ) (id at : ℕ) where
  pub named_end : (e : ℕ) → name_at σ s at ≡ Ok e → named_at σ s id at ≡ plain id e 0
  unfolding named_at
  named_end e h = rw h

  pub named_bad : (f : Refusal) → name_at σ s at ≡ Err f → named_at σ s id at ≡ Err f
  unfolding named_at
  named_bad f h = rw h

-- ---- the version

module _ (s : List ℕ) (root at : ℕ) where
  pub major_short : u32_at s at ≡ None → version_at s root at ≡ Err R.CutShort
  unfolding version_at
  major_short h = rw h

  module _ (major p : ℕ) (h : u32_at s at ≡ Some (major, p)) where
    pub major_bad : (major ≡ 1 → ⊥) → version_at s root at ≡ Err R.BadVersion
    unfolding version_at
    major_bad m = rw (h, ne_eqb major 1 m)

    module _ (m : major ≡ 1) where
      pub minor_short : u32_at s p ≡ None → version_at s root at ≡ Err R.CutShort
      unfolding version_at
      minor_short g = rw (h, m, g)

      module _ (minor end : ℕ) (g : u32_at s p ≡ Some (minor, end)) where
        pub minor_bad : (minor ≡ 0 → ⊥) → version_at s root at ≡ Err R.BadVersion
        unfolding version_at
        minor_bad n = rw (h, m, g, ne_eqb minor 0 n)

        pub version_end : minor ≡ 0 → version_at s root at ≡ plain root end 0
        unfolding version_at
        version_end n = rw (h, m, g, n)

-- ---- the header

module _ (s : List ℕ) (at : ℕ) where
  pub root_short : u32_at s (at + 1) ≡ None → header_at s at ≡ Err R.CutShort
  unfolding header_at
  root_short h = rw h

  module _ (root p : ℕ) (h : u32_at s (at + 1) ≡ Some (root, p)) where
    pub header_short : u32_at s p ≡ None → header_at s at ≡ Err R.CutShort
    unfolding header_at
    header_short g = rw (h, g)

    pub header_version : (header q : ℕ) → u32_at s p ≡ Some (header, q) → header_at s at ≡ version_at s root q
    unfolding header_at version_at
    header_version header q g = rw (h, g)

module _ (σ : Setting) (s : List ℕ) (at : ℕ) where
  -- ---- a typed primitive

  pub code_bad : (f : Refusal) → code_at s (at + 1) ≡ Err f → typed_primitive_at σ s at ≡ Err f
  unfolding typed_primitive_at
  code_bad f h = rw h

  module _ (p : ℕ) (h : code_at s (at + 1) ≡ Ok p) (code : PrimitiveCode) (c : code ≡ coded (primitive_of (get_or s (at + 1) 0))) where
    pub value_bad : (f : Refusal) → value_at σ s code p ≡ Err f → typed_primitive_at σ s at ≡ Err f
    unfolding typed_primitive_at
    value_bad f g = rw (h, ← c, g)

    pub value_end_lem : (e : ℕ) → value_at σ s code p ≡ Ok e → typed_primitive_at σ s at ≡ plain 0 e 0
    unfolding typed_primitive_at
    value_end_lem e g = rw (h, ← c, g)

module _ (s : List ℕ) (at : ℕ) where
  -- ---- nulls

  pub run_end : at + 1 < length s → nulls_at s at ≡ plain 0 (at + 2) (get_or s (at + 1) 0)
  unfolding nulls_at
  run_end h = simp lt-ltb

  pub run_short : length s ≤ at + 1 → nulls_at s at ≡ Err R.CutShort
  unfolding nulls_at
  run_short h = simp le-ltb
