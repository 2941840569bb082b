-- Parts of the definitions that a function of their own reads, each with the law that it is the definition's own part.
use Rattle.std.specs.Prelude.{ℕ, ◌+◌, ◌≡◌, Bool, true, false, ◌&&◌, List, eqb, Option, Some, None, Result, Err}
use Rattle.format.specs.declared.Head.{Head}
use Rattle.std.proofs.Math.Path.{refl}
use Rattle.format.specs.declared.Setting.{Setting}
use Rattle.format.specs.declared.Refusal.{Refusal}
use Rattle.format.specs.declared.Refusal.TheVariants as R
use Rattle.format.specs.declared.Row.{Row}
use Rattle.format.specs.Bytes.{pick}
use Rattle.format.specs.Numbers.{u32_at}
use Rattle.format.specs.Types.{name_at, positive}
use Rattle.format.specs.Rows.{library_row}
use Rattle.format.specs.Records.{on_number, on_field, plain, good_id, string_record_at, reference_at, long_nulls_at, library_at}

-- major and minor
unfoldable pub version_at : List ℕ → ℕ → ℕ → Result Head Refusal
version_at s root at =
    on_number (λ major p.
    pick (eqb major 1)
    (on_number (λ minor end. pick (eqb minor 0) (plain root end 0) (Err R.BadVersion)) (u32_at s p))
    (Err R.BadVersion))
    (u32_at s at)

-- the text that ends a record of this id
unfoldable pub named_at : Setting → List ℕ → ℕ → ℕ → Result Head Refusal
named_at σ s id at = on_field (λ end. plain id end 0) (name_at σ s at)

-- the LibraryId of a library is positive, and is used once
abbrev pub free_library : List Row → ℕ → Bool
free_library rows id = positive id && eqb (library_row id rows) 0

-- ---- a number that a test judges, and what follows it

module _ (test : ℕ → Bool) (refusal : Refusal) (good : ℕ → ℕ → Result Head Refusal) where
  unfoldable pub on_judged : Option (ℕ × ℕ) → Result Head Refusal
  on_judged r = on_number (λ v next. pick (test v) (good v next) (Err refusal)) r

  module _ (r : Option (ℕ × ℕ)) where
    pub judged_short : r ≡ None → on_judged r ≡ Err R.CutShort
    unfolding on_judged
    judged_short h = rw h

    module _ (v next : ℕ) (h : r ≡ Some (v, next)) where
      pub judged_good : test v ≡ true → on_judged r ≡ good v next
      unfolding on_judged
      judged_good g = rw (h, g)

      pub judged_bad : test v ≡ false → on_judged r ≡ Err refusal
      unfolding on_judged
      judged_bad g = rw (h, g)

-- ---- the kinds that begin with such a number

module _ (s : List ℕ) (at : ℕ) where
  pub reference_parts : reference_at s at ≡ on_judged positive R.BadId (λ id end. plain id end 0) (u32_at s (at + 1))
  unfolding reference_at on_judged
  reference_parts = refl

  pub nulls_parts : long_nulls_at s at ≡ on_judged positive R.BadCount (λ n end. plain 0 end n) (u32_at s (at + 1))
  unfolding long_nulls_at on_judged
  nulls_parts = refl

module _ (σ : Setting) (s : List ℕ) (at : ℕ) where
  module _ (rows : List Row) where
    pub string_parts : string_record_at σ s rows at ≡ on_judged (good_id rows) R.BadId (named_at σ s) (u32_at s (at + 1))
    unfolding string_record_at on_judged named_at
    string_parts = refl

    pub library_parts : library_at σ s rows at ≡ on_judged (free_library rows) R.BadId (named_at σ s) (u32_at s (at + 1))
    unfolding library_at on_judged named_at
    library_parts = refl
