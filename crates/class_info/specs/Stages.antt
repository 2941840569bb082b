-- The class records by stages: what is left of each definition once its first fields are read, one law for each answer of the field
-- that comes next.
use Prim.Native.Nat.{ℕ, zero, suc, ◌+◌, ◌-◌, ◌≤◌, ◌<◌}
use Rattle.std.specs.Prelude.{◌≡◌, Bool, true, false, List, length, get_or, Some, None, Result, Ok, Err}
use Rattle.format.specs.declared.Head.{Head}
use Rattle.std.proofs.Math.Path.{refl}
use Rattle.std.proofs.Common.{sym, ◌∙◌}
use native.Mathlib.Omega.{arith}
use borrow.Author.Tests.{eq-eqb, ne_eqb}
use Rattle.format.specs.declared.Setting.{Setting}
use Rattle.format.specs.declared.Refusal.{Refusal}
use Rattle.format.specs.declared.Refusal.TheVariants as R
use Rattle.format.specs.declared.Row.{Row}
use Rattle.format.specs.Bytes.{pick, part}
use Rattle.format.specs.Numbers.{le, u32_at, negative}
use Rattle.format.specs.Values.{on_end, times}
use Rattle.format.specs.Types.{type_byte_at, name_at, library_id_at, info_at, typed_at, book_typed}
use Rattle.format.specs.Rows.{blank, is_untyped, rows_of, library_row, class_row}
use Rattle.format.specs.Records.{on_number, on_field, good_class_id, known_library, own_library_at, info_known, infos_at, after_infos, members_at, class_at, within, first_type, of_class, by_row, class_by_id_at}
use Rattle.fields.specs.Sequence.{through}
use Rattle.num.specs.Read.{u32_says, u32_value}
use Rattle.table.specs.Rows.{length_rows_of}
use Rattle.lookups.specs.Find.{class_le}
use Rattle.codes.specs.Ends.{info_class}
use Rattle.types.specs.Keeps.{library_told}

-- ---- libraries

module _ (s : List ℕ) where
  -- after a LibraryId there are its four bytes before the place
  pub library_before : (at end : ℕ) → library_id_at s at ≡ Ok end → (4 ≤ end) × (end ≤ length s)
  library_before at end q =
      let t = library_told s at end q in
      let w = u32_says s at t.0 end t.1 in
      (omega arith, omega arith)

module _ (σ : Setting) (s : List ℕ) where
  pub info_before : (b at end : ℕ) → b ≡ 4 → info_at σ s b at ≡ Ok end → (4 ≤ end) × (end ≤ length s)
  info_before b at end h q =
      let x = through (library_id_at s) (name_at σ s at) end (sym (info_class σ s at b h) ∙ q) in
      library_before s x.0 end x.2

module _ (s : List ℕ) where
  -- and they are a number
  pub four_there : (end : ℕ) → 4 ≤ end → end ≤ length s → u32_at s (end - 4) ≡ None → ⊥
  four_there end h g q =
      let w = u32_value s (end - 4) (le (part s (end - 4) 4)) end (record { within = omega arith; next = omega arith; value = refl }) in
      let z : ◌≡◌ {A = ℕ} 0 1 = cc in
      omega arith

module _ (s : List ℕ) (rows : List Row) where
  -- the four bytes before the place say a number
  module _ (end v e : ℕ) (h : u32_at s (end - 4) ≡ Some (v, e)) where
    pub known_lost : library_row v rows ≡ 0 → known_library s rows end ≡ Err R.NoLibrary
    known_lost g = rw (← (u32_says s (end - 4) v e h).value, eq-eqb (library_row v rows) 0 g)

    pub known_end : (library_row v rows ≡ 0 → ⊥) → known_library s rows end ≡ Ok end
    known_end g = rw (← (u32_says s (end - 4) v e h).value, ne_eqb (library_row v rows) 0 g)

  pub own_library_end : (at end : ℕ) → library_id_at s at ≡ Ok end → own_library_at s rows at ≡ known_library s rows end
  unfolding own_library_at
  own_library_end at end h = rw h

  pub own_library_bad : (at : ℕ) (f : Refusal) → library_id_at s at ≡ Err f → own_library_at s rows at ≡ Err f
  unfolding own_library_at
  own_library_bad at f h = rw h

module _ (σ : Setting) (s : List ℕ) (rows : List Row) where
  -- ---- details

  module _ (b at : ℕ) where
    pub info_class_known : (end : ℕ) → info_at σ s b at ≡ Ok end → b ≡ 4 → info_known σ s rows b at ≡ known_library s rows end
    unfolding info_known
    info_class_known end h g = rw (h, eq-eqb b 4 g)

    pub info_other_known : (end : ℕ) → info_at σ s b at ≡ Ok end → (b ≡ 4 → ⊥) → info_known σ s rows b at ≡ Ok end
    unfolding info_known
    info_other_known end h g = rw (h, ne_eqb b 4 g)

    pub info_known_bad : (f : Refusal) → info_at σ s b at ≡ Err f → info_known σ s rows b at ≡ Err f
    unfolding info_known
    info_known_bad f h = rw h

  -- for the loop: no detail is left, or one more is read
  pub infos_none : (n types at : ℕ) → n ≤ 0 → infos_at σ s rows n types at ≡ Ok at
  unfolding infos_at
  infos_none zero types at h = refl
  infos_none (suc n) types at h = absurd (omega arith)

  pub infos_step : (n types at : ℕ) → 0 < n
      → infos_at σ s rows n types at ≡ on_end (infos_at σ s rows (n - 1) (types + 1)) (info_known σ s rows (get_or s types 0) at)
  unfolding infos_at
  infos_step zero types at h = absurd (omega arith)
  infos_step (suc n) types at h =
      let d : suc n - 1 ≡ n = omega arith in
      rw d

  -- ---- members

  -- the details, then what follows them
  unfoldable pub details_at : Bool → ℕ → ℕ → ℕ → Result ℕ Refusal
  details_at own n types infos = on_end (after_infos own s rows) (infos_at σ s rows n types infos)

  module _ (n types infos : ℕ) where
    pub details_own : (own : Bool) (p : ℕ) → own ≡ true → infos_at σ s rows n types infos ≡ Ok p → details_at own n types infos ≡ own_library_at s rows p
    unfolding details_at
    details_own own p g h = rw (h, g)

    pub details_end : (own : Bool) (p : ℕ) → own ≡ false → infos_at σ s rows n types infos ≡ Ok p → details_at own n types infos ≡ Ok p
    unfolding details_at
    details_end own p g h = rw (h, g)

    pub details_bad : (own : Bool) (f : Refusal) → infos_at σ s rows n types infos ≡ Err f → details_at own n types infos ≡ Err f
    unfolding details_at
    details_bad own f h = rw h

module _ (s : List ℕ) (rows : List Row) where
  -- what the fields of a class say, where they are good
  abbrev pub full : ℕ → ℕ → ℕ → ℕ → ℕ → Result Head Refusal
  full id n types infos end = Ok (record { id = id; end = end; count = n; slots = n; first = typed_at s types infos; link = types })

module _ (σ : Setting) (s : List ℕ) (rows : List Row) where
  -- members whose names end at this place
  unfoldable pub typed_members_at : Bool → ℕ → ℕ → ℕ → Result Head Refusal
  typed_members_at own id n types =
      on_field (λ infos. on_field (full s rows id n types infos) (details_at σ s rows own n types infos)) (times (type_byte_at s) n types)

  module _ (own : Bool) (id n : ℕ) where
    module _ (types : ℕ) where
      pub types_bad : (f : Refusal) → times (type_byte_at s) n types ≡ Err f → typed_members_at own id n types ≡ Err f
      unfolding typed_members_at
      types_bad f h = rw h

      module _ (infos : ℕ) (h : times (type_byte_at s) n types ≡ Ok infos) where
        pub members_details_bad : (f : Refusal) → details_at σ s rows own n types infos ≡ Err f → typed_members_at own id n types ≡ Err f
        unfolding typed_members_at
        members_details_bad f g = rw (h, g)

        pub members_end : (end : ℕ) → details_at σ s rows own n types infos ≡ Ok end → typed_members_at own id n types ≡ full s rows id n types infos end
        unfolding typed_members_at
        members_end end g = rw (h, g)

module _ (s : List ℕ) (rows : List Row) where
  module _ (own : Bool) (id n : ℕ) where
    -- two steps after the type bytes, or one that takes them together
    together : (k : ℕ → Result Head Refusal) (g : ℕ → Result ℕ Refusal) (r : Result ℕ Refusal) → on_field (λ p. on_field k (g p)) r ≡ on_field k (on_end g r)
    together k g (Ok p) = refl
    together k g (Err f) = refl

module _ (σ : Setting) (s : List ℕ) (rows : List Row) where
  module _ (own : Bool) (id n : ℕ) where
    pub names_end : (at types : ℕ) → times (name_at σ s) n at ≡ Ok types → members_at σ s rows own id n at ≡ typed_members_at σ s rows own id n types
    unfolding members_at typed_members_at details_at
    names_end at types h = rw h (go (times (type_byte_at s) n types))
      where
        go : (r : Result ℕ Refusal)
            → on_field (λ infos. on_field (λ p. on_field (full s rows id n types infos) (after_infos own s rows p)) (infos_at σ s rows n types infos)) r
            ≡ on_field (λ infos. on_field (full s rows id n types infos) (on_end (after_infos own s rows) (infos_at σ s rows n types infos))) r
        go (Ok infos) = together s rows own id n (full s rows id n types infos) (after_infos own s rows) (infos_at σ s rows n types infos)
        go (Err f) = refl

    pub names_bad : (at : ℕ) (f : Refusal) → times (name_at σ s) n at ≡ Err f → members_at σ s rows own id n at ≡ Err f
    unfolding members_at
    names_bad at f h = rw h

  -- ---- kinds 4 and 5

  -- a class whose ObjectId ends at this place
  unfoldable pub named_class_at : Bool → ℕ → ℕ → Result Head Refusal
  named_class_at own id p =
      on_field (λ q. on_number (λ n r. pick (negative n) (Err R.BadCount) (members_at σ s rows own id n r)) (u32_at s q)) (name_at σ s p)

  module _ (own : Bool) (id p : ℕ) where
    pub name_bad : (f : Refusal) → name_at σ s p ≡ Err f → named_class_at own id p ≡ Err f
    unfolding named_class_at
    name_bad f h = rw h

    module _ (q : ℕ) (h : name_at σ s p ≡ Ok q) where
      pub count_short : u32_at s q ≡ None → named_class_at own id p ≡ Err R.CutShort
      unfolding named_class_at
      count_short g = rw (h, g)

      module _ (n r : ℕ) (g : u32_at s q ≡ Some (n, r)) where
        pub count_bad : negative n ≡ true → named_class_at own id p ≡ Err R.BadCount
        unfolding named_class_at
        count_bad i = rw (h, g, i)

        pub count_good : negative n ≡ false → named_class_at own id p ≡ members_at σ s rows own id n r
        unfolding named_class_at
        count_good i = rw (h, g, i)

-- ---- kind 1

-- where the first type of the class in a row stands, by the row's kind
module _ (β s : List ℕ) (c : Row) where
  pub first_untyped : is_untyped c.kind ≡ true → first_type β s c ≡ book_typed β c.link
  unfolding first_type
  first_untyped h = rw h

  pub first_typed : is_untyped c.kind ≡ false → first_type β s c ≡ typed_at s c.link (within (length s) (c.link + c.count))
  unfolding first_type
  first_typed h = rw h

module _ (β s : List ℕ) (rows : List Row) where
  -- a class by id whose ObjectId ends at this place
  unfoldable pub by_metadata_at : ℕ → ℕ → Result Head Refusal
  by_metadata_at id p = on_number (λ class end. by_row β s rows id end (class_row class rows)) (u32_at s p)

  module _ (id p : ℕ) where
    pub metadata_short : u32_at s p ≡ None → by_metadata_at id p ≡ Err R.CutShort
    unfolding by_metadata_at
    metadata_short h = rw h

    module _ (class end : ℕ) (h : u32_at s p ≡ Some (class, end)) where
      pub class_lost : class_row class rows ≡ 0 → by_metadata_at id p ≡ Err R.NoClass
      unfolding by_metadata_at
      class_lost g = rw (h, eq-eqb (class_row class rows) 0 g)

      pub class_found : (class_row class rows ≡ 0 → ⊥)
          → by_metadata_at id p ≡ of_class β s id end (class_row class rows) (get_or rows (class_row class rows - 1) blank)
      unfolding by_metadata_at
      class_found g = rw (h, ne_eqb (class_row class rows) 0 g)

module _ (s : List ℕ) (rows : List Row) where
  -- ---- the ObjectId, which every class record begins with

  module _ (rest : ℕ → ℕ → Result Head Refusal) (at : ℕ) where
    abbrev new_class : Result Head Refusal
    new_class = on_number (λ id p. pick (good_class_id rows id) (rest id p) (Err R.BadId)) (u32_at s (at + 1))

    new_short : u32_at s (at + 1) ≡ None → new_class ≡ Err R.CutShort
    new_short h = rw h

    module _ (id p : ℕ) (h : u32_at s (at + 1) ≡ Some (id, p)) where
      new_used : good_class_id rows id ≡ false → new_class ≡ Err R.BadId
      new_used g = rw (h, g)

      new_free : good_class_id rows id ≡ true → new_class ≡ rest id p
      new_free g = rw (h, g)

module _ (σ : Setting) (s : List ℕ) (rows : List Row) where
  module _ (own : Bool) (at : ℕ) where
    pub class_short : u32_at s (at + 1) ≡ None → class_at σ s rows own at ≡ Err R.CutShort
    unfolding class_at named_class_at
    class_short h = new_short s rows (named_class_at σ s rows own) at h

    module _ (id p : ℕ) (h : u32_at s (at + 1) ≡ Some (id, p)) where
      pub class_used : good_class_id rows id ≡ false → class_at σ s rows own at ≡ Err R.BadId
      unfolding class_at named_class_at
      class_used g = new_used s rows (named_class_at σ s rows own) at id p h g

      pub class_free : good_class_id rows id ≡ true → class_at σ s rows own at ≡ named_class_at σ s rows own id p
      unfolding class_at named_class_at
      class_free g = new_free s rows (named_class_at σ s rows own) at id p h g

module _ (β s : List ℕ) (rows : List Row) where
  module _ (at : ℕ) where
    pub by_id_short : u32_at s (at + 1) ≡ None → class_by_id_at β s rows at ≡ Err R.CutShort
    unfolding class_by_id_at by_metadata_at
    by_id_short h = new_short s rows (by_metadata_at β s rows) at h

    module _ (id p : ℕ) (h : u32_at s (at + 1) ≡ Some (id, p)) where
      pub by_id_used : good_class_id rows id ≡ false → class_by_id_at β s rows at ≡ Err R.BadId
      unfolding class_by_id_at by_metadata_at
      by_id_used g = new_used s rows (by_metadata_at β s rows) at id p h g

      pub by_id_free : good_class_id rows id ≡ true → class_by_id_at β s rows at ≡ by_metadata_at β s rows id p
      unfolding class_by_id_at by_metadata_at
      by_id_free g = new_free s rows (by_metadata_at β s rows) at id p h g

-- the row of a class is one of the first n
pub class_inside : (class n : ℕ) (t : List ℕ) → class_row class (rows_of n t) ≤ n
class_inside class n t =
    let l = length_rows_of n t in
    let w = class_le class (rows_of n t) in
    omega arith
