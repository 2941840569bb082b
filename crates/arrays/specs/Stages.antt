-- The array records by stages: an id, then what follows it. One law for each answer of a stage.
use Rattle.std.specs.Prelude.{ℕ, ◌+◌, ◌≡◌, refl, true, false, List, get_or, Option, Some, None, Result, Ok, Err}
use Rattle.format.specs.declared.Head.{Head}
use Rattle.format.specs.declared.Setting.{Setting}
use Rattle.format.specs.declared.Refusal.{Refusal}
use Rattle.format.specs.declared.Refusal.TheVariants as R
use Rattle.format.specs.declared.SlotType.{SlotType}
use Rattle.format.specs.declared.Row.{Row}
use Rattle.format.specs.Bytes.{pick}
use Rattle.format.specs.Numbers.{u32_at, negative}
use Rattle.format.specs.Types.{code_at, coded, primitive_of, type_byte_at, slot_of, typed_at, alike}
use Rattle.format.specs.Records.{on_number, on_field, on_slots, good_id, info_known, slotted, slot_array_at, with_items, primitive_array_at, good_rank, lengths_at, items_of, item_type_at, rank_at, array_type_at, binary_array_at}

-- ---- an id that is free, and what follows it

module _ (rows : List Row) (k : ℕ → ℕ → Result Head Refusal) where
  unfoldable pub after_id : Option (ℕ × ℕ) → Result Head Refusal
  after_id r = on_number (λ id p. pick (good_id rows id) (k id p) (Err R.BadId)) r

  module _ (r : Option (ℕ × ℕ)) where
    pub id_short : r ≡ None → after_id r ≡ Err R.CutShort
    unfolding after_id
    id_short e = rw e

    module _ (id p : ℕ) (e : r ≡ Some (id, p)) where
      pub id_free : good_id rows id ≡ true → after_id r ≡ k id p
      unfolding after_id
      id_free g = rw (e, g)

      pub id_bad : good_id rows id ≡ false → after_id r ≡ Err R.BadId
      unfolding after_id
      id_bad g = rw (e, g)

-- ---- a length, and what follows it

module _ (k : ℕ → ℕ → Result Head Refusal) where
  unfoldable pub after_length : Option (ℕ × ℕ) → Result Head Refusal
  after_length r = on_number (λ n p. pick (negative n) (Err R.BadCount) (k n p)) r

  module _ (r : Option (ℕ × ℕ)) where
    pub length_short : r ≡ None → after_length r ≡ Err R.CutShort
    unfolding after_length
    length_short e = rw e

    module _ (n p : ℕ) (e : r ≡ Some (n, p)) where
      pub length_bad : negative n ≡ true → after_length r ≡ Err R.BadCount
      unfolding after_length
      length_bad g = rw (e, g)

      pub length_good : negative n ≡ false → after_length r ≡ k n p
      unfolding after_length
      length_good g = rw (e, g)

-- ---- kinds 16 and 17

abbrev pub slot_length_at : List ℕ → SlotType → ℕ → ℕ → Result Head Refusal
slot_length_at s slot id at = after_length (λ n end. slotted id end n (alike slot 0)) (u32_at s at)

pub slot_array_is : (s : List ℕ) (rows : List Row) (slot : SlotType) (at : ℕ)
    → slot_array_at s rows slot at ≡ after_id rows (slot_length_at s slot) (u32_at s (at + 1))
unfolding slot_array_at after_id after_length
slot_array_is s rows slot at = refl

-- ---- kind 15

abbrev pub coded_items_at : Setting → List ℕ → ℕ → ℕ → ℕ → Result Head Refusal
coded_items_at σ s id n at = on_field (with_items σ s (coded (primitive_of (get_or s at 0))) id n) (code_at s at)

abbrev pub primitive_length_at : Setting → List ℕ → ℕ → ℕ → Result Head Refusal
primitive_length_at σ s id at = after_length (coded_items_at σ s id) (u32_at s at)

pub primitive_array_is : (σ : Setting) (s : List ℕ) (rows : List Row) (at : ℕ)
    → primitive_array_at σ s rows at ≡ after_id rows (primitive_length_at σ s) (u32_at s (at + 1))
unfolding primitive_array_at after_id after_length
primitive_array_is σ s rows at = refl

-- ---- kind 7

pub binary_array_is : (σ : Setting) (s : List ℕ) (rows : List Row) (at : ℕ) → binary_array_at σ s rows at ≡ after_id rows (array_type_at σ s rows) (u32_at s (at + 1))
unfolding binary_array_at after_id
binary_array_is σ s rows at = refl

module _ (σ : Setting) (s : List ℕ) (rows : List Row) (id : ℕ) where
  -- the lengths, and the items
  unfoldable pub shape_at : ℕ → ℕ → Result Head Refusal
  shape_at rank p = on_slots (item_type_at σ s rows id) (lengths_at s rank 1 p)

  -- the detail of the items' type, and the items
  unfoldable pub item_info_at : ℕ → ℕ → ℕ → Result Head Refusal
  item_info_at n types infos = on_field (λ end. items_of σ s id n infos end (typed_at s types infos).slot) (info_known σ s rows (get_or s types 0) infos)

  module _ (type at : ℕ) where
    pub rank_short : u32_at s at ≡ None → rank_at σ s rows id type at ≡ Err R.CutShort
    unfolding rank_at
    rank_short h = rw h

    module _ (rank p : ℕ) (h : u32_at s at ≡ Some (rank, p)) where
      pub rank_good : good_rank type rank ≡ true → rank_at σ s rows id type at ≡ shape_at rank p
      unfolding rank_at shape_at
      rank_good g = rw (h, g)

      pub rank_bad : good_rank type rank ≡ false → rank_at σ s rows id type at ≡ Err R.BadCount
      unfolding rank_at
      rank_bad g = rw (h, g)

  module _ (rank p : ℕ) where
    pub shape_good : (n types : ℕ) → lengths_at s rank 1 p ≡ Ok (n, types) → shape_at rank p ≡ item_type_at σ s rows id n types
    unfolding shape_at
    shape_good n types h = rw h

    pub shape_bad : (f : Refusal) → lengths_at s rank 1 p ≡ Err f → shape_at rank p ≡ Err f
    unfolding shape_at
    shape_bad f h = rw h

  module _ (n types : ℕ) where
    pub item_type_good : (infos : ℕ) → type_byte_at s types ≡ Ok infos → item_type_at σ s rows id n types ≡ item_info_at n types infos
    unfolding item_type_at item_info_at
    item_type_good infos h = rw h

    pub item_type_bad : (f : Refusal) → type_byte_at s types ≡ Err f → item_type_at σ s rows id n types ≡ Err f
    unfolding item_type_at
    item_type_bad f h = rw h

    -- b is the type byte
    module _ (infos b : ℕ) (h : b ≡ get_or s types 0) where
      pub item_info_good : (end code : ℕ) (slot : SlotType) → info_known σ s rows b infos ≡ Ok end → code ≡ get_or s infos 0 → slot ≡ slot_of b code
          → item_info_at n types infos ≡ items_of σ s id n infos end slot
      unfolding item_info_at typed_at
      item_info_good end code slot i j k = rw (k, j, ← h, i)

      pub item_info_bad : (f : Refusal) → info_known σ s rows b infos ≡ Err f → item_info_at n types infos ≡ Err f
      unfolding item_info_at
      item_info_bad f i = rw (← h, i)
