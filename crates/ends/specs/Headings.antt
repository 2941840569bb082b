-- Where a record's fields end, where they are good: after its place and within the stream.
use Rattle.std.specs.Prelude.{ℕ, ◌+◌, ◌≤◌, ◌<◌, ◌≡◌, Bool, true, false, List, length, get_or, ltb, eqb, Result, Ok, Err}
use native.Mathlib.Omega.{arith}
use borrow.Author.Tests.{ltb-true}
use Rattle.format.specs.Terms.{Terms}
use Rattle.format.specs.declared.Refusal.{Refusal}
use Rattle.format.specs.declared.Refusal.TheVariants as R
use Rattle.format.specs.declared.SlotType.TheVariants as S
use Rattle.format.specs.declared.Head.{Head}
use Rattle.format.specs.declared.Row.{Row}
use Rattle.format.specs.Bytes.{pick}
use Rattle.format.specs.Numbers.{u32_at}
use Rattle.format.specs.Values.{value_at}
use Rattle.format.specs.Types.{primitive_of, coded, code_at, name_at, positive}
use Rattle.format.specs.Records.{on_field, good_id, plain, header_at, string_record_at, typed_primitive_at, reference_at, nulls_at, long_nulls_at, library_at, heading_at}
use Rattle.types.specs.Keeps.{code_moves, name_moves}
use Rattle.items.specs.Keeps.{value_moves}
use Rattle.class_info.specs.Ends.{EndsIn, number_moves, ends_pick, ends_number, ends_field}
use Rattle.class_info.specs.Moves.{class_ends, class_by_id_ends}
use Rattle.ends.specs.Arrays.{slot_array_ends, primitive_array_ends, binary_array_ends}
use Rattle.records.specs.Stages.{named_at, free_library, on_judged, reference_parts, nulls_parts, string_parts, library_parts}

module _ (τ : Terms) (s : List ℕ) where
  -- a number after the kind byte, and then fields that end after it
  judged_ends : (test : ℕ → Bool) (refusal : Refusal) (good : ℕ → ℕ → Result Head Refusal) (at : ℕ)
      → ((v p : ℕ) → at < p → p ≤ length s → EndsIn at (length s) (good v p))
      → EndsIn at (length s) (on_judged test refusal good (u32_at s (at + 1)))
  unfolding on_judged
  judged_ends test refusal good at f =
      ends_number at (length s) (λ v p. pick (test v) (good v p) (Err refusal)) (u32_at s (at + 1)) (λ v p q.
      let m = number_moves s (at + 1) v p q in
      ends_pick at (length s) (test v) (good v p) (Err refusal) (λ t. f v p (omega arith) m.1) (λ t. tt))

  named_ends : (at id p : ℕ) → at < p → EndsIn at (length s) (named_at τ.setting s id p)
  unfolding named_at
  named_ends at id p h =
      ends_field at (length s) (λ end. plain id end 0) (name_at τ.setting s p) (λ e q.
      let m = name_moves τ.setting s p e q in
      (omega arith, m.1))

  module _ (at : ℕ) where
    pub header_ends : EndsIn at (length s) (header_at s at)
    unfolding header_at
    header_ends =
        ends_number at (length s) _ (u32_at s (at + 1)) (λ root p i.
        ends_number at (length s) _ (u32_at s p) (λ header q j.
        ends_number at (length s) _ (u32_at s q) (λ major r k.
        ends_pick at (length s) (eqb major 1) _ _
        (λ t. ends_number at (length s) _ (u32_at s r) (λ minor e l.
        let a = number_moves s (at + 1) root p i in
        let b = number_moves s p header q j in
        let c = number_moves s q major r k in
        let d = number_moves s r minor e l in
        ends_pick at (length s) (eqb minor 0) _ _ (λ u. (omega arith, d.1)) (λ u. tt)))
        (λ t. tt))))

    pub reference_ends : EndsIn at (length s) (reference_at s at)
    reference_ends = rw (reference_parts s at) (judged_ends positive R.BadId (λ id end. plain id end 0) at (λ v p h i. (h, i)))

    pub long_nulls_ends : EndsIn at (length s) (long_nulls_at s at)
    long_nulls_ends = rw (nulls_parts s at) (judged_ends positive R.BadCount (λ n end. plain 0 end n) at (λ v p h i. (h, i)))

    pub nulls_ends : EndsIn at (length s) (nulls_at s at)
    unfolding nulls_at
    nulls_ends =
        ends_pick at (length s) (ltb (at + 1) (length s)) (plain 0 (at + 2) (get_or s (at + 1) 0)) (Err R.CutShort)
        (λ t. let h = ltb-true (at + 1) (length s) t in (omega arith, omega arith))
        (λ t. tt)

    pub typed_ends : EndsIn at (length s) (typed_primitive_at τ.setting s at)
    unfolding typed_primitive_at
    typed_ends =
        let code = coded (primitive_of (get_or s (at + 1) 0)) in
        ends_field at (length s) (λ p. on_field (λ end. plain 0 end 0) (value_at τ.setting s code p)) (code_at s (at + 1)) (λ p q.
        ends_field at (length s) (λ end. plain 0 end 0) (value_at τ.setting s code p) (λ e r.
        let a = code_moves s (at + 1) p q in
        let b = value_moves τ.setting s code p e r in
        (omega arith, b.1)))

    module _ (rows : List Row) where
      pub string_ends : EndsIn at (length s) (string_record_at τ.setting s rows at)
      string_ends = rw (string_parts τ.setting s at rows) (judged_ends (good_id rows) R.BadId (named_at τ.setting s) at (λ v p h i. named_ends at v p h))

      pub library_ends : EndsIn at (length s) (library_at τ.setting s rows at)
      library_ends = rw (library_parts τ.setting s at rows) (judged_ends (free_library rows) R.BadId (named_at τ.setting s) at (λ v p h i. named_ends at v p h))

-- ---- all kinds

pub heading_ends : (τ : Terms) (s : List ℕ) (rows : List Row) (k at : ℕ) → at < length s → EndsIn at (length s) (heading_at τ s rows k at)
unfolding heading_at
heading_ends τ s rows k at h =
    or 0 _ _ (header_ends τ s at)
    (or 1 _ _ (class_by_id_ends τ.book s rows at)
    (or 4 _ _ (class_ends τ.setting s rows false at)
    (or 5 _ _ (class_ends τ.setting s rows true at)
    (or 6 _ _ (string_ends τ s at rows)
    (or 7 _ _ (binary_array_ends τ s rows at)
    (or 8 _ _ (typed_ends τ s at)
    (or 9 _ _ (reference_ends τ s at)
    (or 10 _ _ none
    (or 11 _ _ none
    (or 12 _ _ (library_ends τ s at rows)
    (or 13 _ _ (nulls_ends τ s at)
    (or 14 _ _ (long_nulls_ends τ s at)
    (or 15 _ _ (primitive_array_ends τ s rows at)
    (or 16 _ _ (slot_array_ends s rows S.Object at)
    (slot_array_ends s rows S.Text at)))))))))))))))
  where
    none : (at < at + 1) × (at + 1 ≤ length s)
    none = (omega arith, omega arith)

    or : (n : ℕ) (a b : Result Head Refusal) → EndsIn at (length s) a → EndsIn at (length s) b → EndsIn at (length s) (pick (eqb k n) a b)
    or n a b u v = ends_pick at (length s) (eqb k n) a b (λ t. u) (λ t. v)

pub heading_moves : (τ : Terms) (s : List ℕ) (rows : List Row) (k at : ℕ) (h : Head) → at < length s → heading_at τ s rows k at ≡ Ok h
    → (at < h.end) × (h.end ≤ length s)
heading_moves τ s rows k at h i q = rw q at (heading_ends τ s rows k at i)
