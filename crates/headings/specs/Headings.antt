-- The fields of a record by its kind: one law for each kind that the definition names, and one for all others.
use Rattle.std.specs.Prelude.{ℕ, ◌+◌, ◌≡◌, refl, Bool, true, false, List, get_or, Option, Some, None, Result, Ok, Err}
use Rattle.format.specs.declared.Head.{Head}
use borrow.Author.Tests.{ne_eqb}
use Rattle.format.specs.Terms.{Terms}
use Rattle.format.specs.declared.Setting.{Setting}
use Rattle.format.specs.declared.Refusal.{Refusal}
use Rattle.format.specs.declared.Refusal.TheVariants as R
use Rattle.format.specs.declared.SlotType.TheVariants as S
use Rattle.format.specs.declared.Row.{Row}
use Rattle.format.specs.Bytes.{pick}
use Rattle.format.specs.Numbers.{u32_at}
use Rattle.format.specs.Values.{value_at}
use Rattle.format.specs.Types.{name_at, positive, code_at, coded, primitive_of}
use Rattle.format.specs.Records.{on_field, plain, good_id, header_at, string_record_at, typed_primitive_at, reference_at, nulls_at, long_nulls_at, library_at, class_at, class_by_id_at, slot_array_at, primitive_array_at, binary_array_at, heading_at}
use Rattle.kinds.specs.Kinds.{is_brief, brief_none, Hollow}
use Rattle.records.specs.Stages.{named_at, on_judged, reference_parts, string_parts}

-- a kind that the definition does not name
abbrev pub NoneOf : ℕ → Type 0
NoneOf k =
    (((((((((((Unit {0} × (k ≡ 0 → ⊥)) × (k ≡ 1 → ⊥)) × (k ≡ 4 → ⊥)) × (k ≡ 5 → ⊥)) × (k ≡ 7 → ⊥)) × (k ≡ 11 → ⊥)) × (k ≡ 12 → ⊥)) × (k ≡ 13 → ⊥)) × (k ≡ 14 → ⊥)) × (k ≡ 15 → ⊥)) × (k ≡ 16 → ⊥))

module _ (τ : Terms) (s : List ℕ) (rows : List Row) (k at : ℕ) where
  pub header_heading : k ≡ 0 → heading_at τ s rows k at ≡ header_at s at
  unfolding heading_at
  header_heading h = rw h

  pub by_id_heading : k ≡ 1 → heading_at τ s rows k at ≡ class_by_id_at τ.book s rows at
  unfolding heading_at
  by_id_heading h = rw h

  pub system_heading : k ≡ 4 → heading_at τ s rows k at ≡ class_at τ.setting s rows false at
  unfolding heading_at
  system_heading h = rw h

  pub class_heading : k ≡ 5 → heading_at τ s rows k at ≡ class_at τ.setting s rows true at
  unfolding heading_at
  class_heading h = rw h

  pub string_heading : k ≡ 6 → heading_at τ s rows k at ≡ string_record_at τ.setting s rows at
  unfolding heading_at
  string_heading h = rw h

  pub array_heading : k ≡ 7 → heading_at τ s rows k at ≡ binary_array_at τ.setting s rows at
  unfolding heading_at
  array_heading h = rw h

  pub typed_heading : k ≡ 8 → heading_at τ s rows k at ≡ typed_primitive_at τ.setting s at
  unfolding heading_at
  typed_heading h = rw h

  pub reference_heading : k ≡ 9 → heading_at τ s rows k at ≡ reference_at s at
  unfolding heading_at
  reference_heading h = rw h

  pub null_heading : k ≡ 10 → heading_at τ s rows k at ≡ plain 0 (at + 1) 1
  unfolding heading_at
  null_heading h = rw h

  pub end_heading : k ≡ 11 → heading_at τ s rows k at ≡ plain 0 (at + 1) 0
  unfolding heading_at
  end_heading h = rw h

  pub library_heading : k ≡ 12 → heading_at τ s rows k at ≡ library_at τ.setting s rows at
  unfolding heading_at
  library_heading h = rw h

  pub nulls_heading : k ≡ 13 → heading_at τ s rows k at ≡ nulls_at s at
  unfolding heading_at
  nulls_heading h = rw h

  pub long_nulls_heading : k ≡ 14 → heading_at τ s rows k at ≡ long_nulls_at s at
  unfolding heading_at
  long_nulls_heading h = rw h

  pub primitives_heading : k ≡ 15 → heading_at τ s rows k at ≡ primitive_array_at τ.setting s rows at
  unfolding heading_at
  primitives_heading h = rw h

  pub objects_heading : k ≡ 16 → heading_at τ s rows k at ≡ slot_array_at s rows S.Object at
  unfolding heading_at
  objects_heading h = rw h

  -- 17, and what never stands here
  pub strings_heading : NoneOf k → is_brief k ≡ false → heading_at τ s rows k at ≡ slot_array_at s rows S.Text at
  unfolding heading_at
  strings_heading r b =
      let n = brief_none k b in
      rw (
        ne_eqb k 0 r.0.0.0.0.0.0.0.0.0.0.1,
        ne_eqb k 1 r.0.0.0.0.0.0.0.0.0.1,
        ne_eqb k 4 r.0.0.0.0.0.0.0.0.1,
        ne_eqb k 5 r.0.0.0.0.0.0.0.1,
        n.0,
        ne_eqb k 7 r.0.0.0.0.0.0.1,
        n.1.0,
        n.1.1.0,
        n.1.1.1,
        ne_eqb k 11 r.0.0.0.0.0.1,
        ne_eqb k 12 r.0.0.0.0.1,
        ne_eqb k 13 r.0.0.0.1,
        ne_eqb k 14 r.0.0.1,
        ne_eqb k 15 r.0.1,
        ne_eqb k 16 r.1,
      )

-- ---- records without slots of their own

hollow_pick : (t : Bool) (x y : Result Head Refusal) → Hollow x → Hollow y → Hollow (pick t x y)
hollow_pick true x y a b = a
hollow_pick false x y a b = b

hollow_field : (k : ℕ → Result Head Refusal) (r : Result ℕ Refusal) → ((e : ℕ) → Hollow (k e)) → Hollow (on_field k r)
hollow_field k (Ok e) h = h e
hollow_field k (Err f) h = tt

hollow_judged : (test : ℕ → Bool) (refusal : Refusal) (good : ℕ → ℕ → Result Head Refusal) (r : Option (ℕ × ℕ)) → ((v p : ℕ) → Hollow (good v p))
    → Hollow (on_judged test refusal good r)
unfolding on_judged
hollow_judged test refusal good (Some (v, p)) h = hollow_pick (test v) (good v p) (Err refusal) (h v p) tt
hollow_judged test refusal good None h = tt

module _ (σ : Setting) (s : List ℕ) (at : ℕ) where
  named_hollow : (id p : ℕ) → Hollow (named_at σ s id p)
  unfolding named_at
  named_hollow id p = hollow_field (λ end. plain id end 0) (name_at σ s p) (λ e. refl)

  pub string_hollow : (rows : List Row) → Hollow (string_record_at σ s rows at)
  string_hollow rows = rw (string_parts σ s at rows) (hollow_judged (good_id rows) R.BadId (named_at σ s) (u32_at s (at + 1)) named_hollow)

  pub typed_hollow : Hollow (typed_primitive_at σ s at)
  unfolding typed_primitive_at
  typed_hollow =
      let code = coded (primitive_of (get_or s (at + 1) 0)) in
      hollow_field (λ p. on_field (λ end. plain 0 end 0) (value_at σ s code p)) (code_at s (at + 1)) (λ p.
      hollow_field (λ end. plain 0 end 0) (value_at σ s code p) (λ e. refl))

module _ (s : List ℕ) (at : ℕ) where
  pub reference_hollow : Hollow (reference_at s at)
  reference_hollow = rw (reference_parts s at) (hollow_judged positive R.BadId (λ id end. plain id end 0) (u32_at s (at + 1)) (λ id p. refl))
