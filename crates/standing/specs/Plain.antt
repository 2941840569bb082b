-- What good fields of records that hold no slots say, field by field: kinds 6, 8, 11, 12, and the nulls 10, 13 and 14.
use Rattle.std.specs.Prelude.{ℕ, ◌+◌, ◌<◌, refl, Bool, ◌&&◌, not, List, length, get_or, ltb, eqb, Result, Ok}
use Rattle.std.proofs.Math.Path.{◌≡◌, ap, subst}
use Rattle.std.proofs.Common.{◌∙◌, leb-false}
use Rattle.std.proofs.Math.Bool.{true, false}
use native.Mathlib.Omega.{arith}
use Rattle.format.specs.Terms.{Terms}
use Rattle.format.specs.declared.Refusal.{Refusal}
use Rattle.format.specs.declared.Refusal.TheVariants as R
use Rattle.format.specs.declared.Head.{Head}
use Rattle.format.specs.declared.Row.{Row}
use Rattle.format.specs.Numbers.{u32_at, negative}
use Rattle.format.specs.Values.{value_at}
use Rattle.format.specs.Types.{primitive_of, coded, code_at, name_at, positive}
use Rattle.format.specs.Records.{good_id, typed_primitive_at, nulls_at, long_nulls_at, plain, heading_at}
use Rattle.fields.specs.Judged.{picked}
use Rattle.types.specs.Keeps.{code_told}
use Rattle.items.specs.Keeps.{value_moves}
use Rattle.class_info.specs.Ends.{number_moves}
use Rattle.records.specs.Stages.{named_at, free_library, on_judged, string_parts, library_parts}
use Rattle.headings.specs.Headings.{string_heading, typed_heading, null_heading, end_heading, library_heading, nulls_heading, long_nulls_heading}
use Rattle.standing.specs.Standing.{Recorded}
use Rattle.standing.specs.Fields.{Of, of_number_lem, of_field, row_said}

-- ---- good fields

-- a count that is no negative INT32
abbrev Few : Head → Type 0
Few h = h.count < 2147483648

module _ (τ : Terms) (s : List ℕ) (at : ℕ) where
  -- 6 and 12: a text after the number
  abbrev Named : Head → Type 0
  Named h = name_at τ.setting s (at + 5) ≡ Ok h.end

  of_named : (test : ℕ → Bool) (refusal : Refusal) → Of Named (on_judged test refusal (named_at τ.setting s) (u32_at s (at + 1)))
  unfolding on_judged named_at
  of_named test refusal =
      of_number_lem Named _ (u32_at s (at + 1)) (λ id p a.
      picked (Of Named) (test id) (λ b.
      of_field Named _ (name_at τ.setting s p) (λ end c.
      let m = number_moves s (at + 1) id p a in
      let e : p ≡ at + 5 = omega arith in
      subst (λ (p : ℕ). name_at τ.setting s p ≡ Ok end) e c))
      (λ b. tt))

  -- 8: a code, and a value after it
  abbrev pub Typed : ℕ → Type 0
  Typed end =
      (code_at s (at + 1) ≡ Ok (at + 2)) × (at + 2 < end) × (value_at τ.setting s (coded (primitive_of (get_or s (at + 1) 0))) (at + 2) ≡ Ok end)

  of_typed : Of (λ h. Typed h.end) (typed_primitive_at τ.setting s at)
  unfolding typed_primitive_at
  of_typed =
      let P : Head → Type 0 = λ h. Typed h.end in
      let code = coded (primitive_of (get_or s (at + 1) 0)) in
      of_field P _ (code_at s (at + 1)) (λ p a.
      of_field P _ (value_at τ.setting s code p) (λ end b.
      let m = code_told s (at + 1) p a in
      let n = value_moves τ.setting s code p end b in
      let e : p ≡ at + 2 = omega arith in
      (a ∙ ap Ok e, omega arith, subst (λ (p : ℕ). value_at τ.setting s code p ≡ Ok end) e b)))

  -- 13 and 14
  of_nulls : get_or s (at + 1) 0 < 256 → Of Few (nulls_at s at)
  unfolding nulls_at
  of_nulls h = picked (Of Few) (ltb (at + 1) (length s)) (λ t. omega arith) (λ t. tt)

  of_long_nulls : Of Few (long_nulls_at s at)
  unfolding long_nulls_at
  of_long_nulls =
      of_number_lem Few _ (u32_at s (at + 1)) (λ n end a.
      picked (Of Few) (positive n) (λ b. small n b) (λ b. tt))
    where
      none : false ≡ true → ⊥
      none q = let z : ◌≡◌ {A = ℕ} 0 1 = cc in omega arith

      both : (a b : Bool) → (a && not b) ≡ true → b ≡ false
      both a false q = refl
      both false true q = absurd (none q)
      both true true q = absurd (none q)

      small : (n : ℕ) → positive n ≡ true → n < 2147483648
      small n q =
          let h = leb-false 2147483648 n (both (not (eqb n 0)) (negative n) q) in
          omega arith

-- ---- rows

module _ (τ : Terms) {s : List ℕ} {before : List Row} {r : Row} (w : Recorded τ s before r) where
  text_row : (test : ℕ → Bool) → heading_at τ s before r.kind r.offset ≡ on_judged test R.BadId (named_at τ.setting s) (u32_at s (r.offset + 1))
      → name_at τ.setting s (r.offset + 5) ≡ Ok r.end
  text_row test e = row_said τ w (λ n end. name_at τ.setting s (r.offset + 5) ≡ Ok end) _ e (of_named τ s r.offset test R.BadId)

  pub string_row : r.kind ≡ 6 → name_at τ.setting s (r.offset + 5) ≡ Ok r.end
  string_row k = text_row (good_id before) (string_heading τ s before r.kind r.offset k ∙ string_parts τ.setting s r.offset before)

  pub library_row_lem : r.kind ≡ 12 → name_at τ.setting s (r.offset + 5) ≡ Ok r.end
  library_row_lem k = text_row (free_library before) (library_heading τ s before r.kind r.offset k ∙ library_parts τ.setting s r.offset before)

  pub typed_row : r.kind ≡ 8 → Typed τ s r.offset r.end
  typed_row k = row_said τ w (λ n end. Typed τ s r.offset end) _ (typed_heading τ s before r.kind r.offset k) (of_typed τ s r.offset)

  pub end_row : r.kind ≡ 11 → r.end ≡ r.offset + 1
  end_row k = row_said τ w (λ n end. end ≡ r.offset + 1) (plain 0 (r.offset + 1) 0) (end_heading τ s before r.kind r.offset k) refl

  -- nulls
  few : (x : Result Head Refusal) → heading_at τ s before r.kind r.offset ≡ x → Of Few x → r.count < 2147483648
  few x e v = row_said τ w (λ n end. n < 2147483648) x e v

  pub null_row : r.kind ≡ 10 → r.count < 2147483648
  null_row k = few (plain 0 (r.offset + 1) 1) (null_heading τ s before r.kind r.offset k) (omega arith)

  pub nulls_row : get_or s (r.offset + 1) 0 < 256 → r.kind ≡ 13 → r.count < 2147483648
  nulls_row h k = few _ (nulls_heading τ s before r.kind r.offset k) (of_nulls τ s r.offset h)

  pub long_nulls_row : r.kind ≡ 14 → r.count < 2147483648
  long_nulls_row k = few _ (long_nulls_heading τ s before r.kind r.offset k) (of_long_nulls τ s r.offset)
