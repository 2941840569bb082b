-- What good fields tell of, whatever the kind (01, Records): a record that the grammar takes stands at the place.
use Rattle.std.specs.Prelude.{ℕ, ◌-◌, ◌≤◌, ◌<◌, ◌≡◌, refl, Bool, true, false, ◌||◌, List, length, get_or, leb, eqb, Result, Ok}
use Rattle.format.specs.declared.Refusal.{Refusal}
use Rattle.std.proofs.Common.{sym, ◌∙◌, subst, arith, leb-true, eqb-true}
use Rattle.std.proofs.lemmas.Bool.{eqb-false}
use Rattle.format.specs.Terms.{Terms}
use Rattle.format.specs.declared.PrimitiveCode.{PrimitiveCode}
use Rattle.format.specs.declared.SlotType.TheVariants as S
use Rattle.format.specs.declared.Where.{Where}
use Rattle.format.specs.declared.Head.{Head}
use Rattle.format.specs.declared.Row.{Row}
use Rattle.format.specs.Bytes.{pick}
use Rattle.format.specs.Values.{value_at}
use Rattle.format.specs.Records.{is_kind, not_taken, kind_at, slot_array_at, heading_at}
use Rattle.format.specs.Contents.{value, enc}
use Rattle.format.specs.Grammar.{Value}
use Rattle.num.specs.Le.{Bytes}
use Rattle.kinds.specs.Kinds.{kind_within, kind_byte}
use Rattle.places.specs.Stand.{Stand}
use Rattle.places.specs.Values.{value_in, value_back}
use Rattle.places.specs.Recs.{Back}
use Rattle.places.specs.Tells.{Said, said_if, header_back, string_back, typed_primitive_back, reference_back, null_back, end_back, library_back, nulls_back, many_nulls_back}
use Rattle.places.specs.TellsClasses.{system_class_back, library_class_back, class_by_id_back}
use Rattle.places.specs.TellsArrays.{object_array_back, string_array_back, primitive_array_back, array_back}

-- the kinds that are taken
pub kinds_taken : (k : ℕ) → is_kind k ≡ true → not_taken k ≡ false → (k ≤ 17) × (k ≡ 2 → ⊥) × (k ≡ 3 → ⊥)
kinds_taken k known free = go (leb k 17) (eqb k 2) (eqb k 3) (eqb k 21) (eqb k 22) refl refl refl known free
  where
    go : (a b c d e : Bool) → leb k 17 ≡ a → eqb k 2 ≡ b → eqb k 3 ≡ c → (a || (d || e)) ≡ true → (b || (c || (d || e))) ≡ false
        → (k ≤ 17) × (k ≡ 2 → ⊥) × (k ≡ 3 → ⊥)
    go a true c d e p q r x y = absurd (let z : ◌≡◌ {A = ℕ} 0 1 = cc in omega arith)
    go a false true d e p q r x y = absurd (let z : ◌≡◌ {A = ℕ} 0 1 = cc in omega arith)
    go a false false true e p q r x y = absurd (let z : ◌≡◌ {A = ℕ} 0 1 = cc in omega arith)
    go a false false false true p q r x y = absurd (let z : ◌≡◌ {A = ℕ} 0 1 = cc in omega arith)
    go true false false false false p q r x y = (leb-true k 17 p, eqb-false k 2 q, eqb-false k 3 r)
    go false false false false false p q r x y = absurd (let z : ◌≡◌ {A = ℕ} 0 1 = cc in omega arith)

module _ (τ : Terms) (s : List ℕ) (rows : List Row) (at k : ℕ) (byte : Bytes s) (i : at < length s) (g : get_or s at 0 ≡ k) where
  -- the kind is n
  is : (n : ℕ) (r : Result Head Refusal) → (get_or s at 0 ≡ n → Said (Back τ s rows n at) r) → k ≡ n → Said (Back τ s rows k at) r
  is n r f e = subst (λ (x : ℕ). Said (Back τ s rows x at) r) (sym e) (f (g ∙ e))

  -- the kind is n, or a later one
  or : (n : ℕ) (a b : Result Head Refusal) → n ≤ k → (get_or s at 0 ≡ n → Said (Back τ s rows n at) a) → (n < k → Said (Back τ s rows k at) b) → Said (Back τ s rows k at) (pick (eqb k n) a b)
  or n a b l f h =
      said_if (Back τ s rows k at) (eqb k n) a b (λ t. is n a f (eqb-true k n t)) (λ t.
      let e = eqb-false k n t in
      h (omega arith))

  heading_said : is_kind k ≡ true → not_taken k ≡ false → Said (Back τ s rows k at) (heading_at τ s rows k at)
  unfolding heading_at
  heading_said known free =
      let w = kinds_taken k known free in
      or 0 _ _ (omega arith) (header_back τ s rows at byte i) (λ l.
      or 1 _ _ l (class_by_id_back τ s rows at byte i) (λ l.
      or 4 _ _ (omega arith) (system_class_back τ s rows at byte i) (λ l.
      or 5 _ _ l (library_class_back τ s rows at byte i) (λ l.
      or 6 _ _ l (string_back τ s rows at byte i) (λ l.
      or 7 _ _ l (array_back τ s rows at byte i) (λ l.
      or 8 _ _ l (typed_primitive_back τ s rows at byte i) (λ l.
      or 9 _ _ l (reference_back τ s rows at byte i) (λ l.
      or 10 _ _ l (null_back τ s rows at byte i) (λ l.
      or 11 _ _ l (end_back τ s rows at byte i) (λ l.
      or 12 _ _ l (library_back τ s rows at byte i) (λ l.
      or 13 _ _ l (nulls_back τ s rows at byte i) (λ l.
      or 14 _ _ l (many_nulls_back τ s rows at byte i) (λ l.
      or 15 _ _ l (primitive_array_back τ s rows at byte i) (λ l.
      or 16 _ _ l (object_array_back τ s rows at byte i) (λ l.
      is 17 (slot_array_at s rows S.Text at) (string_array_back τ s rows at byte i) (omega arith))))))))))))))))

  pub fields_tell : (h : Head) → is_kind k ≡ true → not_taken k ≡ false → heading_at τ s rows k at ≡ Ok h → Back τ s rows k at h
  fields_tell h known free e = subst (Said (Back τ s rows k at)) e (heading_said known free)

-- a record of a kind that is taken where it stands
pub record_told : (τ : Terms) (s : List ℕ) (rows : List Row) (w : Where) (at k : ℕ) (h : Head) → Bytes s → kind_at s w at ≡ Ok k
    → heading_at τ s rows k at ≡ Ok h → Back τ s rows k at h
record_told τ s rows w at k h byte q e =
    let b = kind_byte s w at k q in
    fields_tell τ s rows at k byte (kind_within s w at k q) (sym b.byte) h b.known b.free e

-- ---- member values

pub member_told : (τ : Terms) (s : List ℕ) (c : PrimitiveCode) (at e : ℕ) → Bytes s → value_at τ.setting s c at ≡ Ok e
    → Value τ c (value_in s c at) × Stand s (enc (value c (value_in s c at))) at e
unfolding enc
member_told τ s c at e byte q = let w = value_back τ s c at e byte q in (w.0, w.1)
