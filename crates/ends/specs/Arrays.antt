-- Where array records end: after their place, and within the stream.
use Prim.Native.Nat.{ℕ, zero, suc, ◌+◌, ◌*◌, ◌≤◌, ◌<◌}
use Rattle.std.specs.Prelude.{◌≡◌, refl, Bool, List, get_or, ltb, leb, Option, Some, None, Result, Ok, Err}
use Rattle.std.proofs.Math.Bool.{true, false}
use native.Mathlib.Omega.{arith}
use Rattle.std.proofs.Math.ListN.{length}
use Rattle.format.specs.Terms.{Terms}
use Rattle.format.specs.declared.Refusal.{Refusal}
use Rattle.format.specs.declared.Refusal.TheVariants as R
use Rattle.format.specs.declared.PrimitiveCode.{PrimitiveCode}
use Rattle.format.specs.declared.SlotType.{SlotType}
use Rattle.format.specs.declared.SlotType.TheVariants as S
use Rattle.format.specs.declared.Row.{Row}
use Rattle.format.specs.Bytes.{pick}
use Rattle.format.specs.Numbers.{u32_at, negative}
use Rattle.format.specs.Values.{items_at}
use Rattle.format.specs.Types.{code_at, coded, primitive_of, type_byte_at, typed_at}
use Rattle.format.specs.Records.{good_id, info_known, slot_array_at, with_items, primitive_array_at, good_rank, on_length, lengths_at, items_of, item_type_at, rank_at, array_type_at, binary_array_at}
use Rattle.types.specs.Keeps.{code_moves, type_moves}
use Rattle.items.specs.Keeps.{items_kept}
use Rattle.class_info.specs.Ends.{EndsIn, number_moves, ends_pick, ends_number, ends_field, ends_slots}
use Rattle.fields.specs.Pairs.{ok_pair}
use Rattle.class_info.specs.Moves.{info_known_moves}

-- ---- lengths

no_product : (f : Refusal) (n e : ℕ) → ◌≡◌ {A = Result (ℕ × ℕ) Refusal} (Err f) (Ok (n, e)) → ⊥
no_product f n e q = let z : ◌≡◌ {A = ℕ} 0 1 = cc in omega arith

-- what a length that is taken says
length_told : (k : ℕ → ℕ → Result (ℕ × ℕ) Refusal) (r : Option (ℕ × ℕ)) (n e : ℕ) → on_length k r ≡ Ok (n, e)
    → (v : ℕ) × (next : ℕ) × (r ≡ Some (v, next)) × (k v next ≡ Ok (n, e))
length_told k (Some (v, next)) n e q = go (negative v) q
  where
    go : (t : Bool) → pick t (Err R.BadCount) (k v next) ≡ Ok (n, e)
        → (x : ℕ) × (y : ℕ) × (◌≡◌ {A = Option (ℕ × ℕ)} (Some (v, next)) (Some (x, y))) × (k x y ≡ Ok (n, e))
    go true q = absurd (no_product R.BadCount n e q)
    go false q = (v, next, refl, q)
length_told k None n e q = absurd (no_product R.CutShort n e q)

module _ (s : List ℕ) where
  pub lengths_moves : (k product at n e : ℕ) → at ≤ length s → lengths_at s k product at ≡ Ok (n, e) → (at ≤ e) × (e ≤ length s)
  unfolding lengths_at
  lengths_moves zero product at n e h q = go (leb product 2147483647) q
    where
      go : (t : Bool) → pick {A = Result (ℕ × ℕ) Refusal} t (Ok (product, at)) (Err R.BadCount) ≡ Ok (n, e) → (at ≤ e) × (e ≤ length s)
      go true q = let z : at ≡ e = (ok_pair q).1 in (omega arith, omega arith)
      go false q = absurd (no_product R.BadCount n e q)
  lengths_moves (suc k) product at n e h q =
      let x = length_told (λ v next. lengths_at s k (product * v) next) (u32_at s at) n e q in
      let a = number_moves s at x.0 x.1 x.2 in
      let b = lengths_moves k (product * x.0) x.1 n e a.1 x.3 in
      (omega arith, omega arith)

module _ (τ : Terms) (s : List ℕ) where
  -- ---- items, of a record that begins at p

  pub with_items_ends : (code : PrimitiveCode) (id n p at : ℕ) → p < at → at ≤ length s → EndsIn p (length s) (with_items τ.setting s code id n at)
  with_items_ends code id n p at i h =
      ends_field p (length s) _ (items_at τ.setting s code n at) (λ e q.
      let a = (items_kept τ.setting code n).moves s at e h q in
      (omega arith, a.1))

  pub items_ends : (slot : SlotType) (id n infos p at : ℕ) → p < at → at ≤ length s → EndsIn p (length s) (items_of τ.setting s id n infos at slot)
  items_ends (S.Primitive c) id n infos p at i h = with_items_ends c id n p at i h
  items_ends S.Text id n infos p at i h = (i, h)
  items_ends S.Object id n infos p at i h = (i, h)
  items_ends S.SystemClass id n infos p at i h = (i, h)
  items_ends S.Class id n infos p at i h = (i, h)
  items_ends S.ObjectArray id n infos p at i h = (i, h)
  items_ends S.StringArray id n infos p at i h = (i, h)
  items_ends (S.PrimitiveArray c) id n infos p at i h = (i, h)

module _ (s : List ℕ) (rows : List Row) where
  -- ---- kinds 15, 16 and 17

  pub slot_array_ends : (slot : SlotType) (at : ℕ) → EndsIn at (length s) (slot_array_at s rows slot at)
  unfolding slot_array_at
  slot_array_ends slot at =
      ends_number at (length s) _ (u32_at s (at + 1)) (λ id p q.
      let a = number_moves s (at + 1) id p q in
      ends_pick at (length s) (good_id rows id) _ _ (λ t.
      ends_number at (length s) _ (u32_at s p) (λ n e r.
      let b = number_moves s p n e r in
      ends_pick at (length s) (negative n) _ _ (λ u. tt) (λ u. (omega arith, omega arith))))
      (λ t. tt))

module _ (τ : Terms) (s : List ℕ) (rows : List Row) where
  pub primitive_array_ends : (at : ℕ) → EndsIn at (length s) (primitive_array_at τ.setting s rows at)
  unfolding primitive_array_at
  primitive_array_ends at =
      ends_number at (length s) _ (u32_at s (at + 1)) (λ id p q.
      let a = number_moves s (at + 1) id p q in
      ends_pick at (length s) (good_id rows id) _ _ (λ t.
      ends_number at (length s) _ (u32_at s p) (λ n x r.
      let b = number_moves s p n x r in
      ends_pick at (length s) (negative n) _ _ (λ u. tt) (λ u.
      ends_field at (length s) _ (code_at s x) (λ y v.
      let c = code_moves s x y v in
      with_items_ends τ s (coded (primitive_of (get_or s x 0))) id n at y (omega arith) (omega arith)))))
      (λ t. tt))

  -- ---- kind 7, of a record that begins at p

  pub item_type_ends : (id n p at : ℕ) → p < at → at ≤ length s → EndsIn p (length s) (item_type_at τ.setting s rows id n at)
  unfolding item_type_at
  item_type_ends id n p at i h =
      ends_field p (length s) _ (type_byte_at s at) (λ infos q.
      let a = type_moves s at infos q in
      ends_field p (length s) _ (info_known τ.setting s rows (get_or s at 0) infos) (λ e r.
      let b = info_known_moves τ.setting s rows (get_or s at 0) infos e a.1 r in
      items_ends τ s (typed_at s at infos).slot id n infos p e (omega arith) b.1))

  pub rank_ends : (id type p at : ℕ) → p < at → EndsIn p (length s) (rank_at τ.setting s rows id type at)
  unfolding rank_at
  rank_ends id type p at i =
      ends_number p (length s) _ (u32_at s at) (λ rank x q.
      let a = number_moves s at rank x q in
      ends_pick p (length s) (good_rank type rank) _ _ (λ t.
      ends_slots p (length s) _ (lengths_at s rank 1 x) (λ n types r.
      let b = lengths_moves s rank 1 x n types a.1 r in
      item_type_ends id n p types (omega arith) b.1))
      (λ t. tt))

  pub array_type_ends : (id p at : ℕ) → p < at → EndsIn p (length s) (array_type_at τ.setting s rows id at)
  array_type_ends id p at i =
      ends_pick p (length s) (ltb at (length s)) _ _ (λ t.
      ends_pick p (length s) (leb (get_or s at 0) 2) _ _
      (λ u. rank_ends id (get_or s at 0) p (at + 1) (omega arith))
      (λ u. ends_pick p (length s) (leb (get_or s at 0) 5) _ _ (λ v. tt) (λ v. tt)))
      (λ t. tt)

  pub binary_array_ends : (at : ℕ) → EndsIn at (length s) (binary_array_at τ.setting s rows at)
  unfolding binary_array_at
  binary_array_ends at =
      ends_number at (length s) _ (u32_at s (at + 1)) (λ id p q.
      let a = number_moves s (at + 1) id p q in
      ends_pick at (length s) (good_id rows id) _ _ (λ t. array_type_ends id at p (omega arith)) (λ t. tt))
