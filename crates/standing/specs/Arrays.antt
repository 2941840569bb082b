-- What good fields of array records say, field by field: kinds 7, 15, 16 and 17.
use Prim.Native.Nat.{ℕ, zero, suc, ◌+◌, ◌*◌, ◌≤◌}
use Rattle.std.specs.Prelude.{◌≡◌, Bool, List, length, get_or, ltb, leb, eqb, Option, Some, None, Result, Ok, Err}
use Rattle.format.specs.declared.Refusal.{Refusal}
use Rattle.std.proofs.Math.Path.{refl, ap, subst}
use Rattle.std.proofs.Common.{sym, ◌∙◌, ne_eqb}
use Rattle.std.proofs.Math.Bool.{true, false}
use native.Mathlib.Omega.{arith}
use Rattle.format.specs.Terms.{Terms}
use Rattle.format.specs.declared.SlotType.{SlotType}
use Rattle.format.specs.declared.SlotType.TheVariants as S
use Rattle.format.specs.declared.Head.{Head}
use Rattle.format.specs.declared.Row.{Row}
use Rattle.format.specs.Bytes.{pick}
use Rattle.format.specs.Numbers.{u32_at, negative}
use Rattle.format.specs.Values.{items_at}
use Rattle.format.specs.Types.{primitive_of, coded, code_at, type_byte_at, slot_of, typed_at}
use Rattle.format.specs.Records.{on_slots, good_id, info_known, slot_array_at, with_items, primitive_array_at, good_rank, on_length, lengths_at, items_of, item_type_at, rank_at, binary_array_at, heading_at}
use Rattle.fields.specs.Judged.{picked}
use Rattle.types.specs.Keeps.{code_told, type_told}
use Rattle.items.specs.Keeps.{items_kept}
use Rattle.class_info.specs.Ends.{number_moves}
use Rattle.class_info.specs.Moves.{info_known_moves}
use Rattle.headings.specs.Headings.{array_heading, primitives_heading, objects_heading}
use Rattle.standing.specs.Standing.{Recorded}
use Rattle.standing.specs.Fields.{Of, of_number_lem, of_field, row_said}

-- ---- kinds 15, 16 and 17: a length after the ObjectId

-- 16 and 17: slots, which records fill
pub record Slotted (s : List ℕ) (at count end : ℕ) : Type 0 where
  pub count_at : u32_at s (at + 5) ≡ Some (count, at + 9)
  pub ends : end ≡ at + 9

-- 15: a code, and the items
pub record Primitives (τ : Terms) (s : List ℕ) (at count end : ℕ) : Type 0 where
  pub count_at : u32_at s (at + 5) ≡ Some (count, at + 9)
  pub code_at_holds : code_at s (at + 9) ≡ Ok (at + 10)
  pub items : at + 10 ≤ end
  pub items_at_holds : items_at τ.setting s (coded (primitive_of (get_or s (at + 9) 0))) count (at + 10) ≡ Ok end

module _ (τ : Terms) (s : List ℕ) (at : ℕ) where
  -- the length, by the place of the record
  count_there : (id p n q : ℕ) → u32_at s (at + 1) ≡ Some (id, p) → u32_at s p ≡ Some (n, q) → (u32_at s (at + 5) ≡ Some (n, at + 9)) × (q ≡ at + 9)
  count_there id p n q a b =
      let c = number_moves s (at + 1) id p a in
      let d = number_moves s p n q b in
      let e : p ≡ at + 5 = omega arith in
      let f : q ≡ at + 9 = omega arith in
      (subst (λ (p : ℕ). u32_at s p ≡ Some (n, at + 9)) e (b ∙ ap (λ (x : ℕ). Some (n, x)) f), f)

  module _ (rows : List Row) where
    of_slots : (slot : SlotType) → Of (λ h. Slotted s at h.count h.end) (slot_array_at s rows slot at)
    unfolding slot_array_at
    of_slots slot =
        let P : Head → Type 0 = λ h. Slotted s at h.count h.end in
        of_number_lem P _ (u32_at s (at + 1)) (λ id p a.
        picked (Of P) (good_id rows id) (λ b.
        of_number_lem P _ (u32_at s p) (λ n end c.
        let e = count_there id p n end a c in
        picked (Of P) (negative n) (λ d. tt) (λ d. record { count_at = e.0; ends = e.1 })))
        (λ b. tt))

    of_primitives : Of (λ h. Primitives τ s at h.count h.end) (primitive_array_at τ.setting s rows at)
    unfolding primitive_array_at
    of_primitives =
        let P : Head → Type 0 = λ h. Primitives τ s at h.count h.end in
        of_number_lem P _ (u32_at s (at + 1)) (λ id p a.
        picked (Of P) (good_id rows id) (λ b.
        of_number_lem P _ (u32_at s p) (λ n q c.
        picked (Of P) (negative n) (λ d. tt) (λ d.
        of_field P (with_items τ.setting s (coded (primitive_of (get_or s q 0))) id n) (code_at s q) (λ x f.
        let code = coded (primitive_of (get_or s q 0)) in
        of_field P _ (items_at τ.setting s code n x) (λ end g.
        let e = count_there id p n q a c in
        let u = code_told s q x f in
        let v = (items_kept τ.setting code n).moves s x end (omega arith) g in
        let k : q ≡ at + 9 = e.1 in
        let l : x ≡ at + 10 = omega arith in
        record {
          count_at = e.0;
          code_at_holds = subst (λ (q : ℕ). code_at s q ≡ Ok (at + 10)) k (f ∙ ap Ok l);
          items = omega arith;
          items_at_holds =
              subst (λ (q : ℕ). items_at τ.setting s (coded (primitive_of (get_or s q 0))) n (at + 10) ≡ Ok end) k
              (subst (λ (x : ℕ). items_at τ.setting s code n x ≡ Ok end) l g);
        })))))
        (λ b. tt))

-- ---- kind 7: array type, rank, lengths, the type byte and the detail of the items

-- where items end whose type's detail ends at `at`: primitive items after as many values, others where they begin
abbrev Ended : Terms → List ℕ → SlotType → ℕ → Head → Type 0
Ended τ s (S.Primitive c) at h = items_at τ.setting s c h.count at ≡ Ok h.end
Ended τ s S.Text at h = h.end ≡ at
Ended τ s S.Object at h = h.end ≡ at
Ended τ s S.SystemClass at h = h.end ≡ at
Ended τ s S.Class at h = h.end ≡ at
Ended τ s S.ObjectArray at h = h.end ≡ at
Ended τ s S.StringArray at h = h.end ≡ at
Ended τ s (S.PrimitiveArray c) at h = h.end ≡ at

pub record Array (τ : Terms) (s : List ℕ) (rows : List Row) (at count end : ℕ) : Type 0 where
  pub rank : ℕ
  pub info_end : ℕ
  pub rank_at_holds : u32_at s (at + 6) ≡ Some (rank, at + 10)
  pub type_at : type_byte_at s (at + 10 + 4 * rank) ≡ Ok (at + 10 + 4 * rank + 1)
  pub info_at_holds : info_known τ.setting s rows (get_or s (at + 10 + 4 * rank) 0) (at + 10 + 4 * rank + 1) ≡ Ok info_end
  pub items : info_end ≤ end
  pub items_at_holds : get_or s (at + 10 + 4 * rank) 0 ≡ 0 → items_at τ.setting s (coded (primitive_of (get_or s (at + 10 + 4 * rank + 1) 0))) count info_end ≡ Ok end
  pub no_items : (get_or s (at + 10 + 4 * rank) 0 ≡ 0 → ⊥) → end ≡ info_end

-- lengths that are taken end at this place
abbrev EndAt : ℕ → Result (ℕ × ℕ) Refusal → Type 0
EndAt e (Ok (n, end)) = end ≡ e
EndAt e (Err f) = Unit {0}

module _ (τ : Terms) (s : List ℕ) where
  -- four bytes a length
  lengths_end : (k product at e : ℕ) → at + 4 * k ≡ e → EndAt e (lengths_at s k product at)
  unfolding lengths_at
  lengths_end zero product at e h = picked (EndAt e) (leb product 2147483647) (λ t. omega arith) (λ t. tt)
  lengths_end (suc k) product at e h = go (u32_at s at) refl (λ n next i. lengths_end k (product * n) next e i)
    where
      go : (r : Option (ℕ × ℕ)) → u32_at s at ≡ r → ((n next : ℕ) → next + 4 * k ≡ e → EndAt e (lengths_at s k (product * n) next))
          → EndAt e (on_length (λ n next. lengths_at s k (product * n) next) r)
      go (Some (n, next)) q more =
          let m = number_moves s at n next q in
          picked (EndAt e) (negative n) (λ t. tt) (λ t. more n next (omega arith))
      go None q more = tt

  of_lengths : (P : Head → Type 0) (k : ℕ → ℕ → Result Head Refusal) (r : Result (ℕ × ℕ) Refusal) (e : ℕ) → EndAt e r → ((n : ℕ) → Of P (k n e)) → Of P (on_slots k r)
  of_lengths P k (Ok (n, end)) e q f = subst (λ (e : ℕ). Of P (k n e)) (sym q) (f n)
  of_lengths P k (Err x) e q f = tt

  items_ended : (slot : SlotType) (id n infos at : ℕ) → Of (Ended τ s slot at) (items_of τ.setting s id n infos at slot)
  items_ended (S.Primitive c) id n infos at = of_field (Ended τ s (S.Primitive c) at) _ (items_at τ.setting s c n at) (λ end a. a)
  items_ended S.Text id n infos at = refl
  items_ended S.Object id n infos at = refl
  items_ended S.SystemClass id n infos at = refl
  items_ended S.Class id n infos at = refl
  items_ended S.ObjectArray id n infos at = refl
  items_ended S.StringArray id n infos at = refl
  items_ended (S.PrimitiveArray c) id n infos at = refl

  -- items end where their type's detail does, or after it
  ended_after : (slot : SlotType) (at : ℕ) (h : Head) → at ≤ length s → Ended τ s slot at h → at ≤ h.end
  ended_after (S.Primitive c) at h l e = let m = (items_kept τ.setting c h.count).moves s at h.end l e in omega arith
  ended_after S.Text at h l e = omega arith
  ended_after S.Object at h l e = omega arith
  ended_after S.SystemClass at h l e = omega arith
  ended_after S.Class at h l e = omega arith
  ended_after S.ObjectArray at h l e = omega arith
  ended_after S.StringArray at h l e = omega arith
  ended_after (S.PrimitiveArray c) at h l e = omega arith

  -- only items of type 0 are primitive
  module _ (type code at : ℕ) (h : Head) where
    ended_items : Ended τ s (slot_of type code) at h → type ≡ 0 → items_at τ.setting s (coded (primitive_of code)) h.count at ≡ Ok h.end
    unfolding slot_of
    ended_items e z = subst (λ (t : ℕ). Ended τ s (slot_of t code) at h) z e

    ended_none : Ended τ s (slot_of type code) at h → (type ≡ 0 → ⊥) → h.end ≡ at
    unfolding slot_of
    ended_none e n = go (eqb type 1) (eqb type 2) (eqb type 3) (eqb type 4) (eqb type 5) (eqb type 6) (rw (ne_eqb type 0 n) at e)
      where
        go : (b c d f g i : Bool)
            → Ended τ s (pick b S.Text (pick c S.Object (pick d S.SystemClass (pick f S.Class (pick g S.ObjectArray (pick i S.StringArray (S.PrimitiveArray (coded (primitive_of code)))))))))
            at h → h.end ≡ at
        go true c d f g i e = e
        go false true d f g i e = e
        go false false true f g i e = e
        go false false false true g i e = e
        go false false false false true i e = e
        go false false false false false true e = e
        go false false false false false false e = e

  module _ (rows : List Row) (at : ℕ) where
    abbrev ArrayOf : Head → Type 0
    ArrayOf h = Array τ s rows at h.count h.end

    -- after the lengths
    of_items : (rank id n : ℕ) → u32_at s (at + 6) ≡ Some (rank, at + 10) → Of ArrayOf (item_type_at τ.setting s rows id n (at + 10 + 4 * rank))
    unfolding item_type_at typed_at
    of_items rank id n r =
        let types : ℕ = at + 10 + 4 * rank in
        of_field ArrayOf _ (type_byte_at s types) (λ infos a.
        of_field ArrayOf _ (info_known τ.setting s rows (get_or s types 0) infos) (λ end b.
        let u = type_told s types infos a in
        let e : infos ≡ types + 1 = u.2 in
        let v = info_known_moves τ.setting s rows (get_or s types 0) infos end (omega arith) b in
        let slot = slot_of (get_or s types 0) (get_or s infos 0) in
        of_more slot end (items_of τ.setting s id n infos end slot) (λ h l.
        let there = ended_items (get_or s types 0) (get_or s infos 0) end h l in
        record {
          rank = rank;
          info_end = end;
          rank_at_holds = r;
          type_at = a ∙ ap Ok e;
          info_at_holds = subst (λ (p : ℕ). info_known τ.setting s rows (get_or s types 0) p ≡ Ok end) e b;
          items = ended_after slot end h v.1 l;
          items_at_holds = λ z. subst (λ (p : ℕ). items_at τ.setting s (coded (primitive_of (get_or s p 0))) h.count end ≡ Ok h.end) e (there z);
          no_items = λ z. ended_none (get_or s types 0) (get_or s infos 0) end h l z;
        }) (items_ended slot id n infos end)))
      where
        of_more : (slot : SlotType) (e : ℕ) (x : Result Head Refusal) → ((h : Head) → Ended τ s slot e h → ArrayOf h) → Of (Ended τ s slot e) x → Of ArrayOf x
        of_more slot e (Ok h) f q = f h q
        of_more slot e (Err x) f q = tt

    of_rank : (id type p : ℕ) → p ≡ at + 6 → Of ArrayOf (rank_at τ.setting s rows id type p)
    unfolding rank_at
    of_rank id type p e =
        of_number_lem ArrayOf _ (u32_at s p) (λ rank q a.
        picked (Of ArrayOf) (good_rank type rank) (λ b.
        let m = number_moves s p rank q a in
        let f : q ≡ at + 10 = omega arith in
        let r : u32_at s (at + 6) ≡ Some (rank, at + 10) = subst (λ (p : ℕ). u32_at s p ≡ Some (rank, at + 10)) e (a ∙ ap (λ (x : ℕ). Some (rank, x)) f) in
        let l : q + 4 * rank ≡ at + 10 + 4 * rank = omega arith in
        of_lengths ArrayOf (item_type_at τ.setting s rows id) (lengths_at s rank 1 q) (at + 10 + 4 * rank) (lengths_end rank 1 q _ l) (λ n. of_items rank id n r))
        (λ b. tt))

    of_array : Of ArrayOf (binary_array_at τ.setting s rows at)
    unfolding binary_array_at
    of_array =
        of_number_lem ArrayOf _ (u32_at s (at + 1)) (λ id p a.
        let m = number_moves s (at + 1) id p a in
        picked (Of ArrayOf) (good_id rows id) (λ b.
        picked (Of ArrayOf) (ltb p (length s)) (λ c.
        picked (Of ArrayOf) (leb (get_or s p 0) 2) (λ d. of_rank id (get_or s p 0) (p + 1) (omega arith))
        (λ d. picked (Of ArrayOf) (leb (get_or s p 0) 5) (λ f. tt) (λ f. tt)))
        (λ c. tt))
        (λ b. tt))

-- ---- rows

pub texts_heading : (τ : Terms) (s : List ℕ) (rows : List Row) (k at : ℕ) → k ≡ 17 → heading_at τ s rows k at ≡ slot_array_at s rows S.Text at
unfolding heading_at
texts_heading τ s rows k at h = rw h

module _ (τ : Terms) {s : List ℕ} {before : List Row} {r : Row} (w : Recorded τ s before r) where
  pub array_row : r.kind ≡ 7 → Array τ s before r.offset r.count r.end
  array_row k =
      row_said τ w (Array τ s before r.offset) _ (array_heading τ s before r.kind r.offset k) (of_array τ s before r.offset)

  pub primitives_row : r.kind ≡ 15 → Primitives τ s r.offset r.count r.end
  primitives_row k =
      row_said τ w (Primitives τ s r.offset) _ (primitives_heading τ s before r.kind r.offset k) (of_primitives τ s r.offset before)

  pub objects_row : r.kind ≡ 16 → Slotted s r.offset r.count r.end
  objects_row k =
      row_said τ w (Slotted s r.offset) _ (objects_heading τ s before r.kind r.offset k) (of_slots τ s r.offset before S.Object)

  pub strings_row : r.kind ≡ 17 → Slotted s r.offset r.count r.end
  strings_row k =
      row_said τ w (Slotted s r.offset) _ (texts_heading τ s before r.kind r.offset k) (of_slots τ s r.offset before S.Text)
