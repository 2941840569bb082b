-- What good fields of an array record tell of (01, Records, kinds 7, 15, 16 and 17): the record that stands at the place is one that the
-- grammar takes, its contents read from the stream.
use Prim.Native.Nat.{ℕ, ◌+◌, ◌-◌, ◌≤◌, ◌<◌}
use Rattle.std.specs.Prelude.{◌≡◌, true, false, replicate, ltb, leb, Ok}
use Rattle.std.proofs.Math.Path.{refl, subst}
use Rattle.std.proofs.Common.{sym, ◌∙◌, arith, ltb-true, leb-true}
use mathlib.Core.List.{List, [], ◌∷◌, ◌++◌}
use Rattle.std.proofs.Math.Nat.{one-mul}
use Rattle.std.proofs.Math.ListN.{length, get_or}
use Rattle.format.specs.Terms.{Terms}
use Rattle.format.specs.declared.SlotType.{SlotType}
use Rattle.format.specs.declared.SlotType.TheVariants as S
use Rattle.format.specs.declared.Row.{Row}
use Rattle.format.specs.Numbers.{le_bytes, u32_at, negative}
use Rattle.format.specs.Values.{items_at}
use Rattle.format.specs.Types.{code_at, type_byte_at, typed_at}
use Rattle.format.specs.Rows.{is_class}
use Rattle.format.specs.Records.{good_id, slot_array_at, primitive_array_at, good_rank, lengths_at, items_of, info_known, item_type_at, rank_at, binary_array_at}
use Rattle.format.specs.Contents.{Prefixed, Detail, primitive, text, object, system, class, objects, texts, primitives, type_byte, info_bytes, items_bytes, slot_for, Rec, array, primitive_array, object_array, string_array, enc}
use Rattle.format.specs.Says.{code_from, numbers_from}
use Rattle.format.specs.Grammar.{GoodDetail, ObjectId, Shape, product, Array, of_objects, of_strings, of_primitives, of_any, of_values, takes_records}
use Rattle.num.specs.Le.{Bytes}
use Rattle.types.specs.Keeps.{type_told}
use Rattle.laws.specs.Fields.{length_numbers}
use Rattle.places.specs.Env.{env_of, entry_of, object_id}
use Rattle.places.specs.Stand.{Stand, stand_none, stand_byte, stand_is, stand_then}
use Rattle.places.specs.Fields.{number_back, below_negative, code_back}
use Rattle.places.specs.Items.{items_in, items_back}
use Rattle.places.specs.Details.{detail_in, detail_byte, detail_slot, detail_back}
use Rattle.places.specs.Lengths.{ranked_back, LengthsAt, lengths_back}
use Rattle.places.specs.Recs.{is_array, entry_for, row_with, Back, slotted_head, slotted_told}
use Rattle.places.specs.Tells.{Said, said_number, said_field, said_slots, said_if, plain_back}

module _ (τ : Terms) (s : List ℕ) (rows : List Row) (at : ℕ) (byte : Bytes s) (i : at < length s) where
  -- slots alike, which records fill
  slotted_back : (k : ℕ) (r : Rec) (id after n : ℕ) (t : SlotType) (infos : ℕ) → get_or s at 0 ≡ k → ObjectId id (env_of τ.book s rows)
      → Array τ (env_of τ.book s rows) r k id n (replicate n t) → Stand s (enc r) at after → is_class k ≡ false
      → ((row offset next owner slot : ℕ) → entry_of τ.book s row (row_with k (slotted_head τ.book s id after n t infos) offset next owner slot) ≡ entry_for row r)
      → Back τ s rows k at (slotted_head τ.book s id after n t infos)
  slotted_back k r id after n t infos g o a w c f =
      record {
        rec = r;
        id = id;
        count = n;
        class = 0;
        types = replicate n t;
        good = is_array o a;
        told = slotted_told τ.book s k at r id after n t infos w i g c f;
      }

  pub object_array_back : get_or s at 0 ≡ 16 → Said (Back τ s rows 16 at) (slot_array_at s rows S.Object at)
  unfolding slot_array_at enc
  object_array_back g =
      said_number (Back τ s rows 16 at) _ (u32_at s (at + 1)) (λ id p q.
      let a = number_back s (at + 1) id p byte q in
      said_if (Back τ s rows 16 at) (good_id rows id) _ _ (λ t.
      said_number (Back τ s rows 16 at) _ (u32_at s p) (λ n e r.
      let b = number_back s p n e byte r in
      said_if (Back τ s rows 16 at) (negative n) _ _ (λ u. tt) (λ u.
      slotted_back 16 (object_array id n) id e n S.Object 0 g (object_id τ.book s rows id t) (of_objects (below_negative n u))
      (stand_then (stand_is 16 i g) (stand_then a.stands b.stands)) refl (λ row offset next owner slot. refl))))
      (λ t. tt))

  pub string_array_back : get_or s at 0 ≡ 17 → Said (Back τ s rows 17 at) (slot_array_at s rows S.Text at)
  unfolding slot_array_at enc
  string_array_back g =
      said_number (Back τ s rows 17 at) _ (u32_at s (at + 1)) (λ id p q.
      let a = number_back s (at + 1) id p byte q in
      said_if (Back τ s rows 17 at) (good_id rows id) _ _ (λ t.
      said_number (Back τ s rows 17 at) _ (u32_at s p) (λ n e r.
      let b = number_back s p n e byte r in
      said_if (Back τ s rows 17 at) (negative n) _ _ (λ u. tt) (λ u.
      slotted_back 17 (string_array id n) id e n S.Text 0 g (object_id τ.book s rows id t) (of_strings (below_negative n u))
      (stand_then (stand_is 17 i g) (stand_then a.stands b.stands)) refl (λ row offset next owner slot. refl))))
      (λ t. tt))

  pub primitive_array_back : get_or s at 0 ≡ 15 → Said (Back τ s rows 15 at) (primitive_array_at τ.setting s rows at)
  unfolding primitive_array_at enc
  primitive_array_back g =
      said_number (Back τ s rows 15 at) _ (u32_at s (at + 1)) (λ id p q.
      let a = number_back s (at + 1) id p byte q in
      said_if (Back τ s rows 15 at) (good_id rows id) _ _ (λ t.
      said_number (Back τ s rows 15 at) _ (u32_at s p) (λ n x r.
      let b = number_back s p n x byte r in
      said_if (Back τ s rows 15 at) (negative n) _ _ (λ u. tt) (λ u.
      said_field (Back τ s rows 15 at) _ (code_at s x) (λ y v.
      let c = code_back s x y v in
      said_field (Back τ s rows 15 at) _ (items_at τ.setting s (code_from s x) n y) (λ e w.
      let d = items_back τ s (code_from s x) n y e byte c.room w in
      plain_back τ s rows at byte i 15 (primitive_array id n (code_from s x) (items_in s (code_from s x) n y)) id e n g
      (is_array (object_id τ.book s rows id t) (of_primitives (below_negative n u) d.0))
      (stand_then (stand_is 15 i g) (stand_then a.stands (stand_then b.stands (stand_then c d.1)))) refl (λ row offset next owner slot. refl))))))
      (λ t. tt))

  -- ---- BinaryArray

  -- the items of an array with this detail, which stands from infos to x
  module _ (g : get_or s at 0 ≡ 7) (id type n : ℕ) (ns : List ℕ) (infos x : ℕ) (o : ObjectId id (env_of τ.book s rows)) (h : Shape type ns) (z : n ≡ product ns) where
    slots : (d : Detail Prefixed ℕ) → GoodDetail τ (env_of τ.book s rows) d → Stand s (info_bytes d) infos x
        → ((vs : List Prefixed) (e : ℕ) → Stand s (info_bytes d ++ items_bytes vs) infos e → Stand s (enc (array id type ns d vs)) at e)
        → takes_records (slot_for d) ≡ true → Back τ s rows 7 at (slotted_head τ.book s id x n (slot_for d) infos)
    slots d k w whole f =
        slotted_back 7 (array id type ns d []) id x n (slot_for d) infos g o (of_any h z k f refl) (whole [] x (stand_then w (stand_none w.room))) refl
        (λ row offset next owner slot. refl)

    items_said : (d : Detail Prefixed ℕ) → GoodDetail τ (env_of τ.book s rows) d → Stand s (info_bytes d) infos x
        → ((vs : List Prefixed) (e : ℕ) → Stand s (info_bytes d ++ items_bytes vs) infos e → Stand s (enc (array id type ns d vs)) at e)
        → Said (Back τ s rows 7 at) (items_of τ.setting s id n infos x (slot_for d))
    items_said (primitive c) k w whole =
        said_field (Back τ s rows 7 at) _ (items_at τ.setting s c n x) (λ e q.
        let v = items_back τ s c n x e byte w.room q in
        plain_back τ s rows at byte i 7 (array id type ns (primitive c) (items_in s c n x)) id e n g (is_array o (of_values h z v.0))
        (whole (items_in s c n x) e (stand_then w v.1)) refl (λ row offset next owner slot. refl))
    items_said text k w whole = slots text k w whole refl
    items_said object k w whole = slots object k w whole refl
    items_said (system t) k w whole = slots (system t) k w whole refl
    items_said (class t l) k w whole = slots (class t l) k w whole refl
    items_said objects k w whole = slots objects k w whole refl
    items_said texts k w whole = slots texts k w whole refl
    items_said (primitives c) k w whole = slots (primitives c) k w whole refl

  -- the type of the items, after the lengths
  type_said : get_or s at 0 ≡ 7 → (id p rank x n types infos y : ℕ) → ObjectId id (env_of τ.book s rows) → Stand s (le_bytes 4 id) (at + 1) p → p < length s
      → get_or s p 0 ≤ 2 → Stand s (le_bytes 4 rank) (p + 1) x → good_rank (get_or s p 0) rank ≡ true → LengthsAt s (numbers_from s rank x) 1 n x types
      → type_byte_at s types ≡ Ok infos → info_known τ.setting s rows (get_or s types 0) infos ≡ Ok y
      → Said (Back τ s rows 7 at) (items_of τ.setting s id n infos y (typed_at s types infos).slot)
  unfolding typed_at enc
  type_said g id p rank x n types infos y o a u v b k c w z =
      let ns : List ℕ = numbers_from s rank x in
      let l : length ns ≡ rank = length_numbers s rank x in
      let t = type_told s types infos w in
      let d = detail_back τ s infos rows y (get_or s types 0) t.0 byte (omega arith) z in
      let f : type_byte (detail_in s (get_or s types 0) infos) ≡ get_or s types 0 = detail_byte τ s infos (get_or s types 0) t.0 in
      let m : n ≡ product ns = c.exactly ∙ one-mul (product ns) in
      let r : Stand s (le_bytes 4 (length ns)) (p + 1) x = rw l b in
      let j : Stand s (type_byte (detail_in s (get_or s types 0) infos) ∷ []) types infos = rw (f, t.2) (stand_byte t.1) in
      let h : Shape (get_or s p 0) ns =
      record { ranked = ranked_back (get_or s p 0) (length ns) v (rw l k); lengths = c.good; small = rw m at c.small } in
      subst (λ (q : SlotType). Said (Back τ s rows 7 at) (items_of τ.setting s id n infos y q)) (sym (detail_slot τ s infos (get_or s types 0) t.0))
      (items_said g id (get_or s p 0) n ns infos y o h m (detail_in s (get_or s types 0) infos) d.good d.stands
      (λ vs e q. stand_then (stand_is 7 i g) (stand_then a (stand_then (stand_byte u) (stand_then r (stand_then c.stands (stand_then j q)))))))

  pub array_back : get_or s at 0 ≡ 7 → Said (Back τ s rows 7 at) (binary_array_at τ.setting s rows at)
  unfolding binary_array_at rank_at item_type_at
  array_back g =
      said_number (Back τ s rows 7 at) _ (u32_at s (at + 1)) (λ id p q.
      let a = number_back s (at + 1) id p byte q in
      said_if (Back τ s rows 7 at) (good_id rows id) _ _ (λ t.
      said_if (Back τ s rows 7 at) (ltb p (length s)) _ _ (λ u.
      said_if (Back τ s rows 7 at) (leb (get_or s p 0) 2) _ _ (λ v.
      said_number (Back τ s rows 7 at) _ (u32_at s (p + 1)) (λ rank x r.
      let b = number_back s (p + 1) rank x byte r in
      said_if (Back τ s rows 7 at) (good_rank (get_or s p 0) rank) _ _ (λ k.
      said_slots (Back τ s rows 7 at) _ (lengths_at s rank 1 x) (λ n types m.
      let c = lengths_back s rank 1 n x types byte b.stands.room m in
      said_field (Back τ s rows 7 at) _ (type_byte_at s types) (λ infos w.
      said_field (Back τ s rows 7 at) _ (info_known τ.setting s rows (get_or s types 0) infos) (λ y z.
      type_said g id p rank x n types infos y (object_id τ.book s rows id t) a.stands (ltb-true p (length s) u) (leb-true (get_or s p 0) 2 v) b.stands k c w z))))
      (λ k. tt)))
      (λ v. said_if (Back τ s rows 7 at) (leb (get_or s p 0) 5) _ _ (λ k. tt) (λ k. tt)))
      (λ u. tt))
      (λ t. tt))
