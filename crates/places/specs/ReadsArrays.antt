-- Array records that the grammar takes are read (01, Records, kinds 7, 15, 16 and 17): their fields are good, and say what the record has.
use Rattle.std.specs.Prelude.{ℕ, ◌+◌, ◌*◌, ◌<◌, ◌≡◌, true, false, length, replicate, Ok}
use Rattle.std.proofs.Math.Path.{refl, ap}
use Rattle.std.proofs.Common.{sym, ◌∙◌, subst, arith}
use mathlib.Core.List.{List, [], ◌∷◌, ◌++◌}
use Rattle.std.proofs.Math.Nat.{add-zero, one-mul}
use Rattle.std.proofs.Math.ListN.{get_or}
use borrow.Author.Tests.{lt-ltb, le-leb}
use Rattle.format.specs.Terms.{Terms}
use Rattle.format.specs.declared.PrimitiveCode.{PrimitiveCode}
use Rattle.format.specs.declared.SlotType.{SlotType}
use Rattle.format.specs.declared.SlotType.TheVariants as S
use Rattle.format.specs.declared.Row.{Row}
use Rattle.format.specs.Numbers.{le_bytes}
use Rattle.format.specs.Types.{code_number, type_byte_at, slot_of, typed_at}
use Rattle.format.specs.Rows.{is_class}
use Rattle.format.specs.Records.{slot_array_at, primitive_array_at, lengths_at, items_of, item_type_at, rank_at, binary_array_at, heading_at}
use Rattle.format.specs.Contents.{Prefixed, Detail, type_byte, info_bytes, slot_for, Rec, array, primitive, primitive_array, object_array, string_array, numbers_bytes, items_bytes, enc}
use Rattle.format.specs.Grammar.{GoodDetail, ObjectId, Values, Shape, product, Array, of_objects, of_strings, of_primitives, of_any, of_values, takes_records}
use Rattle.codes.specs.Ends.{type_end}
use Rattle.laws.specs.Fields.{positive_bits}
use Rattle.places.specs.Env.{env_of, entry_of, object_id_good}
use Rattle.places.specs.Stand.{Stand, stand_size, stand_split, stand_inside, stand_here, stand_after}
use Rattle.places.specs.Fields.{number_there, not_negative, code_there, code_from_lem}
use Rattle.places.specs.Items.{items_there}
use Rattle.places.specs.Details.{detail_there, detail_in_lem, detail_slot, byte_small}
use Rattle.places.specs.Lengths.{ranked_there, ranked_small, lengths_there}
use Rattle.places.specs.Recs.{entry_for, row_with, There, slotted_head, slotted_told}
use Rattle.places.specs.Reads.{plain_there}

module _ (τ : Terms) (s : List ℕ) (rows : List Row) (at e : ℕ) where
  -- slots alike, which records fill
  slotted_there : (k : ℕ) (r : Rec) (b : List ℕ) (id n : ℕ) (t : SlotType) (infos : ℕ) → enc r ≡ k ∷ b → Stand s (enc r) at e → is_class k ≡ false
      → ((row offset next owner slot : ℕ) → entry_of τ.book s row (row_with k (slotted_head τ.book s id e n t infos) offset next owner slot) ≡ entry_for row r)
      → heading_at τ s rows k at ≡ Ok (slotted_head τ.book s id e n t infos) → There τ s rows k at r id n 0 (replicate n t)
  slotted_there k r b id n t infos z w c f q =
      let v : Stand s (k ∷ b) at e = rw z at w in
      record { head = slotted_head τ.book s id e n t infos; taken = q; told = slotted_told τ.book s k at r id e n t infos w (stand_inside v) (stand_here v) c f }

  object_array_there : (i n : ℕ) → ObjectId i (env_of τ.book s rows) → n < 2147483648 → Stand s (enc (object_array i n)) at e
      → There τ s rows 16 at (object_array i n) i n 0 (replicate n S.Object)
  unfolding heading_at slot_array_at enc
  object_array_there i n o h w =
      let x = stand_split (le_bytes 4 i) (le_bytes 4 n) (stand_after w) in
      slotted_there 16 (object_array i n) _ i n S.Object 0 refl w refl (λ row offset next owner slot. refl)
      (rw (
        number_there s i (at + 1) x.0 (positive_bits i o.sign) x.1,
        object_id_good τ.book s rows i o,
        number_there s n x.0 e (omega arith) x.2,
        not_negative n h,
      ))

  string_array_there : (i n : ℕ) → ObjectId i (env_of τ.book s rows) → n < 2147483648 → Stand s (enc (string_array i n)) at e
      → There τ s rows 17 at (string_array i n) i n 0 (replicate n S.Text)
  unfolding heading_at slot_array_at enc
  string_array_there i n o h w =
      let x = stand_split (le_bytes 4 i) (le_bytes 4 n) (stand_after w) in
      slotted_there 17 (string_array i n) _ i n S.Text 0 refl w refl (λ row offset next owner slot. refl)
      (rw (
        number_there s i (at + 1) x.0 (positive_bits i o.sign) x.1,
        object_id_good τ.book s rows i o,
        number_there s n x.0 e (omega arith) x.2,
        not_negative n h,
      ))

  primitive_array_there : (i n : ℕ) (c : PrimitiveCode) (vs : List Prefixed) → ObjectId i (env_of τ.book s rows) → n < 2147483648 → Values τ c n vs
      → Stand s (enc (primitive_array i n c vs)) at e → There τ s rows 15 at (primitive_array i n c vs) i n 0 []
  unfolding heading_at primitive_array_at enc
  primitive_array_there i n c vs o h g w =
      let x = stand_split (le_bytes 4 i) (le_bytes 4 n ++ (code_number c ∷ items_bytes vs)) (stand_after w) in
      let y = stand_split (le_bytes 4 n) (code_number c ∷ items_bytes vs) x.2 in
      let z = stand_split (code_number c ∷ []) (items_bytes vs) y.2 in
      plain_there τ s rows at e 15 (primitive_array i n c vs) _ i n refl w refl (λ row offset next owner slot. refl)
      (rw (
        number_there s i (at + 1) x.0 (positive_bits i o.sign) x.1,
        object_id_good τ.book s rows i o,
        number_there s n x.0 y.0 (omega arith) y.1,
        not_negative n h,
        code_there s c y.0 z.0 z.1,
        code_from_lem s c y.0 z.0 z.1,
        items_there τ s c n vs z.0 e g z.2,
      ))

  -- ---- BinaryArray

  -- the type byte and the detail of the items, after the lengths
  type_there : (id n types infos x : ℕ) (d : Detail Prefixed ℕ) → GoodDetail τ (env_of τ.book s rows) d → Stand s (type_byte d ∷ []) types infos → Stand s (info_bytes d) infos x
      → item_type_at τ.setting s rows id n types ≡ items_of τ.setting s id n infos x (slot_for d)
  unfolding item_type_at typed_at
  type_there id n types infos x d g v w =
      let k : infos ≡ types + 1 = stand_size v in
      let f : get_or s types 0 ≡ type_byte d = stand_here v in
      let t : type_byte_at s types ≡ Ok infos = rw k (type_end s types (stand_inside v) (rw f (byte_small d))) in
      let y : slot_of (type_byte d) (get_or s infos 0) ≡ slot_for d =
      detail_slot τ s infos (type_byte d) (byte_small d) ∙ ap slot_for (detail_in_lem τ s rows infos x d g w) in
      rw (t, f, detail_there τ s rows infos x d g w, y)

  -- up to the items, which stand from x on
  record Begun (i n : ℕ) (d : Detail Prefixed ℕ) (vs : List Prefixed) : Type 0 where
    infos : ℕ
    items : ℕ
    taken : heading_at τ s rows 7 at ≡ items_of τ.setting s i n infos items (slot_for d)
    stands : Stand s (items_bytes vs) items e

  begun : (i type : ℕ) (ns : List ℕ) (d : Detail Prefixed ℕ) (vs : List Prefixed) → ObjectId i (env_of τ.book s rows) → Shape type ns → GoodDetail τ (env_of τ.book s rows) d
      → Stand s (enc (array i type ns d vs)) at e → Begun i (product ns) d vs
  unfolding heading_at binary_array_at rank_at enc
  begun i type ns d vs o h g w =
      let a = stand_split (le_bytes 4 i) (type ∷ (le_bytes 4 (length ns) ++ (numbers_bytes ns ++ (type_byte d ∷ (info_bytes d ++ items_bytes vs))))) (stand_after w) in
      let p = a.0 in
      let b = stand_split (le_bytes 4 (length ns)) (numbers_bytes ns ++ (type_byte d ∷ (info_bytes d ++ items_bytes vs))) (stand_after a.2) in
      let c = stand_split (numbers_bytes ns) (type_byte d ∷ (info_bytes d ++ items_bytes vs)) b.2 in
      let f = stand_split (type_byte d ∷ []) (info_bytes d ++ items_bytes vs) c.2 in
      let k = stand_split (info_bytes d) (items_bytes vs) f.2 in
      let r = ranked_small type (length ns) h.ranked in
      let one : 1 * product ns ≡ product ns = one-mul (product ns) in
      let l : lengths_at s (length ns) 1 b.0 ≡ Ok (product ns, c.0) =
      rw one at (lengths_there s ns 1 b.0 c.0 h.lengths (rw one h.small) c.1) in
      record {
        infos = f.0;
        items = k.0;
        taken = rw (
          number_there s i (at + 1) p (positive_bits i o.sign) a.1,
          object_id_good τ.book s rows i o,
          lt-ltb p (length s) (stand_inside a.2),
          stand_here a.2,
          le-leb type 2 r.0,
          number_there s (length ns) (p + 1) b.0 (omega arith) b.1,
          ranked_there type (length ns) h.ranked,
          l,
        )
            (type_there i (product ns) c.0 f.0 k.0 d g f.1 k.1);
        stands = k.2;
      }

  items_slotted : (id n infos x : ℕ) (t : SlotType) → takes_records t ≡ true → items_of τ.setting s id n infos x t ≡ Ok (slotted_head τ.book s id x n t infos)
  items_slotted id n infos x (S.Primitive c) f = absurd (let z : ◌≡◌ {A = ℕ} 0 1 = cc in omega arith)
  items_slotted id n infos x S.Text f = refl
  items_slotted id n infos x S.Object f = refl
  items_slotted id n infos x S.SystemClass f = refl
  items_slotted id n infos x S.Class f = refl
  items_slotted id n infos x S.ObjectArray f = refl
  items_slotted id n infos x S.StringArray f = refl
  items_slotted id n infos x (S.PrimitiveArray c) f = refl

  any_array_there : (i type : ℕ) (ns : List ℕ) (d : Detail Prefixed ℕ) → ObjectId i (env_of τ.book s rows) → Shape type ns → GoodDetail τ (env_of τ.book s rows) d
      → takes_records (slot_for d) ≡ true → Stand s (enc (array i type ns d [])) at e
      → There τ s rows 7 at (array i type ns d []) i (product ns) 0 (replicate (product ns) (slot_for d))
  unfolding enc
  any_array_there i type ns d o h g f w =
      let b = begun i type ns d [] o h g w in
      let k : e ≡ b.items = stand_size b.stands ∙ add-zero b.items in
      slotted_there 7 (array i type ns d []) _ i (product ns) (slot_for d) b.infos refl w refl (λ row offset next owner slot. refl)
      (b.taken ∙ (items_slotted i (product ns) b.infos b.items (slot_for d) f ∙ ap (λ (x : ℕ). Ok (slotted_head τ.book s i x (product ns) (slot_for d) b.infos)) (sym k)))

  value_array_there : (i type : ℕ) (ns : List ℕ) (c : PrimitiveCode) (vs : List Prefixed) → ObjectId i (env_of τ.book s rows) → Shape type ns
      → Values τ c (product ns) vs → Stand s (enc (array i type ns (primitive c) vs)) at e
      → There τ s rows 7 at (array i type ns (primitive c) vs) i (product ns) 0 []
  unfolding enc
  value_array_there i type ns c vs o h g w =
      let b = begun i type ns (primitive c) vs o h tt w in
      plain_there τ s rows at e 7 (array i type ns (primitive c) vs) _ i (product ns) refl w refl (λ row offset next owner slot. refl)
      (b.taken ∙ rw (items_there τ s c (product ns) vs b.items e g b.stands))

  pub array_there : (k i n : ℕ) (r : Rec) (ts : List SlotType) → ObjectId i (env_of τ.book s rows) → Array τ (env_of τ.book s rows) r k i n ts → Stand s (enc r) at e
      → There τ s rows k at r i n 0 ts
  array_there k i n r ts o (of_objects h) w = object_array_there i n o h w
  array_there k i n r ts o (of_strings h) w = string_array_there i n o h w
  array_there k i n r ts o (of_primitives {b = c} {vs = vs} h g) w = primitive_array_there i n c vs o h g w
  array_there k i n r ts o (of_any {type = type} {ns = ns} {d = d} h z g f t) w =
      subst (λ (us : List SlotType). There τ s rows 7 at (array i type ns d []) i n 0 us) (sym t)
      (subst (λ (m : ℕ). There τ s rows 7 at (array i type ns d []) i m 0 (replicate m (slot_for d))) (sym z) (any_array_there i type ns d o h g f w))
  array_there k i n r ts o (of_values {type = type} {ns = ns} {b = c} {vs = vs} h z g) w =
      subst (λ (m : ℕ). There τ s rows 7 at (array i type ns (primitive c) vs) i m 0 []) (sym z)
      (value_array_there i type ns c vs o h (subst (λ (m : ℕ). Values τ c m vs) z g) w)
