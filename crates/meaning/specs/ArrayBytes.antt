-- The bytes written for a BinaryArray are those of the array that it says, with its new number and the new number of its items' library.
use Rattle.std.specs.Prelude.{ℕ, zero, suc, ◌+◌, ◌-◌, ◌*◌, ◌≤◌, ◌<◌, ◌≡◌, ◌&&◌, eqb, Ok}
use Rattle.std.proofs.Math.Path.{refl, sym, ap, ap₂, subst}
use Rattle.std.proofs.Common.{◌∙◌, arith, ne_eqb}
use mathlib.Core.List.{List, [], ◌∷◌, ◌++◌}
use Rattle.std.proofs.Math.Decide.{ℕ_discrete}
use Rattle.std.proofs.Math.ListN.{length, get_or}
use Rattle.format.specs.Terms.{Terms}
use Rattle.format.specs.declared.Row.{Row}
use Rattle.format.specs.Bytes.{pick}
use Rattle.format.specs.Numbers.{le_bytes}
use Rattle.format.specs.Values.{items_at}
use Rattle.format.specs.Types.{code_number, code_at, type_byte_at, info_at, after_info}
use Rattle.format.specs.Records.{info_known}
use Rattle.format.specs.Contents.{Prefixed, Detail, type_byte, info_bytes, numbers_bytes, items_bytes, array, enc}
use Rattle.format.specs.Says.{an_array, number_from, numbers_from, code_from, items_from, code_of, detail_from, array_from}
use Rattle.format.specs.Tidy.{Libraries, detail_needs, detail_by, values_by}
use Rattle.fields.specs.Parts.{part_to, part_through}
use Rattle.num.specs.Le.{Bytes}
use Rattle.num.specs.Read.{u32_says}
use Rattle.types.specs.Keeps.{type_told}
use Rattle.laws.specs.Fields.{length_numbers}
use Rattle.class_info.specs.Moves.{info_plain}
use Rattle.put.specs.Out.{between, head_out}
use Rattle.marks.specs.Marks.{item_type}
use Rattle.pieces.specs.Copy.{anew_in, info_out, values_out, items_out, body_out}
use Rattle.meaning.specs.Stands.{ArrayStands}
use Rattle.meaning.specs.Marked.{All, array_fields, names_of}
use Rattle.meaning.specs.ValueBytes.{items_are}
use Rattle.meaning.specs.Bytes.{joined, code_is, number_there, between_none, info_place, type_is, same_type, needs_is, Numbered, field_of, info_is}

-- ---- lengths

pub numbers_is : (s : List ℕ) → Bytes s → (n p e : ℕ) → e ≡ p + 4 * n → e ≤ length s → between s p e ≡ numbers_bytes (numbers_from s n p)
unfolding numbers_from
numbers_is s byte zero p e d h = between_none s p e (omega arith)
numbers_is s byte (suc n) p e d h =
    part_through s p (p + 4) e (omega arith) (omega arith)
    ∙ ap₂ (λ (x y : List ℕ). x ++ y) (number_there s byte p (omega arith)) (numbers_is s byte n (p + 4) e (omega arith) h)

-- ---- what a row of kind 7 says, field by field

abbrev pub array_item : List ℕ → List Row → Row → Detail (List ℕ) (List ℕ)
array_item s rows r = detail_from s rows (get_or s (item_type s r) 0) (item_type s r + 1)

-- where its items begin
abbrev pub items_place : List ℕ → Row → ℕ
items_place s r = after_info s (get_or s (item_type s r) 0) (item_type s r + 1)

abbrev pub array_lengths : List ℕ → Row → List ℕ
array_lengths s r = numbers_from s (number_from s (r.offset + 6)) (r.offset + 10)

-- its items, where they are primitive
abbrev pub array_items : List ℕ → Row → List (List ℕ)
array_items s r = pick (eqb (get_or s (item_type s r) 0) 0) (items_from s (code_from s (item_type s r + 1)) r.count (items_place s r)) []

pub array_from_lem : (s : List ℕ) (rows : List Row) (r : Row)
    → array_from s rows r ≡ an_array (get_or s (r.offset + 5) 0) (array_lengths s r) (array_item s rows r) (array_items s r)
unfolding array_from item_type
array_from_lem s rows r = refl

-- ---- the record

-- array type, rank, lengths and item type in one part
lengths_is : (s : List ℕ) → Bytes s → (o rank p : ℕ) → p ≡ o + 10 + 4 * rank → p < length s → number_from s (o + 6) ≡ rank
    → between s (o + 5) (p + 1) ≡ get_or s (o + 5) 0 ∷ (le_bytes 4 rank ++ (numbers_bytes (numbers_from s rank (o + 10)) ++ (get_or s p 0 ∷ [])))
lengths_is s byte o rank p d h n =
    let x : o + 5 + 1 ≡ o + 6 = omega arith in
    let y : o + 6 + 4 ≡ o + 10 = omega arith in
    let z : p + 1 - (p + 1) ≡ 0 = omega arith in
    let number = rw (y, n) at (number_there s byte (o + 6) (omega arith)) in
    let last : between s p (p + 1) ≡ get_or s p 0 ∷ [] = part_to s p (p + 1) h (omega arith) ∙ rw z in
    part_to s (o + 5) (p + 1) (omega arith) (omega arith)
    ∙ ap (λ (l : List ℕ). get_or s (o + 5) 0 ∷ l)
    (rw x
    (part_through s (o + 6) (o + 10) (p + 1) (omega arith) (omega arith)
    ∙ ap₂ (λ (x y : List ℕ). x ++ y) number
    (part_through s (o + 10) p (p + 1) (omega arith) (omega arith)
    ∙ ap₂ (λ (x y : List ℕ). x ++ y) (numbers_is s byte rank (o + 10) p d (omega arith)) last)))

module _ (τ : Terms) (s : List ℕ) (byte : Bytes s) (rows rs : List Row) (ls : Libraries) where
  array_bytes : (o id rank p e : ℕ) (vs : List Prefixed) (items : List ℕ) → p ≡ o + 10 + 4 * rank → number_from s (o + 6) ≡ rank → type_byte_at s p ≡ Ok (p + 1)
      → info_known τ.setting s rows (get_or s p 0) (p + 1) ≡ Ok e → (get_or s p 0 ≡ 4 → Numbered s rows rs ls (e - 4)) → items ≡ items_bytes vs
      → head_out 7 id ++ (between s (o + 5) (p + 1) ++ (info_out s rs (get_or s p 0) (p + 1) e ++ items))
      ≡ enc (array id (get_or s (o + 5) 0) (numbers_from s rank (o + 10)) (detail_by ls (detail_from s rows (get_or s p 0) (p + 1))) vs)
  unfolding enc
  array_bytes o id rank p e vs items d n t i f v =
      let w = type_told s p (p + 1) t in
      let type = get_or s p 0 in
      let item = detail_by ls (detail_from s rows type (p + 1)) in
      let lengths = numbers_bytes (numbers_from s rank (o + 10)) in
      let b : type ≡ type_byte item = sym (same_type ls (detail_from s rows type (p + 1)) ∙ type_is s rows type (p + 1) w.0) in
      let k : rank ≡ length (numbers_from s rank (o + 10)) = sym (length_numbers s rank (o + 10)) in
      ap (λ (l : List ℕ). head_out 7 id ++ (between s (o + 5) (p + 1) ++ (info_out s rs type (p + 1) e ++ l))) v
      ∙ ap₂ (λ (x y : List ℕ). 7 ∷ (le_bytes 4 id ++ (x ++ (y ++ items_bytes vs)))) (lengths_is s byte o rank p d w.1 n)
      (info_is τ s rows rs ls type (p + 1) e w.0 i f)
      ∙ ap (λ (l : List ℕ). 7 ∷ (le_bytes 4 id ++ (get_or s (o + 5) 0 ∷ l))) (joined (le_bytes 4 rank) lengths (type ∷ []) (info_bytes item ++ items_bytes vs))
      ∙ ap₂ (λ (x y : ℕ). 7 ∷ (le_bytes 4 id ++ (get_or s (o + 5) 0 ∷ (le_bytes 4 x ++ (lengths ++ (y ∷ (info_bytes item ++ items_bytes vs))))))) k b

-- what stands at the item type
record ItemStands (τ : Terms) (s : List ℕ) (rows : List Row) (r : Row) : Type 0 where
  typed : type_byte_at s (item_type s r) ≡ Ok (item_type s r + 1)
  known : info_known τ.setting s rows (get_or s (item_type s r) 0) (item_type s r + 1) ≡ Ok (items_place s r)
  items : get_or s (item_type s r) 0 ≡ 0 → items_at τ.setting s (code_from s (item_type s r + 1)) r.count (items_place s r) ≡ Ok r.end
  no_items : (get_or s (item_type s r) 0 ≡ 0 → ⊥) → r.end ≡ items_place s r
  inside : items_place s r ≤ length s

item_stands : (τ : Terms) (s : List ℕ) (rows : List Row) (r : Row) → ArrayStands τ s rows r → ItemStands τ s rows r
unfolding item_type
item_stands τ s rows r c =
    let n : c.rank ≡ number_from s (r.offset + 6) = (u32_says s (r.offset + 6) c.rank (r.offset + 10) c.ranked).value in
    let known = subst (λ (k : ℕ). info_known τ.setting s rows (get_or s (r.offset + 10 + 4 * k) 0) (r.offset + 10 + 4 * k + 1) ≡ Ok c.info_end) n c.info in
    let place = info_place τ s rows (get_or s (item_type s r) 0) (item_type s r + 1) c.info_end known in
    record {
      typed = subst (λ (k : ℕ). type_byte_at s (r.offset + 10 + 4 * k) ≡ Ok (r.offset + 10 + 4 * k + 1)) n c.typed;
      known = known ∙ ap Ok (sym place);
      items =
          subst (λ (e : ℕ). get_or s (item_type s r) 0 ≡ 0 → items_at τ.setting s (code_from s (item_type s r + 1)) r.count e ≡ Ok r.end) (sym place)
          (subst (λ (k : ℕ). get_or s (r.offset + 10 + 4 * k) 0 ≡ 0 → items_at τ.setting s (code_from s (r.offset + 10 + 4 * k + 1)) r.count c.info_end ≡ Ok r.end) n
          c.items_at_holds);
      no_items = λ z.
          subst (λ (k : ℕ). (get_or s (r.offset + 10 + 4 * k) 0 ≡ 0 → ⊥) → r.end ≡ c.info_end) n c.no_items z ∙ sym place;
      inside = omega (arith, c.items, c.inside, place);
    }

-- a row q that is as r is, but for its number
module _ (τ : Terms) (s : List ℕ) (rows : List Row) (r : Row) (c : ArrayStands τ s rows r) (q : Row) (o : q.offset ≡ r.offset) where
  array_fields_lem : array_fields s q ≡ pick (eqb (get_or s (item_type s r) 0) 4) ((items_place s r - 4) ∷ []) []
  unfolding array_fields item_type
  array_fields_lem = rw o

  pub array_need : names_of s rows (array_fields s q) ≡ detail_needs (array_item s rows r)
  array_need =
      let i = item_stands τ s rows r c in
      let w = type_told s (item_type s r) (item_type s r + 1) i.typed in
      ap (names_of s rows) array_fields_lem ∙ needs_is τ s rows (get_or s (item_type s r) 0) (item_type s r + 1) (items_place s r) w.0 i.known

  -- the items, as they are written
  items_so : Bytes s → values_out s (eqb (get_or s (item_type s r) 0) 0 && eqb (get_or s (item_type s r + 1) 0) (anew_in τ.setting)) r.count (items_place s r) r.end
      ≡ items_bytes (values_by (code_of (array_item s rows r)) (array_items s r))
  unfolding info_at detail_from
  items_so byte = go (ℕ_discrete (get_or s (item_type s r) 0) 0)
    where
      i : ItemStands τ s rows r
      i = item_stands τ s rows r c

      type : ℕ
      type = get_or s (item_type s r) 0

      at : ℕ
      at = item_type s r + 1

      go : Dec (get_or s (item_type s r) 0 ≡ 0)
          → values_out s (eqb (get_or s (item_type s r) 0) 0 && eqb (get_or s (item_type s r + 1) 0) (anew_in τ.setting)) r.count (items_place s r) r.end
          ≡ items_bytes (values_by (code_of (array_item s rows r)) (array_items s r))
      go (yes z) =
          let plain : code_at s at ≡ Ok (items_place s r) =
          subst (λ (t : ℕ). info_at τ.setting s t at ≡ Ok (items_place s r)) z (info_plain τ.setting s rows type at (items_place s r) i.known) in
          let code : get_or s at 0 ≡ code_number (code_from s at) = code_is s at (items_place s r) plain in
          ap₂ (λ (t k : ℕ). values_out s (eqb t 0 && eqb k (anew_in τ.setting)) r.count (items_place s r) r.end) z code
          ∙ (items_are τ s byte (code_from s at) r.count (items_place s r) r.end i.inside (i.items z)
          ∙ ap (λ (t : ℕ). items_bytes (values_by (code_of (detail_from s rows t at)) (pick (eqb t 0) (items_from s (code_from s at) r.count (items_place s r)) []))) (sym z))
      go (no z) =
          let d : r.end - items_place s r ≡ 0 = let e = i.no_items z in omega arith in
          rw (ne_eqb type 0 z, d)

  module _ (e : q.end ≡ r.end) (n : q.count ≡ r.count) (rs : List Row) where
    array_out_lem : body_out (anew_in τ.setting) s rs (item_type s q) (items_place s q) q
        ≡ head_out 7 q.id ++ (between s (r.offset + 5) (item_type s r + 1)
        ++ (info_out s rs (get_or s (item_type s r) 0) (item_type s r + 1) (items_place s r)
        ++ values_out s (eqb (get_or s (item_type s r) 0) 0 && eqb (get_or s (item_type s r + 1) 0) (anew_in τ.setting)) r.count (items_place s r) r.end))
    unfolding body_out items_out item_type
    array_out_lem = rw (o, e, n)

    pub array_is : (byte : Bytes s) (ls : Libraries) → All (Numbered s rows rs ls) (array_fields s q)
        → body_out (anew_in τ.setting) s rs (item_type s q) (items_place s q) q
        ≡ enc (array q.id (get_or s (r.offset + 5) 0) (array_lengths s r) (detail_by ls (array_item s rows r)) (values_by (code_of (array_item s rows r)) (array_items s r)))
    unfolding item_type
    array_is byte ls a =
        let i = item_stands τ s rows r c in
        let P = Numbered s rows rs ls in
        let b = subst (All P) array_fields_lem a in
        array_out_lem
        ∙ array_bytes τ s byte rows rs ls r.offset q.id (number_from s (r.offset + 6)) (item_type s r) (items_place s r)
        (values_by (code_of (array_item s rows r)) (array_items s r)) _ refl refl i.typed i.known
        (field_of P (get_or s (item_type s r) 0) (items_place s r - 4) b) (items_so byte)
