-- The bytes written for the other records are those of what they say: strings, libraries, the arrays of kinds 15, 16 and 17, primitives, values,
-- references, objects by their class's first, the header and the end.
use Rattle.std.specs.Prelude.{ℕ, ◌+◌, ◌-◌, ◌%◌, ◌≤◌, ◌≡◌, refl, length, get_or, eqb, Some, Ok}
use Rattle.std.proofs.Math.Path.{ap, ap₂}
use Rattle.std.proofs.Common.{◌∙◌, arith}
use mathlib.Core.List.{List, [], ◌∷◌, ◌++◌, append_assoc}
use Rattle.format.specs.Terms.{Terms}
use Rattle.format.specs.declared.PrimitiveCode.{PrimitiveCode}
use Rattle.format.specs.declared.Row.{Row}
use Rattle.format.specs.Numbers.{le_bytes, u32_at}
use Rattle.format.specs.Values.{value_at, items_at}
use Rattle.format.specs.Types.{code_number, code_at}
use Rattle.format.specs.Contents.{shortest, items_bytes, header, class_by_id, string, typed_primitive, reference, end, library, primitive_array, object_array, string_array, value, enc}
use Rattle.format.specs.Says.{text_from, code_from, content_from, items_from}
use Rattle.format.specs.Tidy.{value_by, values_by}
use Rattle.fields.specs.Parts.{part_to, part_through}
use Rattle.num.specs.Le.{Bytes}
use Rattle.types.specs.Keeps.{code_told}
use Rattle.put.specs.Out.{between, text_out, head_out, by_id_out, header_out}
use Rattle.pieces.specs.Copy.{anew_in, library_out, value_out, values_out, typed_out, member_out, primitive_items_out, primitives_out, kept_out, string_out}
use Rattle.meaning.specs.Bytes.{text_is, number_is, code_is, code_kept}
use Rattle.meaning.specs.ValueBytes.{value_is, items_are}

-- ---- records of numbers alone

pub header_is : (root : ℕ) → header_out root ≡ enc (header root root)
unfolding header_out enc
header_is root = refl

pub by_id_is : (id first : ℕ) → by_id_out id first ≡ enc (class_by_id id first)
unfolding by_id_out enc
by_id_is id first = refl

pub reference_is : (id : ℕ) → head_out 9 id ≡ enc (reference id)
unfolding enc
reference_is id = refl

-- ---- records by their places, from o to e

pub end_is : (s : List ℕ) (o e : ℕ) → get_or s o 0 ≡ 11 → e ≡ o + 1 → e ≤ length s → between s o e ≡ enc end
unfolding enc
end_is s o e k h g =
    let z : e - (o + 1) ≡ 0 = omega arith in
    part_to s o e (omega arith) (omega arith) ∙ rw (k, z)

module _ (τ : Terms) (s : List ℕ) (byte : Bytes s) (r : Row) where
  pub member_is : (c : PrimitiveCode) → r.link ≡ code_number c → value_at τ.setting s c r.offset ≡ Ok r.end
      → member_out (anew_in τ.setting) s r ≡ enc (value c (value_by c (content_from s c r.offset)))
  unfolding enc
  member_is c l q = ap (λ (n : ℕ). value_out s (eqb n (anew_in τ.setting)) r.offset r.end) l ∙ value_is τ s byte c r.offset r.end q

  pub typed_is : get_or s r.offset 0 ≡ 8 → code_at s (r.offset + 1) ≡ Ok (r.offset + 2)
      → value_at τ.setting s (code_from s (r.offset + 1)) (r.offset + 2) ≡ Ok r.end
      → typed_out (anew_in τ.setting) s r
      ≡ enc (typed_primitive (code_from s (r.offset + 1)) (value_by (code_from s (r.offset + 1)) (content_from s (code_from s (r.offset + 1)) (r.offset + 2))))
  unfolding typed_out enc
  typed_is k c q =
      let o = r.offset in
      let w = code_told s (o + 1) (o + 2) c in
      let a : between s o (o + 2) ≡ 8 ∷ code_number (code_from s (o + 1)) ∷ [] =
      part_to s o (o + 2) (omega arith) (omega arith) ∙ ap₂ (λ (b : ℕ) (l : List ℕ). b ∷ l) k (code_kept s (o + 1) (o + 2) c) in
      ap₂ (λ (x y : List ℕ). x ++ y) a
      (ap (λ (n : ℕ). value_out s (eqb n (anew_in τ.setting)) (o + 2) r.end) (code_is s (o + 1) (o + 2) c)
      ∙ value_is τ s byte (code_from s (o + 1)) (o + 2) r.end q)

-- ---- records that are kept but for their number

-- a row q that is as r is, but for its number
module _ (s : List ℕ) (byte : Bytes s) (q r : Row) (o : q.offset ≡ r.offset) (e : q.end ≡ r.end) where
  pub string_is : string_out s q ≡ enc (string q.id (shortest (text_from s (r.offset + 5))))
  unfolding string_out enc
  string_is =
      ap (λ (x : ℕ). 6 ∷ (le_bytes 4 q.id ++ text_out s (x + 5))) o
      ∙ ap (λ (l : List ℕ). 6 ∷ (le_bytes 4 q.id ++ l)) (text_is s (r.offset + 5))

  -- a library's number stands in its link word
  pub library_is : library_out s q ≡ enc (library q.link (shortest (text_from s (r.offset + 5))))
  unfolding library_out enc
  library_is =
      ap (λ (x : ℕ). 12 ∷ (le_bytes 4 q.link ++ text_out s (x + 5))) o
      ∙ ap (λ (l : List ℕ). 12 ∷ (le_bytes 4 q.link ++ l)) (text_is s (r.offset + 5))

  kept_out_lem : (kind : ℕ) → q.kind ≡ kind → kept_out s q ≡ head_out (kind % 256) q.id ++ between s (r.offset + 5) r.end
  unfolding kept_out
  kept_out_lem kind k = rw (k, o, e)

  -- the bytes of an array's length
  counted : (p : ℕ) → u32_at s (p + 5) ≡ Some (r.count, p + 9) → between s (p + 5) (p + 9) ≡ le_bytes 4 r.count
  counted p u =
      let d : p + 5 + 4 ≡ p + 9 = omega arith in
      rw d at (number_is s byte (p + 5) r.count (rw d u))

module _ (τ : Terms) (s : List ℕ) (byte : Bytes s) (q r : Row) (o : q.offset ≡ r.offset) (e : q.end ≡ r.end) where
  module _ (u : u32_at s (r.offset + 5) ≡ Some (r.count, r.offset + 9)) where
    pub primitives_is : q.count ≡ r.count → code_at s (r.offset + 9) ≡ Ok (r.offset + 10)
        → items_at τ.setting s (code_from s (r.offset + 9)) r.count (r.offset + 10) ≡ Ok r.end
        → primitives_out (anew_in τ.setting) s q
        ≡ enc (primitive_array q.id r.count (code_from s (r.offset + 9)) (values_by (code_from s (r.offset + 9)) (items_from s (code_from s (r.offset + 9)) r.count (r.offset + 10))))
    unfolding primitives_out primitive_items_out enc
    primitives_is n c i =
        let p = r.offset in
        let code = code_from s (p + 9) in
        let w = code_told s (p + 9) (p + 10) c in
        let items = items_bytes (values_by code (items_from s code r.count (p + 10))) in
        let head : between s (p + 5) (p + 10) ≡ le_bytes 4 r.count ++ (code_number code ∷ []) =
        part_through s (p + 5) (p + 9) (p + 10) (omega arith) (omega arith)
        ∙ ap₂ (λ (x y : List ℕ). x ++ y) (counted s byte q r o e p u) (code_kept s (p + 9) (p + 10) c) in
        let whole : primitive_items_out (anew_in τ.setting) s q ≡ between s (p + 5) (p + 10) ++ values_out s (eqb (get_or s (p + 9) 0) (anew_in τ.setting)) r.count (p + 10) r.end = rw (o, e, n) in
        ap (λ (l : List ℕ). 15 ∷ (le_bytes 4 q.id ++ l))
        (whole
        ∙ (ap₂ (λ (x y : List ℕ). x ++ y) head
        (ap (λ (b : ℕ). values_out s (eqb b (anew_in τ.setting)) r.count (p + 10) r.end) (code_is s (p + 9) (p + 10) c)
        ∙ items_are τ s byte code r.count (p + 10) r.end (omega arith) i)
        ∙ append_assoc (le_bytes 4 r.count) (code_number code ∷ []) items))

module _ (s : List ℕ) (byte : Bytes s) (q r : Row) (o : q.offset ≡ r.offset) (e : q.end ≡ r.end) where
  module _ (u : u32_at s (r.offset + 5) ≡ Some (r.count, r.offset + 9)) where
    slots : r.end ≡ r.offset + 9 → between s (r.offset + 5) r.end ≡ le_bytes 4 r.count
    slots h = ap (between s (r.offset + 5)) h ∙ counted s byte q r o e r.offset u

    pub objects_is : q.kind ≡ 16 → r.end ≡ r.offset + 9 → kept_out s q ≡ enc (object_array q.id r.count)
    unfolding enc
    objects_is k h = kept_out_lem s byte q r o e 16 k ∙ ap (λ (l : List ℕ). 16 ∷ (le_bytes 4 q.id ++ l)) (slots h)

    pub texts_is : q.kind ≡ 17 → r.end ≡ r.offset + 9 → kept_out s q ≡ enc (string_array q.id r.count)
    unfolding enc
    texts_is k h = kept_out_lem s byte q r o e 17 k ∙ ap (λ (l : List ℕ). 17 ∷ (le_bytes 4 q.id ++ l)) (slots h)
