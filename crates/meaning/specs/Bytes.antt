-- The bytes of a field are how what it says is written: texts, numbers, primitive codes, and the details of types, libraries by their new numbers.
use Prim.Native.Nat.{ℕ, zero, suc, ◌+◌, ◌-◌, ◌≤◌, ◌<◌}
use Rattle.std.specs.Prelude.{◌≡◌, length, eqb, Some, Ok}
use Rattle.std.proofs.Math.Path.{refl, ap, ap₂}
use Rattle.std.proofs.Common.{sym, ◌∙◌, arith}
use mathlib.Core.List.{List, [], ◌∷◌, ◌++◌, append_assoc}
use Rattle.std.proofs.Math.Decide.{dec_lt}
use Rattle.std.proofs.Math.ListN.{get_or}
use Rattle.format.specs.Terms.{Terms}
use Rattle.format.specs.declared.Row.{Row}
use Rattle.format.specs.Bytes.{pick, part, same_bytes}
use Rattle.format.specs.Numbers.{le_bytes, u32_at}
use Rattle.format.specs.Prefix.{prefix_of, prefix_bytes}
use Rattle.format.specs.Text.{span_at}
use Rattle.format.specs.Values.{on_end, times}
use Rattle.format.specs.Types.{code_number, code_at, type_byte_at, name_at, library_id_at, info_at, after_text, after_info}
use Rattle.format.specs.Records.{known_library, info_known, infos_at}
use Rattle.format.specs.Contents.{bytes_in, shortest, Detail, primitive, text, object, system, class, objects, texts, primitives, type_byte, info_bytes, infos_bytes}
use Rattle.format.specs.Says.{text_from, number_from, code_from, detail_from, members_from}
use Rattle.format.specs.Tidy.{number_in, Libraries, detail_needs, members_need, detail_by, members_by}
use Rattle.fields.specs.Parts.{length_part, part_cons}
use Rattle.fields.specs.Sequence.{through}
use Rattle.num.specs.Le.{Bytes, bytes_part, le_bytes_le}
use Rattle.num.specs.Read.{u32_says}
use Rattle.codes.specs.Codes.{number_primitive}
use Rattle.types.specs.Keeps.{code_told, type_told, name_told, name_moves, library_told}
use Rattle.laws.specs.Fields.{by_type}
use Rattle.spans.specs.Judged.{name_after, info_after}
use Rattle.spans.specs.Spans.{span_within}
use Rattle.prefix.specs.Widths.{shortest_bytes}
use Rattle.class_info.specs.Moves.{known_moves, info_plain}
use Rattle.put.specs.Out.{between, text_out}
use Rattle.put.specs.Pieces.{span_small}
use Rattle.pieces.specs.Copy.{library_number, info_out, infos_out}
use Rattle.meaning.specs.Stands.{StringStands}
use Rattle.meaning.specs.Marked.{All, none, both, info_fields, name_at_field, names_of}
use Rattle.meaning.specs.Entered.{names_append}

-- ---- texts, numbers and codes

-- a part that was written in three, and what follows it
pub joined : (a b c l : List ℕ) → (a ++ (b ++ c)) ++ l ≡ a ++ (b ++ (c ++ l))
joined a b c l = rw (append_assoc a (b ++ c) l, append_assoc b c l)

-- a text, wherever it is looked for: it is as long as its span
module _ (s : List ℕ) (p : ℕ) where
  text_length : length (text_from s p) ≡ (span_at s p).to - (span_at s p).from
  text_length = go (dec_lt (length s) p)
    where
      go : Dec (length s < p) → length (text_from s p) ≡ (span_at s p).to - (span_at s p).from
      go (yes h) =
          let w = span_within s p in
          let z : (span_at s p).to - (span_at s p).from ≡ 0 = omega (arith, w.starts, w.rises, w.ends p (omega arith) (omega arith)) in
          rw z
      go (no h) =
          let w = span_within s p in
          length_part s (span_at s p).from ((span_at s p).to - (span_at s p).from) (omega (arith, w.rises, w.ends (length s) (omega arith) (omega arith)))

  -- it is written with the shortest prefix
  pub text_is : text_out s p ≡ bytes_in (shortest (text_from s p))
  unfolding text_out
  text_is =
      let n = (span_at s p).to - (span_at s p).from in
      ap (λ (b : List ℕ). b ++ text_from s p) (sym (shortest_bytes n (span_small s p)))
      ∙ ap (λ (k : ℕ). prefix_of (length (prefix_bytes k)) k ++ text_from s p) (sym text_length)

module _ (s : List ℕ) (byte : Bytes s) where
  -- any four bytes are a number
  pub number_there : (p : ℕ) → p + 4 ≤ length s → between s p (p + 4) ≡ le_bytes 4 (number_from s p)
  number_there p h =
      let d : p + 4 - p ≡ 4 = omega arith in
      let l = length_part s p 4 h in
      rw d (sym (rw l at (le_bytes_le (part s p 4) (bytes_part s p 4 byte))))

  pub number_is : (p v : ℕ) → u32_at s p ≡ Some (v, p + 4) → between s p (p + 4) ≡ le_bytes 4 v
  number_is p v q =
      let w = u32_says s p v (p + 4) q in
      number_there p w.within ∙ ap (le_bytes 4) (sym w.value)

module _ (s : List ℕ) where
  pub code_is : (p e : ℕ) → code_at s p ≡ Ok e → get_or s p 0 ≡ code_number (code_from s p)
  code_is p e q =
      let w = code_told s p e q in
      rw w.1 (sym (number_primitive (get_or s p 0) w.0 w.1))

  -- the bytes of a primitive code
  pub code_kept : (p e : ℕ) → code_at s p ≡ Ok e → between s p e ≡ code_number (code_from s p) ∷ []
  code_kept p e q =
      let w = code_told s p e q in
      let d : e - p ≡ 1 = omega arith in
      rw d (part_cons s p 0 w.2 ∙ ap (λ (b : ℕ). b ∷ []) (code_is p e q))

module _ (τ : Terms) (s : List ℕ) where
  -- a name is a string
  pub name_stands : (p e : ℕ) → name_at τ.setting s p ≡ Ok e → StringStands τ s p e
  name_stands p e q = let w = name_told τ.setting s p e q in record { from = w.0; text = w.1 }

module _ (s : List ℕ) where
  -- no bytes
  pub between_none : (p e : ℕ) → p ≡ e → between s p e ≡ []
  between_none p e h =
      let d : e - p ≡ 0 = omega arith in
      rw d

-- ---- the details of types

-- what stands where a detail of type 4 ends at e: the class's name, then the LibraryId
pub record ClassInfo (τ : Terms) (s : List ℕ) (p e : ℕ) : Type 0 where
  pub named : name_at τ.setting s p ≡ Ok (e - 4)
  pub number : ℕ
  pub numbered : u32_at s (e - 4) ≡ Some (number, e)
  pub moves : (p < e - 4) × (e ≡ e - 4 + 4)

pub class_info : (τ : Terms) (s : List ℕ) (rows : List Row) (p e : ℕ) → info_known τ.setting s rows 4 p ≡ Ok e → ClassInfo τ s p e
unfolding info_known info_at
class_info τ s rows p e q =
    let x = through (known_library s rows) (on_end (library_id_at s) (name_at τ.setting s p)) e q in
    let y = through (library_id_at s) (name_at τ.setting s p) x.0 x.1 in
    go y.0 x.0 y.1 y.2 (known_moves s rows x.0 e x.2)
  where
    at : (m v : ℕ) → m ≡ e - 4 → e ≡ m + 4 → p < m → name_at τ.setting s p ≡ Ok m → u32_at s m ≡ Some (v, e) → ClassInfo τ s p e
    at m v d g h n u = record { named = rw d at n; number = v; numbered = rw d at u; moves = (omega arith, omega arith) }

    go : (m x : ℕ) → name_at τ.setting s p ≡ Ok m → library_id_at s m ≡ Ok x → e ≡ x → ClassInfo τ s p e
    go m x n l k =
        let v = library_told s m x l in
        let u = u32_says s m v.0 x v.1 in
        at m v.0 (omega arith) (omega arith) (name_moves τ.setting s p m n).0 n (v.1 ∙ ap (λ (x : ℕ). Some (v.0, x)) (sym k))

module _ (τ : Terms) (s : List ℕ) (rows : List Row) where
  pub info_place : (type p e : ℕ) → info_known τ.setting s rows type p ≡ Ok e → after_info s type p ≡ e
  info_place type p e q = info_after τ.setting s type p e (info_plain τ.setting s rows type p e q)

module _ (s : List ℕ) (rows : List Row) where
  pub type_is : (type p : ℕ) → type ≤ 7 → type_byte (detail_from s rows type p) ≡ type
  unfolding detail_from
  type_is type p h = by_type (λ t. type_byte (detail_from s rows t p) ≡ t) refl refl refl refl refl refl refl refl type h

module _ (τ : Terms) (s : List ℕ) (rows : List Row) where
  pub class_detail : (p e : ℕ) → ClassInfo τ s p e → detail_from s rows 4 p ≡ class (text_from s p) (name_at_field s rows (e - 4))
  unfolding detail_from name_at_field
  class_detail p e c = rw (name_after τ.setting s p (e - 4) c.named)

  -- the libraries that a detail needs
  pub needs_is : (type p e : ℕ) → type ≤ 7 → info_known τ.setting s rows type p ≡ Ok e
      → names_of s rows (pick (eqb type 4) ((e - 4) ∷ []) []) ≡ detail_needs (detail_from s rows type p)
  unfolding detail_from names_of
  needs_is zero p e h q = refl
  needs_is (suc zero) p e h q = refl
  needs_is (suc (suc zero)) p e h q = refl
  needs_is (suc (suc (suc zero))) p e h q = refl
  needs_is (suc (suc (suc (suc zero)))) p e h q = ap detail_needs (sym (class_detail p e (class_info τ s rows p e q)))
  needs_is (suc (suc (suc (suc (suc zero))))) p e h q = refl
  needs_is (suc (suc (suc (suc (suc (suc zero)))))) p e h q = refl
  needs_is (suc (suc (suc (suc (suc (suc (suc zero))))))) p e h q = refl
  needs_is (suc (suc (suc (suc (suc (suc (suc (suc type)))))))) p e h q = absurd (omega arith)

-- a library's new number changes no type byte
pub same_type : (ls : Libraries) (d : Detail (List ℕ) (List ℕ)) → type_byte (detail_by ls d) ≡ type_byte d
same_type ls (primitive c) = refl
same_type ls text = refl
same_type ls object = refl
same_type ls (system n) = refl
same_type ls (class n l) = refl
same_type ls objects = refl
same_type ls texts = refl
same_type ls (primitives c) = refl

-- rows rs have the numbers of ls: the library whose number stands at p has in rs the number that its name has in ls
abbrev pub Numbered : List ℕ → List Row → List Row → Libraries → ℕ → Type 0
Numbered s rows rs ls p = library_number s rs p ≡ number_in (same_bytes (name_at_field s rows p)) ls

module _ (τ : Terms) (s : List ℕ) (rows rs : List Row) (ls : Libraries) where
  pub info_is : (type p e : ℕ) → type ≤ 7 → info_known τ.setting s rows type p ≡ Ok e → (type ≡ 4 → Numbered s rows rs ls (e - 4))
      → info_out s rs type p e ≡ info_bytes (detail_by ls (detail_from s rows type p))
  unfolding info_out info_at detail_from
  info_is zero p e h q f = code_kept s p e (info_plain τ.setting s rows 0 p e q)
  info_is (suc zero) p e h q f = let z = info_plain τ.setting s rows 1 p e q in between_none s p e (cc)
  info_is (suc (suc zero)) p e h q f = let z = info_plain τ.setting s rows 2 p e q in between_none s p e (cc)
  info_is (suc (suc (suc zero))) p e h q f = text_is s p
  info_is (suc (suc (suc (suc zero)))) p e h q f =
      let c = class_info τ s rows p e q in
      ap₂ (λ (a b : List ℕ). a ++ b) (text_is s p) (ap (le_bytes 4) (f refl))
      ∙ ap (λ (d : Detail (List ℕ) (List ℕ)). info_bytes (detail_by ls d)) (sym (class_detail τ s rows p e c))
  info_is (suc (suc (suc (suc (suc zero))))) p e h q f = let z = info_plain τ.setting s rows 5 p e q in between_none s p e (cc)
  info_is (suc (suc (suc (suc (suc (suc zero)))))) p e h q f = let z = info_plain τ.setting s rows 6 p e q in between_none s p e (cc)
  info_is (suc (suc (suc (suc (suc (suc (suc zero))))))) p e h q f = code_kept s p e (info_plain τ.setting s rows 7 p e q)
  info_is (suc (suc (suc (suc (suc (suc (suc (suc type)))))))) p e h q f = absurd (omega arith)

-- ---- the details of members

-- one detail, whose type byte stands at types, and those after it
pub record First (τ : Terms) (s : List ℕ) (rows : List Row) (n types p e t : ℕ) : Type 0 where
  pub low : get_or s types 0 ≤ 7
  pub known : info_known τ.setting s rows (get_or s types 0) p ≡ Ok (after_info s (get_or s types 0) p)
  pub infos : infos_at τ.setting s rows n (types + 1) (after_info s (get_or s types 0) p) ≡ Ok e
  pub type_bytes : times (type_byte_at s) n (types + 1) ≡ Ok t

pub first_is : (τ : Terms) (s : List ℕ) (rows : List Row) (n types p e t : ℕ) → infos_at τ.setting s rows (suc n) types p ≡ Ok e → times (type_byte_at s) (suc n) types ≡ Ok t
    → First τ s rows n types p e t
unfolding infos_at times
first_is τ s rows n types p e t q r =
    let x = through (infos_at τ.setting s rows n (types + 1)) (info_known τ.setting s rows (get_or s types 0) p) e q in
    let y = through (times (type_byte_at s) n) (type_byte_at s types) t r in
    let w = type_told s types y.0 y.1 in
    let d = sym (info_place τ s rows (get_or s types 0) p x.0 x.1) in
    record {
      low = w.0;
      known = x.1 ∙ ap Ok d;
      infos = ap (infos_at τ.setting s rows n (types + 1)) (sym d) ∙ x.2;
      type_bytes = ap (times (type_byte_at s) n) (sym w.2) ∙ y.2;
    }

pub all_left : (P : ℕ → Type 0) (xs ys : List ℕ) → All P (xs ++ ys) → All P xs
all_left P [] ys a = none
all_left P (x ∷ xs) ys (both p a) = both p (all_left P xs ys a)

pub all_right : (P : ℕ → Type 0) (xs ys : List ℕ) → All P (xs ++ ys) → All P ys
all_right P [] ys a = a
all_right P (x ∷ xs) ys (both p a) = all_right P xs ys a

pub all_first : (P : ℕ → Type 0) (x : ℕ) (xs : List ℕ) → All P (x ∷ xs) → P x
all_first P x xs (both p a) = p

-- the one field of a detail of type 4
pub field_of : (P : ℕ → Type 0) (type p : ℕ) → All P (pick (eqb type 4) (p ∷ []) []) → type ≡ 4 → P p
field_of P type p a e = all_first P p [] (rw e at a)

-- wherever the members' names stand
pub infos_need : (τ : Terms) (s : List ℕ) (rows : List Row) (n types names p e t : ℕ) → infos_at τ.setting s rows n types p ≡ Ok e → times (type_byte_at s) n types ≡ Ok t
    → names_of s rows (info_fields s n types p) ≡ members_need (members_from s rows n names types p)
unfolding info_fields members_from names_of
infos_need τ s rows zero types names p e t q r = refl
infos_need τ s rows (suc n) types names p e t q r =
    let f = first_is τ s rows n types p e t q r in
    let type = get_or s types 0 in
    let next = after_info s type p in
    names_append s rows (pick (eqb type 4) ((next - 4) ∷ []) []) (info_fields s n (types + 1) next)
    ∙ ap₂ (λ (a b : List (List ℕ)). a ++ b) (needs_is τ s rows type p next f.low f.known)
    (infos_need τ s rows n (types + 1) (after_text s names) next e t f.infos f.type_bytes)

module _ (τ : Terms) (s : List ℕ) (rows rs : List Row) (ls : Libraries) where
  pub infos_is : (n types names p e t : ℕ) → infos_at τ.setting s rows n types p ≡ Ok e → times (type_byte_at s) n types ≡ Ok t
      → All (Numbered s rows rs ls) (info_fields s n types p) → infos_out s rs n types p ≡ infos_bytes (members_by ls (members_from s rows n names types p))
  unfolding info_fields infos_out members_from
  infos_is zero types names p e t q r a = refl
  infos_is (suc n) types names p e t q r a =
      let f = first_is τ s rows n types p e t q r in
      let type = get_or s types 0 in
      let next = after_info s type p in
      let own = pick (eqb type 4) ((next - 4) ∷ []) [] in
      let later = info_fields s n (types + 1) next in
      let b = field_of (Numbered s rows rs ls) type (next - 4) (all_left (Numbered s rows rs ls) own later a) in
      ap₂ (λ (a b : List ℕ). a ++ b) (info_is τ s rows rs ls type p next f.low f.known b)
      (infos_is n (types + 1) (after_text s names) next e t f.infos f.type_bytes (all_right (Numbered s rows rs ls) own later a))
