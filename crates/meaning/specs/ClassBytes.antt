-- The bytes written for a class record are those of the class that it says, with its new number and the new numbers of its libraries.
use Prim.Native.Nat.{ℕ, zero, suc, ◌+◌, ◌-◌, ◌%◌}
use Rattle.std.specs.Prelude.{◌≡◌, length, eqb, Ok}
use Rattle.std.proofs.Math.Path.{refl, ap, ap₂}
use Rattle.std.proofs.Common.{sym, subst, ◌∙◌, arith}
use mathlib.Core.List.{List, [], ◌∷◌, ◌++◌, append_assoc, append-nil}
use Rattle.std.proofs.Math.ListN.{get_or}
use Rattle.format.specs.Terms.{Terms}
use Rattle.format.specs.declared.Row.{Row}
use Rattle.format.specs.Bytes.{pick, same_bytes}
use Rattle.format.specs.Numbers.{le_bytes}
use Rattle.format.specs.Values.{times}
use Rattle.format.specs.Types.{type_byte_at, after_text, after_info}
use Rattle.format.specs.Rows.{is_untyped}
use Rattle.format.specs.Contents.{Prefixed, bytes_in, shortest, Member, names_bytes, types_bytes, infos_bytes, class_bytes, enc, From, the_system, the_library, Class}
use Rattle.format.specs.Says.{text_from, detail_from, members_from, typed_from, class_from}
use Rattle.format.specs.Tidy.{number_in, Libraries, members_need, from_needs, class_needs, members_by, class_by}
use Rattle.fields.specs.Parts.{part_to}
use Rattle.fields.specs.Sequence.{through}
use Rattle.types.specs.Keeps.{type_told, types_end}
use Rattle.laws.specs.Classes.{class_typed, origin_system, origin_library}
use Rattle.spans.specs.Judged.{name_after, names_after}
use Rattle.put.specs.Out.{between, text_out, texts_out, head_out}
use Rattle.pieces.specs.Copy.{library_number, infos_out, members_out, class_out, details_out}
use Rattle.meaning.specs.Stands.{OwnStands, of_system, of_library_rule, ClassStands, class_stands}
use Rattle.meaning.specs.Marked.{All, info_fields, class_fields, name_at_field, names_of}
use Rattle.meaning.specs.Bytes.{text_is, between_none, type_is, same_type, Numbered, all_left, all_right, all_first, infos_need, infos_is}
use Rattle.meaning.specs.Entered.{names_append}

-- ---- names and type bytes

module _ (s : List ℕ) (rows : List Row) (ls : Libraries) where
  pub members_count : (n names types infos : ℕ) → length (members_by ls (members_from s rows n names types infos)) ≡ n
  unfolding members_from
  members_count zero names types infos = refl
  members_count (suc n) names types infos =
      ap suc (members_count n (after_text s names) (types + 1) (after_info s (get_or s types 0) infos))

  -- wherever names and details stand
  pub types_is : (n names types infos e : ℕ) → times (type_byte_at s) n types ≡ Ok e
      → between s types e ≡ types_bytes (members_by ls (members_from s rows n names types infos))
  unfolding times members_from
  types_is zero names types infos e q = between_none s types e (cc)
  types_is (suc n) names types infos e q =
      let x = through (times (type_byte_at s) n) (type_byte_at s types) e q in
      let w = type_told s types x.0 x.1 in
      let r : times (type_byte_at s) n (types + 1) ≡ Ok e = ap (times (type_byte_at s) n) (sym w.2) ∙ x.2 in
      let z = types_end s n (types + 1) e r in
      let type = get_or s types 0 in
      part_to s types e w.1 (omega arith)
      ∙ ap₂ (λ (b : ℕ) (l : List ℕ). b ∷ l) (sym (same_type ls (detail_from s rows type infos) ∙ type_is s rows type infos w.0))
      (types_is n (after_text s names) (types + 1) (after_info s type infos) e r)

  -- wherever type bytes and details stand
  pub names_are : (n names types infos : ℕ) → texts_out s n names ≡ names_bytes (members_by ls (members_from s rows n names types infos))
  unfolding texts_out members_from
  names_are zero names types infos = refl
  names_are (suc n) names types infos =
      ap₂ (λ (x y : List ℕ). x ++ y) (text_is s names) (names_are n (after_text s names) (types + 1) (after_info s (get_or s types 0) infos))

-- ---- name, member count, names and type bytes

module _ (τ : Terms) (s : List ℕ) (rows : List Row) (r : Row) (c : ClassStands τ s rows r) where
  names_place_lem : after_text s (r.offset + 5) + 4 ≡ c.name_end + 4
  names_place_lem = ap (λ (n : ℕ). n + 4) (name_after τ.setting s (r.offset + 5) c.name_end c.named)

  pub members_from_lem : (class_from τ.book s rows r).members ≡ members_from s rows r.count (c.name_end + 4) c.types (c.types + r.count)
  unfolding typed_from
  members_from_lem =
      ap (λ (k : Class). k.members) (class_stands τ s rows r c τ.book)
      ∙ rw (name_after τ.setting s (r.offset + 5) c.name_end c.named, names_after τ.setting s r.count (c.name_end + 4) c.types c.names)

  pub class_name_lem : (class_from τ.book s rows r).name ≡ text_from s (r.offset + 5)
  unfolding typed_from
  class_name_lem = ap (λ (k : Class). k.name) (class_stands τ s rows r c τ.book)

  module _ (ls : Libraries) where
    -- the members as they are written
    abbrev members : List (Member Prefixed ℕ)
    members = members_by ls (class_from τ.book s rows r).members

    members_so : members ≡ members_by ls (members_from s rows r.count (c.name_end + 4) c.types (c.types + r.count))
    members_so = ap (members_by ls) members_from_lem

    pub count_is : le_bytes 4 r.count ≡ le_bytes 4 (length members)
    count_is = ap (le_bytes 4) (sym (ap length members_so ∙ members_count s rows ls r.count (c.name_end + 4) c.types (c.types + r.count)))

    pub names_is : texts_out s r.count (after_text s (r.offset + 5) + 4) ≡ names_bytes members
    names_is =
        ap (texts_out s r.count) names_place_lem
        ∙ (names_are s rows ls r.count (c.name_end + 4) c.types (c.types + r.count) ∙ ap names_bytes (sym members_so))

    pub type_bytes_are : between s c.types (c.types + r.count) ≡ types_bytes members
    type_bytes_are =
        types_is s rows ls r.count (c.name_end + 4) c.types (c.types + r.count) (c.types + r.count) c.type_bytes
        ∙ ap types_bytes (sym members_so)

-- ---- the record

module _ (s : List ℕ) (q : Row) (kind offset end slot count : ℕ)
    (k : q.kind ≡ kind) (o : q.offset ≡ offset) (e : q.end ≡ end) (t : q.slot ≡ slot) (n : q.count ≡ count) where
  class_out_lem : (rs : List Row) → class_out s rs q
      ≡ head_out (kind % 256) q.id ++ (text_out s (offset + 5) ++ (le_bytes 4 count ++ (texts_out s count (after_text s (offset + 5) + 4)
      ++ (between s slot (slot + count) ++ (infos_out s rs count slot (slot + count) ++ pick (eqb kind 5) (le_bytes 4 (library_number s rs (end - 4))) [])))))
  unfolding class_out members_out details_out
  class_out_lem rs = rw (k, o, e, t, n)

  class_fields_lem : class_fields s q ≡ info_fields s count slot (slot + count) ++ pick (eqb kind 5) ((end - 4) ∷ []) []
  unfolding class_fields
  class_fields_lem = rw (k, e, t, n)

module _ (ls : Libraries) (id : ℕ) (c : Class) (name count names types infos : List ℕ)
    (f : name ≡ bytes_in (shortest c.name)) (g : count ≡ le_bytes 4 (length (members_by ls c.members))) (h : names ≡ names_bytes (members_by ls c.members))
    (j : types ≡ types_bytes (members_by ls c.members)) (i : infos ≡ infos_bytes (members_by ls c.members)) where
  all_parts : name ++ (count ++ (names ++ (types ++ infos))) ≡ class_bytes (shortest c.name) (members_by ls c.members)
  all_parts = rw (f, g, h, j, i)

  system_bytes : c.from ≡ the_system → head_out 4 id ++ (name ++ (count ++ (names ++ (types ++ (infos ++ []))))) ≡ enc (class_by ls id c c.from)
  unfolding enc
  system_bytes o =
      ap (λ (z : List ℕ). head_out 4 id ++ (name ++ (count ++ (names ++ (types ++ z))))) (append-nil infos)
      ∙ ap (λ (z : List ℕ). 4 ∷ (le_bytes 4 id ++ z)) all_parts
      ∙ ap (λ (z : From). enc (class_by ls id c z)) (sym o)

  -- what follows the parts
  parts_then : (l : List ℕ) → name ++ (count ++ (names ++ (types ++ (infos ++ l)))) ≡ (name ++ (count ++ (names ++ (types ++ infos)))) ++ l
  parts_then l = sym (simp append_assoc)

  library_bytes : (own : List ℕ) (number : ℕ) → c.from ≡ the_library own → number ≡ number_in (same_bytes own) ls
      → head_out 5 id ++ (name ++ (count ++ (names ++ (types ++ (infos ++ le_bytes 4 number))))) ≡ enc (class_by ls id c c.from)
  unfolding enc
  library_bytes own number o z =
      ap (λ (z : List ℕ). 5 ∷ (le_bytes 4 id ++ z))
      (parts_then (le_bytes 4 number) ∙ ap₂ (λ (x y : List ℕ). x ++ y) all_parts (ap (le_bytes 4) z))
      ∙ ap (λ (z : From). enc (class_by ls id c z)) (sym o)

module _ (β s : List ℕ) (rows : List Row) (r : Row) where
  pub from_system : r.kind ≡ 4 → (class_from β s rows r).from ≡ the_system
  unfolding typed_from
  from_system k = ap (λ (c : Class). c.from) (class_typed β s rows r (ap is_untyped k)) ∙ origin_system s rows r k

  pub from_library : r.kind ≡ 5 → (class_from β s rows r).from ≡ the_library (name_at_field s rows (r.end - 4))
  unfolding typed_from name_at_field
  from_library k = ap (λ (c : Class). c.from) (class_typed β s rows r (ap is_untyped k)) ∙ origin_library s rows r k

-- a row q that is as r is, but for its number, with the types' place in its slot word
module _ (τ : Terms) (s : List ℕ) (rows : List Row) (r : Row) (c : ClassStands τ s rows r) (q : Row) (k : q.kind ≡ r.kind) (o : q.offset ≡ r.offset) (e : q.end ≡ r.end) (n : q.count ≡ r.count) (t : q.slot ≡ c.types) where
  pub class_need : names_of s rows (class_fields s q) ≡ class_needs (class_from τ.book s rows r)
  unfolding names_of
  class_need =
      let infos = info_fields s r.count c.types (c.types + r.count) in
      ap (names_of s rows) (class_fields_lem s q r.kind r.offset r.end c.types r.count k o e t n)
      ∙ names_append s rows infos (pick (eqb r.kind 5) ((r.end - 4) ∷ []) [])
      ∙ ap₂ (λ (x y : List (List ℕ)). x ++ y) (members_need_lem ∙ ap members_need (sym (members_from_lem τ s rows r c))) (own_need c.own)
    where
      members_need_lem : names_of s rows (info_fields s r.count c.types (c.types + r.count))
          ≡ members_need (members_from s rows r.count (c.name_end + 4) c.types (c.types + r.count))
      members_need_lem =
          infos_need τ s rows r.count c.types (c.name_end + 4) (c.types + r.count) c.infos_end (c.types + r.count) c.infos c.type_bytes

      own_need : OwnStands s rows r c.infos_end → names_of s rows (pick (eqb r.kind 5) ((r.end - 4) ∷ []) []) ≡ from_needs (class_from τ.book s rows r).from
      own_need (of_system h z) =
          ap (λ (x : ℕ). names_of s rows (pick (eqb x 5) ((r.end - 4) ∷ []) [])) h ∙ ap from_needs (sym (from_system τ.book s rows r h))
      own_need (of_library_rule h z) =
          ap (λ (x : ℕ). names_of s rows (pick (eqb x 5) ((r.end - 4) ∷ []) [])) h ∙ ap from_needs (sym (from_library τ.book s rows r h))

  pub class_is : (rs : List Row) (ls : Libraries) → All (Numbered s rows rs ls) (class_fields s q)
      → class_out s rs q ≡ enc (class_by ls q.id (class_from τ.book s rows r) (class_from τ.book s rows r).from)
  class_is rs ls a = go c.own
    where
      infos : List ℕ
      infos = infos_out s rs r.count c.types (c.types + r.count)

      of : Class
      of = class_from τ.book s rows r

      name_so : text_out s (r.offset + 5) ≡ bytes_in (shortest (class_from τ.book s rows r).name)
      name_so = text_is s (r.offset + 5) ∙ ap (λ (t : List ℕ). bytes_in (shortest t)) (sym (class_name_lem τ s rows r c))

      fields : List ℕ
      fields = info_fields s r.count c.types (c.types + r.count)

      P : ℕ → Type 0
      P = Numbered s rows rs ls

      there : (kind : ℕ) → q.kind ≡ kind → All P (fields ++ pick (eqb kind 5) ((r.end - 4) ∷ []) [])
      there kind h = subst (All P) (class_fields_lem s q kind r.offset r.end c.types r.count h o e t n) a

      infos_so : All P fields → infos ≡ infos_bytes (members_by ls (class_from τ.book s rows r).members)
      infos_so b =
          infos_is τ s rows rs ls r.count c.types (c.name_end + 4) (c.types + r.count) c.infos_end (c.types + r.count) c.infos c.type_bytes b
          ∙ ap (λ (m : List (Member (List ℕ) (List ℕ))). infos_bytes (members_by ls m)) (sym (members_from_lem τ s rows r c))

      go : OwnStands s rows r c.infos_end → class_out s rs q ≡ enc (class_by ls q.id (class_from τ.book s rows r) (class_from τ.book s rows r).from)
      go (of_system h z) =
          let b = there 4 (k ∙ h) in
          class_out_lem s q 4 r.offset r.end c.types r.count (k ∙ h) o e t n rs
          ∙ system_bytes ls q.id of _ _ _ _ infos name_so (count_is τ s rows r c ls) (names_is τ s rows r c ls) (type_bytes_are τ s rows r c ls)
          (infos_so (all_left P fields [] b)) (from_system τ.book s rows r h)
      go (of_library_rule h z) =
          let b = there 5 (k ∙ h) in
          class_out_lem s q 5 r.offset r.end c.types r.count (k ∙ h) o e t n rs
          ∙ library_bytes ls q.id of _ _ _ _ infos name_so (count_is τ s rows r c ls) (names_is τ s rows r c ls) (type_bytes_are τ s rows r c ls)
          (infos_so (all_left P fields ((r.end - 4) ∷ []) b))
          (name_at_field s rows (r.end - 4)) (library_number s rs (r.end - 4)) (from_library τ.book s rows r h)
          (all_first P (r.end - 4) [] (all_right P fields ((r.end - 4) ∷ []) b))
