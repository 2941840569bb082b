-- The library records that are written before the record that needs them: those that its fields are the first to need, in the fields' order.
use Prim.Native.Nat.{ℕ, zero, suc, ◌+◌, ◌-◌}
use Rattle.std.specs.Prelude.{◌≡◌, Bool, length, get_or}
use Rattle.std.proofs.Math.Path.{refl, sym, ap}
use Rattle.std.proofs.Common.{◌∙◌, eqb-true}
use Rattle.std.proofs.Math.Bool.{true, false}
use mathlib.Core.List.{List, [], ◌∷◌, ◌++◌, append-nil, append_assoc}
use Rattle.std.proofs.Math.Seq.{append_snoc}
use Rattle.std.proofs.Math.Dec.{eqb}
use Rattle.format.specs.declared.Row.{Row}
use Rattle.format.specs.Bytes.{pick, same_bytes}
use Rattle.format.specs.Contents.{shortest, Rec, library, enc, encs}
use Rattle.format.specs.Types.{after_info}
use Rattle.format.specs.Tidy.{number_in, Libraries, entered, all_entered, library_records}
use Rattle.same.specs.Laws.{same_refl}
use Rattle.laws.specs.Numbers.{Counted, all_counted, number_new, entered_new}
use Rattle.marks.specs.Marks.{row_at, library_at, item_type, infos_place, needed}
use Rattle.pieces.specs.Copy.{library_number, library_out, need_out, need_info_out, need_infos_out, need_class_out}
use Rattle.meaning.specs.Marked.{info_fields, class_fields, array_fields, fields_from, All, none, both, name_at_field, names_of}
use Rattle.meaning.specs.Entered.{libraries_for, libraries_append}
use Rattle.meaning.specs.Needs.{unneeded, like_at, all_left, all_right}
use Rattle.meaning.specs.Stamps.{Fields, Numbered, numbered_field, needed_same}

-- ---- the writers go through the fields

unfoldable pub needs_out : List ℕ → List Row → List ℕ → List ℕ
needs_out s rs [] = []
needs_out s rs (p ∷ ps) = need_out s rs p ++ needs_out s rs ps

module _ (s : List ℕ) (rs : List Row) where
  pub outs_append : (ps qs : List ℕ) → needs_out s rs (ps ++ qs) ≡ needs_out s rs ps ++ needs_out s rs qs
  unfolding needs_out
  outs_append [] qs = refl
  outs_append (p ∷ ps) qs = rw (outs_append ps qs) (sym (append_assoc (need_out s rs p) (needs_out s rs ps) (needs_out s rs qs)))

  one_out : (t : Bool) (p : ℕ) → pick t (need_out s rs p) [] ≡ needs_out s rs (pick t (p ∷ []) [])
  unfolding needs_out
  one_out true p = sym (append-nil (need_out s rs p))
  one_out false p = refl

  pub infos_out_lem : (n types p : ℕ) → need_infos_out s rs n types p ≡ needs_out s rs (info_fields s n types p)
  unfolding need_infos_out need_info_out info_fields needs_out
  infos_out_lem zero types p = refl
  infos_out_lem (suc n) types p =
      let e = after_info s (get_or s types 0) p in
      let t = eqb (get_or s types 0) 4 in
      rw (one_out t (e - 4), infos_out_lem n (types + 1) e) (sym (outs_append (pick t ((e - 4) ∷ []) []) (info_fields s n (types + 1) e)))

  pub class_out_lem : (r : Row) → need_class_out s rs r ≡ needs_out s rs (class_fields s r)
  unfolding need_class_out class_fields
  class_out_lem r =
      rw (infos_out_lem r.count r.slot (infos_place r), one_out (eqb r.kind 5) (r.end - 4))
      (sym (outs_append (info_fields s r.count r.slot (infos_place r)) (pick (eqb r.kind 5) ((r.end - 4) ∷ []) [])))

  pub array_out_lem : (r : Row) → need_info_out s rs (get_or s (item_type s r) 0) (after_info s (get_or s (item_type s r) 0) (item_type s r + 1)) ≡ needs_out s rs (array_fields s r)
  unfolding need_info_out array_fields
  array_out_lem r = one_out (eqb (get_or s (item_type s r) 0) 4) (after_info s (get_or s (item_type s r) 0) (item_type s r + 1) - 4)

-- ---- what they write

-- a row that stands where the first row of the library at p stands writes this library, by the row's number
pub record Spelled (s : List ℕ) (rows fs : List Row) (p : ℕ) : Type 0 where
  pub writes : (g : Row) → g.offset ≡ (row_at fs (library_at s fs p)).offset → g.end ≡ (row_at fs (library_at s fs p)).end
      → library_out s g ≡ enc (library g.link (shortest (name_at_field s rows p)))

module _ (s : List ℕ) (rows fs : List Row) (F : Fields s rows fs) where
  field_number : (p : ℕ) → library_number s (needed s fs) p ≡ (row_at (needed s fs) (library_at s fs p)).link
  unfolding library_number
  field_number p = ap (λ (x : ℕ). (row_at (needed s fs) x).link) (like_at s fs (needed s fs) (needed_same s rows fs F) p)

  field_out : (ls : Libraries) (p : ℕ) (more : List Rec) → Counted ls → Numbered s rows fs ls p → Spelled s rows fs p
      → need_out s (needed s fs) p ++ encs more
      ≡ encs (pick (eqb (number_in (same_bytes (name_at_field s rows p)) ls) 0) (library (suc (length ls)) (shortest (name_at_field s rows p)) ∷ []) [] ++ more)
  unfolding need_out encs
  field_out ls p more c v w =
      rw (like_at s fs (needed s fs) (needed_same s rows fs F) p, v.stamp) (go (eqb (number_in (same_bytes n) ls) 0) refl)
    where
      n : List ℕ
      n = name_at_field s rows p

      g : Row
      g = row_at (needed s fs) (library_at s fs p)

      alike : unneeded g ≡ unneeded (row_at fs (library_at s fs p))
      alike = (needed_same s rows fs F).like (library_at s fs p - 1)

      bytes : library_out s g ≡ enc (library g.link (shortest n))
      bytes = w.writes g (ap (λ (r : Row). r.offset) alike) (ap (λ (r : Row). r.end) alike)

      go : (t : Bool) → eqb (number_in (same_bytes n) ls) 0 ≡ t
          → pick t (library_out s g) [] ++ encs more ≡ encs (pick t (library (suc (length ls)) (shortest n) ∷ []) [] ++ more)
      go true q =
          let z = eqb-true (number_in (same_bytes n) ls) 0 q in
          let l : g.link ≡ suc (length ls) =
          v.number ∙ (ap (number_in (same_bytes n)) (entered_new n ls z) ∙ number_new (same_bytes n) ls (length ls) n c (same_refl n) z) in
          ap (λ (b : List ℕ). b ++ encs more) (bytes ∙ ap (λ (k : ℕ). enc (library k (shortest n))) l)
      go false q = refl

  -- one field more
  next_stretch : (ps : List ℕ) (p : ℕ) (rest : List ℕ) → ps ++ (p ∷ rest) ≡ fields_from s 0 fs → (ps ++ (p ∷ [])) ++ rest ≡ fields_from s 0 fs
  next_stretch ps p rest e = append_snoc ps p rest ∙ e

  next_libraries : (ps : List ℕ) (p : ℕ) → libraries_for s rows (ps ++ (p ∷ [])) ≡ entered (name_at_field s rows p) (libraries_for s rows ps)
  unfolding all_entered names_of
  next_libraries ps p = libraries_append s rows ps (p ∷ [])

  mid_out : (mid ps qs : List ℕ) → ps ++ (mid ++ qs) ≡ fields_from s 0 fs → All (Spelled s rows fs) mid
      → needs_out s (needed s fs) mid ≡ encs (library_records (names_of s rows mid) (libraries_for s rows ps))
  unfolding needs_out library_records names_of encs
  mid_out [] ps qs e a = refl
  mid_out (p ∷ mid) ps qs e (both w a) =
      let ls : Libraries = libraries_for s rows ps in
      let rest = mid_out mid (ps ++ (p ∷ [])) qs (next_stretch ps p (mid ++ qs) e) a in
      let more : needs_out s (needed s fs) mid ≡ encs (library_records (names_of s rows mid) (entered (name_at_field s rows p) ls)) =
      rest ∙ ap (λ (t : Libraries). encs (library_records (names_of s rows mid) t)) (next_libraries ps p) in
      ap (λ (b : List ℕ). need_out s (needed s fs) p ++ b) more
      ∙ field_out ls p (library_records (names_of s rows mid) (entered (name_at_field s rows p) ls)) (all_counted (names_of s rows ps) [] tt)
      (numbered_field s rows fs F ps p (mid ++ qs) e) w

  -- the new numbers of the libraries that a stretch of the fields names, in the table after it
  pub stretch_numbers : (mid ps qs : List ℕ) → ps ++ (mid ++ qs) ≡ fields_from s 0 fs
      → All (λ (p : ℕ). library_number s (needed s fs) p ≡ number_in (same_bytes (name_at_field s rows p)) (all_entered (names_of s rows mid) (libraries_for s rows ps))) mid
  unfolding all_entered names_of
  stretch_numbers [] ps qs e = none
  stretch_numbers (p ∷ mid) ps qs e =
      let v = numbered_field s rows fs F ps p (mid ++ qs) e in
      let rest = stretch_numbers mid (ps ++ (p ∷ [])) qs (next_stretch ps p (mid ++ qs) e) in
      both (field_number p ∙ (v.number ∙ sym (v.later (names_of s rows mid)))) (rw (next_libraries ps p) at rest)

  -- and the records of those that it is the first to name
  pub stretch_out : All (Spelled s rows fs) (fields_from s 0 fs) → (mid ps qs : List ℕ) → ps ++ (mid ++ qs) ≡ fields_from s 0 fs
      → needs_out s (needed s fs) mid ≡ encs (library_records (names_of s rows mid) (libraries_for s rows ps))
  stretch_out a mid ps qs e =
      let b : All (Spelled s rows fs) (ps ++ (mid ++ qs)) = rw e a in
      mid_out mid ps qs e (all_left (Spelled s rows fs) mid qs (all_right (Spelled s rows fs) ps (mid ++ qs) b))
