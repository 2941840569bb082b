-- The copy of a stream of at most 16,777,216 bytes, written from a table of at most as many rows, is far shorter than the greatest usize.
-- Rows, links and places may be invented: no part is longer than the stream, and a row writes at most six parts, two more for each member, and
-- a prefix for each item of an array, which are no more than a word counts.
use Prim.Native.Nat.{ℕ, zero, suc, ◌+◌, ◌-◌, ◌*◌, ◌/◌, ◌%◌, ◌≤◌, ◌<◌}
use Rattle.std.specs.Prelude.{◌≡◌, Bool, true, false, ◌&&◌, ◌||◌, set, leb, ltb}
use Rattle.std.proofs.Math.Path.{refl, ap}
use Rattle.std.proofs.Common.{sym, ◌∙◌, length-drop, length-set, eqb-true}
use mathlib.Core.List.{List, [], ◌∷◌, ◌++◌}
use native.Mathlib.Omega.{arith}
use Rattle.std.proofs.Math.Decide.{dec_lt}
use Rattle.std.proofs.Math.ListN.{length, get_or, length-take, length-append}
use Rattle.std.proofs.Math.Dec.{eqb}
use Rattle.format.specs.declared.Row.{Row}
use Rattle.format.specs.Bytes.{pick, part}
use Rattle.format.specs.Numbers.{le_bytes}
use Rattle.format.specs.Prefix.{groups_of, prefix_bytes}
use Rattle.format.specs.Text.{span_at}
use Rattle.format.specs.Contents.{Rec, enc, encs}
use Rattle.format.specs.Tidy.{run_of}
use Rattle.format.specs.Rows.{blank, is_object, is_class, with_link}
use Rattle.format.specs.Types.{after_info}
use Rattle.format.specs.Says.{after_texts, is_nulls}
use Rattle.num.specs.Le.{length_le_bytes}
use Rattle.fields.specs.Judged.{picked}
use Rattle.spans.specs.Spans.{span_within, texts_within}
use Rattle.standing.specs.Members.{members_of, members_in}
use Rattle.put.specs.Out.{text_out, texts_out, by_id_out, header_out, run_out}
use Rattle.marks.specs.Marks.{Pass, pass, sweep, row_at, with_id, with_slot, with_count, word, number_one, numbered, first_library, place_one, placed, library_at, names_place, infos_place, first_class, first_one, firsts, need, need_info, need_infos, need_class, item_type, need_array, is_first, need_one, needed, marked}
use Rattle.pieces.specs.declared.Gathered.{Gathered}
use Rattle.pieces.specs.Copy.{library_number, library_out, need_out, need_info_out, need_infos_out, need_own_out, need_class_out, info_out, infos_out, own_out, details_out, members_out, class_out, object_out, value_out, values_out, typed_out, items_out, body_out, array_out, primitive_items_out, primitives_out, kept_out, string_out, record_out, before_out, is_passed, run_after, row_out, none_yet, copy_from, copy_of}
use Rattle.meaning.specs.Passes.{swept}

-- ---- lengths: a part of the stream has at most 16777216 bytes; what is added to it are prefixes, kind bytes and numbers

abbrev Within : ℕ → List ℕ → Type 0
Within n l = length l ≤ n

joined : (a b : List ℕ) (m n : ℕ) → length a ≤ m → length b ≤ n → length (a ++ b) ≤ m + n
joined a b m n h k = rw (length-append a b) (omega arith)

number_long : (n : ℕ) → length (le_bytes 4 n) ≤ 4
number_long n = let e = length_le_bytes 4 n in omega arith

-- a kind byte and a number before bytes
headed : (kind n : ℕ) (l : List ℕ) (m : ℕ) → length l ≤ m → length ((kind ∷ le_bytes 4 n) ++ l) ≤ 5 + m
headed kind n l m h = let a = number_long n in joined (kind ∷ le_bytes 4 n) l 5 m (omega arith) h

groups_few : (k n : ℕ) → length (groups_of k n) ≤ suc k
unfolding groups_of
groups_few zero n = omega arith
groups_few (suc k) n = go (ltb n 128) (groups_few k (n / 128))
  where
    go : (t : Bool) → length (groups_of k (n / 128)) ≤ suc k → length (pick t (n ∷ []) ((128 + n % 128) ∷ groups_of k (n / 128))) ≤ suc (suc k)
    go true h = omega arith
    go false h = omega arith

run_long : (n : ℕ) → length (run_out n) ≤ 5
unfolding run_out run_of encs enc
run_long n =
    let many = headed 14 n [] 0 (omega arith) in
    let none : 0 ≤ 5 = omega arith in
    let one : 1 ≤ 5 = omega arith in
    let two : 2 ≤ 5 = omega arith in
    picked Few (eqb n 0) (λ e. none) (λ e. picked Few (eqb n 1) (λ e. one) (λ e. picked Few (leb n 255) (λ e. two) (λ e. many)))
  where
    Few : List Rec → Type 0
    Few l = length (encs l) ≤ 5

by_id_long : (a b : ℕ) → length (by_id_out a b) ≤ 9
unfolding by_id_out
by_id_long a b = headed 1 a (le_bytes 4 b) 4 (number_long b)

header_long : (root : ℕ) → length (header_out root) ≤ 17
unfolding header_out
header_long root =
    let versions = le_bytes 4 1 ++ le_bytes 4 0 in
    let a = joined (le_bytes 4 1) (le_bytes 4 0) 4 4 (number_long 1) (number_long 0) in
    headed 0 root (le_bytes 4 root ++ versions) 12 (joined (le_bytes 4 root) versions 4 8 (number_long root) a)

-- ---- what is written of one row

module _ (δ : ℕ) (s : List ℕ) (short : length s ≤ 16777216) where
  part_long : (a n : ℕ) → length (part s a n) ≤ 16777216
  part_long a n = simp (length-take, length-drop) (omega arith)

  text_long : (p : ℕ) → length (text_out s p) ≤ 16777221
  unfolding text_out
  text_long p =
      let x = span_at s p in
      joined (prefix_bytes (x.to - x.from)) (part s x.from (x.to - x.from)) 5 16777216 (groups_few 4 (x.to - x.from)) (part_long x.from (x.to - x.from))

  -- strings in a row stand one after the other: the prefixes, and together no more than the stream
  texts_reach : (n p : ℕ) → length (texts_out s n p) + p ≤ 5 * n + after_texts s n p
  unfolding texts_out text_out after_texts
  texts_reach zero p = omega arith
  texts_reach (suc n) p =
      let x = span_at s p in
      let w = span_within s p in
      let k = x.to - x.from in
      let a : length (part s x.from k) ≤ k = rw length-take (omega arith) in
      let one = joined (prefix_bytes k) (part s x.from k) 5 k (groups_few 4 k) a in
      let others = texts_reach n x.to in
      let both = length-append (prefix_bytes k ++ part s x.from k) (texts_out s n x.to) in
      omega (arith, w.starts, w.rises)

  texts_long : (n p : ℕ) → length (texts_out s n p) ≤ 5 * n + 16777216
  texts_long n p = go (dec_lt (length s) p)
    where
      go : Dec (length s < p) → length (texts_out s n p) ≤ 5 * n + 16777216
      go (yes h) = let w = texts_within s n p p (omega arith) (omega arith) in omega (arith, texts_reach n p, w.1)
      go (no h) = let w = texts_within s n p (length s) (omega arith) (omega arith) in omega (arith, texts_reach n p, w.1)

  value_long : (t : Bool) (p e : ℕ) → length (value_out s t p e) ≤ 16777221
  value_long true p e = text_long p
  value_long false p e = let a = part_long p (e - p) in omega arith

  values_long : (t : Bool) (n p e : ℕ) → length (values_out s t n p e) ≤ 5 * n + 16777216
  values_long true n p e = texts_long n p
  values_long false n p e = let a = part_long p (e - p) in omega arith

  library_long : (g : Row) → length (library_out s g) ≤ 16777226
  unfolding library_out
  library_long g = headed 12 g.link (text_out s (g.offset + 5)) 16777221 (text_long (g.offset + 5))

  kept_long : (r : Row) → length (kept_out s r) ≤ 16777221
  unfolding kept_out
  kept_long r =
      let a = r.offset + 5 in
      headed (r.kind % 256) r.id (part s a (r.end - a)) 16777216 (part_long a (r.end - a))

  string_long : (r : Row) → length (string_out s r) ≤ 16777226
  unfolding string_out
  string_long r = headed 6 r.id (text_out s (r.offset + 5)) 16777221 (text_long (r.offset + 5))

  typed_long : (r : Row) → length (typed_out δ s r) ≤ 33554437
  unfolding typed_out
  typed_long r =
      let p = r.offset in
      let t = eqb (get_or s (p + 1) 0) δ in
      joined (part s p (p + 2 - p)) (value_out s t (p + 2) r.end) 16777216 16777221 (part_long p (p + 2 - p)) (value_long t (p + 2) r.end)

  primitives_long : (r : Row) → length (primitives_out δ s r) ≤ 33554437 + 5 * r.count
  unfolding primitives_out primitive_items_out
  primitives_long r =
      let p = r.offset in
      let t = eqb (get_or s (p + 9) 0) δ in
      let l = part s (p + 5) (p + 10 - (p + 5)) in
      let items = values_out s t r.count (p + 10) r.end in
      let n = 5 * r.count + 16777216 in
      let a = joined l items 16777216 n (part_long (p + 5) (p + 10 - (p + 5))) (values_long t r.count (p + 10) r.end) in
      let b = headed 15 r.id (l ++ items) (16777216 + n) a in
      omega arith

  module _ (rs : List Row) where
    need_long : (p : ℕ) → length (need_out s rs p) ≤ 16777226
    unfolding need_out
    need_long p =
        let g = row_at rs (library_at s rs p) in
        picked (Within 16777226) (eqb g.slot (word (p + 1))) (λ q. library_long g) (λ q. omega arith)

    need_info_long : (type e : ℕ) → length (need_info_out s rs type e) ≤ 16777226
    unfolding need_info_out
    need_info_long type e = picked (Within 16777226) (eqb type 4) (λ q. need_long (e - 4)) (λ q. omega arith)

    need_infos_long : (n types p : ℕ) → length (need_infos_out s rs n types p) ≤ 16777226 * n
    unfolding need_infos_out
    need_infos_long zero types p = omega arith
    need_infos_long (suc n) types p =
        let type = get_or s types 0 in
        let e = after_info s type p in
        let one = need_info_long type e in
        let others = need_infos_long n (types + 1) e in
        let a = joined (need_info_out s rs type e) (need_infos_out s rs n (types + 1) e) 16777226 (16777226 * n) one others in
        omega arith

    need_class_long : (r : Row) → length (need_class_out s rs r) ≤ 16777226 * r.count + 16777226
    unfolding need_class_out
    need_class_long r =
        let own : length (need_own_out s rs r) ≤ 16777226 = picked (Within 16777226) (eqb r.kind 5) (λ q. need_long (r.end - 4)) (λ q. omega arith) in
        joined (need_infos_out s rs r.count r.slot (infos_place r)) (need_own_out s rs r) (16777226 * r.count) 16777226
        (need_infos_long r.count r.slot (infos_place r)) own

    info_long : (type p e : ℕ) → length (info_out s rs type p e) ≤ 16777225
    unfolding info_out
    info_long type p e =
        let n = library_number s rs (e - 4) in
        let a = part_long p (e - p) in
        let t = text_long p in
        let b = joined (text_out s p) (le_bytes 4 n) 16777221 4 t (number_long n) in
        picked (Within 16777225) (eqb type 4) (λ q. b) (λ q. picked (Within 16777225) (eqb type 3) (λ q. omega arith) (λ q. omega arith))

    infos_long : (n types p : ℕ) → length (infos_out s rs n types p) ≤ 16777225 * n
    unfolding infos_out
    infos_long zero types p = omega arith
    infos_long (suc n) types p =
        let type = get_or s types 0 in
        let e = after_info s type p in
        let one = info_long type p e in
        let others = infos_long n (types + 1) e in
        let a = joined (info_out s rs type p e) (infos_out s rs n (types + 1) e) 16777225 (16777225 * n) one others in
        omega arith

    details_long : (r : Row) → length (details_out s rs r) ≤ 16777225 * r.count + 4
    unfolding details_out
    details_long r =
        let n = library_number s rs (r.end - 4) in
        let own : length (own_out s rs r) ≤ 4 = picked (Within 4) (eqb r.kind 5) (λ q. number_long n) (λ q. omega arith) in
        joined (infos_out s rs r.count r.slot (infos_place r)) (own_out s rs r) (16777225 * r.count) 4
        (infos_long r.count r.slot (infos_place r)) own

    members_long : (r : Row) → length (members_out s rs r) ≤ 33554436 + 16777230 * r.count
    unfolding members_out
    members_long r =
        let n = 16777225 * r.count + 4 in
        let names = texts_out s r.count (names_place s r) in
        let types = part s r.slot (infos_place r - r.slot) in
        let a = joined types (details_out s rs r) 16777216 n (part_long r.slot (infos_place r - r.slot)) (details_long r) in
        let b = joined names (types ++ details_out s rs r) (5 * r.count + 16777216) (16777216 + n) (texts_long r.count (names_place s r)) a in
        omega arith

    class_long : (r : Row) → length (class_out s rs r) ≤ 50331666 + 16777230 * r.count
    unfolding class_out
    class_long r =
        let n = 33554436 + 16777230 * r.count in
        let name = text_out s (r.offset + 5) in
        let count = le_bytes 4 r.count in
        let a = joined count (members_out s rs r) 4 n (number_long r.count) (members_long r) in
        let b = joined name (count ++ members_out s rs r) 16777221 (4 + n) (text_long (r.offset + 5)) a in
        let c = headed (r.kind % 256) r.id (name ++ (count ++ members_out s rs r)) (16777221 + (4 + n)) b in
        omega arith

    object_long : (i : ℕ) (r : Row) → length (object_out s rs i r) ≤ 67108892 + 33554456 * r.count
    unfolding object_out
    object_long i r =
        let m = 16777226 * r.count + 16777226 in
        let n = 50331666 + 16777230 * r.count in
        let a = joined (need_class_out s rs r) (class_out s rs r) m n (need_class_long r) (class_long r) in
        let b = by_id_long r.id (row_at rs r.link).id in
        picked (Within (67108892 + 33554456 * r.count)) (is_first i r) (λ q. omega arith) (λ q. omega arith)

    items_long : (p e : ℕ) (r : Row) → length (items_out δ s rs p e r) ≤ 16777225 + (5 * r.count + 16777216)
    unfolding items_out
    items_long p e r =
        let type = get_or s p 0 in
        let t = eqb type 0 && eqb (get_or s (p + 1) 0) δ in
        joined (info_out s rs type (p + 1) e) (values_out s t r.count e r.end) 16777225 (5 * r.count + 16777216) (info_long type (p + 1) e)
        (values_long t r.count e r.end)

    body_long : (p e : ℕ) (r : Row) → length (body_out δ s rs p e r) ≤ 50331662 + 5 * r.count
    unfolding body_out
    body_long p e r =
        let a = r.offset + 5 in
        let l = part s a (p + 1 - a) in
        let n = 16777225 + (5 * r.count + 16777216) in
        let b = joined l (items_out δ s rs p e r) 16777216 n (part_long a (p + 1 - a)) (items_long p e r) in
        let c = headed 7 r.id (l ++ items_out δ s rs p e r) (16777216 + n) b in
        omega arith

    array_long : (r : Row) → length (array_out δ s rs r) ≤ 16777226 + (50331662 + 5 * r.count)
    unfolding array_out
    array_long r =
        let p = item_type s r in
        let type = get_or s p 0 in
        let e = after_info s type (p + 1) in
        joined (need_info_out s rs type e) (body_out δ s rs p e r) 16777226 (50331662 + 5 * r.count) (need_info_long type e) (body_long p e r)

    -- m members, if the row is a class's
    record_long : (i : ℕ) (r : Row) (m : ℕ) → r.count < 4294967296 → (is_class r.kind ≡ true → m ≡ r.count)
        → length (record_out δ s rs i r) ≤ 22000000000 * (1 + m)
    unfolding record_out
    record_long i r m f w =
        picked B (eqb k 0) (λ q. let h = header_long (row_at rs r.link).id in omega arith)
        (λ q. picked B (eqb k 1) (λ q. let h = by_id_long r.id (row_at rs (row_at rs r.link).link).id in omega arith)
        (λ q. picked B (is_class k) (λ q. let h = object_long i r in let e = w q in omega arith)
        (λ q. picked B (eqb k 6) (λ q. let h = string_long r in omega arith)
        (λ q. picked B (eqb k 7) (λ q. let h = array_long r in omega arith)
        (λ q. picked B (eqb k 8) (λ q. let h = typed_long r in omega arith)
        (λ q. picked B (eqb k 9) (λ q. let h = number_long (row_at rs r.link).id in omega arith)
        (λ q. picked B (is_nulls k || eqb k 12) (λ q. omega arith)
        (λ q. picked B (eqb k 15) (λ q. let h = primitives_long r in omega arith)
        (λ q. picked B (eqb k 16 || eqb k 17) (λ q. let h = kept_long r in omega arith)
        (λ q. picked B (eqb k 32) (λ q. let h = value_long (eqb r.link δ) r.offset r.end in omega arith)
        (λ q. let h = part_long r.offset (r.end - r.offset) in omega arith)))))))))))
      where
        k : ℕ
        k = r.kind

        B : List ℕ → Type 0
        B = Within (22000000000 * (1 + m))

    before_long : (w : Gathered) (r : Row) → length (before_out w r) ≤ 5
    unfolding before_out
    before_long w r =
        let h = run_long w.count in
        picked (Within 5) (is_passed r) (λ q. omega arith)
        (λ q. picked (Within 5) (is_nulls r.kind) (λ q. picked (Within 5) (eqb r.owner w.owner) (λ q. omega arith) (λ q. h)) (λ q. h))

    row_long : (i : ℕ) (w : Gathered) (r : Row) → r.count < 4294967296 → length (row_out δ s rs i w r) ≤ 22000000005 * (1 + members_of r)
    unfolding row_out
    row_long i w r f =
        let m = members_of r in
        let h = record_long i r m f (λ q. ap (λ (t : Bool). pick t r.count 0) q) in
        let a = joined (before_out w r) (record_out δ s rs i r) 5 (22000000000 * (1 + m)) (before_long w r) h in
        omega arith

    -- ---- the copy

    rows_long : (i : ℕ) (w : Gathered) (more : List Row) → ((j : ℕ) → (get_or more j blank).count < 4294967296)
        → length (copy_from δ s rs i w more) ≤ 22000000005 * (length more + members_in more) + 5
    unfolding copy_from members_in
    rows_long i w [] f = let h = run_long w.count in omega arith
    rows_long i w (r ∷ more) f =
        let m = 22000000005 * (1 + members_of r) in
        let n = 22000000005 * (length more + members_in more) + 5 in
        let others = rows_long (i + 1) (run_after w r) more (λ j. f (suc j)) in
        let a = joined (row_out δ s rs i w r) (copy_from δ s rs (i + 1) (run_after w r) more) m n (row_long i w r (f 0)) others in
        omega arith

-- the copy of any rows whose words are words
pub copy_long : (δ : ℕ) (s : List ℕ) (rs : List Row) → length s ≤ 16777216 → ((j : ℕ) → (get_or rs j blank).count < 4294967296)
    → length (copy_of δ s rs) ≤ 22000000005 * (length rs + members_in rs) + 5
unfolding copy_of
copy_long δ s rs h f = rows_long δ s h rs 0 none_yet rs f

-- ---- marks change neither the number of rows nor the members of classes

record Kept (rows rs : List Row) : Type 0 where
  pub size : length rs ≡ length rows
  pub members : members_in rs ≡ members_in rows

members_set : (rs : List Row) (j : ℕ) (r : Row) → members_of r ≡ members_of (get_or rs j blank) → members_in (set rs j r) ≡ members_in rs
unfolding members_in
members_set [] j r e = refl
members_set (x ∷ rs) zero r e = ap (λ (n : ℕ). n + members_in rs) e
members_set (x ∷ rs) (suc j) r e = ap (λ (n : ℕ). members_of x + n) (members_set rs j r e)

-- a library's count is no class's
library_members : (r : Row) (n : ℕ) → eqb r.kind 12 ≡ true → members_of (with_count r n) ≡ members_of r
library_members r n q =
    let e : is_class r.kind ≡ false = ap is_class (eqb-true r.kind 12 q) in
    ap (λ (t : Bool). pick t n 0) e ∙ sym (ap (λ (t : Bool). pick t r.count 0) e)

module _ (rows : List Row) where
  kept_set : (rs : List Row) (j : ℕ) (r : Row) → members_of r ≡ members_of (get_or rs j blank) → Kept rows rs → Kept rows (set rs j r)
  kept_set rs j r e v = record { size = length-set rs j r ∙ v.size; members = members_set rs j r e ∙ v.members }

  abbrev KeptBy : Pass → Type 0
  KeptBy st = Kept rows st.rows

  number_keeps : (i : ℕ) (st : Pass) → KeptBy st → KeptBy (number_one i st)
  unfolding number_one
  number_keeps i st v =
      let r = get_or st.rows i blank in
      picked KeptBy (is_object r.kind) (λ q. kept_set st.rows i (with_id r (word (st.count + 1))) refl v) (λ q. v)

  place_keeps : (s : List ℕ) (i : ℕ) (rs : List Row) → Kept rows rs → Kept rows (place_one s i rs)
  unfolding place_one
  place_keeps s i rs v =
      let r = get_or rs i blank in
      picked (Kept rows) (eqb r.kind 12) (λ q. kept_set rs i (with_count r (first_library s rs r)) (library_members r (first_library s rs r) q) v)
      (λ q. picked (Kept rows) (is_class r.kind) (λ q. kept_set rs i (with_slot r r.link) refl v) (λ q. v))

  first_keeps : (s : List ℕ) (i : ℕ) (rs : List Row) → Kept rows rs → Kept rows (first_one s i rs)
  unfolding first_one
  first_keeps s i rs v =
      let r = get_or rs i blank in
      picked (Kept rows) (is_class r.kind) (λ q. kept_set rs i (with_link r (first_class s rs r)) refl v) (λ q. v)

  module _ (s : List ℕ) where
    need_keeps : (p : ℕ) (st : Pass) → KeptBy st → KeptBy (need s p st)
    unfolding need
    need_keeps p st v =
        let f = library_at s st.rows p in
        let g = row_at st.rows f in
        let g' = with_link (with_slot g (word (p + 1))) (word (st.count + 1)) in
        picked KeptBy (eqb g.slot 0) (λ q. kept_set st.rows (f - 1) g' refl v) (λ q. v)

    need_info_keeps : (type e : ℕ) (st : Pass) → KeptBy st → KeptBy (need_info s type e st)
    unfolding need_info
    need_info_keeps type e st v = picked KeptBy (eqb type 4) (λ q. need_keeps (e - 4) st v) (λ q. v)

    need_infos_keeps : (n types p : ℕ) (st : Pass) → KeptBy st → KeptBy (need_infos s n types p st)
    unfolding need_infos
    need_infos_keeps zero types p st v = v
    need_infos_keeps (suc n) types p st v =
        let type = get_or s types 0 in
        let e = after_info s type p in
        need_infos_keeps n (types + 1) e (need_info s type e st) (need_info_keeps type e st v)

    need_class_keeps : (r : Row) (st : Pass) → KeptBy st → KeptBy (need_class s r st)
    unfolding need_class
    need_class_keeps r st v =
        let st' = need_infos s r.count r.slot (infos_place r) st in
        let v' = need_infos_keeps r.count r.slot (infos_place r) st v in
        picked KeptBy (eqb r.kind 5) (λ q. need_keeps (r.end - 4) st' v') (λ q. v')

    need_array_keeps : (r : Row) (st : Pass) → KeptBy st → KeptBy (need_array s r st)
    unfolding need_array
    need_array_keeps r st v =
        let p = item_type s r in
        let type = get_or s p 0 in
        need_info_keeps type (after_info s type (p + 1)) st v

    needs_keep : (i : ℕ) (st : Pass) → KeptBy st → KeptBy (need_one s i st)
    unfolding need_one
    needs_keep i st v =
        let r = get_or st.rows i blank in
        picked KeptBy (is_first i r) (λ q. need_class_keeps r st v) (λ q. picked KeptBy (eqb r.kind 7) (λ q. need_array_keeps r st v) (λ q. v))

-- ---- sweeps

kept_swept : {S : Type 0} (K : S → Type 0) (f : ℕ → S → S) → ((i : ℕ) (st : S) → K st → K (f i st))
    → (k i : ℕ) (st : S) → K st → K (sweep f k i st)
kept_swept K f step k i st v = swept (λ i st. K st) f (i + k) (λ i st l v. step i st v) k i st refl v

kept_marked : (s : List ℕ) (rows : List Row) → Kept rows (marked s rows)
unfolding marked numbered placed firsts needed
kept_marked s rows =
    let ns = numbered rows in
    let ps = placed s ns in
    let fs = firsts s ps in
    let n = kept_swept (KeptBy rows) number_one (number_keeps rows) (length rows) 0 (pass 0 rows) (record { size = refl; members = refl }) in
    let p = kept_swept (Kept rows) (place_one s) (place_keeps rows s) (length ns) 0 ns n in
    let f = kept_swept (Kept rows) (first_one s) (first_keeps rows s) (length ps) 0 ps p in
    kept_swept (KeptBy rows) (need_one s) (needs_keep rows s) (length fs) 0 (pass 0 fs) f

pub marked_size : (s : List ℕ) (rows : List Row) → length (marked s rows) ≡ length rows
marked_size s rows = (kept_marked s rows).size

pub marked_members : (s : List ℕ) (rows : List Row) → members_in (marked s rows) ≡ members_in rows
marked_members s rows = (kept_marked s rows).members

-- ---- the bound

pub copy_small : (δ : ℕ) (s : List ℕ) (rows : List Row) → length s ≤ 16777216 → length rows ≤ 16777216 → members_in rows ≤ length s
    → ((j : ℕ) → (get_or (marked s rows) j blank).count < 4294967296) → length (copy_of δ s (marked s rows)) ≤ 18446744073709551615
copy_small δ s rows short few h words =
    let a = copy_long δ s (marked s rows) short words in
    let b = marked_size s rows in
    let c = marked_members s rows in
    omega arith
