-- Libraries are numbered by first need: the pass goes through the fields that name them, in order, and leaves in a library's first row its new
-- number and the place of the field that needs it first.
use Prim.Native.Nat.{ℕ, zero, suc, ◌+◌, ◌-◌, ◌<◌}
use Rattle.std.specs.Prelude.{◌≡◌, Bool, length, set}
use Rattle.std.proofs.Math.Path.{refl, sym, ap}
use Rattle.std.proofs.Common.{◌∙◌, true≢false, arith, length-set, drop_of_length-le, drop-cons, get_or-set_same, get_or-set_other, eqb-true, eq-eqb}
use Rattle.std.proofs.Math.Bool.{true, false}
use mathlib.Core.List.{List, [], ◌∷◌, ◌++◌}
use Rattle.std.proofs.Math.Numerals.{add-one}
use Rattle.std.proofs.Math.ListN.{get_or, drop}
use Rattle.std.proofs.Math.Dec.{eqb}
use Rattle.std.proofs.lemmas.Bool.{eqb-false}
use Rattle.format.specs.declared.Row.{Row}
use Rattle.format.specs.Bytes.{pick}
use Rattle.format.specs.Rows.{blank, is_class, with_link}
use Rattle.format.specs.Types.{after_info}
use Rattle.marks.specs.Marks.{Pass, pass, sweep, word, with_slot, library_at, need, need_info, need_infos, need_class, item_type, need_array, is_first, needs_row, need_one, needed, infos_place}
use Rattle.meaning.specs.Marked.{info_fields, class_fields, array_fields, row_fields, fields_from, All, none, both}
use Rattle.meaning.specs.Passes.{looked, at_alike}

-- ---- every one of a list

module _ (P : ℕ → Type 0) where
  pub all_left : (xs ys : List ℕ) → All P (xs ++ ys) → All P xs
  all_left [] ys a = none
  all_left (x ∷ xs) ys (both p a) = both p (all_left xs ys a)

  pub all_right : (xs ys : List ℕ) → All P (xs ++ ys) → All P ys
  all_right [] ys a = a
  all_right (x ∷ xs) ys (both p a) = all_right xs ys a

  pub all_first : (x : ℕ) (xs : List ℕ) → All P (x ∷ xs) → P x
  all_first x xs (both p a) = p

pub all_so : (P Q : ℕ → Type 0) → ((x : ℕ) → P x → Q x) → (xs : List ℕ) → All P xs → All Q xs
all_so P Q f [] none = none
all_so P Q f (x ∷ xs) (both p a) = both (f x p) (all_so P Q f xs a)

-- ---- rows between the start of the pass and its end

-- a row but for its new number and the place of the field that needs it first
abbrev pub unneeded : Row → Row
unneeded r = with_link (with_slot r 0) 0

pub record Like (fs rs : List Row) : Type 0 where
  pub size : length rs ≡ length fs
  pub like : (j : ℕ) → unneeded (get_or rs j blank) ≡ unneeded (get_or fs j blank)
  pub kept : (j : ℕ) → eqb (get_or fs j blank).kind 12 ≡ false → get_or rs j blank ≡ get_or fs j blank

-- the field at p names a library that has a first row
pub record Aimed (s : List ℕ) (fs : List Row) (p : ℕ) : Type 0 where
  pub row : ℕ
  pub aims : library_at s fs p ≡ suc row
  pub inside : row < length fs
  pub library : (get_or fs row blank).kind ≡ 12

pub like_self : (fs : List Row) → Like fs fs
like_self fs = record { size = refl; like = λ j. refl; kept = λ j h. refl }

pub like_at : (s : List ℕ) (fs rs : List Row) → Like fs rs → (p : ℕ) → library_at s rs p ≡ library_at s fs p
like_at s fs rs v p = at_alike s rs fs v.size (λ j. ap looked (v.like j)) p

like_set : (fs rs : List Row) (k x y : ℕ) → k < length fs → (get_or fs k blank).kind ≡ 12 → Like fs rs
    → Like fs (set rs k (with_link (with_slot (get_or rs k blank) x) y))
like_set fs rs k x y l h v =
    record {
      size = length-set rs k (with_link (with_slot (get_or rs k blank) x) y) ∙ v.size;
      like = λ j. go j (eqb j k) refl;
      kept = λ j n. get_or-set_other rs k j (with_link (with_slot (get_or rs k blank) x) y) blank
          (λ q. true≢false (sym (eq-eqb (get_or fs k blank).kind 12 h) ∙ ap (λ (i : ℕ). eqb (get_or fs i blank).kind 12) (sym q) ∙ n)) ∙ v.kept j n;
    }
  where
    go : (j : ℕ) (b : Bool) → eqb j k ≡ b → unneeded (get_or (set rs k (with_link (with_slot (get_or rs k blank) x) y)) j blank) ≡ unneeded (get_or fs j blank)
    go j true q =
        let e = eqb-true j k q in
        let z = v.size in
        rw (e, get_or-set_same rs k (with_link (with_slot (get_or rs k blank) x) y) blank (omega arith)) (v.like k)
    go j false q = rw (get_or-set_other rs k j (with_link (with_slot (get_or rs k blank) x) y) blank (eqb-false j k q)) (v.like j)

-- ---- one field

-- row k, a library's first row, gets the next number and the place of its field
abbrev pub entering : ℕ → ℕ → Pass → Pass
entering p k st =
    pass (word (st.count + 1)) (set st.rows k (with_link (with_slot (get_or st.rows k blank) (word (p + 1))) (word (st.count + 1))))

-- it does if it has none
pub need_is : (s : List ℕ) (p k : ℕ) (st : Pass) (t : Bool) → library_at s st.rows p ≡ suc k → eqb (get_or st.rows k blank).slot 0 ≡ t
    → need s p st ≡ pick t (entering p k st) st
unfolding need
need_is s p k st t e q =
    let z : suc k - 1 ≡ k = omega arith in
    rw (e, z, q)

pub need_like : (s : List ℕ) (fs : List Row) (p : ℕ) (st : Pass) → Aimed s fs p → Like fs st.rows → Like fs (need s p st).rows
need_like s fs p st a v =
    let e : library_at s st.rows p ≡ suc a.row = like_at s fs st.rows v p ∙ a.aims in
    go (eqb (get_or st.rows a.row blank).slot 0) (need_is s p a.row st (eqb (get_or st.rows a.row blank).slot 0) e refl)
  where
    go : (t : Bool) → need s p st ≡ pick t (entering p a.row st) st → Like fs (need s p st).rows
    go true q = rw q (like_set fs st.rows a.row (word (p + 1)) (word (st.count + 1)) a.inside a.library v)
    go false q = rw q v

-- a row that has a number keeps it
need_keeps : (s : List ℕ) (p j x : ℕ) (st : Pass) → (get_or st.rows j blank).slot ≡ suc x → get_or (need s p st).rows j blank ≡ get_or st.rows j blank
unfolding need
need_keeps s p j x st h = go (library_at s st.rows p - 1) (eqb (get_or st.rows (library_at s st.rows p - 1) blank).slot 0) refl
  where
    go : (k : ℕ) (t : Bool) → eqb (get_or st.rows k blank).slot 0 ≡ t → get_or (pick t (entering p k st) st).rows j blank ≡ get_or st.rows j blank
    go k true q =
        let e = eqb-true (get_or st.rows k blank).slot 0 q in
        get_or-set_other st.rows k j (with_link (with_slot (get_or st.rows k blank) (word (p + 1))) (word (st.count + 1))) blank
        (λ y. let w : (get_or st.rows j blank).slot ≡ (get_or st.rows k blank).slot = ap (λ (i : ℕ). (get_or st.rows i blank).slot) y in omega arith)
    go k false q = refl

-- ---- all fields

unfoldable pub need_all : List ℕ → List ℕ → Pass → Pass
need_all s [] st = st
need_all s (p ∷ ps) st = need_all s ps (need s p st)

pub all_needs : (s : List ℕ) (ps qs : List ℕ) (st : Pass) → need_all s (ps ++ qs) st ≡ need_all s qs (need_all s ps st)
unfolding need_all
all_needs s [] qs st = refl
all_needs s (p ∷ ps) qs st = all_needs s ps qs (need s p st)

pub all_like : (s : List ℕ) (fs : List Row) (ps : List ℕ) (st : Pass) → All (Aimed s fs) ps → Like fs st.rows → Like fs (need_all s ps st).rows
unfolding need_all
all_like s fs [] st a v = v
all_like s fs (p ∷ ps) st (both h a) v = all_like s fs ps (need s p st) a (need_like s fs p st h v)

pub all_keeps : (s : List ℕ) (ps : List ℕ) (j x : ℕ) (st : Pass) → (get_or st.rows j blank).slot ≡ suc x
    → get_or (need_all s ps st).rows j blank ≡ get_or st.rows j blank
unfolding need_all
all_keeps s [] j x st h = refl
all_keeps s (p ∷ ps) j x st h =
    let e = need_keeps s p j x st h in
    all_keeps s ps j x (need s p st) (ap (λ (r : Row). r.slot) e ∙ h) ∙ e

module _ (s : List ℕ) where
  one_need : (t : Bool) (p : ℕ) (st : Pass) → pick t (need s p st) st ≡ need_all s (pick t (p ∷ []) []) st
  unfolding need_all
  one_need true p st = refl
  one_need false p st = refl

  infos_need : (n types p : ℕ) (st : Pass) → need_infos s n types p st ≡ need_all s (info_fields s n types p) st
  unfolding need_infos info_fields need_all need_info
  infos_need zero types p st = refl
  infos_need (suc n) types p st =
      let e = after_info s (get_or s types 0) p in
      let t = eqb (get_or s types 0) 4 in
      infos_need n (types + 1) e (pick t (need s (e - 4) st) st)
      ∙ (ap (need_all s (info_fields s n (types + 1) e)) (one_need t (e - 4) st)
      ∙ sym (all_needs s (pick t ((e - 4) ∷ []) []) (info_fields s n (types + 1) e) st))

  class_needs_lem : (r : Row) (st : Pass) → need_class s r st ≡ need_all s (class_fields s r) st
  unfolding need_class class_fields
  class_needs_lem r st =
      let own = pick (eqb r.kind 5) ((r.end - 4) ∷ []) [] in
      let e = infos_need r.count r.slot (infos_place r) st in
      ap (λ (x : Pass). pick (eqb r.kind 5) (need s (r.end - 4) x) x) e
      ∙ (one_need (eqb r.kind 5) (r.end - 4) (need_all s (info_fields s r.count r.slot (infos_place r)) st)
      ∙ sym (all_needs s (info_fields s r.count r.slot (infos_place r)) own st))

  array_needs : (r : Row) (st : Pass) → need_array s r st ≡ need_all s (array_fields s r) st
  unfolding need_array need_info array_fields
  array_needs r st = one_need (eqb (get_or s (item_type s r) 0) 4) (after_info s (get_or s (item_type s r) 0) (item_type s r + 1) - 4) st

  row_needs_lem : (i : ℕ) (r : Row) (st : Pass) → needs_row s i r st ≡ need_all s (row_fields s i r) st
  unfolding row_fields need_all
  row_needs_lem i r st = go (is_first i r) (eqb r.kind 7)
    where
      go : (a b : Bool) → pick a (need_class s r st) (pick b (need_array s r st) st) ≡ need_all s (pick a (class_fields s r) (pick b (array_fields s r) [])) st
      go true b = class_needs_lem r st
      go false true = array_needs r st
      go false false = refl

  -- a library's own row needs nothing
  no_fields : (i : ℕ) (r : Row) → r.kind ≡ 12 → row_fields s i r ≡ []
  unfolding row_fields
  no_fields i r k =
      let c : is_class r.kind ≡ false = ap is_class k in
      let n : eqb r.kind 7 ≡ false = ap (λ (x : ℕ). eqb x 7) k in
      rw (c, n)

  -- rows that are like the first ones have their fields
  like_fields : (fs rs : List Row) (i : ℕ) → Like fs rs → row_fields s i (get_or rs i blank) ≡ row_fields s i (get_or fs i blank)
  like_fields fs rs i v = go (eqb (get_or fs i blank).kind 12) refl
    where
      go : (b : Bool) → eqb (get_or fs i blank).kind 12 ≡ b → row_fields s i (get_or rs i blank) ≡ row_fields s i (get_or fs i blank)
      go true q =
          let k = eqb-true (get_or fs i blank).kind 12 q in
          no_fields i (get_or rs i blank) (ap (λ (r : Row). r.kind) (v.like i) ∙ k) ∙ sym (no_fields i (get_or fs i blank) k)
      go false q = ap (row_fields s i) (v.kept i q)

  one_needs : (fs : List Row) (i : ℕ) (st : Pass) → Like fs st.rows → need_one s i st ≡ need_all s (row_fields s i (get_or fs i blank)) st
  unfolding need_one
  one_needs fs i st v = row_needs_lem i (get_or st.rows i blank) st ∙ ap (λ (ps : List ℕ). need_all s ps st) (like_fields fs st.rows i v)

  sweep_needs : (fs : List Row) (k i : ℕ) (st : Pass) → i + k ≡ length fs → Like fs st.rows → All (Aimed s fs) (fields_from s i (drop i fs))
      → sweep (need_one s) k i st ≡ need_all s (fields_from s i (drop i fs)) st
  unfolding sweep fields_from need_all
  sweep_needs fs zero i st l v a = rw (drop_of_length-le fs {i = i} (omega arith))
  sweep_needs fs (suc k) i st l v a =
      let d : drop i fs ≡ get_or fs i blank ∷ drop (i + 1) fs = rw add-one (drop-cons fs i blank (omega arith)) in
      let here = row_fields s i (get_or fs i blank) in
      let more = fields_from s (i + 1) (drop (i + 1) fs) in
      let b : All (Aimed s fs) (here ++ more) = rw d at a in
      let e = one_needs fs i st v in
      let w : Like fs (need_one s i st).rows = rw e (all_like s fs here st (all_left (Aimed s fs) here more b) v) in
      rw d (sweep_needs fs k (i + 1) (need_one s i st) (omega arith) w (all_right (Aimed s fs) here more b)
      ∙ (ap (need_all s more) e ∙ sym (all_needs s here more st)))

-- the pass goes through the fields in order
module _ (s : List ℕ) (fs : List Row) (a : All (Aimed s fs) (fields_from s 0 fs)) where
  pub needed_fields : needed s fs ≡ (need_all s (fields_from s 0 fs) (pass 0 fs)).rows
  unfolding needed
  needed_fields = ap (λ (st : Pass). st.rows) (sweep_needs s fs (length fs) 0 (pass 0 fs) (omega arith) (like_self fs) a)

  -- rows keep all words but number and stamp, and rows that are no library's keep these too
  pub needed_like : Like fs (needed s fs)
  needed_like = rw needed_fields (all_like s fs (fields_from s 0 fs) (pass 0 fs) a (like_self fs))
