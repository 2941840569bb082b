-- What the pass leaves in a library's first row: the number that the library has in the table of names, and the place of the field that entered it.
use Rattle.std.specs.Prelude.{ℕ, zero, suc, ◌+◌, ◌-◌, ◌≤◌, ◌<◌, ◌≡◌, refl, Bool, true, false, ◌&&◌, length, get_or, set, eqb}
use Rattle.std.proofs.Common.{sym, ◌∙◌, true≢false, length-append, get_or-set_same, get_or-set_other}
use Rattle.std.proofs.Math.Path.{ap}
use mathlib.Core.List.{List, [], ◌∷◌, ◌++◌}
use native.Mathlib.Omega.{arith}
use borrow.Author.Tests.{eqb-true, eqb-false, eq-eqb, ne_eqb}
use Rattle.format.specs.declared.Row.{Row}
use Rattle.format.specs.Bytes.{pick, same_bytes}
use Rattle.format.specs.Rows.{blank, with_link}
use Rattle.format.specs.Says.{text_from}
use Rattle.format.specs.Tidy.{number_in, Libraries, entered, all_entered}
use Rattle.same.specs.Laws.{same_eq, same_refl}
use Rattle.lookups.specs.Find.{find_hit}
use Rattle.laws.specs.Tests.{both_of}
use Rattle.laws.specs.Numbers.{Counted, counted_more, number_new, number_other, entered_new, entered_old, entered_has, all_more}
use Rattle.marks.specs.Marks.{Pass, pass, word, row_at, with_slot, library_at, need, needed}
use Rattle.meaning.specs.Marked.{name_at_field, names_of, library_first, fields_from, All, none, both}
use Rattle.meaning.specs.Entered.{libraries_for}
use Rattle.meaning.specs.Needs.{Like, Aimed, like_self, like_at, entering, need_is, need_like, need_all, all_needs, all_keeps, all_left, all_right, all_first, needed_fields, needed_like}

-- ---- premises

-- places from b on, rising, all before e
pub data Rising (e : ℕ) : ℕ → List ℕ → Type 0 where
  no_more : {b : ℕ} → b ≤ e → Rising e b []
  next : {b p : ℕ} {ps : List ℕ} → b ≤ p → Rising e (suc p) ps → Rising e b (p ∷ ps)

-- the field at p names a library by the first row with its name
pub record Named (s : List ℕ) (rows fs : List Row) (p : ℕ) : Type 0 where
  pub aimed : Aimed s fs p
  pub first : library_at s fs p ≡ library_first s rows (name_at_field s rows p)

-- the fields of rows that have their first rows, before libraries are numbered
pub record Fields (s : List ℕ) (rows fs : List Row) : Type 0 where
  pub named : All (Named s rows fs) (fields_from s 0 fs)
  pub limit : ℕ
  pub small : limit < 4294967296
  pub rising : Rising limit 0 (fields_from s 0 fs)
  pub fresh : (j : ℕ) → j < length fs → (get_or fs j blank).kind ≡ 12 → (get_or fs j blank).slot ≡ 0

-- ---- rising places

pub rising_le : (e b : ℕ) (ps : List ℕ) → Rising e b ps → b ≤ e
rising_le e b [] (no_more h) = h
rising_le e b (p ∷ ps) (next h r) = let l = rising_le e (suc p) ps r in omega arith

pub rising_from : (e b m : ℕ) (ps : List ℕ) → b ≤ m → Rising e m ps → Rising e b ps
rising_from e b m [] h (no_more l) = no_more {b = b} (omega arith)
rising_from e b m (p ∷ ps) h (next l r) = next {b = b} {p = p} (omega arith) r

pub rising_append : (e m b : ℕ) (ps qs : List ℕ) → Rising m b ps → Rising e m qs → Rising e b (ps ++ qs)
rising_append e m b [] qs (no_more h) q = rising_from e b m qs h q
rising_append e m b (p ∷ ps) qs (next h r) q = next h (rising_append e m (suc p) ps qs r q)

-- the places before p are below it
pub rising_before : (e b : ℕ) (ps : List ℕ) (p : ℕ) (qs : List ℕ) → Rising e b (ps ++ (p ∷ qs)) → Rising p b ps
rising_before e b [] p qs (next h r) = no_more h
rising_before e b (x ∷ ps) p qs (next h r) = next h (rising_before e (suc x) ps p qs r)

pub rising_at : (e b : ℕ) (ps : List ℕ) (p : ℕ) (qs : List ℕ) → Rising e b (ps ++ (p ∷ qs)) → p < e
rising_at e b [] p qs (next h r) = rising_le e (suc p) qs r
rising_at e b (x ∷ ps) p qs (next h r) = rising_at e (suc x) ps p qs r

-- ---- first rows and names

-- a first row has one name
first_name : (s : List ℕ) (rows : List Row) (n : List ℕ) (j : ℕ) → library_first s rows n ≡ suc j → n ≡ text_from s ((get_or rows j blank).offset + 5)
unfolding library_first
first_name s rows n j e =
    let h = find_hit (λ (r : Row). eqb r.kind 12 && same_bytes n (text_from s (r.offset + 5))) rows j e in
    same_eq n (text_from s ((get_or rows j blank).offset + 5))
    (both_of (eqb (get_or rows j blank).kind 12) (same_bytes n (text_from s ((get_or rows j blank).offset + 5))) h.1).1

pub one_name : (s : List ℕ) (rows : List Row) (n m : List ℕ) (j : ℕ) → library_first s rows n ≡ suc j → library_first s rows m ≡ suc j → n ≡ m
one_name s rows n m j e f = first_name s rows n j e ∙ sym (first_name s rows m j f)

other_name : (s : List ℕ) (rows : List Row) (n m : List ℕ) (j k : ℕ) → library_first s rows n ≡ suc j → library_first s rows m ≡ suc k → (j ≡ k → ⊥)
    → same_bytes n m ≡ false
other_name s rows n m j k e f h = go (same_bytes n m) refl
  where
    go : (b : Bool) → same_bytes n m ≡ b → b ≡ false
    go true q =
        let w : suc j ≡ suc k = sym e ∙ ap (library_first s rows) (same_eq n m q) ∙ f in
        absurd (h (omega arith))
    go false q = refl

-- ---- rows against the table

-- the first row of the library of this name, when the table is ls and the fields so far are before b
pub record Stamped (ls : Libraries) (b : ℕ) (n : List ℕ) (g : Row) : Type 0 where
  pub number : (m : ℕ) → number_in (same_bytes n) ls ≡ suc m → g.link ≡ suc m
  pub stamp : eqb g.slot 0 ≡ eqb (number_in (same_bytes n) ls) 0
  pub low : g.slot ≤ b

pub record Inv (s : List ℕ) (rows fs : List Row) (ls : Libraries) (b : ℕ) (st : Pass) : Type 0 where
  pub count_is : st.count ≡ length ls
  pub few : length ls ≤ b
  pub counted : Counted ls
  pub like : Like fs st.rows
  pub each : (n : List ℕ) (j : ℕ) → library_first s rows n ≡ suc j → j < length fs → (get_or fs j blank).kind ≡ 12 → Stamped ls b n (get_or st.rows j blank)

stamped_from : (ls : Libraries) (b m : ℕ) (n : List ℕ) (g : Row) → b ≤ m → Stamped ls b n g → Stamped ls m n g
stamped_from ls b m n g h v = let l = v.low in record { number = v.number; stamp = v.stamp; low = omega arith }

inv_from : (s : List ℕ) (rows fs : List Row) (ls : Libraries) (b m : ℕ) (st : Pass) → b ≤ m → Inv s rows fs ls b st → Inv s rows fs ls m st
inv_from s rows fs ls b m st h v =
    let f = v.few in
    record {
      count_is = v.count_is;
      few = omega arith;
      counted = v.counted;
      like = v.like;
      each = λ n j e l k. stamped_from ls b m n (get_or st.rows j blank) h (v.each n j e l k);
    }

module _ (s : List ℕ) (rows fs : List Row) where
  inv_start : ((j : ℕ) → j < length fs → (get_or fs j blank).kind ≡ 12 → (get_or fs j blank).slot ≡ 0) → Inv s rows fs [] 0 (pass 0 fs)
  unfolding number_in
  inv_start fresh =
      record {
        count_is = refl;
        few = omega arith;
        counted = tt;
        like = like_self fs;
        each = λ n j e l k.
            let z = fresh j l k in
            record { number = λ m q. absurd (omega arith); stamp = eq-eqb (get_or fs j blank).slot 0 z; low = omega arith };
      }

  -- a library that is not in the table
  inv_new : (ls : Libraries) (b p k : ℕ) (n : List ℕ) (st : Pass) → b ≤ p → p < 4294967295 → library_first s rows n ≡ suc k → k < length fs
      → number_in (same_bytes n) ls ≡ 0 → Inv s rows fs ls b st
      → Like fs (entering p k st).rows
      → Inv s rows fs (ls ++ ((suc (length ls), n) ∷ [])) (suc p) (entering p k st)
  inv_new ls b p k n st h small f l e v w =
      record {
        count_is = c ∙ sym len;
        few = let x = v.few in let y = len in omega arith;
        counted = counted_more ls (length ls) n v.counted;
        like = w;
        each = λ m j q i y. go m j q i y (eqb j k) refl;
      }
    where
      more : Libraries
      more = ls ++ ((suc (length ls), n) ∷ [])

      g : Row
      g = with_link (with_slot (get_or st.rows k blank) (word (p + 1))) (word (st.count + 1))

      len : length more ≡ suc (length ls)
      len = let x = length-append ls ((suc (length ls), n) ∷ []) in omega arith

      c : word (st.count + 1) ≡ suc (length ls)
      c = let x = v.few in let y = v.count_is in omega arith

      new : number_in (same_bytes n) more ≡ suc (length ls)
      new = number_new (same_bytes n) ls (length ls) n v.counted (same_refl n) e

      stamped : Stamped more (suc p) n g
      stamped =
          let t : word (p + 1) ≡ suc p = omega arith in
          record {
            number = λ m q. c ∙ (sym new ∙ q);
            stamp = rw (t, new) (ne_eqb (suc p) 0 (λ q. omega arith) ∙ sym (ne_eqb (suc (length ls)) 0 (λ q. omega arith)));
            low = omega arith;
          }

      old : (m : List ℕ) (r : Row) → same_bytes m n ≡ false → Stamped ls b m r → Stamped more (suc p) m r
      old m r d x =
          let t = number_other (same_bytes m) ls (suc (length ls)) n d in
          let y = x.low in
          record { number = λ i q. x.number i (sym t ∙ q); stamp = x.stamp ∙ ap (λ (z : ℕ). eqb z 0) (sym t); low = omega arith }

      go : (m : List ℕ) (j : ℕ) → library_first s rows m ≡ suc j → j < length fs → (get_or fs j blank).kind ≡ 12 → (t : Bool) → eqb j k ≡ t
          → Stamped more (suc p) m (get_or (set st.rows k g) j blank)
      go m j q i y true t =
          let a = eqb-true j k t in
          let d : n ≡ m = one_name s rows n m k f (q ∙ ap suc a) in
          let z = v.like.size in
          rw (a, get_or-set_same st.rows k g blank (omega arith), ← d) stamped
      go m j q i y false t =
          let a = eqb-false j k t in
          rw (get_or-set_other st.rows k j g blank a) (old m (get_or st.rows j blank) (other_name s rows m n j k q f a) (v.each m j q i y))

  inv_step : (ls : Libraries) (b p : ℕ) (st : Pass) → b ≤ p → p < 4294967295 → Named s rows fs p → Inv s rows fs ls b st
      → Inv s rows fs (entered (name_at_field s rows p) ls) (suc p) (need s p st)
  inv_step ls b p st h small a v = go (number_in (same_bytes n) ls) refl
    where
      n : List ℕ
      n = name_at_field s rows p

      k : ℕ
      k = a.aimed.row

      f : library_first s rows n ≡ suc k
      f = sym a.first ∙ a.aimed.aims

      e : library_at s st.rows p ≡ suc k
      e = like_at s fs st.rows v.like p ∙ a.aimed.aims

      test : eqb (get_or st.rows k blank).slot 0 ≡ eqb (number_in (same_bytes n) ls) 0
      test = (v.each n k f a.aimed.inside a.aimed.library).stamp

      go : (x : ℕ) → number_in (same_bytes n) ls ≡ x → Inv s rows fs (entered n ls) (suc p) (need s p st)
      go zero q =
          let t = need_is s p k st true e (test ∙ eq-eqb (number_in (same_bytes n) ls) 0 q) in
          let w = need_like s fs p st a.aimed v.like in
          rw (entered_new n ls q, t) (inv_new ls b p k n st h small f a.aimed.inside q v (rw t at w))
      go (suc x) q =
          let t = need_is s p k st false e (test ∙ ne_eqb (number_in (same_bytes n) ls) 0 (λ y. omega arith)) in
          rw (entered_old n ls x q, t) (inv_from s rows fs ls b (suc p) st (omega arith) v)

  inv_all : (ps : List ℕ) (ls : Libraries) (b e : ℕ) (st : Pass) → e < 4294967296 → Rising e b ps → All (Named s rows fs) ps → Inv s rows fs ls b st
      → Inv s rows fs (all_entered (names_of s rows ps) ls) e (need_all s ps st)
  unfolding all_entered names_of need_all
  inv_all [] ls b e st small (no_more h) a v = inv_from s rows fs ls b e st h v
  inv_all (p ∷ ps) ls b e st small (next h r) (both q a) v =
      let l = rising_le e (suc p) ps r in
      inv_all ps (entered (name_at_field s rows p) ls) (suc p) e (need s p st) small r a (inv_step ls b p st h (omega arith) q v)

  -- the stamp of p stands in the row just when p entered the library
  stamp_step : (ls : Libraries) (p : ℕ) (st : Pass) → p < 4294967295 → (a : Named s rows fs p) → Inv s rows fs ls p st
      → eqb (get_or (need s p st).rows a.aimed.row blank).slot (word (p + 1)) ≡ eqb (number_in (same_bytes (name_at_field s rows p)) ls) 0
  stamp_step ls p st small a v = go (eqb (number_in (same_bytes n) ls) 0) (need_is s p k st (eqb (number_in (same_bytes n) ls) 0) e x.stamp) refl
    where
      n : List ℕ
      n = name_at_field s rows p

      k : ℕ
      k = a.aimed.row

      e : library_at s st.rows p ≡ suc k
      e = like_at s fs st.rows v.like p ∙ a.aimed.aims

      x : Stamped ls p n (get_or st.rows k blank)
      x = v.each n k (sym a.first ∙ a.aimed.aims) a.aimed.inside a.aimed.library

      g : Row
      g = with_link (with_slot (get_or st.rows k blank) (word (p + 1))) (word (st.count + 1))

      go : (t : Bool) → need s p st ≡ pick t (entering p k st) st → eqb (number_in (same_bytes n) ls) 0 ≡ t
          → eqb (get_or (need s p st).rows k blank).slot (word (p + 1)) ≡ t
      go true q t =
          let z = v.like.size in
          let i = a.aimed.inside in
          rw (q, get_or-set_same st.rows k g blank (omega arith)) (eq-eqb (word (p + 1)) (word (p + 1)) refl)
      go false q t =
          let l = x.low in
          let w : word (p + 1) ≡ suc p = omega arith in
          rw (q, w) (ne_eqb (get_or st.rows k blank).slot (suc p) (λ y. omega arith))

-- ---- what stands in the end

-- the first row of the library that the field at p names, when the fields before it entered ls
pub record Numbered (s : List ℕ) (rows fs : List Row) (ls : Libraries) (p : ℕ) : Type 0 where
  pub stamp : eqb (row_at (needed s fs) (library_at s fs p)).slot (word (p + 1)) ≡ eqb (number_in (same_bytes (name_at_field s rows p)) ls) 0
  pub number : (row_at (needed s fs) (library_at s fs p)).link ≡ number_in (same_bytes (name_at_field s rows p)) (entered (name_at_field s rows p) ls)
  pub later : (names : List (List ℕ)) → number_in (same_bytes (name_at_field s rows p)) (all_entered names (entered (name_at_field s rows p) ls))
      ≡ number_in (same_bytes (name_at_field s rows p)) (entered (name_at_field s rows p) ls)

pub all_aimed : (s : List ℕ) (rows fs : List Row) (ps : List ℕ) → All (Named s rows fs) ps → All (Aimed s fs) ps
all_aimed s rows fs [] none = none
all_aimed s rows fs (p ∷ ps) (both h a) = both h.aimed (all_aimed s rows fs ps a)

slot_some : (x m : ℕ) → eqb x 0 ≡ eqb (suc m) 0 → (y : ℕ) × (x ≡ suc y)
slot_some zero m e = absurd (true≢false (e ∙ ne_eqb (suc m) 0 (λ q. omega arith)))
slot_some (suc y) m e = (y, refl)

module _ (s : List ℕ) (rows fs : List Row) (F : Fields s rows fs) where
  pub needed_same : Like fs (needed s fs)
  needed_same = needed_like s fs (all_aimed s rows fs (fields_from s 0 fs) F.named)

  -- rows in the end, after the fields before p, p and the fields after it
  needed_split : (ps : List ℕ) (p : ℕ) (qs : List ℕ) → ps ++ (p ∷ qs) ≡ fields_from s 0 fs
      → needed s fs ≡ (need_all s qs (need s p (need_all s ps (pass 0 fs)))).rows
  unfolding need_all
  needed_split ps p qs e =
      needed_fields s fs (all_aimed s rows fs (fields_from s 0 fs) F.named)
      ∙ (ap (λ (xs : List ℕ). (need_all s xs (pass 0 fs)).rows) (sym e) ∙ ap (λ (st : Pass). st.rows) (all_needs s ps (p ∷ qs) (pass 0 fs)))

  pub numbered_field : (ps : List ℕ) (p : ℕ) (qs : List ℕ) → ps ++ (p ∷ qs) ≡ fields_from s 0 fs → Numbered s rows fs (libraries_for s rows ps) p
  numbered_field ps p qs e =
      record {
        stamp = ap (λ (g : Row). eqb g.slot (word (p + 1))) row ∙ stamp_step s rows fs ls p before small a v;
        number = ap (λ (g : Row). g.link) row ∙ (x.number has.0 has.1 ∙ sym has.1);
        later = λ names. all_more names (entered n ls) (same_bytes n) has.0 has.1 ∙ sym has.1;
      }
    where
      n : List ℕ
      n = name_at_field s rows p

      ls : Libraries
      ls = libraries_for s rows ps

      before : Pass
      before = need_all s ps (pass 0 fs)

      named : All (Named s rows fs) (ps ++ (p ∷ qs))
      named = rw e F.named

      rising : Rising F.limit 0 (ps ++ (p ∷ qs))
      rising = rw e F.rising

      a : Named s rows fs p
      a = all_first (Named s rows fs) p qs (all_right (Named s rows fs) ps (p ∷ qs) named)

      k : ℕ
      k = a.aimed.row

      small : p < 4294967295
      small = let l = rising_at F.limit 0 ps p qs rising in let m = F.small in omega arith

      v : Inv s rows fs ls p before
      v = inv_all s rows fs ps [] 0 p (pass 0 fs) (omega (arith, small)) (rising_before F.limit 0 ps p qs rising) (all_left (Named s rows fs) ps (p ∷ qs) named)
          (inv_start s rows fs F.fresh)

      w : Inv s rows fs (entered n ls) (suc p) (need s p before)
      w = inv_step s rows fs ls p p before (omega arith) small a v

      x : Stamped (entered n ls) (suc p) n (get_or (need s p before).rows k blank)
      x = w.each n k (sym a.first ∙ a.aimed.aims) a.aimed.inside a.aimed.library

      has : (m : ℕ) × (number_in (same_bytes n) (entered n ls) ≡ suc m)
      has = entered_has n ls v.counted

      row : row_at (needed s fs) (library_at s fs p) ≡ get_or (need s p before).rows k blank
      row =
          let z : suc k - 1 ≡ k = omega arith in
          let f : library_at s fs p - 1 ≡ k = ap (λ (y : ℕ). y - 1) a.aimed.aims ∙ z in
          let y = slot_some (get_or (need s p before).rows k blank).slot has.0 (x.stamp ∙ ap (λ (i : ℕ). eqb i 0) has.1) in
          ap (λ (i : ℕ). get_or (needed s fs) i blank) f
          ∙ (ap (λ (rs : List Row). get_or rs k blank) (needed_split ps p qs e) ∙ all_keeps s qs k y.0 (need s p before) y.1)
