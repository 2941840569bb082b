-- What each writer of libraries and classes puts out: one law for each way that it ends.
use Prim.Native.Nat.{ℕ, suc, ◌+◌, ◌-◌, ◌%◌, ◌≤◌, ◌<◌}
use Rattle.std.specs.Prelude.{◌≡◌, Bool, true, false, ◌||◌, List, [], ◌++◌, get_or, eqb}
use Rattle.std.proofs.Math.Path.{refl, ap}
use Rattle.std.proofs.Common.{sym, ap₂, ◌∙◌}
use native.Mathlib.Omega.{arith}
use borrow.Author.Tests.{eq-eqb, ne_eqb}
use Rattle.format.specs.declared.Row.{Row}
use Rattle.format.specs.Bytes.{pick}
use Rattle.format.specs.Numbers.{le_bytes}
use Rattle.format.specs.Rows.{is_class}
use Rattle.format.specs.Types.{after_text, after_info}
use Rattle.format.specs.Says.{is_nulls}
use Rattle.put.specs.Out.{between, text_out, texts_out, head_out, by_id_out, header_out}
use Rattle.put.specs.Put.{Along, along_start}
use Rattle.marks.specs.Marks.{row_at, word, library_at, infos_place, is_first}
use Rattle.pieces.specs.Copy.{library_number, library_out, need_out, need_info_out, need_infos_out, need_own_out, need_class_out, info_out, infos_out, own_out, details_out, members_out, class_out, object_out, typed_out, member_out, string_out, array_out, primitives_out, kept_out, record_out}

-- ---- what is written as two pieces
pub library_is : (s : List ℕ) (g : Row) → library_out s g ≡ head_out 12 g.link ++ text_out s (g.offset + 5)
unfolding library_out
library_is s g = refl

module _ (s : List ℕ) (rs : List Row) (r : Row) where
  pub need_class_is : need_class_out s rs r ≡ need_infos_out s rs r.count r.slot (infos_place r) ++ need_own_out s rs r
  unfolding need_class_out
  need_class_is = refl

  pub details_is : details_out s rs r ≡ infos_out s rs r.count r.slot (infos_place r) ++ own_out s rs r
  unfolding details_out
  details_is = refl

  pub members_is : (p : ℕ) → p ≡ after_text s (r.offset + 5)
      → members_out s rs r ≡ texts_out s r.count (p + 4) ++ (between s r.slot (infos_place r) ++ details_out s rs r)
  unfolding members_out
  members_is p x = rw x

  pub class_is : class_out s rs r ≡ head_out (r.kind % 256) r.id ++ (text_out s (r.offset + 5) ++ (le_bytes 4 r.count ++ members_out s rs r))
  unfolding class_out
  class_is = refl

-- ---- libraries
module _ (s : List ℕ) (rs : List Row) where
  module _ (p f mark : ℕ) (g : Row) (x : f ≡ library_at s rs p) (y : g ≡ row_at rs f) (z : mark ≡ word (p + 1)) where
    need_of_lem : need_out s rs p ≡ pick (eqb g.slot mark) (library_out s g) []
    unfolding need_out
    need_of_lem = rw (z, y, x)

    pub need_here : g.slot ≡ mark → need_out s rs p ≡ library_out s g
    need_here h = need_of_lem ∙ rw (eq-eqb _ _ h)

    pub need_none : (g.slot ≡ mark → ⊥) → need_out s rs p ≡ []
    need_none h = need_of_lem ∙ rw (ne_eqb _ _ h)

  pub need_info_4 : (kind e p : ℕ) → kind ≡ 4 → p ≡ e - 4 → need_info_out s rs kind e ≡ need_out s rs p
  unfolding need_info_out
  need_info_4 kind e p h x = rw (h, x)

  pub need_info_none : (kind e : ℕ) → (kind ≡ 4 → ⊥) → need_info_out s rs kind e ≡ []
  unfolding need_info_out
  need_info_none kind e h = rw (ne_eqb _ _ h)

  module _ (kind p e : ℕ) where
    pub info_4 : (m l : ℕ) → kind ≡ 4 → m ≡ e - 4 → l ≡ library_number s rs m → info_out s rs kind p e ≡ text_out s p ++ le_bytes 4 l
    unfolding info_out
    info_4 m l h x y = rw (h, y, x)

    pub info_3 : kind ≡ 3 → info_out s rs kind p e ≡ text_out s p
    unfolding info_out
    info_3 h = rw h

    pub info_none : (kind ≡ 4 → ⊥) → (kind ≡ 3 → ⊥) → info_out s rs kind p e ≡ between s p e
    unfolding info_out
    info_none h k = rw (ne_eqb _ _ h, ne_eqb _ _ k)

  module _ (r : Row) where
    pub need_own_5 : (p : ℕ) → r.kind ≡ 5 → p ≡ r.end - 4 → need_own_out s rs r ≡ need_out s rs p
    need_own_5 p h x = rw (eq-eqb _ _ h, x)

    pub need_own_none : (r.kind ≡ 5 → ⊥) → need_own_out s rs r ≡ []
    need_own_none h = rw (ne_eqb _ _ h)

    pub own_5 : (p l : ℕ) → r.kind ≡ 5 → p ≡ r.end - 4 → l ≡ library_number s rs p → own_out s rs r ≡ le_bytes 4 l
    own_5 p l h x y = rw (eq-eqb _ _ h, y, x)

    pub own_none : (r.kind ≡ 5 → ⊥) → own_out s rs r ≡ []
    own_none h = rw (ne_eqb _ _ h)

    pub object_first : (i : ℕ) (t : Bool) → t ≡ is_first i r → t ≡ true → object_out s rs i r ≡ need_class_out s rs r ++ class_out s rs r
    unfolding object_out
    object_first i t x h =
        ap (λ (q : Bool). pick q (need_class_out s rs r ++ class_out s rs r) (by_id_out r.id (row_at rs r.link).id)) (sym x ∙ h)

    pub object_later : (i : ℕ) (t : Bool) (g : Row) → t ≡ is_first i r → t ≡ false → g ≡ row_at rs r.link → object_out s rs i r ≡ by_id_out r.id g.id
    unfolding object_out
    object_later i t g x h y =
        ap (λ (q : Bool). pick q (need_class_out s rs r ++ class_out s rs r) (by_id_out r.id (row_at rs r.link).id)) (sym x ∙ h)
        ∙ ap (λ (q : Row). by_id_out r.id q.id) (sym y)

  -- ---- the details of a class's members: c of them, of which i are written; t is where their type bytes stand
  module _ (c t p : ℕ) (d : List ℕ) where
    pub needs_start : Along (need_infos_out s rs c t p) (need_infos_out s rs (c - 0) (t + 0) p) d d 0
    needs_start =
        along_start (need_infos_out s rs c t p) (need_infos_out s rs (c - 0) (t + 0) p) d
        (ap₂ (λ (k q : ℕ). need_infos_out s rs k q p) (omega arith) (omega arith))

    pub infos_start : Along (infos_out s rs c t p) (infos_out s rs (c - 0) (t + 0) p) d d 0
    infos_start =
        along_start (infos_out s rs c t p) (infos_out s rs (c - 0) (t + 0) p) d
        (ap₂ (λ (k q : ℕ). infos_out s rs k q p) (omega arith) (omega arith))

  module _ (c i t p kind e : ℕ) (h : i < c) (x : kind ≡ get_or s (t + i) 0) (y : e ≡ after_info s kind p) where
    pub needs_more : need_infos_out s rs (c - i) (t + i) p ≡ need_info_out s rs kind e ++ need_infos_out s rs (c - (i + 1)) (t + (i + 1)) e
    unfolding need_infos_out
    needs_more =
        let o : c - i ≡ suc (c - (i + 1)) = omega arith in
        let z : t + i + 1 ≡ t + (i + 1) = omega arith in
        rw (o, ← x, ← y, z)

    pub infos_more : infos_out s rs (c - i) (t + i) p ≡ info_out s rs kind p e ++ infos_out s rs (c - (i + 1)) (t + (i + 1)) e
    unfolding infos_out
    infos_more =
        let o : c - i ≡ suc (c - (i + 1)) = omega arith in
        let z : t + i + 1 ≡ t + (i + 1) = omega arith in
        rw (o, ← x, ← y, z)

  module _ (c i t p : ℕ) (h : c ≤ i) where
    pub needs_end : need_infos_out s rs (c - i) t p ≡ []
    unfolding need_infos_out
    needs_end = let o : c - i ≡ 0 = omega arith in rw o

    pub infos_end : infos_out s rs (c - i) t p ≡ []
    unfolding infos_out
    infos_end = let o : c - i ≡ 0 = omega arith in rw o

-- ---- one clause for each kind of row
module _ (δ : ℕ) (s : List ℕ) (rs : List Row) (i : ℕ) (r : Row) where
  -- what is written of a row if its kind is k
  abbrev pub record_as : ℕ → List ℕ
  record_as k =
      pick (eqb k 0) (header_out (row_at rs r.link).id)
      (pick (eqb k 1) (by_id_out r.id (row_at rs (row_at rs r.link).link).id)
      (pick (is_class k) (object_out s rs i r)
      (pick (eqb k 6) (string_out s r)
      (pick (eqb k 7) (array_out δ s rs r)
      (pick (eqb k 8) (typed_out δ s r)
      (pick (eqb k 9) (head_out 9 (row_at rs r.link).id)
      (pick (is_nulls k || eqb k 12) []
      (pick (eqb k 15) (primitives_out δ s r)
      (pick (eqb k 16 || eqb k 17) (kept_out s r)
      (pick (eqb k 32) (member_out δ s r)
      (between s r.offset r.end)))))))))))

  pub record_as_lem : (k : ℕ) → r.kind ≡ k → record_out δ s rs i r ≡ record_as k
  unfolding record_out
  record_as_lem k e = ap record_as e
