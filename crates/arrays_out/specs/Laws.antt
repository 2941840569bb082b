-- What each writer of arrays and of kept objects puts out, and one law for each kind of row.
use Rattle.std.specs.Prelude.{ℕ, ◌+◌, ◌%◌, ◌≤◌, ◌<◌, ◌≡◌, Bool, ◌&&◌, List, [], ◌++◌, get_or, eqb}
use Rattle.std.proofs.Math.Path.{refl, ap}
use Rattle.std.proofs.Common.{sym, ◌∙◌, arith, ne_eqb}
use Rattle.std.proofs.Math.Decide.{dec_lt}
use Rattle.format.specs.declared.Row.{Row}
use Rattle.format.specs.Types.{after_info}
use Rattle.put.specs.Out.{between, text_out, head_out, by_id_out, header_out}
use Rattle.marks.specs.Marks.{row_at, item_type}
use Rattle.pieces.specs.Laws.{record_as_lem}
use Rattle.pieces.specs.Copy.{need_info_out, info_out, value_out, values_out, typed_out, items_out, body_out, array_out, primitive_items_out, primitives_out, kept_out, object_out, string_out, record_out}

-- ---- what is written as two pieces
pub kept_is : (s : List ℕ) (r : Row) → kept_out s r ≡ head_out (r.kind % 256) r.id ++ between s (r.offset + 5) r.end
unfolding kept_out
kept_is s r = refl

pub string_is : (s : List ℕ) (r : Row) → string_out s r ≡ head_out 6 r.id ++ text_out s (r.offset + 5)
unfolding string_out
string_is s r = refl

pub primitives_is : (δ : ℕ) (s : List ℕ) (r : Row) → primitives_out δ s r ≡ head_out 15 r.id ++ primitive_items_out δ s r
unfolding primitives_out
primitives_is δ s r = refl

-- code is the byte of the primitive type
module _ (δ : ℕ) (s : List ℕ) (r : Row) (code : ℕ) where
  pub typed_is : code ≡ get_or s (r.offset + 1) 0
      → typed_out δ s r ≡ between s r.offset (r.offset + 2) ++ value_out s (eqb code δ) (r.offset + 2) r.end
  unfolding typed_out
  typed_is x = rw x

  pub primitive_items_is : code ≡ get_or s (r.offset + 9) 0
      → primitive_items_out δ s r ≡ between s (r.offset + 5) (r.offset + 10) ++ values_out s (eqb code δ) r.count (r.offset + 10) r.end
  unfolding primitive_items_out
  primitive_items_is x = rw x

module _ (δ : ℕ) (s : List ℕ) (rs : List Row) (r : Row) where
  -- kind is the byte of the item type at p
  module _ (p e kind : ℕ) (x : kind ≡ get_or s p 0) where
    pub items_is : (t : Bool) → t ≡ (eqb kind 0 && eqb (get_or s (p + 1) 0) δ)
        → items_out δ s rs p e r ≡ info_out s rs kind (p + 1) e ++ values_out s t r.count e r.end
    unfolding items_out
    items_is t y = rw (y, x)

    pub array_is : p ≡ item_type s r → e ≡ after_info s kind (p + 1) → array_out δ s rs r ≡ need_info_out s rs kind e ++ body_out δ s rs p e r
    unfolding array_out
    array_is y z =
        let t : e ≡ after_info s (get_or s p 0) (p + 1) = z ∙ ap (λ (k : ℕ). after_info s k (p + 1)) x in
        rw (← y, ← t, ← x)

  pub body_is : (p e : ℕ) → body_out δ s rs p e r ≡ head_out 7 r.id ++ (between s (r.offset + 5) (p + 1) ++ items_out δ s rs p e r)
  unfolding body_out
  body_is p e = refl

-- ---- one clause for each kind
module _ (δ : ℕ) (s : List ℕ) (rs : List Row) (i : ℕ) (r : Row) where
  pub record_0 : (t : Row) → r.kind ≡ 0 → t ≡ row_at rs r.link → record_out δ s rs i r ≡ header_out t.id
  record_0 t h x = record_as_lem δ s rs i r 0 h ∙ ap (λ (q : Row). header_out q.id) (sym x)

  pub record_1 : (c t : Row) → r.kind ≡ 1 → c ≡ row_at rs r.link → t ≡ row_at rs c.link → record_out δ s rs i r ≡ by_id_out r.id t.id
  record_1 c t h x y =
      record_as_lem δ s rs i r 1 h ∙ ap (λ (q : Row). by_id_out r.id q.id) (sym (y ∙ ap (λ (q : Row). row_at rs q.link) x))

  pub record_9 : (t : Row) → r.kind ≡ 9 → t ≡ row_at rs r.link → record_out δ s rs i r ≡ head_out 9 t.id
  record_9 t h x = record_as_lem δ s rs i r 9 h ∙ ap (λ (q : Row). head_out 9 q.id) (sym x)

  -- two kinds or three that are written alike
  pub record_class : 4 ≤ r.kind → r.kind < 6 → record_out δ s rs i r ≡ object_out s rs i r
  record_class l u = go (dec_lt r.kind 5)
    where
      go : Dec (r.kind < 5) → record_out δ s rs i r ≡ object_out s rs i r
      go (yes h) = record_as_lem δ s rs i r 4 (omega arith)
      go (no h) = record_as_lem δ s rs i r 5 (omega arith)

  pub record_kept : 16 ≤ r.kind → r.kind < 18 → record_out δ s rs i r ≡ kept_out s r
  record_kept l u = go (dec_lt r.kind 17)
    where
      go : Dec (r.kind < 17) → record_out δ s rs i r ≡ kept_out s r
      go (yes h) = record_as_lem δ s rs i r 16 (omega arith)
      go (no h) = record_as_lem δ s rs i r 17 (omega arith)

  pub record_passed : 12 ≤ r.kind → r.kind < 15 → record_out δ s rs i r ≡ []
  record_passed l u = go (dec_lt r.kind 13) (dec_lt r.kind 14)
    where
      go : Dec (r.kind < 13) → Dec (r.kind < 14) → record_out δ s rs i r ≡ []
      go (yes h) b = record_as_lem δ s rs i r 12 (omega arith)
      go (no h) (yes g) = record_as_lem δ s rs i r 13 (omega arith)
      go (no h) (no g) = record_as_lem δ s rs i r 14 (omega arith)

  abbrev Not : ℕ → Type 0
  Not k = r.kind ≡ k → ⊥

  pub record_other : Not 0 → Not 1 → Not 4 → Not 5 → Not 6 → Not 7 → Not 8 → Not 9 → Not 10 → Not 12 → Not 13 → Not 14 → Not 15 → Not 16 → Not 17 → Not 32
      → record_out δ s rs i r ≡ between s r.offset r.end
  record_other a b c d e f p g h j k l m n o q =
      record_as_lem δ s rs i r r.kind refl
      ∙ rw (
        ne_eqb _ _ a,
        ne_eqb _ _ b,
        ne_eqb _ _ c,
        ne_eqb _ _ d,
        ne_eqb _ _ e,
        ne_eqb _ _ f,
        ne_eqb _ _ p,
        ne_eqb _ _ g,
        ne_eqb _ _ h,
        ne_eqb _ _ k,
        ne_eqb _ _ l,
        ne_eqb _ _ j,
        ne_eqb _ _ m,
        ne_eqb _ _ n,
        ne_eqb _ _ o,
        ne_eqb _ _ q,
      )
