-- Libraries numbered by first need: a field, the details of members, a class, an item type, a row.
use Prim.Native.Nat.{ℕ, suc, ◌+◌, ◌-◌, ◌≤◌, ◌<◌}
use Rattle.std.specs.Prelude.{◌≡◌, Bool, true, false, List, get_or, set}
use Rattle.std.proofs.Math.Path.{ap}
use Rattle.std.proofs.Common.{◌∙◌}
use native.Mathlib.Omega.{arith}
use borrow.Author.Tests.{eq-eqb, ne_eqb}
use Rattle.format.specs.declared.Row.{Row}
use Rattle.format.specs.Rows.{blank, with_link}
use Rattle.format.specs.Types.{after_info}
use Rattle.marks.specs.Marks.{row_at, with_slot, word, Pass, pass, library_at, infos_place, need, need_info, need_infos, need_own, need_class, item_type, need_array, is_first, need_one}

module _ (s : List ℕ) where
  -- ---- a field

  module _ (rows : List Row) (p c f : ℕ) (g : Row) (x : f ≡ library_at s rows p) (y : g ≡ row_at rows f) where
    pub need_first : (next : List Row) (v w z j : ℕ) (a b : Row) → g.slot ≡ 0 → v ≡ word (c + 1) → w ≡ word p → z ≡ word (w + 1) → a ≡ with_slot g z
        → b ≡ with_link a v → j ≡ f - 1 → next ≡ set rows j b → pass v next ≡ need s p (pass c rows)
    unfolding need
    need_first next v w z j a b h e k l m n o q =
        let place : z ≡ word (p + 1) = omega arith in
        rw (← x, ← y, eq-eqb _ _ h, q, o, n, m, place, e)

    pub need_again : (g.slot ≡ 0 → ⊥) → pass c rows ≡ need s p (pass c rows)
    unfolding need
    need_again h = rw (← x, ← y, ne_eqb _ _ h)

  -- ---- details

  module _ (st : Pass) where
    pub info_needs : (kind e p : ℕ) (o : Pass) → kind ≡ 4 → p ≡ e - 4 → o ≡ need s p st → o ≡ need_info s kind e st
    unfolding need_info
    info_needs kind e p o h x y = rw (eq-eqb _ _ h, ← x) y

    pub info_none : (kind e : ℕ) → (kind ≡ 4 → ⊥) → st ≡ need_info s kind e st
    unfolding need_info
    info_none kind e h = rw (ne_eqb _ _ h)

    module _ (n types p : ℕ) where
      pub infos_none : n ≤ 0 → need_infos s n types p st ≡ st
      unfolding need_infos
      infos_none h = let z : n ≡ 0 = omega arith in rw z

      pub infos_need : (type e : ℕ) (o : Pass) → 0 < n → type ≡ get_or s types 0 → e ≡ after_info s type p → o ≡ need_info s type e st
          → need_infos s n types p st ≡ need_infos s (n - 1) (types + 1) e o
      unfolding need_infos
      infos_need type e o h t x y =
          let z : n ≡ suc (n - 1) = omega arith in
          ap (λ (m : ℕ). need_infos s m types p st) z ∙ rw (y, x, t)

    -- ---- a row

    module _ (r : Row) where
      pub own_needs : (p : ℕ) (o : Pass) → r.kind ≡ 5 → p ≡ r.end - 4 → o ≡ need s p st → o ≡ need_own s r st
      own_needs p o h x y = rw (eq-eqb _ _ h, ← x) y

      pub own_none : (r.kind ≡ 5 → ⊥) → st ≡ need_own s r st
      own_none h = rw (ne_eqb _ _ h)

      pub class_needs_lem : (x : ℕ) (m o : Pass) → x ≡ infos_place r → m ≡ need_infos s r.count r.slot x st → o ≡ need_own s r m → o ≡ need_class s r st
      unfolding need_class
      class_needs_lem x m o e f g = rw (← e, ← f) g

      pub array_needs : (p type e : ℕ) (o : Pass) → p ≡ item_type s r → type ≡ get_or s p 0 → e ≡ after_info s type (p + 1) → o ≡ need_info s type e st
          → o ≡ need_array s r st
      unfolding need_array
      array_needs p type e o x y z g = rw (← x, ← y, ← z) g

  module _ (rows : List Row) (c i : ℕ) (r : Row) (q : Bool) (x : r ≡ get_or rows i blank) (y : q ≡ is_first i r) where
    pub one_class : (o : Pass) → q ≡ true → o ≡ need_class s r (pass c rows) → o ≡ need_one s i (pass c rows)
    unfolding need_one
    one_class o z e = rw (← x, ← y, z) e

    pub one_array : (o : Pass) → q ≡ false → r.kind ≡ 7 → o ≡ need_array s r (pass c rows) → o ≡ need_one s i (pass c rows)
    unfolding need_one
    one_array o z k e = rw (← x, ← y, z, eq-eqb _ _ k) e

    pub one_none : q ≡ false → (r.kind ≡ 7 → ⊥) → pass c rows ≡ need_one s i (pass c rows)
    unfolding need_one
    one_none z k = rw (← x, ← y, z, ne_eqb _ _ k)
