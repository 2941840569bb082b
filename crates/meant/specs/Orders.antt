-- The order of an object among the ObjectIds of the records is the order of its row among the rows.
use Prim.Native.Nat.{ℕ, suc, ◌+◌}
use Rattle.std.specs.Prelude.{◌≡◌, Bool, ◌&&◌, drop}
use Rattle.std.proofs.Math.Path.{refl, ap, subst}
use Rattle.std.proofs.Common.{sym, ◌∙◌}
use Rattle.std.proofs.Math.Bool.{true, false}
use mathlib.Core.List.{List, [], ◌∷◌, ◌++◌, map}
use native.Mathlib.Omega.{arith}
use Rattle.std.proofs.Math.Dec.{eqb}
use Rattle.format.specs.declared.Row.{Row}
use Rattle.format.specs.Bytes.{pick}
use Rattle.format.specs.Rows.{is_object, find_from, object_row, with_link, link_of, linked}
use Rattle.format.specs.Says.{objects_in, order_of}
use Rattle.format.specs.Meant.{order_after}
use Rattle.laws.specs.Ids.{row_ids}
use Rattle.links.specs.Links.{object_linked}
use Rattle.saying.specs.Order.{items_after, order_more}

module _ (i : ℕ) (rows : List Row) where
  abbrev here : Row → Bool
  here r = is_object r.kind && eqb r.id i

  order_from : (is : List Row) (k : ℕ) → drop k rows ≡ is → order_after (order_of rows k) i (row_ids is) ≡ order_of rows (find_from here k is)
  unfolding order_after find_from order_of objects_in
  order_from [] k e = refl
  order_from (r ∷ is) k e =
      let z : suc k ≡ k + 1 = omega arith in
      let Next : ℕ → Type 0 = λ m. order_after (order_of rows (suc k)) i (row_ids is) ≡ order_of rows (find_from here m is) in
      let again = subst Next z (order_from is (suc k) (items_after rows is r k e)) in
      go (is_object r.kind) (eqb r.id i) refl (order_more rows is r k e) again
    where
      go : (o b : Bool) → eqb r.id i ≡ b → order_of rows (suc k) ≡ order_of rows k + pick o 1 0
          → order_after (order_of rows (suc k)) i (row_ids is) ≡ order_of rows (find_from here (k + 1) is)
          → order_after (order_of rows k) i (pick o (r.id ∷ []) [] ++ row_ids is) ≡ order_of rows (pick (o && b) (k + 1) (find_from here (k + 1) is))
      go true true q m again =
          let z : suc k ≡ k + 1 = omega arith in
          let a : suc (order_of rows k) ≡ order_of rows (suc k) = omega arith in
          rw q (a ∙ ap (order_of rows) z)
      go true false q m again =
          let a : suc (order_of rows k) ≡ order_of rows (suc k) = omega arith in
          rw q (ap (λ (n : ℕ). order_after n i (row_ids is)) a ∙ again)
      go false b q m again =
          let a : order_of rows k ≡ order_of rows (suc k) = omega arith in
          ap (λ (n : ℕ). order_after n i (row_ids is)) a ∙ again

ids_linked : (raw rows : List Row) → row_ids (map (λ (r : Row). with_link r (link_of raw r)) rows) ≡ row_ids rows
ids_linked raw [] = refl
ids_linked raw (r ∷ rows) = ap (λ (l : List ℕ). pick (is_object r.kind) (r.id ∷ []) [] ++ l) (ids_linked raw rows)

pub order_found : (raw : List Row) (i : ℕ) → order_after 0 i (row_ids raw) ≡ order_of (linked raw) (object_row i raw)
unfolding linked object_row order_of objects_in
order_found raw i =
    ap (order_after 0 i) (sym (ids_linked raw raw)) ∙ (order_from i (linked raw) (linked raw) 0 refl ∙ ap (order_of (linked raw)) (object_linked i raw))
