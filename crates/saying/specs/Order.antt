-- Objects by their order: how many stand before a row, the order of the object that a number names, and the nodes of rows one by one.
use Rattle.std.specs.Prelude.{ℕ, suc, ◌+◌, ◌-◌, ◌≤◌, ◌<◌, ◌≡◌, Bool, false, List, [], ◌∷◌, ◌++◌, length, get_or, take, drop, eqb}
use Rattle.std.proofs.Common.{ap, subst, ◌∙◌, arith, length-drop, take-append-drop, drop-cons, take_all, take-suc}
use Rattle.std.proofs.lemmas.Bool.{eqb-false}
use Rattle.format.specs.declared.Row.{Row}
use Rattle.format.specs.Bytes.{pick}
use Rattle.format.specs.Rows.{blank, is_object, object_row, linked}
use Rattle.format.specs.Says.{objects_in, order_of, nodes_of, nodes_from}
use Rattle.lookups.specs.Find.{object_at_lem}
use Rattle.links.specs.Links.{object_linked}
use Rattle.laws.specs.Orders.{objects_append, order_next}

-- ---- a list from a place on

module _ {A : Type 0} (xs ys : List A) (x : A) (j : ℕ) (e : drop j xs ≡ x ∷ ys) where
  pub place_inside : j < length xs
  place_inside = omega (arith, simp length-drop at (ap length e))

  pub item_there : (d : A) → get_or xs j d ≡ x
  item_there d =
      let c = drop-cons xs j d place_inside in
      cc

  pub items_after : drop (suc j) xs ≡ ys
  items_after =
      let c = drop-cons xs j x place_inside in
      cc

  pub taken_more : take (suc j) xs ≡ take j xs ++ (x ∷ [])
  taken_more = take-suc xs j x place_inside ∙ ap (λ (y : A). take j xs ++ (y ∷ [])) (item_there x)

-- ---- how many objects

pub order_le : (rows : List Row) (n : ℕ) → order_of rows n ≤ objects_in rows
unfolding order_of
order_le rows n =
    let e : objects_in (take n rows ++ drop n rows) ≡ objects_in (take n rows) + objects_in (drop n rows) = objects_append (take n rows) (drop n rows) in
    let f : objects_in (take n rows ++ drop n rows) ≡ objects_in rows = ap objects_in (take-append-drop n rows) in
    omega arith

module _ (rows is : List Row) (w : Row) (row : ℕ) (e : drop row rows ≡ w ∷ is) where
  pub order_more : order_of rows (suc row) ≡ order_of rows row + pick (is_object w.kind) 1 0
  order_more =
      order_next rows row (place_inside rows is w row e)
      ∙ ap (λ (y : Row). order_of rows row + pick (is_object y.kind) 1 0) (item_there rows is w row e blank)

  pub nodes_more : (β s : List ℕ) → nodes_from β s rows (drop row rows) ≡ nodes_of β s rows w ++ nodes_from β s rows (drop (suc row) rows)
  unfolding nodes_from
  nodes_more β s = rw (e, items_after rows is w row e)

-- no row is left
pub order_end : (rows : List Row) (n : ℕ) → drop n rows ≡ [] → (β s : List ℕ) → (order_of rows n ≡ objects_in rows) × (nodes_from β s rows (drop n rows) ≡ [])
unfolding order_of nodes_from
order_end rows n e β s =
    let l : length rows ≤ n = omega (arith, simp length-drop at (ap length e)) in
    (rw (take_all n rows l), rw e)

-- ---- the object of a number

-- an order that some object has
pub record Ordered (total k : ℕ) : Type 0 where
  pub some : 0 < k
  pub inside : k ≤ total

pub target_ordered : (raw : List Row) (i : ℕ) → eqb (object_row i raw) 0 ≡ false → Ordered (objects_in (linked raw)) (order_of (linked raw) (object_row i raw))
target_ordered raw i e =
    let rows = linked raw in
    let n = eqb-false (object_row i raw) 0 e in
    let q : object_row i rows ≡ object_row i raw = object_linked i raw in
    let h : 0 < object_row i rows = omega (arith, n) in
    let f = object_at_lem i rows h in
    let j : ℕ = object_row i rows - 1 in
    let z : suc j ≡ object_row i raw = omega arith in
    let c : drop j rows ≡ get_or rows j blank ∷ drop (suc j) rows = drop-cons rows j blank f.inside in
    let m : order_of rows (suc j) ≡ order_of rows j + pick (is_object (get_or rows j blank).kind) 1 0 = order_more rows (drop (suc j) rows) (get_or rows j blank) j c in
    let one : ◌≡◌ {A = ℕ} (pick (is_object (get_or rows j blank).kind) 1 0) 1 = ap (λ (t : Bool). pick t 1 0) f.kind in
    let p : 0 < order_of rows (suc j) = omega arith in
    record { some = subst (λ (k : ℕ). 0 < order_of rows k) z p; inside = order_le rows (object_row i raw) }
