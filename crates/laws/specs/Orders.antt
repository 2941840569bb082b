-- Orders of objects (01, The tidy copy): how many objects stand before a row, from one row to the next.
use Rattle.std.specs.Prelude.{ℕ, suc, ◌+◌, ◌<◌, ◌≡◌, List, [], ◌∷◌, ◌++◌, length, get_or, take}
use Rattle.std.proofs.Common.{ap, ◌∙◌, arith, take-suc}
use Rattle.format.specs.declared.Row.{Row}
use Rattle.format.specs.Bytes.{pick}
use Rattle.format.specs.Rows.{blank, is_object}
use Rattle.format.specs.Says.{objects_in, order_of}

pub objects_append : (a b : List Row) → objects_in (a ++ b) ≡ objects_in a + objects_in b
unfolding objects_in
objects_append [] b = omega arith
objects_append (r ∷ a) b =
    let h : objects_in (a ++ b) ≡ objects_in a + objects_in b = objects_append a b in
    omega arith

pub order_next : (rows : List Row) (i : ℕ) → i < length rows → order_of rows (suc i) ≡ order_of rows i + pick (is_object (get_or rows i blank).kind) 1 0
unfolding order_of objects_in
order_next rows i h =
    let e : objects_in (take i rows ++ (get_or rows i blank ∷ [])) ≡ objects_in (take i rows) + objects_in (get_or rows i blank ∷ []) = objects_append (take i rows) (get_or rows i blank ∷ []) in
    ap objects_in (take-suc rows i blank h) ∙ omega arith
