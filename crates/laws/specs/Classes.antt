-- Which definition the class of a row has (01, The tidy copy; 02, (ii)): by the book for kinds 2 and 3, by the record alone for the others; neither sees
-- the row's link.
use Rattle.std.specs.Prelude.{ℕ, ◌-◌, ◌≡◌, true, false, ◌||◌, List, eqb}
use Rattle.std.proofs.Math.Path.{refl}
use Rattle.std.proofs.Common.{ap}
use Rattle.format.specs.declared.Row.{Row}
use Rattle.format.specs.Bytes.{pick}
use Rattle.format.specs.Rows.{is_class, is_untyped, with_link}
use Rattle.format.specs.Contents.{the_system, the_library}
use Rattle.format.specs.Says.{number_from, library_name, origin_from, typed_from, untyped_from, class_from}
use Rattle.laws.specs.Kinds.{class_kind}

-- kinds 4 and 5 have their types
pub kind_typed : (k : ℕ) → is_class k ≡ true → is_untyped k ≡ false
kind_typed k e = class_kind k e (λ (n : ℕ). is_untyped n ≡ false) refl refl

module _ (s : List ℕ) (rows : List Row) (r : Row) where
  -- kind 4 comes from the system, kind 5 from the library that its record ends with
  pub origin_system : r.kind ≡ 4 → origin_from s rows r ≡ the_system
  origin_system k = ap (λ (z : ℕ). pick (eqb z 3 || eqb z 5) (the_library (library_name s rows (number_from s (r.end - 4)))) the_system) k

  pub origin_library : r.kind ≡ 5 → origin_from s rows r ≡ the_library (library_name s rows (number_from s (r.end - 4)))
  origin_library k = ap (λ (z : ℕ). pick (eqb z 3 || eqb z 5) (the_library (library_name s rows (number_from s (r.end - 4)))) the_system) k

  pub typed_blind : (link : ℕ) → typed_from s rows (with_link r link) ≡ typed_from s rows r
  unfolding typed_from
  typed_blind link = refl

module _ (β s : List ℕ) (rows : List Row) (r : Row) where
  pub class_typed : is_untyped r.kind ≡ false → class_from β s rows r ≡ typed_from s rows r
  unfolding class_from
  class_typed e = rw e

  pub class_untyped : is_untyped r.kind ≡ true → class_from β s rows r ≡ untyped_from β s rows r
  unfolding class_from
  class_untyped e = rw e

  pub untyped_blind : (link : ℕ) → untyped_from β s rows (with_link r link) ≡ untyped_from β s rows r
  unfolding untyped_from
  untyped_blind link = refl

  pub class_blind : (link : ℕ) → class_from β s rows (with_link r link) ≡ class_from β s rows r
  unfolding class_from typed_from untyped_from
  class_blind link = refl
