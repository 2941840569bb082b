-- A record that may follow others, at a place of a stream, says by its row what the shown record says.
use Rattle.std.specs.Prelude.{ℕ, ◌≡◌, List, ◌++◌, drop}
use Rattle.std.proofs.Math.Path.{refl, ap}
use Rattle.std.proofs.Common.{◌∙◌}
use Rattle.format.specs.Terms.{Terms}
use Rattle.format.specs.declared.SlotType.{SlotType}
use Rattle.format.specs.declared.Row.{Row}
use Rattle.format.specs.Bytes.{pick}
use Rattle.format.specs.Contents.{Rec, header, class_by_id, system_class, library_class, string, array, typed_primitive, reference, null, nulls, many_nulls, end, library, primitive_array, object_array, string_array, value, enc, Class}
use Rattle.format.specs.Grammar.{Entry}
use Rattle.format.specs.Says.{library_name, order_of, spread, is_nulls, nodes_of}
use Rattle.laws.specs.Fields.{positive_bits}
use Rattle.saying.specs.There.{own_members, own_array, kind_of, CountIs, RowOf, GoodRec, LinkIs, nodes_there}
use Rattle.saying.specs.Shown.{shown, said_in, said_at, said_nodes}
use Rattle.saying.specs.Legal.{Takes, class_by_id_rule, system_class_rule, library_class_rule, a_string_rule, an_array_rule, a_primitive_rule, a_reference_rule, a_null_rule, some_nulls, many_nulls_rule, a_library_rule, a_value_rule}

-- what a record may hold is what is asked of it by itself
pub own_contents : (τ : Terms) {total : ℕ} {es : List Entry} {r : Rec} {ts : List SlotType} → Takes τ total es r ts → GoodRec τ r
own_contents τ (class_by_id_rule a b c) = tt
own_contents τ (system_class_rule a b c) = (b.named, own_members τ b.members)
own_contents τ (library_class_rule {l = l} a b c d) = (b.named, own_members τ b.members, positive_bits l c.sign)
own_contents τ (a_string_rule a b) = b
own_contents τ (an_array_rule a b) = own_array τ b
own_contents τ (a_primitive_rule a) = a
own_contents τ (a_reference_rule a b) = tt
own_contents τ a_null_rule = tt
own_contents τ (some_nulls a b) = tt
own_contents τ (many_nulls_rule a) = tt
own_contents τ (a_library_rule a b c) = c
own_contents τ (a_value_rule a) = a

-- nulls by the count in the row
module _ (name : ℕ → List ℕ) (of : ℕ → Class) (order : ℕ → ℕ) (o n k : ℕ) where
  said_row : (r : Rec) → CountIs r k → pick (is_nulls (kind_of r)) (spread k o n) (said_in name of order o n r) ≡ said_at name of order o n r
  unfolding spread
  said_row (header r h) c = refl
  said_row (class_by_id i m) c = refl
  said_row (system_class i x ms) c = refl
  said_row (library_class i x ms l) c = refl
  said_row (string i x) c = refl
  said_row (array i t ns d vs) c = refl
  said_row (typed_primitive b v) c = refl
  said_row (reference i) c = refl
  said_row null c = ap (λ (m : ℕ). spread m o n) c
  said_row (nulls m) c = ap (λ (m : ℕ). spread m o n) c
  said_row (many_nulls m) c = ap (λ (m : ℕ). spread m o n) c
  said_row end c = refl
  said_row (library i x) c = refl
  said_row (primitive_array i m b vs) c = refl
  said_row (object_array i m) c = refl
  said_row (string_array i m) c = refl
  said_row (value b v) c = refl

pub row_said : (τ : Terms) (β s : List ℕ) (rows : List Row) (w : Row) (of : ℕ → Class) (order : ℕ → ℕ) (q : List ℕ) (at : ℕ) (r : Rec) → drop at s ≡ enc r ++ q → RowOf r at w
    → GoodRec τ r → LinkIs β s rows of order r w → nodes_of β s rows w ≡ said_nodes (library_name s rows) of order (shown r (order_of rows w.owner) w.slot)
row_said τ β s rows w of order q at r d g h l =
    nodes_there τ β s rows w of order q at r d g h l ∙ said_row (library_name s rows) of order (order_of rows w.owner) w.slot w.count r g.count_is
