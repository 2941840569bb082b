-- Every record that the grammar takes is read, whatever its kind (01, Records): its fields are good, and say what the record has.
use Rattle.std.specs.Prelude.{ℕ, ◌≡◌, List, Ok}
use Rattle.format.specs.Terms.{Terms}
use Rattle.format.specs.declared.PrimitiveCode.{PrimitiveCode}
use Rattle.format.specs.declared.SlotType.{SlotType}
use Rattle.format.specs.declared.Row.{Row}
use Rattle.format.specs.Values.{value_at}
use Rattle.format.specs.Contents.{Prefixed, Rec, value, enc}
use Rattle.format.specs.Grammar.{Value}
use Rattle.places.specs.Env.{env_of}
use Rattle.places.specs.Stand.{Stand}
use Rattle.places.specs.Values.{value_there}
use Rattle.places.specs.Recs.{Good, is_header, is_class_by_id, is_system_class, is_library_class, is_string, is_typed_primitive, is_reference, is_null_rule, is_end, is_library_rule, is_nulls_rule, is_many_nulls, is_array, There}
use Rattle.places.specs.Reads.{header_there, string_there, typed_primitive_there, reference_there, null_there, end_there, library_there, nulls_there, many_nulls_there}
use Rattle.places.specs.ReadsClasses.{system_class_there, library_class_there, class_by_id_there}
use Rattle.places.specs.ReadsArrays.{array_there}

module _ (τ : Terms) (s : List ℕ) (rows : List Row) (at e : ℕ) where
  pub record_read : (k : ℕ) (r : Rec) (id count class : ℕ) (ts : List SlotType) → Good τ (env_of τ.book s rows) k r id count class ts → Stand s (enc r) at e
      → There τ s rows k at r id count class ts
  record_read k r id count class ts (is_header {root = root} {h = h} a b) w = header_there τ s rows at e root h a b w
  record_read k r id count class ts (is_class_by_id {i = i} {k = m} {row = row} {ts = us} a b c) w = class_by_id_there τ s rows at e i m row us a b c w
  record_read k r id count class ts (is_system_class {i = i} {n = n} {ms = ms} a b) w = system_class_there τ s rows at e i n ms a b w
  record_read k r id count class ts (is_library_class {i = i} {l = l} {n = n} {ms = ms} a b c) w = library_class_there τ s rows at e i n ms l a b c w
  record_read k r id count class ts (is_string {i = i} {t = t} a b) w = string_there τ s rows at e i t a b w
  record_read k r id count class ts (is_typed_primitive {c = c} {v = v} a) w = typed_primitive_there τ s rows at e c v a w
  record_read k r id count class ts (is_reference {i = i} a) w = reference_there τ s rows at e i a w
  record_read k r id count class ts is_null_rule w = null_there τ s rows at e w
  record_read k r id count class ts is_end w = end_there τ s rows at e w
  record_read k r id count class ts (is_library_rule {i = i} {n = n} a b c) w = library_there τ s rows at e i n a b c w
  record_read k r id count class ts (is_nulls_rule {k = n} a) w = nulls_there τ s rows at e n w
  record_read k r id count class ts (is_many_nulls {k = n} a) w = many_nulls_there τ s rows at e n a w
  record_read k r id count class ts (is_array a b) w = array_there τ s rows at e k id count r ts a b w

-- ---- member values

pub member_read : (τ : Terms) (s : List ℕ) (c : PrimitiveCode) (v : Prefixed) (at e : ℕ) → Value τ c v → Stand s (enc (value c v)) at e → value_at τ.setting s c at ≡ Ok e
unfolding enc
member_read τ s c v at e g w = value_there τ s c v at e g w
