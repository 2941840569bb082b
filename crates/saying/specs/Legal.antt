-- Records that may follow one another (01, Records and Field rules), as definitions: what a record may hold where this is known, where it may stand
-- among open objects, and what is open and known after it. Places and bytes are not here.
use Rattle.std.specs.Prelude.{ℕ, suc, ◌+◌, ◌≤◌, ◌<◌, ◌≡◌, Bool, true, false, ◌||◌, List, [], ◌∷◌, ◌++◌, length, take, drop, eqb}
use Rattle.format.specs.Terms.{Terms}
use Rattle.format.specs.declared.PrimitiveCode.{PrimitiveCode}
use Rattle.format.specs.declared.SlotType.{SlotType}
use Rattle.format.specs.declared.SlotType.TheVariants as S
use Rattle.format.specs.Bytes.{pick}
use Rattle.format.specs.Rows.{is_object, is_class}
use Rattle.format.specs.Contents.{Prefixed, Member, Rec, header, class_by_id, system_class, library_class, string, array, typed_primitive, reference, null, nulls, many_nulls, end, library, primitive_array, object_array, string_array, value}
use Rattle.format.specs.Grammar.{Positive, Entry, known, classed, class_of, ClassId, ObjectId, LibraryId, Name, Value, ClassInfo, types_of, takes_objects, takes_strings, Array, id_of, takes_records, all_take}
use Rattle.saying.specs.Good.{Place, place, shut, owner_of, slot_of, opened_in, Deep}
use Rattle.saying.specs.There.{kind_of}
use Rattle.saying.specs.Shown.{Shown}
use Rattle.saying.specs.Counts.{made_known}

-- what a record may hold where this is known, and the types of its slots; total is how many objects there are
pub data Takes (τ : Terms) (total : ℕ) (es : List Entry) : Rec → List SlotType → Type 0 where
  class_by_id_rule : {i k row : ℕ} {ts : List SlotType} → ClassId i es → k < 4294967296 → class_of k es ≡ classed row ts → Takes τ total es (class_by_id i k) ts
  system_class_rule : {i : ℕ} {n : Prefixed} {ms : List (Member Prefixed ℕ)} {ts : List SlotType} → ClassId i es → ClassInfo τ es n ms → ts ≡ types_of ms
      → Takes τ total es (system_class i n ms) ts
  library_class_rule : {i l : ℕ} {n : Prefixed} {ms : List (Member Prefixed ℕ)} {ts : List SlotType} → ClassId i es → ClassInfo τ es n ms → LibraryId l es → ts ≡ types_of ms
      → Takes τ total es (library_class i n ms l) ts
  a_string_rule : {i : ℕ} {x : Prefixed} → ObjectId i es → Name τ x → Takes τ total es (string i x) []
  an_array_rule : {k i n : ℕ} {r : Rec} {ts : List SlotType} → ObjectId i es → Array τ es r k i n ts → Takes τ total es r ts
  a_primitive_rule : {c : PrimitiveCode} {v : Prefixed} → Value τ c v → Takes τ total es (typed_primitive c v) []
  a_reference_rule : {i : ℕ} → Positive i → i ≤ total → Takes τ total es (reference i) []
  a_null_rule : Takes τ total es null []
  some_nulls : {k : ℕ} → 0 < k → k < 256 → Takes τ total es (nulls k) []
  many_nulls_rule : {k : ℕ} → Positive k → Takes τ total es (many_nulls k) []
  a_library_rule : {i : ℕ} {x : Prefixed} → Positive i → known i es ≡ false → Name τ x → Takes τ total es (library i x) []
  a_value_rule : {c : PrimitiveCode} {v : Prefixed} → Value τ c v → Takes τ total es (value c v) []

-- one null, or a run of so many
pub data Nulls : Rec → ℕ → Type 0 where
  one : Nulls null 1
  some : {k : ℕ} → Nulls (nulls k) k
  many : {k : ℕ} → Nulls (many_nulls k) k

-- kind 1, 4 or 5
abbrev pub of_class : ℕ → Bool
of_class k = eqb k 1 || is_class k

-- where a record with slots of these types may stand: at top level, or in the next slot of the innermost open object
pub data Stands (τ : Terms) : List Place → Rec → List SlotType → Type 0 where
  top_object : {r : Rec} {ts : List SlotType} → is_object (kind_of r) ≡ true → Stands τ [] r ts
  top_library : {i : ℕ} {x : Prefixed} → Stands τ [] (library i x) []
  in_object : {o n : ℕ} {t : SlotType} {us ts : List SlotType} {fs : List Place} {r : Rec} → takes_objects t ≡ true → of_class (kind_of r) ≡ true
      → Deep ts (place o n (t ∷ us) ∷ fs) → Stands τ (place o n (t ∷ us) ∷ fs) r ts
  in_string : {o n i : ℕ} {t : SlotType} {us : List SlotType} {fs : List Place} {x : Prefixed} → takes_strings t ≡ true
      → Stands τ (place o n (t ∷ us) ∷ fs) (string i x) []
  in_primitive : {o n : ℕ} {t : SlotType} {us : List SlotType} {fs : List Place} {c : PrimitiveCode} {v : Prefixed} → takes_objects t ≡ true
      → Stands τ (place o n (t ∷ us) ∷ fs) (typed_primitive c v) []
  in_reference : {o n i : ℕ} {t : SlotType} {us : List SlotType} {fs : List Place} → takes_records t ≡ true → Stands τ (place o n (t ∷ us) ∷ fs) (reference i) []
  -- nulls fill slots of one object, none of them primitive
  in_nulls : {o n k : ℕ} {t : SlotType} {us : List SlotType} {fs : List Place} {r : Rec} → Nulls r k → takes_records t ≡ true → k ≤ length (t ∷ us)
      → all_take (take k (t ∷ us)) ≡ true → Stands τ (place o n (t ∷ us) ∷ fs) r []
  in_library : {o n i : ℕ} {t : SlotType} {us : List SlotType} {fs : List Place} {x : Prefixed} → takes_records t ≡ true
      → Stands τ (place o n (t ∷ us) ∷ fs) (library i x) []
  in_value : {o n : ℕ} {c : PrimitiveCode} {us : List SlotType} {fs : List Place} {v : Prefixed} → Value τ c v → Stands τ (place o n (S.Primitive c ∷ us) ∷ fs) (value c v) []

-- how many slots a record that is no object fills
abbrev pub fills : Rec → ℕ
fills (header r h) = 0
fills (class_by_id i k) = 1
fills (system_class i n ms) = 1
fills (library_class i n ms l) = 1
fills (string i x) = 1
fills (array i t ns d vs) = 1
fills (typed_primitive c v) = 1
fills (reference i) = 1
fills null = 1
fills (nulls k) = k
fills (many_nulls k) = k
fills end = 0
fills (library i n) = 0
fills (primitive_array i n c vs) = 1
fills (object_array i n) = 1
fills (string_array i n) = 1
fills (value c v) = 1

abbrev pub filled_by : ℕ → List Place → List Place
filled_by k [] = []
filled_by k (f ∷ fs) = place f.owner (f.slot + k) (drop k f.types) ∷ fs

-- a library is in no slot
abbrev pub is_apart : Rec → Bool
is_apart r = eqb (kind_of r) 12

-- the open objects after a record, after so many objects
abbrev pub open_by : ℕ → List Place → Rec → List SlotType → List Place
open_by count fs r ts = pick (is_object (kind_of r)) (opened_in (suc count) ts fs) (pick (is_apart r) fs (shut (filled_by (fills r) fs)))

-- the records that are left, after so many objects and rows, with these objects open and this known. An object's number is its order.
pub data Legal (τ : Terms) (total : ℕ) : (count row : ℕ) → List Place → List Entry → List Shown → Type 0 where
  all_shown_rule : {count row : ℕ} {es : List Entry} → count ≡ total → Legal τ total count row [] es []
  a_record : {count row next : ℕ} {fs gs : List Place} {es ds : List Entry} {x : Shown} {xs : List Shown} {ts : List SlotType}
      → Takes τ total es x.rec ts → Stands τ fs x.rec ts
      → x.owner ≡ pick (is_apart x.rec) 0 (owner_of fs) → x.slot ≡ pick (is_apart x.rec) 0 (slot_of fs)
      → id_of x.rec ≡ pick (is_object (kind_of x.rec)) (suc count ∷ []) []
      → next ≡ count + pick (is_object (kind_of x.rec)) 1 0
      → gs ≡ open_by count fs x.rec ts
      → ds ≡ es ++ made_known (suc row) x.rec
      → Legal τ total next (suc row) gs ds xs
      → Legal τ total count row fs es (x ∷ xs)
