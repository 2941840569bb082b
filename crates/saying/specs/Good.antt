-- What may be said: nodes that fill the slots of open objects in order, each with what its slot's type allows. Nothing here is about ids,
-- places, libraries' numbers or packing.
use Rattle.std.specs.Prelude.{ℕ, zero, suc, ◌+◌, ◌≤◌, ◌<◌, ◌≡◌, refl, true, List, [], ◌∷◌, length, replicate}
use Rattle.format.specs.declared.PrimitiveCode.{PrimitiveCode}
use Rattle.format.specs.declared.SlotType.{SlotType}
use Rattle.format.specs.declared.SlotType.TheVariants as S
use Rattle.format.specs.Contents.{Detail, primitive, text, object, system, class, objects, texts, primitives, Member, slot_for, From, the_system, the_library, Class}
use Rattle.format.specs.Grammar.{Characters, Content, takes_objects, takes_strings, Shape, product, takes_records}
use Rattle.format.specs.Says.{What, an_object, a_string, an_array, a_primitive, a_reference, a_null, a_primitive_array, an_object_array, a_string_array, a_value, Node, Model}

-- ---- contents

abbrev pub GoodType : Detail (List ℕ) (List ℕ) → Type 0
GoodType (primitive c) = Unit {0}
GoodType text = Unit {0}
GoodType object = Unit {0}
GoodType (system n) = Characters n
GoodType (class n l) = Characters n × Characters l
GoodType objects = Unit {0}
GoodType texts = Unit {0}
GoodType (primitives c) = Unit {0}

pub data GoodMembers : List (Member (List ℕ) (List ℕ)) → Type 0 where
  no_more : GoodMembers []
  member : {m : Member (List ℕ) (List ℕ)} {ms : List (Member (List ℕ) (List ℕ))} → Characters m.name → GoodType m.type → GoodMembers ms → GoodMembers (m ∷ ms)

pub data GoodFrom : From → Type 0 where
  of_system : GoodFrom the_system
  of_library_rule : {n : List ℕ} → Characters n → GoodFrom (the_library n)

pub record GoodClass (c : Class) : Type 0 where
  pub named : Characters c.name
  pub from : GoodFrom c.from
  pub counted : length c.members < 2147483648
  pub members : GoodMembers c.members

-- the items of a primitive array: n contents of this code
pub data Contents : PrimitiveCode → ℕ → List (List ℕ) → Type 0 where
  no_item : {c : PrimitiveCode} → Contents c zero []
  an_item : {c : PrimitiveCode} {n : ℕ} {v : List ℕ} {vs : List (List ℕ)} → Content c v → Contents c n vs → Contents c (suc n) (v ∷ vs)

abbrev pub slots_of : List (Member (List ℕ) (List ℕ)) → List SlotType
slots_of [] = []
slots_of (m ∷ ms) = slot_for m.type ∷ slots_of ms

-- ---- open objects

-- an open object: its number by order, the next slot, and the types of the slots that are left
pub record Place : Type 0 where
  pub owner : ℕ
  pub slot : ℕ
  pub types : List SlotType

abbrev pub place : ℕ → ℕ → List SlotType → Place
place o n ts = record { owner = o; slot = n; types = ts }

-- full objects are closed
abbrev pub shut_by : List SlotType → ℕ → ℕ → List Place → List Place → List Place
shut_by [] o n fs rest = rest
shut_by (t ∷ ts) o n fs rest = place o n (t ∷ ts) ∷ fs

unfoldable pub shut : List Place → List Place
shut [] = []
shut (f ∷ fs) = shut_by f.types f.owner f.slot fs (shut fs)

abbrev pub owner_of : List Place → ℕ
owner_of [] = 0
owner_of (f ∷ fs) = f.owner

abbrev pub slot_of : List Place → ℕ
slot_of [] = 0
slot_of (f ∷ fs) = f.slot

-- one slot is filled
abbrev pub tail_of : List SlotType → List SlotType
tail_of [] = []
tail_of (t ∷ ts) = ts

abbrev pub filled_one : List Place → List Place
filled_one [] = []
filled_one (f ∷ fs) = place f.owner (f.slot + 1) (tail_of f.types) ∷ fs

-- the object of this number opens in the next slot
abbrev pub opened_in : ℕ → List SlotType → List Place → List Place
opened_in o ts fs = shut (place o 0 ts ∷ filled_one fs)

pub length_filled : (fs : List Place) → length (filled_one fs) ≡ length fs
length_filled [] = refl
length_filled (f ∷ fs) = refl

-- ---- what may stand where; total is how many objects there are

-- an object with slots is one of at most 64
pub data Deep : List SlotType → List Place → Type 0 where
  never_open : {fs : List Place} → Deep [] fs
  one_more_rule : {t : SlotType} {ts : List SlotType} {fs : List Place} → length fs < 64 → Deep (t ∷ ts) fs

pub data Allowed (total : ℕ) : List Place → What → Type 0 where
  top_object : {c : Class} → GoodClass c → Allowed total [] (an_object c)
  top_string : {x : List ℕ} → Characters x → Allowed total [] (a_string x)
  top_objects : {n : ℕ} → n < 2147483648 → Allowed total [] (an_object_array n)
  top_strings : {n : ℕ} → n < 2147483648 → Allowed total [] (a_string_array n)
  top_primitives : {n : ℕ} {c : PrimitiveCode} {vs : List (List ℕ)} → n < 2147483648 → Contents c n vs → Allowed total [] (a_primitive_array n c vs)
  top_array : {type : ℕ} {ns : List ℕ} {d : Detail (List ℕ) (List ℕ)} → Shape type ns → GoodType d → takes_records (slot_for d) ≡ true → Allowed total [] (an_array type ns d [])
  top_values : {type : ℕ} {ns : List ℕ} {c : PrimitiveCode} {vs : List (List ℕ)} → Shape type ns → Contents c (product ns) vs → Allowed total [] (an_array type ns (primitive c) vs)
  in_object : {o n : ℕ} {t : SlotType} {ts : List SlotType} {fs : List Place} {c : Class} → takes_objects t ≡ true → GoodClass c → Deep (slots_of c.members) (place o n (t ∷ ts) ∷ fs)
      → Allowed total (place o n (t ∷ ts) ∷ fs) (an_object c)
  in_string : {o n : ℕ} {t : SlotType} {ts : List SlotType} {fs : List Place} {x : List ℕ} → takes_strings t ≡ true → Characters x → Allowed total (place o n (t ∷ ts) ∷ fs) (a_string x)
  in_primitive : {o n : ℕ} {t : SlotType} {ts : List SlotType} {fs : List Place} {c : PrimitiveCode} {v : List ℕ} → takes_objects t ≡ true → Content c v → Allowed total (place o n (t ∷ ts) ∷ fs) (a_primitive c v)
  in_reference : {o n k : ℕ} {t : SlotType} {ts : List SlotType} {fs : List Place} → takes_records t ≡ true → 0 < k → k ≤ total → Allowed total (place o n (t ∷ ts) ∷ fs) (a_reference k)
  in_null : {o n : ℕ} {t : SlotType} {ts : List SlotType} {fs : List Place} → takes_records t ≡ true → Allowed total (place o n (t ∷ ts) ∷ fs) a_null
  in_value : {o n : ℕ} {c : PrimitiveCode} {ts : List SlotType} {fs : List Place} {v : List ℕ} → Content c v → Allowed total (place o n (S.Primitive c ∷ ts) ∷ fs) (a_value c v)

-- how many objects it is, and the open objects after it
abbrev pub count_of : What → ℕ
count_of (an_object c) = 1
count_of (a_string x) = 1
count_of (an_array t ns d vs) = 1
count_of (a_primitive c v) = 0
count_of (a_reference k) = 0
count_of a_null = 0
count_of (a_primitive_array n c vs) = 1
count_of (an_object_array n) = 1
count_of (a_string_array n) = 1
count_of (a_value c v) = 0

-- the types of the slots of an array's items: none where they are primitive
abbrev pub item_slots : List ℕ → Detail (List ℕ) (List ℕ) → List SlotType
item_slots ns (primitive c) = []
item_slots ns text = replicate (product ns) S.Text
item_slots ns object = replicate (product ns) S.Object
item_slots ns (system n) = replicate (product ns) S.SystemClass
item_slots ns (class n l) = replicate (product ns) S.Class
item_slots ns objects = replicate (product ns) S.ObjectArray
item_slots ns texts = replicate (product ns) S.StringArray
item_slots ns (primitives c) = replicate (product ns) (S.PrimitiveArray c)

abbrev pub open_after : ℕ → List Place → What → List Place
open_after count fs (an_object c) = opened_in (suc count) (slots_of c.members) fs
open_after count fs (a_string x) = shut (filled_one fs)
open_after count fs (an_array t ns d vs) = opened_in (suc count) (item_slots ns d) fs
open_after count fs (a_primitive c v) = shut (filled_one fs)
open_after count fs (a_reference k) = shut (filled_one fs)
open_after count fs a_null = shut (filled_one fs)
open_after count fs (a_primitive_array n c vs) = shut (filled_one fs)
open_after count fs (an_object_array n) = opened_in (suc count) (replicate n S.Object) fs
open_after count fs (a_string_array n) = opened_in (suc count) (replicate n S.Text) fs
open_after count fs (a_value c v) = shut (filled_one fs)

-- the nodes that are left, after so many objects, with these objects open
pub data Fits (total : ℕ) : (count : ℕ) → List Place → List Node → Type 0 where
  the_end : {count : ℕ} → count ≡ total → Fits total count [] []
  a_node : {count : ℕ} {fs : List Place} {n : Node} {ns : List Node} → Allowed total fs n.what → n.owner ≡ owner_of fs → n.slot ≡ slot_of fs
      → Fits total (count + count_of n.what) (open_after count fs n.what) ns → Fits total count fs (n ∷ ns)

-- what may be said
pub record Good (m : Model) : Type 0 where
  pub total : ℕ
  pub rooted : 0 < m.root
  pub root_in : m.root ≤ total
  pub nodes_fit : Fits total 0 [] m.nodes
