-- What a list means (01, The tidy copy, "Two lists say the same when"), from its records alone: no byte, no offset and no row is looked at. The
-- records are walked in order, library records left out and null runs spread. A library is given by the name in its record, a class by its content,
-- an object by its order. Owner and slot come from nesting: the walk holds the open objects, innermost first, as section 2.7 nests them.
use Rattle.std.specs.Prelude.{ℕ, zero, suc, ◌+◌, ◌-◌, List, [], ◌∷◌, ◌++◌, length, eqb}
use Rattle.format.specs.Terms.{Terms}
use Rattle.format.specs.declared.Row.{Row}
use Rattle.format.specs.Bytes.{pick}
use Rattle.format.specs.Contents.{Prefixed, texts_of, Detail, primitive, text, object, system, class, objects, texts, primitives, Member, slot_for, Rec, header, class_by_id, system_class, library_class, string, array, typed_primitive, reference, null, nulls, many_nulls, end, library, primitive_array, object_array, string_array, value, From, the_system, the_library, Class}
use Rattle.format.specs.Grammar.{takes_records, product, ids_of, Reading}
use Rattle.format.specs.Says.{What, an_object, a_string, an_array, a_primitive, a_reference, a_primitive_array, an_object_array, a_string_array, a_value, Node, node, Model, spread}

-- ---- types and classes, libraries by name

abbrev pub named : (ℕ → List ℕ) → Detail Prefixed ℕ → Detail (List ℕ) (List ℕ)
named name (primitive c) = primitive c
named name text = text
named name object = object
named name (system n) = system n.text
named name (class n l) = class n.text (name l)
named name objects = objects
named name texts = texts
named name (primitives c) = primitives c

abbrev pub named_all : (ℕ → List ℕ) → List (Member Prefixed ℕ) → List (Member (List ℕ) (List ℕ))
named_all name [] = []
named_all name (m ∷ ms) = record { name = m.name.text; type = named name m.type } ∷ named_all name ms

abbrev pub class_of_all : (ℕ → List ℕ) → List ℕ → From → List (Member Prefixed ℕ) → Class
class_of_all name n from ms = record { name = n; from = from; members = named_all name ms }

-- ---- numbers to what they name

-- what has this number, the first if several have; d if none has
unfoldable pub found : {K : Type 0} → K → ℕ → List (ℕ × K) → K
found d i [] = d
found d i (e ∷ es) = pick (eqb e.0 i) e.1 (found d i es)

-- libraries: number and name
abbrev pub library_of : Rec → List (ℕ × List ℕ)
library_of (header r h) = []
library_of (class_by_id i k) = []
library_of (system_class i n ms) = []
library_of (library_class i n ms l) = []
library_of (string i x) = []
library_of (array i t ns d vs) = []
library_of (typed_primitive c v) = []
library_of (reference i) = []
library_of null = []
library_of (nulls k) = []
library_of (many_nulls k) = []
library_of end = []
library_of (library i n) = (i, n.text) ∷ []
library_of (primitive_array i n c vs) = []
library_of (object_array i n) = []
library_of (string_array i n) = []
library_of (value c v) = []

unfoldable pub libraries_of : List Rec → List (ℕ × List ℕ)
libraries_of [] = []
libraries_of (r ∷ rs) = library_of r ++ libraries_of rs

-- classes of records of kind 4 and 5: ObjectId and content, libraries by these names
abbrev pub own_class : (ℕ → List ℕ) → Rec → List (ℕ × Class)
own_class name (header r h) = []
own_class name (class_by_id i k) = []
own_class name (system_class i n ms) = (i, class_of_all name n.text the_system ms) ∷ []
own_class name (library_class i n ms l) = (i, class_of_all name n.text (the_library (name l)) ms) ∷ []
own_class name (string i x) = []
own_class name (array i t ns d vs) = []
own_class name (typed_primitive c v) = []
own_class name (reference i) = []
own_class name null = []
own_class name (nulls k) = []
own_class name (many_nulls k) = []
own_class name end = []
own_class name (library i n) = []
own_class name (primitive_array i n c vs) = []
own_class name (object_array i n) = []
own_class name (string_array i n) = []
own_class name (value c v) = []

unfoldable pub classes_of : (ℕ → List ℕ) → List Rec → List (ℕ × Class)
classes_of name [] = []
classes_of name (r ∷ rs) = own_class name r ++ classes_of name rs

abbrev pub no_class : Class
no_class = record { name = []; from = the_system; members = [] }

-- the order of an object among these ObjectIds, the first being the one after k; 0 if it is none of them
unfoldable pub order_after : ℕ → ℕ → List ℕ → ℕ
order_after k i [] = 0
order_after k i (j ∷ js) = pick (eqb j i) (suc k) (order_after (suc k) i js)

module _ (rs : List Rec) where
  -- the name of a library, the class of an object of kind 4 or 5, and the order of an object, each by its number
  unfoldable pub name_by : ℕ → List ℕ
  name_by l = found [] l (libraries_of rs)

  unfoldable pub class_by : ℕ → Class
  class_by i = found no_class i (classes_of name_by rs)

  unfoldable pub order_by : ℕ → ℕ
  order_by i = order_after 0 i (ids_of rs)

-- ---- what a record says, and how it nests

pub data Sense : Type 0 where
  -- nothing, in no slot
  silent : Sense
  -- an object, with so many slots for records and member values
  opens : (what : What) (slots : ℕ) → Sense
  -- no object, in one slot
  item : (what : What) → Sense
  -- nulls in so many slots
  empties : (count : ℕ) → Sense

-- an array has a slot for each item, but primitive items lie inside it
abbrev pub item_slots : {N L : Type 0} → List ℕ → Detail N L → ℕ
item_slots ns d = pick (takes_records (slot_for d)) (product ns) 0

abbrev pub sense_of : (ℕ → List ℕ) → (ℕ → Class) → (ℕ → ℕ) → Rec → Sense
sense_of name of order (header r h) = silent
sense_of name of order (class_by_id i k) = opens (an_object (of k)) (length (of k).members)
sense_of name of order (system_class i n ms) = opens (an_object (class_of_all name n.text the_system ms)) (length ms)
sense_of name of order (library_class i n ms l) = opens (an_object (class_of_all name n.text (the_library (name l)) ms)) (length ms)
sense_of name of order (string i x) = opens (a_string x.text) 0
sense_of name of order (array i t ns d vs) = opens (an_array t ns (named name d) (texts_of vs)) (item_slots ns d)
sense_of name of order (typed_primitive c v) = item (a_primitive c v.text)
sense_of name of order (reference i) = item (a_reference (order i))
sense_of name of order null = empties 1
sense_of name of order (nulls k) = empties k
sense_of name of order (many_nulls k) = empties k
sense_of name of order end = silent
sense_of name of order (library i n) = silent
sense_of name of order (primitive_array i n c vs) = opens (a_primitive_array n c (texts_of vs)) 0
sense_of name of order (object_array i n) = opens (an_object_array n) n
sense_of name of order (string_array i n) = opens (a_string_array n) n
sense_of name of order (value c v) = item (a_value c v.text)

-- ---- open objects

-- an open object: its order, the next slot to fill, and how many slots are left
pub data Open : Type 0 where
  opened : (order next left : ℕ) → Open

abbrev pub owner_in : List Open → ℕ
owner_in [] = 0
owner_in (opened o n k ∷ os) = o

abbrev pub slot_in : List Open → ℕ
slot_in [] = 0
slot_in (opened o n k ∷ os) = n

-- so many slots of the innermost open object are filled; at top level there is none
abbrev pub fill : ℕ → List Open → List Open
fill m [] = []
fill m (opened o n k ∷ os) = opened o (n + m) (k - m) ∷ os

-- an object whose last slot is filled is closed
abbrev pub close : List Open → List Open
close [] = []
close (opened o n zero ∷ os) = close os
close (opened o n (suc k) ∷ os) = opened o n (suc k) ∷ os

-- ---- the walk

-- what is said in this slot of this object
abbrev pub nodes_by : Sense → ℕ → ℕ → List Node
nodes_by silent o n = []
nodes_by (opens x k) o n = node x o n ∷ []
nodes_by (item x) o n = node x o n ∷ []
nodes_by (empties k) o n = spread k o n

-- how many objects have come with this record, c before it
abbrev pub count_by : Sense → ℕ → ℕ
count_by silent c = c
count_by (opens x k) c = suc c
count_by (item x) c = c
count_by (empties k) c = c

-- which objects are open after this record; c objects came before it
abbrev pub open_by : Sense → ℕ → List Open → List Open
open_by silent c os = os
open_by (opens x k) c os = close (opened (suc c) 0 k ∷ fill 1 os)
open_by (item x) c os = close (fill 1 os)
open_by (empties k) c os = close (fill k os)

unfoldable pub walk : (ℕ → List ℕ) → (ℕ → Class) → (ℕ → ℕ) → ℕ → List Open → List Rec → List Node
walk name of order c os [] = []
walk name of order c os (r ∷ rs) =
    let x = sense_of name of order r in
    nodes_by x (owner_in os) (slot_in os) ++ walk name of order (count_by x c) (open_by x c os) rs

-- what the records after a header with this RootId mean
unfoldable pub meant : ℕ → List Rec → Model
meant root rs = record { root = order_by rs root; nodes = walk (name_by rs) (class_by rs) (order_by rs) 0 [] rs }

-- what the records of a reading mean
abbrev pub meant_by : {τ : Terms} {s : List ℕ} {rows : List Row} → Reading τ s rows → Model
meant_by w = meant w.root w.rs
