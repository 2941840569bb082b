-- Worked meanings: what records mean, kind by kind; lists that mean the same; and lists that do not, a pair for each word of 01 that can tell them apart.
use Rattle.std.specs.Prelude.{ℕ, ◌≡◌, refl, List, [], ◌∷◌, length}
use Rattle.std.proofs.Common.{ap, arith}
use Rattle.format.specs.declared.PrimitiveCode.TheVariants as C
use Rattle.format.specs.Contents.{Prefixed, bare, shortest, Detail, primitive, text, object, class, Member, Rec, class_by_id, system_class, library_class, string, array, typed_primitive, reference, null, nulls, many_nulls, end, library, primitive_array, object_array, string_array, value, the_library, Class}
use Rattle.format.specs.Says.{What, an_object, a_string, an_array, a_primitive, a_reference, a_null, a_primitive_array, an_object_array, a_string_array, a_value, Node, node, Model, spread}
use Rattle.format.specs.Meant.{found, libraries_of, classes_of, no_class, order_after, name_by, class_by, order_by, walk, meant}

abbrev model : ℕ → List Node → Model
model root nodes = record { root = root; nodes = nodes }

-- items of one byte each
abbrev bytes : List ℕ → List Prefixed
bytes [] = []
bytes (b ∷ bs) = bare (b ∷ []) ∷ bytes bs

-- ---- one kind after the other

-- 7: a jagged array of two strings
pub kind_7 : meant 8 (array 8 1 (2 ∷ []) text [] ∷ string 9 (shortest (49 ∷ [])) ∷ null ∷ end ∷ [])
    ≡ model 1 (node (an_array 1 (2 ∷ []) text []) 0 0 ∷ node (a_string (49 ∷ [])) 1 0 ∷ node a_null 1 1 ∷ [])
unfolding meant walk name_by class_by order_by found libraries_of classes_of order_after spread
kind_7 = refl

-- 7: a rectangular array of bytes holds its items itself, so what follows is at top level
pub kind_7_values : meant 8 (array 8 2 (2 ∷ 2 ∷ []) (primitive C.Byte) (bytes (1 ∷ 2 ∷ 3 ∷ 4 ∷ [])) ∷ string 9 (shortest (49 ∷ [])) ∷ end ∷ [])
    ≡ model 1 (node (an_array 2 (2 ∷ 2 ∷ []) (primitive C.Byte) ((1 ∷ []) ∷ (2 ∷ []) ∷ (3 ∷ []) ∷ (4 ∷ []) ∷ [])) 0 0 ∷ node (a_string (49 ∷ [])) 0 0 ∷ [])
unfolding meant walk name_by class_by order_by found libraries_of classes_of order_after spread
kind_7_values = refl

-- 8, 13 and 16: a typed primitive and a run of two nulls fill an object array
pub kind_8 : meant 9 (object_array 9 3 ∷ typed_primitive C.Int16 (bare (5 ∷ 0 ∷ [])) ∷ nulls 2 ∷ end ∷ [])
    ≡ model 1 (node (an_object_array 3) 0 0 ∷ node (a_primitive C.Int16 (5 ∷ 0 ∷ [])) 1 0 ∷ node a_null 1 1 ∷ node a_null 1 2 ∷ [])
unfolding meant walk name_by class_by order_by found libraries_of classes_of order_after spread
kind_8 = refl

-- 15: items lie inside the array; the root is the second object
pub kind_15 : meant 6 (primitive_array 5 3 C.Byte (bytes (1 ∷ 2 ∷ 3 ∷ [])) ∷ string 6 (shortest []) ∷ end ∷ [])
    ≡ model 2 (node (a_primitive_array 3 C.Byte ((1 ∷ []) ∷ (2 ∷ []) ∷ (3 ∷ []) ∷ [])) 0 0 ∷ node (a_string []) 0 0 ∷ [])
unfolding meant walk name_by class_by order_by found libraries_of classes_of order_after spread
kind_15 = refl

-- 17: a string, a reference to it and one to an object that comes later
pub kind_17 : meant 4 (string_array 4 3 ∷ string 7 (shortest (65 ∷ [])) ∷ reference 7 ∷ reference 2 ∷ string 2 (shortest []) ∷ end ∷ [])
    ≡ model 1 (node (a_string_array 3) 0 0 ∷ node (a_string (65 ∷ [])) 1 0 ∷ node (a_reference 2) 1 1 ∷ node (a_reference 3) 1 2 ∷ node (a_string []) 0 0 ∷ [])
unfolding meant walk name_by class_by order_by found libraries_of classes_of order_after spread
kind_17 = refl

-- ---- 32, 1, 5 and 12: an object in a slot of an object of its own class

abbrev two : {N L : Type 0} → (List ℕ → N) → L → List (Member N L)
two name l = record { name = name (97 ∷ []); type = primitive C.Byte } ∷ record { name = name (98 ∷ []); type = class (name (80 ∷ [])) l } ∷ []

abbrev pair : Class
pair = record { name = 80 ∷ []; from = the_library (76 ∷ []); members = two (λ n. n) (76 ∷ []) }

abbrev nested : List Rec
nested = library 3 (shortest (76 ∷ [])) ∷ library_class 10 (shortest (80 ∷ [])) (two shortest 3) 3 ∷ value C.Byte (bare (1 ∷ [])) ∷ class_by_id 20 10 ∷ value C.Byte (bare (2 ∷ [])) ∷ reference 10 ∷ string 30 (shortest []) ∷ end ∷ []

-- with a library that nothing needs, other numbers, the class written again, and a second number for the library's name
abbrev nested_again : List Rec
nested_again =
    library 1 (shortest (77 ∷ [])) ∷ library 2 (shortest (76 ∷ [])) ∷ library_class 1 (shortest (80 ∷ [])) (two shortest 2) 2 ∷ value C.Byte (bare (1 ∷ [])) ∷ library 5 (shortest (76 ∷ [])) ∷ library_class 2 (shortest (80 ∷ [])) (two shortest 5) 2
    ∷ value C.Byte (bare (2 ∷ [])) ∷ reference 1 ∷ string 3 (shortest []) ∷ end ∷ []

pub kind_32 : meant 20 nested
    ≡ model 2
    (node (an_object pair) 0 0 ∷ node (a_value C.Byte (1 ∷ [])) 1 0 ∷ node (an_object pair) 1 1 ∷ node (a_value C.Byte (2 ∷ [])) 2 0 ∷ node (a_reference 1) 2 1
    ∷ node (a_string []) 0 0 ∷ [])
unfolding meant walk name_by class_by order_by found libraries_of classes_of order_after spread
kind_32 = refl

-- ---- lists that mean the same

pub numbers_and_libraries : meant 20 nested ≡ meant 2 nested_again
unfolding meant walk name_by class_by order_by found libraries_of classes_of order_after spread
numbers_and_libraries = refl

pub nulls_spread : meant 1 (object_array 1 3 ∷ null ∷ nulls 0 ∷ nulls 2 ∷ end ∷ []) ≡ meant 7 (object_array 7 3 ∷ many_nulls 3 ∷ end ∷ [])
unfolding meant walk name_by class_by order_by found libraries_of classes_of order_after spread
nulls_spread = refl

-- the width of a prefix is not said: of a text, and of a Decimal
pub widths_unsaid : (meant 8 (string 8 (record { width = 2; text = 65 ∷ [] }) ∷ end ∷ []) ≡ meant 8 (string 8 (shortest (65 ∷ [])) ∷ end ∷ []))
    × (meant 8 (primitive_array 8 1 C.Decimal (record { width = 5; text = 55 ∷ [] } ∷ []) ∷ end ∷ []) ≡ meant 8 (primitive_array 8 1 C.Decimal (shortest (55 ∷ []) ∷ []) ∷ end ∷ []))
unfolding meant walk name_by class_by order_by found libraries_of classes_of order_after spread
widths_unsaid = (refl, refl)

-- ---- and lists that do not: for each word of 01 two lists that differ in nothing else. Owner and slot follow from the records and their order, so no two
-- lists differ in these alone; kind-8, kind-17 and kind-32 have them.

-- a list of one object, and one of two records
abbrev alone : Rec → Model
alone r = meant 8 (r ∷ end ∷ [])

abbrev both : Rec → Rec → Model
both r q = meant 8 (r ∷ q ∷ end ∷ [])

abbrev whats : Model → List What
whats m = each m.nodes
  where
    each : List Node → List What
    each [] = []
    each (n ∷ ns) = n.what ∷ each ns

-- how long the first item is of the first thing said, if it is a primitive array
abbrev first_item : List What → ℕ
first_item [] = 0
first_item (an_object c ∷ ws) = 0
first_item (a_string x ∷ ws) = 0
first_item (an_array t ns d vs ∷ ws) = 0
first_item (a_primitive c v ∷ ws) = 0
first_item (a_reference k ∷ ws) = 0
first_item (a_null ∷ ws) = 0
first_item (a_primitive_array n c [] ∷ ws) = 0
first_item (a_primitive_array n c (v ∷ vs) ∷ ws) = length v
first_item (an_object_array n ∷ ws) = 0
first_item (a_string_array n ∷ ws) = 0
first_item (a_value c v ∷ ws) = 0

-- kind
pub kind_told : alone (object_array 8 0) ≡ alone (string_array 8 0) → ⊥
unfolding meant walk name_by class_by order_by found libraries_of classes_of order_after spread
kind_told e = let w = ap whats e in let z : ◌≡◌ {A = ℕ} 0 1 = cc in omega arith

-- array type
pub array_type_told : alone (array 8 0 (0 ∷ []) text []) ≡ alone (array 8 1 (0 ∷ []) text []) → ⊥
unfolding meant walk name_by class_by order_by found libraries_of classes_of order_after spread
array_type_told e = let w = ap whats e in let z : ◌≡◌ {A = ℕ} 0 1 = cc in omega arith

-- lengths
pub lengths_told : alone (array 8 2 (0 ∷ 1 ∷ []) text []) ≡ alone (array 8 2 (0 ∷ 2 ∷ []) text []) → ⊥
unfolding meant walk name_by class_by order_by found libraries_of classes_of order_after spread
lengths_told e = let w = ap whats e in let z : ◌≡◌ {A = ℕ} 1 2 = cc in omega arith

-- item types
pub item_type_told : alone (array 8 0 (0 ∷ []) text []) ≡ alone (array 8 0 (0 ∷ []) object []) → ⊥
unfolding meant walk name_by class_by order_by found libraries_of classes_of order_after spread
item_type_told e = let w = ap whats e in let z : ◌≡◌ {A = ℕ} 0 1 = cc in omega arith

abbrev of_class : Rec
of_class = array 8 0 (0 ∷ []) (class (shortest []) 1) []

-- a library in an item type, by its name
pub item_library_told : both (library 1 (shortest (65 ∷ []))) of_class ≡ both (library 1 (shortest (66 ∷ []))) of_class → ⊥
unfolding meant walk name_by class_by order_by found libraries_of classes_of order_after spread
item_library_told e = let w = ap whats e in let z : ◌≡◌ {A = ℕ} 65 66 = cc in omega arith

abbrev typed : Rec → Model
typed r = both (object_array 8 1) r

-- primitive code
pub code_told : typed (typed_primitive C.Int16 (bare (5 ∷ 0 ∷ []))) ≡ typed (typed_primitive C.UInt16 (bare (5 ∷ 0 ∷ []))) → ⊥
unfolding meant walk name_by class_by order_by found libraries_of classes_of order_after spread
code_told e = let w = ap whats e in let z : ◌≡◌ {A = ℕ} 0 1 = cc in omega arith

-- primitive code of an array
pub array_code_told : alone (primitive_array 8 0 C.Byte []) ≡ alone (primitive_array 8 0 C.SByte []) → ⊥
unfolding meant walk name_by class_by order_by found libraries_of classes_of order_after spread
array_code_told e = let w = ap whats e in let z : ◌≡◌ {A = ℕ} 0 1 = cc in omega arith

-- items, each by itself: 1 and 23 are not 12 and 3
pub items_told : alone (primitive_array 8 2 C.Decimal (shortest (49 ∷ []) ∷ shortest (50 ∷ 51 ∷ []) ∷ []))
    ≡ alone (primitive_array 8 2 C.Decimal (shortest (49 ∷ 50 ∷ []) ∷ shortest (51 ∷ []) ∷ [])) → ⊥
unfolding meant walk name_by class_by order_by found libraries_of classes_of order_after spread
items_told e =
    let z : ◌≡◌ {A = ℕ} 1 2 = ap (λ (m : Model). first_item (whats m)) e in
    omega arith

-- the text of a Decimal and not its number: 7 is not 07, by itself and as an item
pub decimal_told : typed (typed_primitive C.Decimal (shortest (55 ∷ []))) ≡ typed (typed_primitive C.Decimal (shortest (48 ∷ 55 ∷ []))) → ⊥
unfolding meant walk name_by class_by order_by found libraries_of classes_of order_after spread
decimal_told e = let w = ap whats e in let z : ◌≡◌ {A = ℕ} 55 48 = cc in omega arith

pub decimal_item_told : alone (primitive_array 8 1 C.Decimal (shortest (55 ∷ []) ∷ [])) ≡ alone (primitive_array 8 1 C.Decimal (shortest (48 ∷ 55 ∷ []) ∷ [])) → ⊥
unfolding meant walk name_by class_by order_by found libraries_of classes_of order_after spread
decimal_item_told e =
    let z : ◌≡◌ {A = ℕ} 1 2 = ap (λ (m : Model). first_item (whats m)) e in
    omega arith

-- text
pub text_told : alone (string 8 (shortest (65 ∷ []))) ≡ alone (string 8 (shortest (66 ∷ []))) → ⊥
unfolding meant walk name_by class_by order_by found libraries_of classes_of order_after spread
text_told e = let w = ap whats e in let z : ◌≡◌ {A = ℕ} 65 66 = cc in omega arith

abbrev targeted : ℕ → Model
targeted i = meant 8 (object_array 8 1 ∷ reference i ∷ string 9 (shortest []) ∷ end ∷ [])

-- target
pub target_told : targeted 8 ≡ targeted 9 → ⊥
unfolding meant walk name_by class_by order_by found libraries_of classes_of order_after spread
target_told e = let w = ap whats e in let z : ◌≡◌ {A = ℕ} 1 2 = cc in omega arith

abbrev rooted : ℕ → Model
rooted i = meant i (string 8 (shortest []) ∷ string 9 (shortest []) ∷ end ∷ [])

-- root
pub root_told : rooted 8 ≡ rooted 9 → ⊥
unfolding meant walk name_by class_by order_by found libraries_of classes_of order_after spread
root_told e = let z : ◌≡◌ {A = ℕ} 1 2 = ap (λ (m : Model). m.root) e in omega arith

-- a class of one member
abbrev one : List ℕ → Detail Prefixed ℕ → Rec
one n d = system_class 8 (shortest []) (record { name = shortest n; type = d } ∷ [])

-- value bytes of a member
pub value_told : both (one [] (primitive C.Byte)) (value C.Byte (bare (1 ∷ []))) ≡ both (one [] (primitive C.Byte)) (value C.Byte (bare (2 ∷ []))) → ⊥
unfolding meant walk name_by class_by order_by found libraries_of classes_of order_after spread
value_told e = let w = ap whats e in let z : ◌≡◌ {A = ℕ} 1 2 = cc in omega arith

-- classes: the first thing said, if it is an object
abbrev class_of : List What → Class
class_of [] = no_class
class_of (an_object c ∷ ws) = c
class_of (a_string x ∷ ws) = no_class
class_of (an_array t ns d vs ∷ ws) = no_class
class_of (a_primitive c v ∷ ws) = no_class
class_of (a_reference k ∷ ws) = no_class
class_of (a_null ∷ ws) = no_class
class_of (a_primitive_array n c vs ∷ ws) = no_class
class_of (an_object_array n ∷ ws) = no_class
class_of (a_string_array n ∷ ws) = no_class
class_of (a_value c v ∷ ws) = no_class

abbrev names : List (Member (List ℕ) (List ℕ)) → List (List ℕ)
names [] = []
names (m ∷ ms) = m.name ∷ names ms

abbrev types : List (Member (List ℕ) (List ℕ)) → List (Detail (List ℕ) (List ℕ))
types [] = []
types (m ∷ ms) = m.type ∷ types ms

-- class name
pub class_name_told : alone (system_class 8 (shortest (65 ∷ [])) []) ≡ alone (system_class 8 (shortest (66 ∷ [])) []) → ⊥
unfolding meant walk name_by class_by order_by found libraries_of classes_of order_after spread
class_name_told e = let w = ap (λ (m : Model). (class_of (whats m)).name) e in let z : ◌≡◌ {A = ℕ} 65 66 = cc in omega arith

-- system or library
pub system_told : both (library 1 (shortest [])) (system_class 8 (shortest []) []) ≡ both (library 1 (shortest [])) (library_class 8 (shortest []) [] 1) → ⊥
unfolding meant walk name_by class_by order_by found libraries_of classes_of order_after spread
system_told e = let w = ap (λ (m : Model). (class_of (whats m)).from) e in let z : ◌≡◌ {A = ℕ} 0 1 = cc in omega arith

abbrev from : List ℕ → Model
from n = both (library 1 (shortest n)) (library_class 8 (shortest []) [] 1)

-- library name
pub library_told : from (65 ∷ []) ≡ from (66 ∷ []) → ⊥
unfolding meant walk name_by class_by order_by found libraries_of classes_of order_after spread
library_told e = let w = ap (λ (m : Model). (class_of (whats m)).from) e in let z : ◌≡◌ {A = ℕ} 65 66 = cc in omega arith

-- member names
pub member_name_told : both (one (65 ∷ []) text) null ≡ both (one (66 ∷ []) text) null → ⊥
unfolding meant walk name_by class_by order_by found libraries_of classes_of order_after spread
member_name_told e = let w = ap (λ (m : Model). names (class_of (whats m)).members) e in let z : ◌≡◌ {A = ℕ} 65 66 = cc in omega arith

-- member types
pub member_type_told : both (one [] text) null ≡ both (one [] object) null → ⊥
unfolding meant walk name_by class_by order_by found libraries_of classes_of order_after spread
member_type_told e = let w = ap (λ (m : Model). types (class_of (whats m)).members) e in let z : ◌≡◌ {A = ℕ} 0 1 = cc in omega arith
