-- The tidy copy (01, The tidy copy): the one way to write what a list says. Records with single nulls first; then each longest run is packed.
use Rattle.std.specs.Prelude.{ℕ, zero, suc, Bool, true, false, ◌&&◌, List, [], ◌∷◌, ◌++◌, length, replicate, leb, eqb, Result, Ok, Err}
use Rattle.format.specs.declared.Untidied.{Untidied}
use Rattle.format.specs.declared.Untidied.TheVariants as A
use Rattle.format.specs.declared.PrimitiveCode.{PrimitiveCode}
use Rattle.format.specs.Bytes.{pick, same_bytes, laid}
use Rattle.format.specs.Types.{code_number}
use Rattle.format.specs.Machine.{Outcome, accepted, refused, table_words}
use Rattle.format.specs.Contents.{Prefixed, bare, shortest, has_prefix, Detail, primitive, text, object, system, class, objects, texts, primitives, Member, type_byte, Rec, header, class_by_id, system_class, library_class, string, array, typed_primitive, reference, null, nulls, many_nulls, end, library, primitive_array, object_array, string_array, value, encs, From, the_system, the_library, Class, same_from}
use Rattle.format.specs.Says.{What, an_object, a_string, an_array, a_primitive, a_reference, a_null, a_primitive_array, an_object_array, a_string_array, a_value, Node, Model, code_of, says}

-- ---- distinct classes: name, system or library name, member names and types in order

abbrev pub detail_name : Detail (List ℕ) (List ℕ) → List ℕ
detail_name (primitive c) = code_number c ∷ []
detail_name text = []
detail_name object = []
detail_name (system n) = n
detail_name (class n l) = n
detail_name objects = []
detail_name texts = []
detail_name (primitives c) = code_number c ∷ []

abbrev pub detail_library : Detail (List ℕ) (List ℕ) → List ℕ
detail_library (primitive c) = []
detail_library text = []
detail_library object = []
detail_library (system n) = []
detail_library (class n l) = l
detail_library objects = []
detail_library texts = []
detail_library (primitives c) = []

unfoldable pub same_detail : Detail (List ℕ) (List ℕ) → Detail (List ℕ) (List ℕ) → Bool
same_detail d e = eqb (type_byte d) (type_byte e) && (same_bytes (detail_name d) (detail_name e) && same_bytes (detail_library d) (detail_library e))

unfoldable pub same_members : List (Member (List ℕ) (List ℕ)) → List (Member (List ℕ) (List ℕ)) → Bool
same_members [] [] = true
same_members [] (m ∷ ms) = false
same_members (m ∷ ms) [] = false
same_members (m ∷ ms) (n ∷ ns) = (same_bytes m.name n.name && same_detail m.type n.type) && same_members ms ns

unfoldable pub same_class : Class → Class → Bool
same_class c d = same_bytes c.name d.name && (same_from c.from d.from && same_members c.members d.members)

-- ---- numbers by first need: tables that only grow

-- the number of the first entry that passes; 0 if there is none
unfoldable pub number_in : {K : Type 0} → (K → Bool) → List (ℕ × K) → ℕ
number_in p [] = 0
number_in p (e ∷ es) = pick (p e.1) e.0 (number_in p es)

-- what was written so far: how many objects, the classes with their first objects' numbers, the libraries with theirs
pub record Progress : Type 0 where
  pub count : ℕ
  pub classes : List (ℕ × Class)
  pub libraries : List (ℕ × List ℕ)

abbrev pub nothing : Progress
nothing = record { count = 0; classes = []; libraries = [] }

abbrev pub Libraries : Type 0
Libraries = List (ℕ × List ℕ)

-- a library is entered, unless its name is there
unfoldable pub entered : List ℕ → Libraries → Libraries
entered name ls = pick (eqb (number_in (same_bytes name) ls) 0) (ls ++ ((suc (length ls), name) ∷ [])) ls

unfoldable pub all_entered : List (List ℕ) → Libraries → Libraries
all_entered [] ls = ls
all_entered (n ∷ ns) ls = all_entered ns (entered n ls)

-- the records of the libraries that are entered
unfoldable pub library_records : List (List ℕ) → Libraries → List Rec
library_records [] ls = []
library_records (n ∷ ns) ls =
    pick (eqb (number_in (same_bytes n) ls) 0) (library (suc (length ls)) (shortest n) ∷ []) [] ++ library_records ns (entered n ls)

-- ---- the libraries that a record names, in its field order

abbrev pub detail_needs : Detail (List ℕ) (List ℕ) → List (List ℕ)
detail_needs (primitive c) = []
detail_needs text = []
detail_needs object = []
detail_needs (system n) = []
detail_needs (class n l) = l ∷ []
detail_needs objects = []
detail_needs texts = []
detail_needs (primitives c) = []

abbrev pub members_need : List (Member (List ℕ) (List ℕ)) → List (List ℕ)
members_need [] = []
members_need (m ∷ ms) = detail_needs m.type ++ members_need ms

abbrev pub from_needs : From → List (List ℕ)
from_needs the_system = []
from_needs (the_library n) = n ∷ []

abbrev pub class_needs : Class → List (List ℕ)
class_needs c = members_need c.members ++ from_needs c.from

-- ---- records from what is said: libraries by their new numbers, every prefix the shortest

-- a value of a code, and several
abbrev pub value_by : PrimitiveCode → List ℕ → Prefixed
value_by c v = pick (has_prefix c) (shortest v) (bare v)

abbrev pub values_by : PrimitiveCode → List (List ℕ) → List Prefixed
values_by c [] = []
values_by c (v ∷ vs) = value_by c v ∷ values_by c vs

abbrev pub detail_by : Libraries → Detail (List ℕ) (List ℕ) → Detail Prefixed ℕ
detail_by ls (primitive c) = primitive c
detail_by ls text = text
detail_by ls object = object
detail_by ls (system n) = system (shortest n)
detail_by ls (class n l) = class (shortest n) (number_in (same_bytes l) ls)
detail_by ls objects = objects
detail_by ls texts = texts
detail_by ls (primitives c) = primitives c

abbrev pub members_by : Libraries → List (Member (List ℕ) (List ℕ)) → List (Member Prefixed ℕ)
members_by ls [] = []
members_by ls (m ∷ ms) = record { name = shortest m.name; type = detail_by ls m.type } ∷ members_by ls ms

abbrev pub class_by : Libraries → ℕ → Class → From → Rec
class_by ls id c the_system = system_class id (shortest c.name) (members_by ls c.members)
class_by ls id c (the_library n) = library_class id (shortest c.name) (members_by ls c.members) (number_in (same_bytes n) ls)

-- an object: by its class's first object, or in full with the libraries that it is the first to need
abbrev pub object_by : ℕ → Progress → Class → List Rec
object_by zero w c =
    let ls = all_entered (class_needs c) w.libraries in
    library_records (class_needs c) w.libraries ++ (class_by ls (suc w.count) c c.from ∷ [])
object_by (suc first) w c = class_by_id (suc w.count) (suc first) ∷ []

abbrev pub after_object : ℕ → Progress → Class → Progress
after_object zero w c =
    record { count = suc w.count; classes = w.classes ++ ((suc w.count, c) ∷ []); libraries = all_entered (class_needs c) w.libraries }
after_object (suc first) w c = record { count = suc w.count; classes = w.classes; libraries = w.libraries }

-- another object, which names no class
abbrev pub counted : Progress → Progress
counted w = record { count = suc w.count; classes = w.classes; libraries = w.libraries }

unfoldable pub records_of : Progress → What → List Rec
records_of w (an_object c) = object_by (number_in (same_class c) w.classes) w c
records_of w (a_string t) = string (suc w.count) (shortest t) ∷ []
records_of w (an_array type lengths item items) =
    let ls = all_entered (detail_needs item) w.libraries in
    library_records (detail_needs item) w.libraries ++ (array (suc w.count) type lengths (detail_by ls item) (values_by (code_of item) items) ∷ [])
records_of w (a_primitive code v) = typed_primitive code (value_by code v) ∷ []
records_of w (a_reference target) = reference target ∷ []
records_of w a_null = null ∷ []
records_of w (a_primitive_array n code items) = primitive_array (suc w.count) n code (values_by code items) ∷ []
records_of w (an_object_array n) = object_array (suc w.count) n ∷ []
records_of w (a_string_array n) = string_array (suc w.count) n ∷ []
records_of w (a_value code v) = value code (value_by code v) ∷ []

unfoldable pub after_what : Progress → What → Progress
after_what w (an_object c) = after_object (number_in (same_class c) w.classes) w c
after_what w (a_string t) = counted w
after_what w (an_array type lengths item items) =
    record { count = suc w.count; classes = w.classes; libraries = all_entered (detail_needs item) w.libraries }
after_what w (a_primitive code v) = w
after_what w (a_reference target) = w
after_what w a_null = w
after_what w (a_primitive_array n code items) = counted w
after_what w (an_object_array n) = counted w
after_what w (a_string_array n) = counted w
after_what w (a_value code v) = w

-- a record and the object in whose slot it stands
pub record Standing : Type 0 where
  pub owner : ℕ
  pub rec : Rec

abbrev pub owned_by : ℕ → List Rec → List Standing
owned_by o [] = []
owned_by o (r ∷ rs) = record { owner = o; rec = r } ∷ owned_by o rs

-- every node's records, nulls still single
unfoldable pub pack : Progress → List Node → List Standing
pack w [] = []
pack w (n ∷ ns) = owned_by n.owner (records_of w n.what) ++ pack (after_what w n.what) ns

-- ---- runs

-- a run of nulls: kind 10 for one, 13 for 2 to 255, 14 from 256
unfoldable pub run_of : ℕ → List Rec
run_of n = pick (eqb n 0) [] (pick (eqb n 1) (null ∷ []) (pick (leb n 255) (nulls n ∷ []) (many_nulls n ∷ [])))

abbrev pub is_null : Rec → Bool
is_null (header r h) = false
is_null (class_by_id i c) = false
is_null (system_class i n ms) = false
is_null (library_class i n ms l) = false
is_null (string i t) = false
is_null (array i t l d v) = false
is_null (typed_primitive c v) = false
is_null (reference i) = false
is_null null = true
is_null (nulls n) = false
is_null (many_nulls n) = false
is_null end = false
is_null (library i n) = false
is_null (primitive_array i n c v) = false
is_null (object_array i n) = false
is_null (string_array i n) = false
is_null (value c v) = false

-- nulls of one object that wait to be written
pub record Run : Type 0 where
  pub owner : ℕ
  pub count : ℕ

abbrev pub no_run : Run
no_run = record { owner = 0; count = 0 }

-- one null more: of the same object, or the first of another
abbrev pub longer : Run → ℕ → Run
longer w o = record { owner = o; count = pick (eqb o w.owner) (suc w.count) 1 }

-- what is written before and with the next record: a run ends at any other record, and at a null of another object
unfoldable pub written : Run → Standing → List Rec
written w r = pick (is_null r.rec) (pick (eqb r.owner w.owner) [] (run_of w.count)) (run_of w.count ++ (r.rec ∷ []))

unfoldable pub waiting : Run → Standing → Run
waiting w r = pick (is_null r.rec) (longer w r.owner) no_run

unfoldable pub squeeze : Run → List Standing → List Rec
squeeze w [] = run_of w.count
squeeze w (r ∷ rs) = written w r ++ squeeze (waiting w r) rs

-- ---- the copy

-- the records of the tidy copy
unfoldable pub tidy_records : Model → List Rec
tidy_records m = header m.root m.root ∷ (squeeze no_run (pack nothing m.nodes) ++ (end ∷ []))

unfoldable pub tidy_of : Model → List ℕ
tidy_of m = encs (tidy_records m)

-- ---- the tidy job: answer, output and table, from the outcome of the reading, with an output that holds `out` before

-- the copy is within the output and the stream limit
abbrev pub fits : List ℕ → List ℕ → Bool
fits copy out = leb (length copy) (length out) && leb (length copy) 16777216

abbrev pub answer_by : List ℕ → List ℕ → Result ℕ Untidied
answer_by copy out = pick (fits copy out) (Ok (length copy)) (Err (A.OutFull (length copy)))

unfoldable pub tidy_answer : (β s out : List ℕ) → Outcome → Result ℕ Untidied
tidy_answer β s out (accepted rows) = answer_by (tidy_of (says β s rows)) out
tidy_answer β s out (refused r place) = Err (A.Refused (record { refusal = r; place = place }))

abbrev pub out_by : List ℕ → List ℕ → List ℕ
out_by copy out = pick (fits copy out) (laid copy out) out

unfoldable pub tidy_output : (β s out : List ℕ) → Outcome → List ℕ
tidy_output β s out (accepted rows) = out_by (tidy_of (says β s rows)) out
tidy_output β s out (refused r place) = out

unfoldable pub tidy_table : ℕ → (β s out : List ℕ) → Outcome → List ℕ
tidy_table n β s out (accepted rows) = pick (fits (tidy_of (says β s rows)) out) (table_words n (accepted rows)) (replicate n 0)
tidy_table n β s out (refused r place) = replicate n 0
