-- Of nodes that fit: their classes, types and names are good contents of records once libraries have numbers, the slots of open objects are fewer
-- than 2147483648, and numbers grow to at most how many objects and libraries there are.
use Rattle.std.specs.Prelude.{ℕ, zero, suc, ◌+◌, ◌≤◌, ◌<◌, ◌≡◌, refl, Bool, true, false, List, [], ◌∷◌, ◌++◌, length, replicate, eqb}
use Rattle.std.proofs.Common.{sym, ap, subst, ◌∙◌, arith, length-append}
use Rattle.std.proofs.lemmas.List.{length-replicate}
use Rattle.format.specs.Terms.{Terms}
use Rattle.format.specs.declared.SlotType.{SlotType}
use Rattle.format.specs.declared.SlotType.TheVariants as S
use Rattle.format.specs.Bytes.{pick, same_bytes}
use Rattle.format.specs.Contents.{shortest, Detail, primitive, text, object, system, class, objects, texts, primitives, Member, slot_for, From, the_system, the_library, Class}
use Rattle.format.specs.Grammar.{Positive, Entry, LibraryId, GoodDetail, Members, Characters, ClassInfo, types_of, product, takes_records}
use Rattle.format.specs.Grammar as G
use Rattle.format.specs.Says.{What, an_object, a_string, an_array, a_primitive, a_reference, a_null, a_primitive_array, an_object_array, a_string_array, a_value, Node}
use Rattle.format.specs.Tidy.{same_class, number_in, Progress, Libraries, entered, all_entered, detail_needs, members_need, from_needs, class_needs, detail_by, members_by, after_object, after_what}
use Rattle.laws.specs.Numbers.{after_nodes}
use Rattle.saying.specs.Good.{GoodType, GoodMembers, no_more, member, GoodFrom, of_library_rule, GoodClass, slots_of, Place, place, shut_by, shut, filled_one, opened_in, Allowed, top_object, top_string, top_objects, top_strings, top_primitives, top_array, top_values, in_object, in_string, in_primitive, in_reference, in_null, in_value, count_of, item_slots, open_after, Fits, the_end, a_node}
use Rattle.saying.specs.Numbers.{Listed, number_within, Each, no_name, a_name, each_left, each_right, Has}
use Rattle.saying.specs.Prefixes.{shortest_name}
use Rattle.saying.specs.Counts.{Knows}

-- ---- numbers

pub positive_of_lem : (n : ℕ) → 0 < n → n < 2147483648 → Positive n
positive_of_lem n a b = record { above = a; below = b }

entered_grows : (name : List ℕ) (ls : Libraries) → length ls ≤ length (entered name ls)
unfolding entered
entered_grows name ls = go (eqb (number_in (same_bytes name) ls) 0)
  where
    go : (b : Bool) → length ls ≤ length (pick b (ls ++ ((suc (length ls), name) ∷ [])) ls)
    go true = let l = length-append ls ((suc (length ls), name) ∷ []) in omega arith
    go false = omega arith

pub all_grow : (names : List (List ℕ)) (ls : Libraries) → length ls ≤ length (all_entered names ls)
unfolding all_entered
all_grow [] ls = omega arith
all_grow (n ∷ names) ls = let a = entered_grows n ls in let b = all_grow names (entered n ls) in omega arith

object_grows : (k : ℕ) (w : Progress) (c : Class) → length w.libraries ≤ length (after_object k w c).libraries
object_grows zero w c = all_grow (class_needs c) w.libraries
object_grows (suc k) w c = omega arith

pub what_grows : (w : Progress) (x : What) → length w.libraries ≤ length (after_what w x).libraries
unfolding after_what
what_grows w (an_object c) = object_grows (number_in (same_class c) w.classes) w c
what_grows w (a_string t) = omega arith
what_grows w (an_array type ns d vs) = all_grow (detail_needs d) w.libraries
what_grows w (a_primitive c v) = omega arith
what_grows w (a_reference k) = omega arith
what_grows w a_null = omega arith
what_grows w (a_primitive_array n c vs) = omega arith
what_grows w (an_object_array n) = omega arith
what_grows w (a_string_array n) = omega arith
what_grows w (a_value c v) = omega arith

pub nodes_grow : (w : Progress) (ns : List Node) → length w.libraries ≤ length (after_nodes w ns).libraries
unfolding after_nodes
nodes_grow w [] = omega arith
nodes_grow w (n ∷ ns) = let a = what_grows w n.what in let b = nodes_grow (after_what w n.what) ns in omega arith

object_count : (k : ℕ) (w : Progress) (c : Class) → (after_object k w c).count ≡ w.count + 1
object_count zero w c = omega arith
object_count (suc k) w c = omega arith

pub what_count : (w : Progress) (x : What) → (after_what w x).count ≡ w.count + count_of x
unfolding after_what
what_count w (an_object c) = object_count (number_in (same_class c) w.classes) w c
what_count w (a_string t) = omega arith
what_count w (an_array type ns d vs) = omega arith
what_count w (a_primitive c v) = omega arith
what_count w (a_reference k) = omega arith
what_count w a_null = omega arith
what_count w (a_primitive_array n c vs) = omega arith
what_count w (an_object_array n) = omega arith
what_count w (a_string_array n) = omega arith
what_count w (a_value c v) = omega arith

pub fits_le : (total count : ℕ) (fs : List Place) (ns : List Node) → Fits total count fs ns → count ≤ total
fits_le total count fs [] (the_end e) = omega arith
fits_le total count fs (n ∷ ns) (a_node a o s f) = let h = fits_le total (count + count_of n.what) (open_after count fs n.what) ns f in omega arith

-- ---- contents

pub types_by : (ls : Libraries) (ms : List (Member (List ℕ) (List ℕ))) → types_of (members_by ls ms) ≡ slots_of ms
types_by ls [] = refl
types_by ls (m ∷ ms) = go m.type (types_by ls ms)
  where
    go : (d : Detail (List ℕ) (List ℕ)) → types_of (members_by ls ms) ≡ slots_of ms → slot_for (detail_by ls d) ∷ types_of (members_by ls ms) ≡ slot_for d ∷ slots_of ms
    go (primitive c) e = ap (◌∷◌ (S.Primitive c)) e
    go text e = ap (◌∷◌ S.Text) e
    go object e = ap (◌∷◌ S.Object) e
    go (system n) e = ap (◌∷◌ S.SystemClass) e
    go (class n l) e = ap (◌∷◌ S.Class) e
    go objects e = ap (◌∷◌ S.ObjectArray) e
    go texts e = ap (◌∷◌ S.StringArray) e
    go (primitives c) e = ap (◌∷◌ (S.PrimitiveArray c)) e

pub length_by : (ls : Libraries) (ms : List (Member (List ℕ) (List ℕ))) → length (members_by ls ms) ≡ length ms
length_by ls [] = refl
length_by ls (m ∷ ms) = ap suc (length_by ls ms)

pub length_slots : (ms : List (Member (List ℕ) (List ℕ))) → length (slots_of ms) ≡ length ms
length_slots [] = refl
length_slots (m ∷ ms) = ap suc (length_slots ms)

-- libraries by number are known where all that have one are
module _ (τ : Terms) (es : List Entry) (ls : Libraries) (there : (n : List ℕ) → Has ls n → LibraryId (number_in (same_bytes n) ls) es) where
  pub detail_good : (d : Detail (List ℕ) (List ℕ)) → GoodType d → Each (Has ls) (detail_needs d) → GoodDetail τ es (detail_by ls d)
  detail_good (primitive c) g h = tt
  detail_good text g h = tt
  detail_good object g h = tt
  detail_good (system n) g h = shortest_name τ g
  detail_good (class n l) g (a_name p h) = (shortest_name τ g.0, there l p)
  detail_good objects g h = tt
  detail_good texts g h = tt
  detail_good (primitives c) g h = tt

  members_good : (ms : List (Member (List ℕ) (List ℕ))) → GoodMembers ms → Each (Has ls) (members_need ms) → Members τ es (members_by ls ms)
  members_good [] no_more h = G.no_more
  members_good (m ∷ ms) (member n t g) h =
      G.member (shortest_name τ n) (detail_good m.type t (each_left (detail_needs m.type) (members_need ms) h))
      (members_good ms g (each_right (detail_needs m.type) (members_need ms) h))

  pub class_good : (c : Class) → GoodClass c → Each (Has ls) (class_needs c) → ClassInfo τ es (shortest c.name) (members_by ls c.members)
  class_good c g h =
      let l = length_by ls c.members in
      let k = g.counted in
      record {
        named = shortest_name τ g.named;
        counted = omega arith;
        members = members_good c.members g.members (each_left (members_need c.members) (from_needs c.from) h);
      }

pub library_there : (es : List Entry) (count : ℕ) (cs : List (ℕ × Class)) (ls : Libraries) → Listed ls → length ls < 2147483648 → Knows es count cs (length ls)
    → (n : List ℕ) → Has ls n → LibraryId (number_in (same_bytes n) ls) es
library_there es count cs ls w b k n h =
    let q = number_within (same_bytes n) 0 (length ls) h.0 ls w h.1 in
    let u : suc h.0 ≤ length ls = q.1 in
    subst (λ (i : ℕ). LibraryId i es) (sym h.1) (record { sign = positive_of_lem (suc h.0) (omega arith) (omega arith); there = k.known_to (suc h.0) (omega arith) u })

-- the libraries that are needed have names
each_append : (P : List ℕ → Type 0) (a b : List (List ℕ)) → Each P a → Each P b → Each P (a ++ b)
each_append P [] b no_name h = h
each_append P (n ∷ a) b (a_name p g) h = a_name p (each_append P a b g h)

pub detail_names : (d : Detail (List ℕ) (List ℕ)) → GoodType d → Each Characters (detail_needs d)
detail_names (primitive c) g = no_name
detail_names text g = no_name
detail_names object g = no_name
detail_names (system n) g = no_name
detail_names (class n l) g = a_name g.1 no_name
detail_names objects g = no_name
detail_names texts g = no_name
detail_names (primitives c) g = no_name

members_names : (ms : List (Member (List ℕ) (List ℕ))) → GoodMembers ms → Each Characters (members_need ms)
members_names [] no_more = no_name
members_names (m ∷ ms) (member n t g) = each_append Characters (detail_needs m.type) (members_need ms) (detail_names m.type t) (members_names ms g)

from_names : (x : From) → GoodFrom x → Each Characters (from_needs x)
from_names the_system g = no_name
from_names (the_library n) (of_library_rule g) = a_name g no_name

pub class_names : (c : Class) → GoodClass c → Each Characters (class_needs c)
class_names c g = each_append Characters (members_need c.members) (from_needs c.from) (members_names c.members g.members) (from_names c.from g.from)

-- ---- slots of open objects are few

abbrev pub Small : List Place → Type 0
Small [] = Unit {0}
Small (f ∷ fs) = (f.slot + length f.types < 2147483648) × Small fs

small_shut : (fs : List Place) → Small fs → Small (shut fs)
unfolding shut
small_shut [] h = h
small_shut (f ∷ fs) h = go f.types refl (small_shut fs h.1)
  where
    go : (ts : List SlotType) → f.types ≡ ts → Small (shut fs) → Small (shut_by ts f.owner f.slot fs (shut fs))
    go [] e again = again
    go (t ∷ ts) e again = (subst (λ (us : List SlotType). f.slot + length us < 2147483648) e h.0, h.1)

small_filled : (total : ℕ) (fs : List Place) (x : What) → Allowed total fs x → Small fs → Small (filled_one fs)
small_filled total fs x (top_object a) h = h
small_filled total fs x (top_string a) h = h
small_filled total fs x (top_objects a) h = h
small_filled total fs x (top_strings a) h = h
small_filled total fs x (top_primitives a b) h = h
small_filled total fs x (top_array a b c) h = h
small_filled total fs x (top_values a b) h = h
small_filled total fs x (in_object a b c) h = let i = h.0 in (omega arith, h.1)
small_filled total fs x (in_string a b) h = let i = h.0 in (omega arith, h.1)
small_filled total fs x (in_primitive a b) h = let i = h.0 in (omega arith, h.1)
small_filled total fs x (in_reference a b c) h = let i = h.0 in (omega arith, h.1)
small_filled total fs x (in_null a) h = let i = h.0 in (omega arith, h.1)
small_filled total fs x (in_value a) h = let i = h.0 in (omega arith, h.1)

-- the types of the slots that it has
abbrev pub slots_for : What → List SlotType
slots_for (an_object c) = slots_of c.members
slots_for (a_string x) = []
slots_for (an_array t ns d vs) = item_slots ns d
slots_for (a_primitive c v) = []
slots_for (a_reference k) = []
slots_for a_null = []
slots_for (a_primitive_array n c vs) = []
slots_for (an_object_array n) = replicate n S.Object
slots_for (a_string_array n) = replicate n S.Text
slots_for (a_value c v) = []

pub item_slots_lem : (ns : List ℕ) (d : Detail (List ℕ) (List ℕ)) → takes_records (slot_for d) ≡ true → item_slots ns d ≡ replicate (product ns) (slot_for d)
item_slots_lem ns (primitive c) e = absurd (let z : ◌≡◌ {A = ℕ} 0 1 = cc in omega arith)
item_slots_lem ns text e = refl
item_slots_lem ns object e = refl
item_slots_lem ns (system n) e = refl
item_slots_lem ns (class n l) e = refl
item_slots_lem ns objects e = refl
item_slots_lem ns texts e = refl
item_slots_lem ns (primitives c) e = refl

pub few : (total : ℕ) (fs : List Place) (x : What) → Allowed total fs x → length (slots_for x) < 2147483648
few total fs (an_object c) (top_object g) = let l = length_slots c.members in let k = g.counted in omega arith
few total fs (an_object c) (in_object a g d) = let l = length_slots c.members in let k = g.counted in omega arith
few total fs (a_string x) a = omega arith
few total fs (an_array t ns d vs) (top_array s g p) =
    let e : length (item_slots ns d) ≡ product ns = ap length (item_slots_lem ns d p) ∙ length-replicate (product ns) (slot_for d) in
    let k = s.small in
    omega arith
few total fs (an_array t ns d vs) (top_values s g) = omega arith
few total fs (a_primitive c v) a = omega arith
few total fs (a_reference k) a = omega arith
few total fs a_null a = omega arith
few total fs (a_primitive_array n c vs) a = omega arith
few total fs (an_object_array n) (top_objects a) = let l = length-replicate n S.Object in omega arith
few total fs (a_string_array n) (top_strings a) = let l = length-replicate n S.Text in omega arith
few total fs (a_value c v) a = omega arith

small_opened : (count : ℕ) (ts : List SlotType) (fs : List Place) → length ts < 2147483648 → Small (filled_one fs) → Small (opened_in (suc count) ts fs)
small_opened count ts fs l h = small_shut (place (suc count) 0 ts ∷ filled_one fs) (omega arith, h)

pub small_after : (total count : ℕ) (fs : List Place) (x : What) → Allowed total fs x → Small fs → Small (open_after count fs x)
small_after total count fs x a h = go x (few total fs x a) (small_filled total fs x a h)
  where
    go : (x : What) → length (slots_for x) < 2147483648 → Small (filled_one fs) → Small (open_after count fs x)
    go (an_object c) l s = small_opened count (slots_of c.members) fs l s
    go (a_string x) l s = small_shut (filled_one fs) s
    go (an_array t ns d vs) l s = small_opened count (item_slots ns d) fs l s
    go (a_primitive c v) l s = small_shut (filled_one fs) s
    go (a_reference k) l s = small_shut (filled_one fs) s
    go a_null l s = small_shut (filled_one fs) s
    go (a_primitive_array n c vs) l s = small_shut (filled_one fs) s
    go (an_object_array n) l s = small_opened count (replicate n S.Object) fs l s
    go (a_string_array n) l s = small_opened count (replicate n S.Text) fs l s
    go (a_value c v) l s = small_shut (filled_one fs) s
