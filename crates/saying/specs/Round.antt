-- The records written from nodes that fit say these nodes again: numbers lead back to names and classes, each node's records say it, and a run
-- says the nulls that it was gathered from.
use Prim.Native.Nat.{ℕ, zero, suc, ◌+◌, ◌≤◌, ◌<◌}
use Rattle.std.specs.Prelude.{◌≡◌, Bool, length, leb}
use Rattle.std.proofs.Math.Path.{refl, sym, ap}
use Rattle.std.proofs.Common.{subst, ◌∙◌, arith}
use Rattle.std.proofs.Math.Bool.{true, false}
use mathlib.Core.List.{List, [], ◌∷◌, ◌++◌, map, append_assoc, append-nil}
use Rattle.std.proofs.Math.Dec.{eqb}
use borrow.Author.Tests.{eqb-true}
use Rattle.format.specs.declared.SlotType.{SlotType}
use Rattle.format.specs.Bytes.{pick, same_bytes}
use Rattle.format.specs.Contents.{shortest, texts_of, Detail, primitive, text, object, system, class, objects, texts, primitives, Member, Rec, null, library, From, the_system, the_library, Class}
use Rattle.format.specs.Says.{What, an_object, a_string, an_array, a_primitive, a_reference, a_null, a_primitive_array, an_object_array, a_string_array, a_value, Node, node, code_of, spread}
use Rattle.format.specs.Tidy.{values_by, same_class, number_in, Progress, nothing, Libraries, library_records, all_entered, entered, detail_needs, members_need, from_needs, class_needs, detail_by, members_by, class_by, object_by, after_object, records_of, after_what, run_of}
use Rattle.fields.specs.Judged.{picked}
use Rattle.laws.specs.Tests.{class_of}
use Rattle.laws.specs.Numbers.{after_nodes}
use Rattle.laws.specs.Runs.{Plain, Sort, a_null_rule, plain, sort_of}
use Rattle.format.specs.Meant.{named, named_all, class_of_all}
use Rattle.saying.specs.Said.{said_by}
use Rattle.saying.specs.Good.{Place, place, shut_by, shut, owner_of, slot_of, filled_one, opened_in, Allowed, in_null, count_of, open_after, Fits, a_node}
use Rattle.saying.specs.Prefixes.{text_by_lem, texts_by}
use Rattle.saying.specs.Numbers.{Each, no_name, a_name, each_left, each_right, each_so, all_have, Numbered, numbered_none, numbered_what, numbered_nodes, Later, later_nodes, name_in, class_in, name_back, class_back}
use Rattle.saying.specs.Shown.{Shown, shown, all_shown, packed, Wait, wait, no_wait, run_shown, one_more, squeezed, said_nodes, said_all, squeezed_null, squeezed_records}

-- ---- what shown records say

module _ (name : ℕ → List ℕ) (of : ℕ → Class) (order : ℕ → ℕ) where
  pub said_append : (a b : List Shown) → said_all name of order (a ++ b) ≡ said_all name of order a ++ said_all name of order b
  said_append [] b = refl
  said_append (x ∷ a) b =
      ap (λ (ns : List Node). said_nodes name of order x ++ ns) (said_append a b)
      ∙ sym (append_assoc (said_nodes name of order x) (said_all name of order a) (said_all name of order b))

  -- libraries say nothing
  said_libraries : (o n : ℕ) (names : List (List ℕ)) (ls : Libraries) (rs : List Rec)
      → said_all name of order (all_shown o n (library_records names ls ++ rs)) ≡ said_all name of order (all_shown o n rs)
  unfolding library_records
  said_libraries o n [] ls rs = refl
  said_libraries o n (x ∷ names) ls rs = go (eqb (number_in (same_bytes x) ls) 0) (said_libraries o n names (entered x ls) rs)
    where
      go : (b : Bool) → said_all name of order (all_shown o n (library_records names (entered x ls) ++ rs)) ≡ said_all name of order (all_shown o n rs)
          → said_all name of order (all_shown o n ((pick b (library (suc (length ls)) (shortest x) ∷ []) [] ++ library_records names (entered x ls)) ++ rs))
          ≡ said_all name of order (all_shown o n rs)
      go true again = again
      go false again = again

  -- a run says its nulls
  pub said_run : (w : Wait) → said_all name of order (run_shown w) ≡ spread w.count w.owner w.slot
  unfolding run_of spread
  said_run w =
      let k : ℕ = w.count in
      let P : List Rec → Type 0 = λ (rs : List Rec). said_all name of order (map (λ (r : Rec). shown r w.owner w.slot) rs) ≡ spread w.count w.owner w.slot in
      picked P (eqb k 0) (λ e. ap (λ (m : ℕ). spread m w.owner w.slot) (sym (eqb-true k 0 e)))
      (λ e. picked P (eqb k 1) (λ f. ap (λ (m : ℕ). spread m w.owner w.slot) (sym (eqb-true k 1 f)))
      (λ f. picked P (leb k 255) (λ g. append-nil (spread k w.owner w.slot)) (λ g. append-nil (spread k w.owner w.slot))))

-- ---- libraries by number, and back

module _ (name : ℕ → List ℕ) (ls : Libraries) where
  -- its number leads back to it
  abbrev pub Back : List ℕ → Type 0
  Back n = name (number_in (same_bytes n) ls) ≡ n

  pub detail_back : (d : Detail (List ℕ) (List ℕ)) → Each Back (detail_needs d) → named name (detail_by ls d) ≡ d
  detail_back (primitive c) h = refl
  detail_back text h = refl
  detail_back object h = refl
  detail_back (system n) h = refl
  detail_back (class n l) (a_name e h) = ap (class n) e
  detail_back objects h = refl
  detail_back texts h = refl
  detail_back (primitives c) h = refl

  pub members_back : (ms : List (Member (List ℕ) (List ℕ))) → Each Back (members_need ms) → named_all name (members_by ls ms) ≡ ms
  members_back [] h = refl
  members_back (m ∷ ms) h =
      let e = detail_back m.type (each_left (detail_needs m.type) (members_need ms) h) in
      let f = members_back ms (each_right (detail_needs m.type) (members_need ms) h) in
      ap (λ (d : Detail (List ℕ) (List ℕ)). record { name = m.name; type = d } ∷ named_all name (members_by ls ms)) e ∙ ap (λ (x : List (Member (List ℕ) (List ℕ))). m ∷ x) f

  pub class_said : (of : ℕ → Class) (order : ℕ → ℕ) (id : ℕ) (c : Class) → Each Back (class_needs c) → said_by name of order (class_by ls id c c.from) ≡ an_object c ∷ []
  class_said of order id c h = go c.from refl (each_right (members_need c.members) (from_needs c.from) h)
    where
      members : named_all name (members_by ls c.members) ≡ c.members
      members = members_back c.members (each_left (members_need c.members) (from_needs c.from) h)

      go : (x : From) → c.from ≡ x → Each Back (from_needs x) → said_by name of order (class_by ls id c x) ≡ an_object c ∷ []
      go the_system e no_name =
          ap (λ (d : Class). an_object d ∷ []) (class_of (class_of_all name c.name the_system (members_by ls c.members)) c refl (sym e) members)
      go (the_library n) e (a_name q no_name) =
          ap (λ (d : Class). an_object d ∷ [])
          (class_of (class_of_all name c.name (the_library (name (number_in (same_bytes n) ls))) (members_by ls c.members)) c refl (ap the_library q ∙ sym e) members)

-- ---- one node

-- what shown records say once all was written
abbrev pub said_once : Progress → List Shown → List Node
said_once v xs = said_all (name_in v) (class_in v) (λ (k : ℕ). k) xs

module _ (v : Progress) (good : Numbered v) where
  object_said : (k : ℕ) (w : Progress) (c : Class) (o n : ℕ) → number_in (same_class c) w.classes ≡ k → Numbered w → Later (after_object k w c) v
      → said_once v (all_shown o n (object_by k w c)) ≡ node (an_object c) o n ∷ []
  object_said zero w c o n e h l =
      let ls : Libraries = all_entered (class_needs c) w.libraries in
      let r : Rec = class_by ls (suc w.count) c c.from in
      let back = each_so (class_needs c) (name_back v good (after_object zero w c) l) (all_have (class_needs c) w.libraries h.libraries_rise) in
      said_libraries (name_in v) (class_in v) (λ (k : ℕ). k) o n (class_needs c) w.libraries (r ∷ [])
      ∙ own_said c.from (class_said (name_in v) ls (class_in v) (λ (k : ℕ). k) (suc w.count) c back)
    where
      own_said : (from : From) → said_by (name_in v) (class_in v) (λ (k : ℕ). k) (class_by (all_entered (class_needs c) w.libraries) (suc w.count) c from) ≡ an_object c ∷ []
          → said_once v (all_shown o n (class_by (all_entered (class_needs c) w.libraries) (suc w.count) c from ∷ [])) ≡ node (an_object c) o n ∷ []
      own_said the_system q = ap (λ (xs : List What). map (λ (x : What). node x o n) xs ++ []) q
      own_said (the_library x) q = ap (λ (xs : List What). map (λ (x : What). node x o n) xs ++ []) q
  object_said (suc k) w c o n e h l = ap (λ (d : Class). node (an_object d) o n ∷ []) (class_back v good (after_object (suc k) w c) l c k e)

  pub node_said : (w : Progress) (x : What) (o n : ℕ) → Numbered w → Later (after_what w x) v → said_once v (all_shown o n (records_of w x)) ≡ node x o n ∷ []
  unfolding records_of after_what spread
  node_said w (an_object c) o n h l = object_said (number_in (same_class c) w.classes) w c o n refl h l
  node_said w (a_string t) o n h l = refl
  node_said w (an_array type ns item vs) o n h l =
      let ls : Libraries = all_entered (detail_needs item) w.libraries in
      let back = each_so (detail_needs item) (name_back v good (after_what w (an_array type ns item vs)) l) (all_have (detail_needs item) w.libraries h.libraries_rise) in
      said_libraries (name_in v) (class_in v) (λ (k : ℕ). k) o n (detail_needs item) w.libraries _
      ∙ (ap (λ (d : Detail (List ℕ) (List ℕ)). node (an_array type ns d (texts_of (values_by (code_of item) vs))) o n ∷ []) (detail_back (name_in v) ls item back)
      ∙ ap (λ (us : List (List ℕ)). node (an_array type ns item us) o n ∷ []) (texts_by (code_of item) vs))
  node_said w (a_primitive c x) o n h l = ap (λ (y : List ℕ). node (a_primitive c y) o n ∷ []) (text_by_lem c x)
  node_said w (a_reference k) o n h l = refl
  node_said w a_null o n h l = refl
  node_said w (a_primitive_array k c vs) o n h l = ap (λ (us : List (List ℕ)). node (a_primitive_array k c us) o n ∷ []) (texts_by c vs)
  node_said w (an_object_array k) o n h l = refl
  node_said w (a_string_array k) o n h l = refl
  node_said w (a_value c x) o n h l = ap (λ (y : List ℕ). node (a_value c y) o n ∷ []) (text_by_lem c x)

-- ---- owners of open objects

-- orders of open objects fall from the innermost out, from below b to above 0
abbrev pub Under : ℕ → List Place → Type 0
Under b [] = 0 < b
Under b (f ∷ fs) = (f.owner < b) × Under f.owner fs

under_more : (b c : ℕ) (fs : List Place) → b ≤ c → Under b fs → Under c fs
under_more b c [] l h = omega arith
under_more b c (f ∷ fs) l h = let i = h.0 in (omega arith, h.1)

pub under_shut : (b : ℕ) (fs : List Place) → Under b fs → Under b (shut fs)
unfolding shut
under_shut b [] h = h
under_shut b (f ∷ fs) h = go f.types (under_shut f.owner fs h.1)
  where
    go : (ts : List SlotType) → Under f.owner (shut fs) → Under b (shut_by ts f.owner f.slot fs (shut fs))
    go [] again = let i = h.0 in under_more f.owner b (shut fs) (omega arith) again
    go (t ∷ ts) again = h

under_filled : (b : ℕ) (fs : List Place) → Under b fs → Under b (filled_one fs)
under_filled b [] h = h
under_filled b (f ∷ fs) h = h

under_opened : (count : ℕ) (ts : List SlotType) (fs : List Place) → Under (suc count) fs → Under (suc (count + 1)) (opened_in (suc count) ts fs)
under_opened count ts fs h = under_shut (suc (count + 1)) (place (suc count) 0 ts ∷ filled_one fs) (omega arith, under_filled (suc count) fs h)

under_next : (count k : ℕ) (fs : List Place) → Under (suc count) fs → Under (suc (count + k)) (shut (filled_one fs))
under_next count k fs h =
    under_more (suc count) (suc (count + k)) (shut (filled_one fs)) (omega arith) (under_shut (suc count) (filled_one fs) (under_filled (suc count) fs h))

pub under_after : (count : ℕ) (fs : List Place) (x : What) → Under (suc count) fs → Under (suc (count + count_of x)) (open_after count fs x)
under_after count fs (an_object c) h = under_opened count _ fs h
under_after count fs (a_string x) h = under_next count 1 fs h
under_after count fs (an_array t ns d vs) h = under_opened count _ fs h
under_after count fs (a_primitive c v) h = under_next count 0 fs h
under_after count fs (a_reference k) h = under_next count 0 fs h
under_after count fs a_null h = under_next count 0 fs h
under_after count fs (a_primitive_array n c vs) h = under_next count 1 fs h
under_after count fs (an_object_array n) h = under_opened count _ fs h
under_after count fs (a_string_array n) h = under_opened count _ fs h
under_after count fs (a_value c v) h = under_next count 0 fs h

-- the innermost is below, and if its order is 0 there is none
pub owner_below : (b : ℕ) (fs : List Place) → Under b fs → owner_of fs < b
owner_below b [] h = h
owner_below b (f ∷ fs) h = h.0

-- ---- runs

-- if the object of the nulls that wait is still the innermost, its next slot is the one after them
abbrev pub Waits : Wait → List Place → Type 0
Waits w fs = owner_of fs ≡ w.owner → slot_of fs ≡ w.slot + w.count

waits_none : (b : ℕ) (fs : List Place) → Under b fs → Waits no_wait fs
waits_none b [] h e = refl
waits_none b (f ∷ fs) h e = let i = owner_below f.owner fs h.1 in absurd (omega arith)

-- after a null
waits_null : (b m o n s k : ℕ) (ts : List SlotType) (fs : List Place) → Under b (place o n ts ∷ fs) → m ≡ o → n ≡ s + k
    → Waits (wait m s k) (shut (place o n ts ∷ fs))
unfolding shut
waits_null b m o n s k [] fs h p q e = let i = owner_below o (shut fs) (under_shut o fs h.1) in absurd (omega arith)
waits_null b m o n s k (t ∷ ts) fs h p q e = q

-- the slot after a null that is gathered
next_slot : (w : Wait) (o n : ℕ) → (o ≡ w.owner → n ≡ w.slot + w.count) → n + 1 ≡ (one_more w o n).slot + (one_more w o n).count
next_slot w o n h = go (eqb o w.owner) refl
  where
    go : (b : Bool) → eqb o w.owner ≡ b → n + 1 ≡ pick b w.slot n + pick b (suc w.count) 1
    go true e = let q = h (eqb-true o w.owner e) in omega arith
    go false e = refl

spread_last : (k o n : ℕ) → spread (suc k) o n ≡ spread k o n ++ (node a_null o (n + k) ∷ [])
unfolding spread
spread_last zero o n = ap (λ (m : ℕ). node a_null o m ∷ []) (omega arith)
spread_last (suc k) o n =
    let e : n + 1 + k ≡ n + suc k = omega arith in
    ap (λ (x : List Node). node a_null o n ∷ x) (spread_last k o (n + 1) ∙ ap (λ (m : ℕ). spread k o (n + 1) ++ (node a_null o m ∷ [])) e)

-- ---- all nodes

abbrev pub wait_nodes : Wait → List Node
wait_nodes w = spread w.count w.owner w.slot

module _ (v : Progress) (good : Numbered v) (total : ℕ) where
  null_round : (w : Wait) (o n : ℕ) (xs : List Shown) (ns : List Node) → (o ≡ w.owner → n ≡ w.slot + w.count)
      → said_once v (squeezed (one_more w o n) xs) ≡ wait_nodes (one_more w o n) ++ ns
      → said_once v (squeezed w (shown null o n ∷ xs)) ≡ wait_nodes w ++ (node a_null o n ∷ ns)
  unfolding spread
  null_round w o n xs ns next again =
      ap (said_once v) (squeezed_null w o n xs) ∙ go (eqb o w.owner) refl again
    where
      go : (b : Bool) → eqb o w.owner ≡ b
          → said_once v (squeezed (wait o (pick b w.slot n) (pick b (suc w.count) 1)) xs) ≡ spread (pick b (suc w.count) 1) o (pick b w.slot n) ++ ns
          → said_once v (pick b [] (run_shown w) ++ squeezed (wait o (pick b w.slot n) (pick b (suc w.count) 1)) xs) ≡ wait_nodes w ++ (node a_null o n ∷ ns)
      go true e h =
          let q : o ≡ w.owner = eqb-true o w.owner e in
          h
          ∙ (ap (λ (x : List Node). x ++ ns) (spread_last w.count o w.slot)
          ∙ (append_assoc (spread w.count o w.slot) (node a_null o (w.slot + w.count) ∷ []) ns
          ∙ (ap (λ (m : ℕ). spread w.count o w.slot ++ (node a_null o m ∷ ns)) (sym (next q))
          ∙ ap (λ (m : ℕ). spread w.count m w.slot ++ (node a_null o n ∷ ns)) q)))
      go false e h =
          said_append (name_in v) (class_in v) (λ (k : ℕ). k) (run_shown w) (squeezed (wait o n 1) xs)
          ∙ (ap (λ (x : List Node). x ++ said_once v (squeezed (wait o n 1) xs)) (said_run (name_in v) (class_in v) (λ (k : ℕ). k) w)
          ∙ ap (λ (x : List Node). wait_nodes w ++ x) h)

  plain_round : (w : Wait) (p : Progress) (x : What) (o n : ℕ) (xs : List Shown) (ns : List Node) → Plain (records_of p x) → Numbered p
      → Later (after_what p x) v → said_once v (squeezed no_wait xs) ≡ ns
      → said_once v (squeezed w (all_shown o n (records_of p x) ++ xs)) ≡ wait_nodes w ++ (node x o n ∷ ns)
  plain_round w p x o n xs ns q h l again =
      ap (said_once v) (squeezed_records w o n q xs)
      ∙ (said_append (name_in v) (class_in v) (λ (k : ℕ). k) (run_shown w) (all_shown o n (records_of p x) ++ squeezed no_wait xs)
      ∙ (ap (λ (y : List Node). y ++ said_once v (all_shown o n (records_of p x) ++ squeezed no_wait xs)) (said_run (name_in v) (class_in v) (λ (k : ℕ). k) w)
      ∙ ap (λ (y : List Node). wait_nodes w ++ y)
      (said_append (name_in v) (class_in v) (λ (k : ℕ). k) (all_shown o n (records_of p x)) (squeezed no_wait xs)
      ∙ (ap (λ (y : List Node). y ++ said_once v (squeezed no_wait xs)) (node_said v good p x o n h l)
      ∙ ap (λ (y : List Node). node x o n ∷ y) again))))

  one_round : (w : Wait) (p : Progress) (count : ℕ) (fs : List Place) (x : What) (o n : ℕ) (xs : List Shown) (ns : List Node)
      → Sort p x → Allowed total fs x → o ≡ owner_of fs → n ≡ slot_of fs → Under (suc count) fs → Waits w fs → Numbered p → Later (after_what p x) v
      → ((u : Wait) → Waits u (open_after count fs x) → said_once v (squeezed u xs) ≡ wait_nodes u ++ ns)
      → said_once v (squeezed w (all_shown o n (records_of p x) ++ xs)) ≡ wait_nodes w ++ (node x o n ∷ ns)
  unfolding records_of spread
  one_round w p count fs x o n xs ns a_null_rule (in_null {o = m} {n = k} {t = t} {ts = ts} {fs = gs} a) e f u waits h l again =
      let next : o ≡ w.owner → n ≡ w.slot + w.count = λ q. f ∙ waits (sym e ∙ q) in
      let q : k + 1 ≡ (one_more w o n).slot + (one_more w o n).count = ap (λ (i : ℕ). i + 1) (sym f) ∙ next_slot w o n next in
      null_round w o n xs ns next
      (again (one_more w o n) (waits_null (suc count) o m (k + 1) (one_more w o n).slot (one_more w o n).count ts gs u e q))
  one_round w p count fs x o n xs ns (plain q) a e f u waits h l again =
      plain_round w p x o n xs ns q h l (again no_wait (waits_none (suc (count + count_of x)) (open_after count fs x) (under_after count fs x u)))

  pub round_from : (count : ℕ) (fs : List Place) (ns : List Node) (p : Progress) (w : Wait) → Fits total count fs ns → Under (suc count) fs → Waits w fs
      → Numbered p → after_nodes p ns ≡ v → said_once v (squeezed w (packed p ns)) ≡ wait_nodes w ++ ns
  unfolding packed squeezed after_nodes
  round_from count fs [] p w f u waits h e = said_run (name_in v) (class_in v) (λ (k : ℕ). k) w ∙ sym (append-nil (wait_nodes w))
  round_from count fs (n ∷ ns) p w (a_node a o s f) u waits h e =
      one_round w p count fs n.what n.owner n.slot (packed (after_what p n.what) ns) ns (sort_of p n.what) a o s u waits h
      (subst (Later (after_what p n.what)) e (later_nodes (after_what p n.what) ns))
      (λ y t. round_from (count + count_of n.what) (open_after count fs n.what) ns (after_what p n.what) y f (under_after count fs n.what u) t (numbered_what p n.what h) e)

-- what is written from nodes that fit says them
pub round : (total : ℕ) (ns : List Node) → Fits total 0 [] ns → said_once (after_nodes nothing ns) (squeezed no_wait (packed nothing ns)) ≡ ns
unfolding spread
round total ns f =
    round_from (after_nodes nothing ns) (numbered_nodes nothing ns numbered_none) total 0 [] ns nothing no_wait f (omega arith) (λ e. refl) numbered_none refl
