-- The records written from nodes that fit: there are at least as many as objects and libraries, so few records suffice for small numbers; their
-- ObjectIds are 1 to the number of objects, and every IdRef is one of them.
use Rattle.std.specs.Prelude.{ℕ, zero, suc, ◌+◌, ◌≤◌, ◌<◌, ◌≡◌, refl, Bool, true, false, ◌||◌, List, [], ◌∷◌, ◌++◌, length, eqb}
use Rattle.std.proofs.Common.{sym, ap, subst, ◌∙◌, arith, length-append, eqb-true}
use Rattle.std.proofs.lemmas.Bool.{eqb-false}
use Rattle.format.specs.Terms.{Terms}
use Rattle.format.specs.declared.SlotType.{SlotType}
use Rattle.format.specs.Bytes.{pick}
use Rattle.format.specs.Rows.{is_object}
use Rattle.format.specs.Contents.{Rec, array, end, Class}
use Rattle.format.specs.Grammar.{Positive, Entry, Array, of_objects, of_strings, of_primitives, of_any, of_values, id_of, ref_of, ids_of, refs_of, among}
use Rattle.format.specs.Says.{What, an_object, a_string, an_array, a_primitive, a_reference, a_null, a_primitive_array, an_object_array, a_string_array, a_value, Node, code_of}
use Rattle.format.specs.Tidy.{values_by, same_class, number_in, Progress, nothing, Libraries, library_records, all_entered, detail_needs, class_needs, detail_by, class_by, object_by, after_object, records_of, after_what}
use Rattle.laws.specs.Tests.{apart}
use Rattle.laws.specs.Numbers.{after_nodes}
use Rattle.laws.specs.Runs.{libraries_length, Sort, a_null_rule, plain, sort_of}
use Rattle.laws.specs.Ids.{among_right}
use Rattle.saying.specs.Good.{Place, open_after, Fits, the_end, a_node}
use Rattle.saying.specs.There.{kind_of}
use Rattle.saying.specs.Shown.{Shown, all_shown, packed, Wait, no_wait, run_shown, one_more, squeezed, squeezed_null, squeezed_records, recs_of}
use Rattle.saying.specs.Legal.{Takes, class_by_id_rule, system_class_rule, library_class_rule, a_string_rule, an_array_rule, a_primitive_rule, a_reference_rule, some_nulls, many_nulls_rule, a_library_rule, a_value_rule, Legal, all_shown_rule, a_record}
use Rattle.saying.specs.Legal as L
use Rattle.saying.specs.Limits.{what_count}
use Rattle.saying.specs.Written.{legal}

-- ---- how many records

-- objects and libraries
abbrev pub numbers_in : Progress → ℕ
numbers_in p = length p.libraries + p.count

object_enough : (k : ℕ) (p : Progress) (c : Class) → numbers_in (after_object k p c) ≤ numbers_in p + length (object_by k p c)
object_enough zero p c =
    let ls : Libraries = all_entered (class_needs c) p.libraries in
    let a = libraries_length (class_needs c) p.libraries in
    let b = length-append (library_records (class_needs c) p.libraries) (class_by ls (suc p.count) c c.from ∷ []) in
    omega arith
object_enough (suc k) p c = omega arith

what_enough : (p : Progress) (x : What) → numbers_in (after_what p x) ≤ numbers_in p + length (records_of p x)
unfolding after_what records_of
what_enough p (an_object c) = object_enough (number_in (same_class c) p.classes) p c
what_enough p (a_string t) = omega arith
what_enough p (an_array type ns d vs) =
    let a = libraries_length (detail_needs d) p.libraries in
    let r : Rec = array (suc p.count) type ns (detail_by (all_entered (detail_needs d) p.libraries) d) (values_by (code_of d) vs) in
    let b = length-append (library_records (detail_needs d) p.libraries) (r ∷ []) in
    omega arith
what_enough p (a_primitive c v) = omega arith
what_enough p (a_reference k) = omega arith
what_enough p a_null = omega arith
what_enough p (a_primitive_array n c vs) = omega arith
what_enough p (an_object_array n) = omega arith
what_enough p (a_string_array n) = omega arith
what_enough p (a_value c v) = omega arith

pub length_shown : (o n : ℕ) (rs : List Rec) → length (all_shown o n rs) ≡ length rs
length_shown o n [] = refl
length_shown o n (r ∷ rs) = ap suc (length_shown o n rs)

one_enough : (p : Progress) (w : Wait) (x : What) (o n total : ℕ) (xs : List Shown) → Sort p x
    → ((v : Wait) → total ≤ numbers_in (after_what p x) + length (squeezed v xs)) → total ≤ numbers_in p + length (squeezed w (all_shown o n (records_of p x) ++ xs))
unfolding records_of after_what
one_enough p w x o n total xs a_null_rule again =
    let a = again (one_more w o n) in
    let b = length-append (pick (eqb o w.owner) [] (run_shown w)) (squeezed (one_more w o n) xs) in
    rw (squeezed_null w o n xs) (omega arith)
one_enough p w x o n total xs (plain q) again =
    let a = again no_wait in
    let b = length-append (run_shown w) (all_shown o n (records_of p x) ++ squeezed no_wait xs) in
    let c = length-append (all_shown o n (records_of p x)) (squeezed no_wait xs) in
    let d = length_shown o n (records_of p x) in
    let e = what_enough p x in
    rw (squeezed_records w o n q xs) (omega arith)

pub enough : (ns : List Node) (p : Progress) (w : Wait) → numbers_in (after_nodes p ns) ≤ numbers_in p + length (squeezed w (packed p ns))
unfolding after_nodes packed
enough [] p w = omega arith
enough (n ∷ ns) p w =
    one_enough p w n.what n.owner n.slot (numbers_in (after_nodes (after_what p n.what) ns)) (packed (after_what p n.what) ns) (sort_of p n.what)
    (λ v. enough ns (after_what p n.what) v)

pub count_total : (total : ℕ) (fs : List Place) (ns : List Node) (p : Progress) → Fits total p.count fs ns → (after_nodes p ns).count ≡ total
unfolding after_nodes
count_total total fs [] p (the_end e) = e
count_total total fs (n ∷ ns) p (a_node a o s f) =
    count_total total (open_after p.count fs n.what) ns (after_what p n.what)
    (subst (λ (i : ℕ). Fits total i (open_after p.count fs n.what) ns) (sym (what_count p n.what)) f)

-- what is written from nodes that fit is legal where it is few records
pub legal_few : (τ : Terms) (total : ℕ) (ns : List Node) → Fits total 0 [] ns → length (squeezed no_wait (packed nothing ns)) < 2147483648
    → (row : ℕ) → Legal τ total 0 row [] [] (squeezed no_wait (packed nothing ns))
legal_few τ total ns f b =
    let a = enough ns nothing no_wait in
    let c = count_total total [] ns nothing f in
    legal τ total ns f (omega arith) (omega arith)

-- ---- ObjectIds and IdRefs

among_left : (i : ℕ) (a b : List ℕ) → among i a ≡ true → among i (a ++ b) ≡ true
among_left i [] b e = absurd (let z : ◌≡◌ {A = ℕ} 0 1 = cc in omega arith)
among_left i (j ∷ a) b e = go (eqb i j) (among_left i a b) e
  where
    go : (t : Bool) → (among i a ≡ true → among i (a ++ b) ≡ true) → (t || among i a) ≡ true → (t || among i (a ++ b)) ≡ true
    go true again e = refl
    go false again e = again e

among_either : {X : Type 0} (i : ℕ) (a b : List ℕ) → among i (a ++ b) ≡ true → (among i a ≡ true → X) → (among i b ≡ true → X) → X
among_either i [] b e f g = g e
among_either {X} i (j ∷ a) b e f g = go (eqb i j) e f (λ h k. among_either i a b h k g)
  where
    go : (t : Bool) → (t || among i (a ++ b)) ≡ true → ((t || among i a) ≡ true → X) → (among i (a ++ b) ≡ true → (among i a ≡ true → X) → X) → X
    go true e f again = f refl
    go false e f again = again e f

-- the ObjectIds after count are those to total
pub legal_ids : (τ : Terms) {total count row : ℕ} {fs : List Place} {es : List Entry} {xs : List Shown} → Legal τ total count row fs es xs
    → (i : ℕ) → count < i → i ≤ total → among i (ids_of (recs_of xs ++ (end ∷ []))) ≡ true
legal_ids τ (all_shown_rule e) i a b = absurd (omega arith)
legal_ids τ {total} {count = count} (a_record {next = next} {x = x} {xs = xs} t s o n id e g d l) i a b =
    go (is_object (kind_of x.rec)) id e (legal_ids τ l i)
  where
    go : (t : Bool) → id_of x.rec ≡ pick t (suc count ∷ []) [] → next ≡ count + pick t 1 0
        → (next < i → i ≤ total → among i (ids_of (recs_of xs ++ (end ∷ []))) ≡ true) → among i (id_of x.rec ++ ids_of (recs_of xs ++ (end ∷ []))) ≡ true
    go true id e again = here (eqb i (suc count)) refl
      where
        here : (u : Bool) → eqb i (suc count) ≡ u → among i (id_of x.rec ++ ids_of (recs_of xs ++ (end ∷ []))) ≡ true
        here true q = among_left i (id_of x.rec) (ids_of (recs_of xs ++ (end ∷ []))) (rw (id, q))
        here false q =
            let z = eqb-false i (suc count) q in
            among_right i (id_of x.rec) (ids_of (recs_of xs ++ (end ∷ []))) (again (omega arith) b)
    go false id e again = among_right i (id_of x.rec) (ids_of (recs_of xs ++ (end ∷ []))) (again (omega arith) b)

array_refs : (τ : Terms) {es : List Entry} {k i n : ℕ} {r : Rec} {ts : List SlotType} → Array τ es r k i n ts → ref_of r ≡ []
array_refs τ (of_objects a) = refl
array_refs τ (of_strings a) = refl
array_refs τ (of_primitives a b) = refl
array_refs τ (of_any a b c d e) = refl
array_refs τ (of_values a b c) = refl

pub not_zero : (i : ℕ) → Positive i → 0 < i
not_zero i w = w.above

-- the target of a reference
taken_refs : (τ : Terms) {total : ℕ} {es : List Entry} {r : Rec} {ts : List SlotType} → Takes τ total es r ts → (i : ℕ) → among i (ref_of r) ≡ true → (0 < i) × (i ≤ total)
taken_refs τ (class_by_id_rule a b c) i e = apart e
taken_refs τ (system_class_rule a b c) i e = apart e
taken_refs τ (library_class_rule a b c d) i e = apart e
taken_refs τ (a_string_rule a b) i e = apart e
taken_refs τ (an_array_rule a b) i e = apart (sym (ap (among i) (array_refs τ b)) ∙ e)
taken_refs τ (a_primitive_rule a) i e = apart e
taken_refs τ {total} (a_reference_rule {i = j} a b) i e = go (eqb i j) refl e
  where
    go : (t : Bool) → eqb i j ≡ t → (t || false) ≡ true → (0 < i) × (i ≤ total)
    go true q e = let z = eqb-true i j q in let k = not_zero j a in (omega arith, omega arith)
    go false q e = apart e
taken_refs τ L.a_null_rule i e = apart e
taken_refs τ (some_nulls a b) i e = apart e
taken_refs τ (many_nulls_rule a) i e = apart e
taken_refs τ (a_library_rule a b c) i e = apart e
taken_refs τ (a_value_rule a) i e = apart e

pub legal_refs : (τ : Terms) {total count row : ℕ} {fs : List Place} {es : List Entry} {xs : List Shown} → Legal τ total count row fs es xs
    → (i : ℕ) → among i (refs_of (recs_of xs ++ (end ∷ []))) ≡ true → (0 < i) × (i ≤ total)
legal_refs τ (all_shown_rule e) i q = apart q
legal_refs τ (a_record {x = x} {xs = xs} t s o n id e g d l) i q =
    among_either i (ref_of x.rec) (refs_of (recs_of xs ++ (end ∷ []))) q (taken_refs τ t i) (legal_refs τ l i)
