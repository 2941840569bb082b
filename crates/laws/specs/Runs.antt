-- Records in a row (01, The tidy copy): the records of everything but a null are none of them nulls, and such records end a run of nulls.
use Rattle.std.specs.Prelude.{ℕ, zero, suc, ◌+◌, ◌≡◌, refl, Bool, true, false, List, [], ◌∷◌, ◌++◌, length, eqb}
use Rattle.std.proofs.Common.{sym, ap, ◌∙◌, append_assoc, arith, length-append}
use Rattle.format.specs.Bytes.{pick, same_bytes}
use Rattle.format.specs.Contents.{shortest, Rec, library, enc, encs, Class, From, the_system, the_library}
use Rattle.format.specs.Says.{What, an_object, a_string, an_array, a_primitive, a_reference, a_null, a_primitive_array, an_object_array, a_string_array, a_value}
use Rattle.format.specs.Tidy.{same_class, number_in, Progress, Libraries, library_records, all_entered, entered, class_needs, detail_needs, class_by, object_by, records_of, Standing, owned_by, run_of, is_null, Run, no_run, written, waiting, squeeze}

pub encs_append : (a b : List Rec) → encs (a ++ b) ≡ encs a ++ encs b
unfolding encs
encs_append [] b = refl
encs_append (r ∷ a) b = ap (λ (x : List ℕ). enc r ++ x) (encs_append a b) ∙ sym (append_assoc (enc r) (encs a) (encs b))

-- as many records as libraries that are entered
pub libraries_length : (ns : List (List ℕ)) (ls : Libraries) → length (library_records ns ls) + length ls ≡ length (all_entered ns ls)
unfolding library_records all_entered entered
libraries_length [] ls = omega arith
libraries_length (n ∷ ns) ls =
    go (eqb (number_in (same_bytes n) ls) 0) (entered n ls) refl (libraries_length ns (entered n ls))
  where
    go : (b : Bool) (es : Libraries) → pick b (ls ++ ((suc (length ls), n) ∷ [])) ls ≡ es
        → length (library_records ns es) + length es ≡ length (all_entered ns es)
        → length (pick b (library (suc (length ls)) (shortest n) ∷ []) [] ++ library_records ns es) + length ls ≡ length (all_entered ns es)
    go true es e again =
        let a : length es ≡ length ls + 1 = ap length (sym e) ∙ length-append ls ((suc (length ls), n) ∷ []) in
        omega arith
    go false es e again = let a : length es ≡ length ls = ap length (sym e) in omega arith

-- records, at least one and none of them a null
pub data Plain : List Rec → Type 0 where
  just : {r : Rec} → is_null r ≡ false → Plain (r ∷ [])
  more : {r : Rec} {rs : List Rec} → is_null r ≡ false → Plain rs → Plain (r ∷ rs)

-- library records may stand before them
plain_libraries : (ns : List (List ℕ)) (ls : Libraries) (rs : List Rec) → Plain rs → Plain (library_records ns ls ++ rs)
unfolding library_records
plain_libraries [] ls rs p = p
plain_libraries (n ∷ ns) ls rs p = go (eqb (number_in (same_bytes n) ls) 0) (plain_libraries ns (entered n ls) rs p)
  where
    go : (b : Bool) → Plain (library_records ns (entered n ls) ++ rs)
        → Plain ((pick b (library (suc (length ls)) (shortest n) ∷ []) [] ++ library_records ns (entered n ls)) ++ rs)
    go true q = more refl q
    go false q = q

plain_class : (ls : Libraries) (id : ℕ) (c : Class) (from : From) → Plain (class_by ls id c from ∷ [])
plain_class ls id c the_system = just refl
plain_class ls id c (the_library n) = just refl

plain_object : (n : ℕ) (w : Progress) (c : Class) → Plain (object_by n w c)
plain_object zero w c =
    let ls : Libraries = all_entered (class_needs c) w.libraries in
    plain_libraries (class_needs c) w.libraries (class_by ls (suc w.count) c c.from ∷ []) (plain_class ls (suc w.count) c c.from)
plain_object (suc n) w c = just refl

-- a null, or records that are none
pub data Sort (w : Progress) : What → Type 0 where
  a_null_rule : Sort w a_null
  plain : {x : What} → Plain (records_of w x) → Sort w x

pub sort_of : (w : Progress) (x : What) → Sort w x
unfolding records_of
sort_of w (an_object c) = plain (plain_object (number_in (same_class c) w.classes) w c)
sort_of w (a_string t) = plain (just refl)
sort_of w (an_array type lengths item items) = plain (plain_libraries (detail_needs item) w.libraries _ (just refl))
sort_of w (a_primitive code v) = plain (just refl)
sort_of w (a_reference target) = plain (just refl)
sort_of w a_null = a_null_rule
sort_of w (a_primitive_array n code items) = plain (just refl)
sort_of w (an_object_array n) = plain (just refl)
sort_of w (a_string_array n) = plain (just refl)
sort_of w (a_value c v) = plain (just refl)

-- any other record ends a run
pub squeeze_records : (w : Run) (o : ℕ) {rs : List Rec} → Plain rs → (rest : List Standing)
    → squeeze w (owned_by o rs ++ rest) ≡ run_of w.count ++ (rs ++ squeeze no_run rest)
unfolding squeeze written waiting run_of
squeeze_records w o (just {r = r} e) rest = rw e (append_assoc (run_of w.count) (r ∷ []) (squeeze no_run rest))
squeeze_records w o (more {r = r} {rs = rs} e p) rest =
    rw e (append_assoc (run_of w.count) (r ∷ []) (squeeze no_run (owned_by o rs ++ rest))
    ∙ ap (λ (x : List Rec). run_of w.count ++ r ∷ x) (squeeze_records no_run o p rest))
