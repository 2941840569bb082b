-- What the records of the tidy copy make known (01, Field rules): as many ObjectIds and LibraryIds as were given, from 1 on, and the slots of
-- every class that has a number.
use Rattle.std.specs.Prelude.{ℕ, zero, suc, ◌≤◌, ◌<◌, ◌≡◌, Bool, eqb}
use Rattle.std.proofs.Math.Path.{refl}
use Rattle.std.proofs.Common.{sym, ap, ◌∙◌, arith, eq-eqb, ne_eqb}
use Rattle.std.proofs.Math.Bool.{true, false}
use mathlib.Core.List.{List, [], ◌∷◌, ◌++◌}
use Rattle.std.proofs.lemmas.Bool.{eqb-false}
use Rattle.format.specs.declared.SlotType.{SlotType}
use Rattle.format.specs.Bytes.{pick}
use Rattle.format.specs.Contents.{Rec, header, class_by_id, system_class, library_class, string, array, typed_primitive, reference, null, nulls, many_nulls, end, library, primitive_array, object_array, string_array, value, Class}
use Rattle.format.specs.Grammar.{Entry, a_class, another, a_library, used, known, classed, class_of, types_of}
use Rattle.format.specs.Tidy.{same_class, number_in}
use Rattle.laws.specs.Tests.{class_eq}
use Rattle.laws.specs.Numbers.{number_more, number_none}
use Rattle.saying.specs.Good.{slots_of}
use Rattle.saying.specs.Numbers.{Within, within_counted}

-- what a record makes known; row is the number of its row plus 1
abbrev pub made_known : ℕ → Rec → List Entry
made_known row (header r h) = []
made_known row (class_by_id i k) = another i ∷ []
made_known row (system_class i n ms) = a_class i row (types_of ms) ∷ []
made_known row (library_class i n ms l) = a_class i row (types_of ms) ∷ []
made_known row (string i t) = another i ∷ []
made_known row (array i t ns d vs) = another i ∷ []
made_known row (typed_primitive c v) = []
made_known row (reference i) = []
made_known row null = []
made_known row (nulls k) = []
made_known row (many_nulls k) = []
made_known row end = []
made_known row (library i n) = a_library i ∷ []
made_known row (primitive_array i n c vs) = another i ∷ []
made_known row (object_array i n) = another i ∷ []
made_known row (string_array i n) = another i ∷ []
made_known row (value c v) = []

-- ---- entries after others

used_append : (i : ℕ) (es ds : List Entry) → used i (es ++ ds) ≡ pick (used i es) true (used i ds)
used_append i [] ds = refl
used_append i (a_class j r ts ∷ es) ds = go (eqb j i) (used_append i es ds)
  where
    go : (b : Bool) → used i (es ++ ds) ≡ pick (used i es) true (used i ds) → pick b true (used i (es ++ ds)) ≡ pick (pick b true (used i es)) true (used i ds)
    go true again = refl
    go false again = again
used_append i (another j ∷ es) ds = go (eqb j i) (used_append i es ds)
  where
    go : (b : Bool) → used i (es ++ ds) ≡ pick (used i es) true (used i ds) → pick b true (used i (es ++ ds)) ≡ pick (pick b true (used i es)) true (used i ds)
    go true again = refl
    go false again = again
used_append i (a_library j ∷ es) ds = used_append i es ds

known_append : (i : ℕ) (es ds : List Entry) → known i (es ++ ds) ≡ pick (known i es) true (known i ds)
known_append i [] ds = refl
known_append i (a_class j r ts ∷ es) ds = known_append i es ds
known_append i (another j ∷ es) ds = known_append i es ds
known_append i (a_library j ∷ es) ds = go (eqb j i) (known_append i es ds)
  where
    go : (b : Bool) → known i (es ++ ds) ≡ pick (known i es) true (known i ds) → pick b true (known i (es ++ ds)) ≡ pick (pick b true (known i es)) true (known i ds)
    go true again = refl
    go false again = again

-- a class stays
class_stays : (i row : ℕ) (ts : List SlotType) (es ds : List Entry) → class_of i es ≡ classed row ts → class_of i (es ++ ds) ≡ classed row ts
class_stays i row ts [] ds e = absurd (let z : ◌≡◌ {A = ℕ} 0 1 = cc in omega arith)
class_stays i row ts (a_class j r us ∷ es) ds e = go (eqb j i) (class_stays i row ts es ds) e
  where
    go : (b : Bool) → (class_of i es ≡ classed row ts → class_of i (es ++ ds) ≡ classed row ts) → pick b (classed r us) (class_of i es) ≡ classed row ts
        → pick b (classed r us) (class_of i (es ++ ds)) ≡ classed row ts
    go true again e = e
    go false again e = again e
class_stays i row ts (another j ∷ es) ds e = class_stays i row ts es ds e
class_stays i row ts (a_library j ∷ es) ds e = class_stays i row ts es ds e

-- an ObjectId that was not used has no class yet
class_new : (i : ℕ) (es ds : List Entry) → used i es ≡ false → class_of i (es ++ ds) ≡ class_of i ds
class_new i [] ds e = refl
class_new i (a_class j r us ∷ es) ds e = go (eqb j i) (class_new i es ds) e
  where
    go : (b : Bool) → (used i es ≡ false → class_of i (es ++ ds) ≡ class_of i ds) → pick b true (used i es) ≡ false
        → pick b (classed r us) (class_of i (es ++ ds)) ≡ class_of i ds
    go true again e = absurd (let z : ◌≡◌ {A = ℕ} 0 1 = cc in omega arith)
    go false again e = again e
class_new i (another j ∷ es) ds e = go (eqb j i) (class_new i es ds) e
  where
    go : (b : Bool) → (used i es ≡ false → class_of i (es ++ ds) ≡ class_of i ds) → pick b true (used i es) ≡ false → class_of i (es ++ ds) ≡ class_of i ds
    go true again e = absurd (let z : ◌≡◌ {A = ℕ} 0 1 = cc in omega arith)
    go false again e = again e
class_new i (a_library j ∷ es) ds e = class_new i es ds e

-- ---- what is known once so many objects, these classes and m libraries were written

pub record Knows (es : List Entry) (count : ℕ) (cs : List (ℕ × Class)) (m : ℕ) : Type 0 where
  pub used_to : (i : ℕ) → 0 < i → i ≤ count → used i es ≡ true
  pub used_not : (i : ℕ) → count < i → used i es ≡ false
  pub known_to : (i : ℕ) → 0 < i → i ≤ m → known i es ≡ true
  pub known_not : (i : ℕ) → m < i → known i es ≡ false
  pub class_is : (c : Class) (k : ℕ) → number_in (same_class c) cs ≡ suc k → (row : ℕ) × (class_of (suc k) es ≡ classed row (slots_of c.members))

pub knows_none : Knows [] 0 [] 0
unfolding number_in
knows_none =
    record {
      used_to = λ i a b. absurd (omega arith);
      used_not = λ i a. refl;
      known_to = λ i a b. absurd (omega arith);
      known_not = λ i a. refl;
      class_is = λ c k e. absurd (omega arith);
    }

-- a number more: those to count before it, and then it
more_to : (count i : ℕ) (before : Bool) → 0 < i → i ≤ suc count → (i ≤ count → before ≡ true) → pick before true (pick (eqb (suc count) i) true false) ≡ true
more_to count i before a b h = go (eqb (suc count) i) refl before h
  where
    go : (t : Bool) → eqb (suc count) i ≡ t → (before : Bool) → (i ≤ count → before ≡ true) → pick before true (pick t true false) ≡ true
    go t e true h = refl
    go true e false h = refl
    go false e false h = let z = eqb-false (suc count) i e in h (omega arith)

more_not : (count i : ℕ) (before : Bool) → suc count < i → before ≡ false → pick before true (pick (eqb (suc count) i) true false) ≡ false
more_not count i before a e = rw (e, ne_eqb (suc count) i (λ q. omega arith))

no_more : (before answer : Bool) → before ≡ answer → pick before true false ≡ answer
no_more true answer e = e
no_more false answer e = e

module _ (es : List Entry) (count : ℕ) (cs : List (ℕ × Class)) (m : ℕ) (h : Knows es count cs m) where
  pub knows_another : Knows (es ++ (another (suc count) ∷ [])) (suc count) cs m
  knows_another =
      let ds : List Entry = another (suc count) ∷ [] in
      record {
        used_to = λ i a b. used_append i es ds ∙ more_to count i (used i es) a b (h.used_to i a);
        used_not = λ i a. used_append i es ds ∙ more_not count i (used i es) a (h.used_not i (omega arith));
        known_to = λ i a b. known_append i es ds ∙ no_more (known i es) true (h.known_to i a b);
        known_not = λ i a. known_append i es ds ∙ no_more (known i es) false (h.known_not i a);
        class_is = λ c k e. let q = h.class_is c k e in (q.0, class_stays (suc k) q.0 (slots_of c.members) es ds q.1);
      }

  pub knows_library : Knows (es ++ (a_library (suc m) ∷ [])) count cs (suc m)
  knows_library =
      let ds : List Entry = a_library (suc m) ∷ [] in
      record {
        used_to = λ i a b. used_append i es ds ∙ no_more (used i es) true (h.used_to i a b);
        used_not = λ i a. used_append i es ds ∙ no_more (used i es) false (h.used_not i a);
        known_to = λ i a b. known_append i es ds ∙ more_to m i (known i es) a b (h.known_to i a);
        known_not = λ i a. known_append i es ds ∙ more_not m i (known i es) a (h.known_not i (omega arith));
        class_is = λ c k e. let q = h.class_is c k e in (q.0, class_stays (suc k) q.0 (slots_of c.members) es ds q.1);
      }

  pub knows_class : (c : Class) (row : ℕ) (ts : List SlotType) → ts ≡ slots_of c.members → Within 0 count cs
      → Knows (es ++ (a_class (suc count) row ts ∷ [])) (suc count) (cs ++ ((suc count, c) ∷ [])) m
  unfolding number_in
  knows_class c row ts z w =
      record {
        used_to = λ i a b. used_append i es ds ∙ more_to count i (used i es) a b (h.used_to i a);
        used_not = λ i a. used_append i es ds ∙ more_not count i (used i es) a (h.used_not i (omega arith));
        known_to = λ i a b. known_append i es ds ∙ no_more (known i es) true (h.known_to i a b);
        known_not = λ i a. known_append i es ds ∙ no_more (known i es) false (h.known_not i a);
        class_is = λ d k e. of_class_holds d k (number_in (same_class d) cs) refl e;
      }
    where
      ds : List Entry
      ds = a_class (suc count) row ts ∷ []

      here : class_of (suc count) (es ++ ds) ≡ classed row ts
      here = class_new (suc count) es ds (h.used_not (suc count) (omega arith)) ∙ rw (eq-eqb (suc count) (suc count) refl)

      is_new_lem : (d : Class) (k : ℕ) (b : Bool) → same_class d c ≡ b → pick b (suc count) 0 ≡ suc k → (row : ℕ) × (class_of (suc k) (es ++ ds) ≡ classed row (slots_of d.members))
      is_new_lem d k true p e =
          (row, ap (λ (i : ℕ). class_of i (es ++ ds)) (sym e) ∙ (here ∙ ap (classed row) (z ∙ ap (λ (x : Class). slots_of x.members) (sym (class_eq d c p)))))
      is_new_lem d k false p e = absurd (omega arith)

      of_class_holds : (d : Class) (k n : ℕ) → number_in (same_class d) cs ≡ n → number_in (same_class d) (cs ++ ((suc count, c) ∷ [])) ≡ suc k
          → (row : ℕ) × (class_of (suc k) (es ++ ds) ≡ classed row (slots_of d.members))
      of_class_holds d k zero q e = is_new_lem d k (same_class d c) refl (sym (number_none (same_class d) cs ((suc count, c) ∷ []) (within_counted 0 count cs w) q) ∙ e)
      of_class_holds d k (suc n) q e =
          let f : suc n ≡ suc k = sym (number_more (same_class d) cs ((suc count, c) ∷ []) n q) ∙ e in
          let r = h.class_is d k (q ∙ f) in
          (r.0, class_stays (suc k) r.0 (slots_of d.members) es ds r.1)
