-- Numbers by first need (01, The tidy copy): numbers rise in tables that only grow, so a number leads back to what it was given to, in the table
-- where it was given and in every later one.
use Prim.Native.Nat.{ℕ, zero, suc, ◌≤◌, ◌<◌}
use Rattle.std.specs.Prelude.{◌≡◌, Bool, length, eqb}
use Rattle.std.proofs.Math.Path.{refl}
use Rattle.std.proofs.Common.{sym, ap, ◌∙◌, length-append, eq-eqb, ne_eqb}
use Rattle.std.proofs.Math.Bool.{true, false}
use mathlib.Core.List.{List, [], ◌∷◌, ◌++◌}
use native.Mathlib.Omega.{arith}
use Rattle.format.specs.Bytes.{pick, same_bytes}
use Rattle.format.specs.Contents.{the_system, Class}
use Rattle.format.specs.Says.{What, an_object, a_string, an_array, a_primitive, a_reference, a_null, a_primitive_array, an_object_array, a_string_array, a_value, Node}
use Rattle.format.specs.Tidy.{same_class, number_in, Progress, nothing, Libraries, entered, all_entered, detail_needs, class_needs, after_object, counted, after_what}
use Rattle.same.specs.Laws.{same_eq}
use Rattle.laws.specs.Tests.{class_eq}
use Rattle.laws.specs.Numbers.{Counted, number_more, entered_so, entered_has, all_so, all_more, after_nodes}

-- ---- any table

-- what has this number; d if nothing has
unfoldable pub with_number : {K : Type 0} → K → ℕ → List (ℕ × K) → K
with_number d k [] = d
with_number d k (e ∷ es) = pick (eqb e.0 k) e.1 (with_number d k es)

-- numbers rise, from above b to at most m
abbrev pub Within : {K : Type 0} → ℕ → ℕ → List (ℕ × K) → Type 0
Within b m [] = b ≤ m
Within b m (e ∷ es) = (b < e.0) × Within e.0 m es

module _ {K : Type 0} where
  pub within_le : (b m : ℕ) (t : List (ℕ × K)) → Within b m t → b ≤ m
  within_le b m [] h = h
  within_le b m (e ∷ t) h = let i = within_le e.0 m t h.1 in let j = h.0 in omega arith

  pub within_more : (b m n : ℕ) (t : List (ℕ × K)) → m ≤ n → Within b m t → Within b n t
  within_more b m n [] l h = omega arith
  within_more b m n (e ∷ t) l h = (h.0, within_more e.0 m n t l h.1)

  pub within_last : (b m : ℕ) (k : K) (t : List (ℕ × K)) → Within b m t → Within b (suc m) (t ++ ((suc m, k) ∷ []))
  within_last b m k [] h = (omega arith, omega arith)
  within_last b m k (e ∷ t) h = (h.0, within_last e.0 m k t h.1)

  -- none of them is 0
  pub within_counted : (b m : ℕ) (t : List (ℕ × K)) → Within b m t → Counted t
  within_counted b m [] h = tt
  within_counted b m (e ∷ t) h = let i = h.0 in (omega arith, within_counted e.0 m t h.1)

  module _ (f : K → Bool) where
    -- a number that was given lies in the table's bounds
    pub number_within : (b m k : ℕ) (t : List (ℕ × K)) → Within b m t → number_in f t ≡ suc k → (b < suc k) × (suc k ≤ m)
    unfolding number_in
    number_within b m k [] w h = absurd (omega arith)
    number_within b m k (e ∷ t) w h = go (number_within e.0 m k t w.1) (f e.1) h
      where
        go : (number_in f t ≡ suc k → (e.0 < suc k) × (suc k ≤ m)) → (x : Bool) → pick x e.0 (number_in f t) ≡ suc k → (b < suc k) × (suc k ≤ m)
        go again true q = let p = w.0 in let l = within_le e.0 m t w.1 in (omega arith, omega arith)
        go again false q = let p = w.0 in let r = again q in let l : e.0 < suc k = r.0 in (omega arith, r.1)

    -- and leads back to what passed the test
    pub number_back : (d x : K) (b m k : ℕ) (t : List (ℕ × K)) → Within b m t → ((y : K) → f y ≡ true → y ≡ x) → number_in f t ≡ suc k → with_number d (suc k) t ≡ x
    unfolding number_in with_number
    number_back d x b m k [] w s h = absurd (omega arith)
    number_back d x b m k (e ∷ t) w s h = go (number_back d x e.0 m k t w.1 s) (f e.1) refl h
      where
        go : (number_in f t ≡ suc k → with_number d (suc k) t ≡ x) → (z : Bool) → f e.1 ≡ z → pick z e.0 (number_in f t) ≡ suc k
            → pick (eqb e.0 (suc k)) e.1 (with_number d (suc k) t) ≡ x
        go again true p q = rw (eq-eqb e.0 (suc k) q) (s e.1 p)
        go again false p q =
            let r = number_within e.0 m k t w.1 q in
            let l : e.0 < suc k = r.0 in
            rw (ne_eqb e.0 (suc k) (λ z. omega arith)) (again q)

-- ---- libraries

-- numbers rise from 1 to at most the number of libraries
abbrev pub Listed : Libraries → Type 0
Listed ls = Within 0 (length ls) ls

pub listed_counted : (ls : Libraries) → Listed ls → Counted ls
listed_counted ls = within_counted 0 (length ls) ls

pub entered_listed : (name : List ℕ) (ls : Libraries) → Listed ls → Listed (entered name ls)
entered_listed name ls h =
    let last : Libraries = (suc (length ls), name) ∷ [] in
    let l : length (ls ++ last) ≡ suc (length ls) = length-append ls last ∙ omega arith in
    entered_so name ls Listed (rw l (within_last 0 (length ls) name ls h)) h

pub all_listed : (names : List (List ℕ)) (ls : Libraries) → Listed ls → Listed (all_entered names ls)
all_listed = all_so Listed entered_listed

-- something holds of each of these names
pub data Each (P : List ℕ → Type 0) : List (List ℕ) → Type 0 where
  no_name : Each P []
  a_name : {n : List ℕ} {ns : List (List ℕ)} → P n → Each P ns → Each P (n ∷ ns)

module _ {P : List ℕ → Type 0} where
  pub each_left : (a b : List (List ℕ)) → Each P (a ++ b) → Each P a
  each_left [] b h = no_name
  each_left (n ∷ a) b (a_name p h) = a_name p (each_left a b h)

  pub each_right : (a b : List (List ℕ)) → Each P (a ++ b) → Each P b
  each_right [] b h = h
  each_right (n ∷ a) b (a_name p h) = each_right a b h

  pub each_so : {Q : List ℕ → Type 0} (ns : List (List ℕ)) → ((n : List ℕ) → P n → Q n) → Each P ns → Each Q ns
  each_so [] f no_name = no_name
  each_so (n ∷ ns) f (a_name p h) = a_name (f n p) (each_so ns f h)

-- a library that has a number
abbrev pub Has : Libraries → List ℕ → Type 0
Has ls n = (m : ℕ) × (number_in (same_bytes n) ls ≡ suc m)

pub all_have : (names : List (List ℕ)) (ls : Libraries) → Listed ls → Each (Has (all_entered names ls)) names
unfolding all_entered
all_have [] ls w = no_name
all_have (n ∷ names) ls w =
    let h = entered_has n ls (listed_counted ls w) in
    a_name (h.0, all_more names (entered n ls) (same_bytes n) h.0 h.1) (all_have names (entered n ls) (entered_listed n ls w))

-- ---- what was written

-- numbers in both tables rise: of classes, to at most the number of objects; of libraries, to at most their own number
pub record Numbered (w : Progress) : Type 0 where
  pub classes_rise : Within 0 w.count w.classes
  pub libraries_rise : Listed w.libraries

pub numbered_none : Numbered nothing
numbered_none = record { classes_rise = omega arith; libraries_rise = omega arith }

numbered_object : (k : ℕ) (w : Progress) (c : Class) → Numbered w → Numbered (after_object k w c)
numbered_object zero w c h =
    record { classes_rise = within_last 0 w.count c w.classes h.classes_rise; libraries_rise = all_listed (class_needs c) w.libraries h.libraries_rise }
numbered_object (suc k) w c h =
    record { classes_rise = within_more 0 w.count (suc w.count) w.classes (omega arith) h.classes_rise; libraries_rise = h.libraries_rise }

numbered_counted : (w : Progress) → Numbered w → Numbered (counted w)
numbered_counted w h =
    record { classes_rise = within_more 0 w.count (suc w.count) w.classes (omega arith) h.classes_rise; libraries_rise = h.libraries_rise }

pub numbered_what : (w : Progress) (x : What) → Numbered w → Numbered (after_what w x)
unfolding after_what
numbered_what w (an_object c) h = numbered_object (number_in (same_class c) w.classes) w c h
numbered_what w (a_string t) h = numbered_counted w h
numbered_what w (an_array type ns d vs) h =
    record {
      classes_rise = within_more 0 w.count (suc w.count) w.classes (omega arith) h.classes_rise;
      libraries_rise = all_listed (detail_needs d) w.libraries h.libraries_rise;
    }
numbered_what w (a_primitive c v) h = h
numbered_what w (a_reference k) h = h
numbered_what w a_null h = h
numbered_what w (a_primitive_array n c vs) h = numbered_counted w h
numbered_what w (an_object_array n) h = numbered_counted w h
numbered_what w (a_string_array n) h = numbered_counted w h
numbered_what w (a_value c v) h = h

pub numbered_nodes : (w : Progress) (ns : List Node) → Numbered w → Numbered (after_nodes w ns)
unfolding after_nodes
numbered_nodes w [] h = h
numbered_nodes w (n ∷ ns) h = numbered_nodes (after_what w n.what) ns (numbered_what w n.what h)

-- v was written after w: what had a number has it still
pub record Later (w v : Progress) : Type 0 where
  pub classes_stay : (f : Class → Bool) (m : ℕ) → number_in f w.classes ≡ suc m → number_in f v.classes ≡ suc m
  pub libraries_stay : (f : List ℕ → Bool) (m : ℕ) → number_in f w.libraries ≡ suc m → number_in f v.libraries ≡ suc m

later_same : (w v : Progress) → v.classes ≡ w.classes → v.libraries ≡ w.libraries → Later w v
later_same w v e f =
    record {
      classes_stay = λ g m q. ap (number_in g) e ∙ q;
      libraries_stay = λ g m q. ap (number_in g) f ∙ q;
    }

pub later_trans : {u v w : Progress} → Later u v → Later v w → Later u w
later_trans a b =
    record {
      classes_stay = λ f m q. b.classes_stay f m (a.classes_stay f m q);
      libraries_stay = λ f m q. b.libraries_stay f m (a.libraries_stay f m q);
    }

later_object : (k : ℕ) (w : Progress) (c : Class) → Later w (after_object k w c)
later_object zero w c =
    record {
      classes_stay = λ f m q. number_more f w.classes ((suc w.count, c) ∷ []) m q;
      libraries_stay = λ f m q. all_more (class_needs c) w.libraries f m q;
    }
later_object (suc k) w c = later_same w (counted w) refl refl

pub later_what : (w : Progress) (x : What) → Later w (after_what w x)
unfolding after_what
later_what w (an_object c) = later_object (number_in (same_class c) w.classes) w c
later_what w (a_string t) = later_same w (counted w) refl refl
later_what w (an_array type ns d vs) =
    record { classes_stay = λ f m q. q; libraries_stay = λ f m q. all_more (detail_needs d) w.libraries f m q }
later_what w (a_primitive c v) = later_same w w refl refl
later_what w (a_reference k) = later_same w w refl refl
later_what w a_null = later_same w w refl refl
later_what w (a_primitive_array n c vs) = later_same w (counted w) refl refl
later_what w (an_object_array n) = later_same w (counted w) refl refl
later_what w (a_string_array n) = later_same w (counted w) refl refl
later_what w (a_value c v) = later_same w w refl refl

pub later_nodes : (w : Progress) (ns : List Node) → Later w (after_nodes w ns)
unfolding after_nodes
later_nodes w [] = later_same w w refl refl
later_nodes w (n ∷ ns) = later_trans (later_what w n.what) (later_nodes (after_what w n.what) ns)

-- ---- back from numbers, by what was written at the end

abbrev pub no_class : Class
no_class = record { name = []; from = the_system; members = [] }

-- the name and the class that have this number
abbrev pub name_in : Progress → ℕ → List ℕ
name_in w k = with_number [] k w.libraries

abbrev pub class_in : Progress → ℕ → Class
class_in w k = with_number no_class k w.classes

module _ (v : Progress) (h : Numbered v) (w : Progress) (l : Later w v) where
  pub name_back : (n : List ℕ) → Has w.libraries n → name_in v (number_in (same_bytes n) w.libraries) ≡ n
  name_back n q =
      let e = l.libraries_stay (same_bytes n) q.0 q.1 in
      ap (name_in v) q.1 ∙ number_back (same_bytes n) [] n 0 (length v.libraries) q.0 v.libraries h.libraries_rise (λ y z. sym (same_eq n y z)) e

  pub class_back : (c : Class) (m : ℕ) → number_in (same_class c) w.classes ≡ suc m → class_in v (suc m) ≡ c
  class_back c m q =
      number_back (same_class c) no_class c 0 v.count m v.classes h.classes_rise (λ y z. sym (class_eq c y z)) (l.classes_stay (same_class c) m q)
