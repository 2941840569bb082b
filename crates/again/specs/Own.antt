-- What holds of every record written from nodes that fit: it takes a byte or more; a library's number leads to its name once all is written, and the
-- number of the first object of a class to the class.
use Prim.Native.Nat.{ℕ, zero, suc, ◌+◌, ◌≤◌, ◌<◌}
use Rattle.std.specs.Prelude.{◌≡◌, Bool, length, leb, eqb}
use Rattle.std.proofs.Math.Path.{refl, sym, ap, subst}
use Rattle.std.proofs.Common.{◌∙◌, length-append, eq-eqb, ne_eqb}
use mathlib.Core.List.{List, [], ◌∷◌, ◌++◌, map}
use native.Mathlib.Omega.{arith}
use Rattle.format.specs.Terms.{Terms}
use Rattle.format.specs.declared.PrimitiveCode.{PrimitiveCode}
use Rattle.format.specs.Bytes.{pick, same_bytes}
use Rattle.format.specs.Contents.{Prefixed, shortest, has_prefix, bytes_in, Rec, header, class_by_id, system_class, library_class, string, array, typed_primitive, reference, null, nulls, many_nulls, end, library, primitive_array, object_array, string_array, value, enc, encs, From, the_system, the_library, Class}
use Rattle.format.specs.Grammar.{Content, number, boolean, scalar, exact, moment, PrefixIf, Value, size}
use Rattle.format.proofs.Own.{sized_exactly}
use Rattle.format.specs.Says.{What, an_object, a_string, an_array, a_primitive, a_reference, a_null, a_primitive_array, an_object_array, a_string_array, a_value, Node}
use Rattle.format.specs.Tidy.{same_class, number_in, Progress, Libraries, library_records, entered, all_entered, class_needs, detail_needs, class_by, object_by, after_object, records_of, after_what, run_of}
use Rattle.fields.specs.Judged.{picked}
use Rattle.same.specs.Laws.{same_eq, same_refl}
use Rattle.laws.specs.Tests.{class_refl}
use Rattle.laws.specs.Numbers.{number_new, entered_new, all_more, after_nodes}
use Rattle.laws.specs.Runs.{Sort, a_null_rule, plain, sort_of}
use Rattle.utf8.specs.Widths.{some_bytes}
use Rattle.format.specs.Meant.{class_of_all}
use Rattle.saying.specs.Said.{said_by}
use Rattle.saying.specs.Prefixes.{value_by_lem}
use Rattle.saying.specs.There.{length_bytes}
use Rattle.saying.specs.Good.{Place, Allowed, in_value, count_of, open_after, Fits, a_node}
use Rattle.saying.specs.Numbers.{within_counted, Listed, listed_counted, number_back, entered_listed, all_have, each_so, Numbered, numbered_what, Later, later_nodes, name_in, class_in, name_back, class_back}
use Rattle.saying.specs.Shown.{Shown, shown, all_shown, packed, Wait, no_wait, run_shown, one_more, squeezed, recs_of, squeezed_null, squeezed_records}
use Rattle.saying.specs.Round.{class_said}

-- ---- of every record

abbrev pub All : (Rec → Type 0) → List Rec → Type 0
All P [] = Unit {0}
All P (r ∷ rs) = P r × All P rs

module _ (P : Rec → Type 0) where
  all_append : (a b : List Rec) → All P a → All P b → All P (a ++ b)
  all_append [] b g h = h
  all_append (r ∷ a) b g h = (g.0, all_append a b g.1 h)

  shown_append : (a b : List Shown) → All P (recs_of a) → All P (recs_of b) → All P (recs_of (a ++ b))
  shown_append [] b g h = h
  shown_append (x ∷ a) b g h = (g.0, shown_append a b g.1 h)

  all_shown_rule : (o n : ℕ) (rs : List Rec) → All P rs → All P (recs_of (all_shown o n rs))
  all_shown_rule o n [] h = tt
  all_shown_rule o n (r ∷ rs) h = (h.0, all_shown_rule o n rs h.1)

  module _ (a : P null) (b : (k : ℕ) → P (nulls k)) (c : (k : ℕ) → P (many_nulls k)) where
    all_run : (w : Wait) → All P (recs_of (run_shown w))
    unfolding run_of
    all_run w =
        let k : ℕ = w.count in
        let Q : List Rec → Type 0 = λ (rs : List Rec). All P (recs_of (map (λ (r : Rec). shown r w.owner w.slot) rs)) in
        picked Q (eqb k 0) (λ e. tt) (λ e. picked Q (eqb k 1) (λ f. (a, tt)) (λ f. picked Q (leb k 255) (λ g. (b k, tt)) (λ g. (c k, tt))))

    all_node : (p : Progress) (x : What) (w : Wait) (o n : ℕ) (xs : List Shown) → Sort p x → All P (records_of p x) → ((v : Wait) → All P (recs_of (squeezed v xs)))
        → All P (recs_of (squeezed w (all_shown o n (records_of p x) ++ xs)))
    unfolding records_of
    all_node p x w o n xs a_null_rule h again =
        subst (λ (ys : List Shown). All P (recs_of ys)) (sym (squeezed_null w o n xs))
        (shown_append (pick (eqb o w.owner) [] (run_shown w)) (squeezed (one_more w o n) xs)
        (picked (λ (ys : List Shown). All P (recs_of ys)) (eqb o w.owner) (λ e. tt) (λ e. all_run w)) (again (one_more w o n)))
    all_node p x w o n xs (plain q) h again =
        subst (λ (ys : List Shown). All P (recs_of ys)) (sym (squeezed_records w o n q xs))
        (shown_append (run_shown w) (all_shown o n (records_of p x) ++ squeezed no_wait xs) (all_run w)
        (shown_append (all_shown o n (records_of p x)) (squeezed no_wait xs) (all_shown_rule o n (records_of p x) h) (again no_wait)))

    -- what holds of the records of each node, and of nulls, holds of every record
    module _ (v : Progress) (total : ℕ)
        (each : (p : Progress) (fs : List Place) (x : What) → Numbered p → Allowed total fs x → Later (after_what p x) v → All P (records_of p x)) where
      all_nodes : (count : ℕ) (fs : List Place) (ns : List Node) (p : Progress) (w : Wait) → Fits total count fs ns → Numbered p → after_nodes p ns ≡ v
          → All P (recs_of (squeezed w (packed p ns)))
      unfolding packed squeezed after_nodes
      all_nodes count fs [] p w f h e = all_run w
      all_nodes count fs (n ∷ ns) p w (a_node a o s f) h e =
          all_node p n.what w n.owner n.slot (packed (after_what p n.what) ns) (sort_of p n.what)
          (each p fs n.what h a (subst (Later (after_what p n.what)) e (later_nodes (after_what p n.what) ns)))
          (λ y. all_nodes (count + count_of n.what) (open_after count fs n.what) ns (after_what p n.what) y f (numbered_what p n.what h) e)

-- ---- numbers lead back, and records take bytes

abbrev pub Own : Progress → Rec → Type 0
Own v (header r h) = Unit {0}
Own v (class_by_id i k) = Unit {0}
Own v (system_class i n ms) = class_of_all (name_in v) n.text the_system ms ≡ class_in v i
Own v (library_class i n ms l) = class_of_all (name_in v) n.text (the_library (name_in v l)) ms ≡ class_in v i
Own v (string i x) = Unit {0}
Own v (array i t ns d vs) = Unit {0}
Own v (typed_primitive c x) = Unit {0}
Own v (reference i) = Unit {0}
Own v null = Unit {0}
Own v (nulls k) = Unit {0}
Own v (many_nulls k) = Unit {0}
Own v end = Unit {0}
Own v (library i n) = name_in v i ≡ n.text
Own v (primitive_array i n c vs) = Unit {0}
Own v (object_array i n) = Unit {0}
Own v (string_array i n) = Unit {0}
Own v (value c x) = Unit {0}

abbrev pub Kept : Progress → Rec → Type 0
Kept v r = Own v r × (0 < size r)

-- a Decimal has a byte or more in its prefix, any other value in its content
content_some : (τ : Terms) {c : PrimitiveCode} {x : List ℕ} (w n : ℕ) → Content c x → PrefixIf τ (has_prefix c) w n → 0 < w + length x
content_some τ w n (number {c = c} {n = m} a b) p = let s = (sized_exactly c m).1 a in omega arith
content_some τ w n (boolean a) p = omega arith
content_some τ w n (scalar c i q) p = let s = some_bytes c in let l = ap length q in omega arith
content_some τ w n (exact a b) p = let s = p.some in omega arith
content_some τ w n (moment a b) p = omega arith

value_some : (τ : Terms) {c : PrimitiveCode} {x : Prefixed} → Value τ c x → 0 < length (bytes_in x)
value_some τ {x = x} g =
    let s = content_some τ x.width (length x.text) g.content g.prefix in
    let l = length_bytes x in
    omega arith

module _ (τ : Terms) (v : Progress) (good : Numbered v) where
  kept_libraries : (names : List (List ℕ)) (ls : Libraries) → Listed ls
      → ((f : List ℕ → Bool) (m : ℕ) → number_in f (all_entered names ls) ≡ suc m → number_in f v.libraries ≡ suc m) → All (Kept v) (library_records names ls)
  unfolding library_records all_entered enc
  kept_libraries [] ls w stay = tt
  kept_libraries (x ∷ names) ls w stay =
      all_append (Kept v) (pick (eqb (number_in (same_bytes x) ls) 0) (library (suc (length ls)) (shortest x) ∷ []) []) (library_records names (entered x ls))
      (go (number_in (same_bytes x) ls) refl) (kept_libraries names (entered x ls) (entered_listed x ls w) stay)
    where
      go : (m : ℕ) → number_in (same_bytes x) ls ≡ m → All (Kept v) (pick (eqb (number_in (same_bytes x) ls) 0) (library (suc (length ls)) (shortest x) ∷ []) [])
      go zero e =
          let a : number_in (same_bytes x) (entered x ls) ≡ suc (length ls) =
          ap (number_in (same_bytes x)) (entered_new x ls e) ∙ number_new (same_bytes x) ls (length ls) x (listed_counted ls w) (same_refl x) e in
          let b = stay (same_bytes x) (length ls) (all_more names (entered x ls) (same_bytes x) (length ls) a) in
          let c : name_in v (suc (length ls)) ≡ x =
          number_back (same_bytes x) [] x 0 (length v.libraries) (length ls) v.libraries good.libraries_rise (λ y z. sym (same_eq x y z)) b in
          let d : 0 < size (library (suc (length ls)) (shortest x)) = omega arith in
          rw (eq-eqb (number_in (same_bytes x) ls) 0 e) ((c, d), tt)
      go (suc m) e = rw (ne_eqb (number_in (same_bytes x) ls) 0 (λ z. omega arith)) tt

  same_class_lem : (c d : Class) → ◌≡◌ {A = List What} (an_object c ∷ []) (an_object d ∷ []) → c ≡ d
  same_class_lem c d e = cc

  kept_class : (ls : Libraries) (i : ℕ) (c : Class) (from : From) → said_by (name_in v) (class_in v) (λ (k : ℕ). k) (class_by ls i c from) ≡ an_object c ∷ []
      → class_in v i ≡ c → Kept v (class_by ls i c from)
  unfolding enc
  kept_class ls i c the_system e f = (same_class_lem _ c e ∙ sym f, omega arith)
  kept_class ls i c (the_library n) e f = (same_class_lem _ c e ∙ sym f, omega arith)

  kept_object : (k : ℕ) (p : Progress) (c : Class) → number_in (same_class c) p.classes ≡ k → Numbered p → Later (after_object k p c) v
      → All (Kept v) (object_by k p c)
  unfolding enc
  kept_object zero p c e h l =
      let ls : Libraries = all_entered (class_needs c) p.libraries in
      let back = each_so (class_needs c) (name_back v good (after_object zero p c) l) (all_have (class_needs c) p.libraries h.libraries_rise) in
      let a = class_said (name_in v) ls (class_in v) (λ (k : ℕ). k) (suc p.count) c back in
      let b = class_back v good (after_object zero p c) l c p.count (number_new (same_class c) p.classes p.count c (within_counted 0 p.count p.classes h.classes_rise) (class_refl c) e) in
      all_append (Kept v) (library_records (class_needs c) p.libraries) (class_by ls (suc p.count) c c.from ∷ [])
      (kept_libraries (class_needs c) p.libraries h.libraries_rise l.libraries_stay) (kept_class ls (suc p.count) c c.from a b, tt)
  kept_object (suc k) p c e h l = let d : 0 < size (class_by_id (suc p.count) (suc k)) = omega arith in ((tt, d), tt)

  kept_node : {total : ℕ} (p : Progress) (fs : List Place) (x : What) → Numbered p → Allowed total fs x → Later (after_what p x) v → All (Kept v) (records_of p x)
  unfolding records_of after_what enc
  kept_node p fs (an_object c) h a l = kept_object (number_in (same_class c) p.classes) p c refl h l
  kept_node p fs (a_string t) h a l = ((tt, omega arith), tt)
  kept_node p fs (an_array type ns d vs) h a l =
      all_append (Kept v) (library_records (detail_needs d) p.libraries) _
      (kept_libraries (detail_needs d) p.libraries h.libraries_rise l.libraries_stay) ((tt, omega arith), tt)
  kept_node p fs (a_primitive c w) h a l = ((tt, omega arith), tt)
  kept_node p fs (a_reference k) h a l = ((tt, omega arith), tt)
  kept_node p fs a_null h a l = ((tt, omega arith), tt)
  kept_node p fs (a_primitive_array n c vs) h a l = ((tt, omega arith), tt)
  kept_node p fs (an_object_array n) h a l = ((tt, omega arith), tt)
  kept_node p fs (a_string_array n) h a l = ((tt, omega arith), tt)
  kept_node p fs (a_value c w) h (in_value g) l = ((tt, value_some τ (value_by_lem τ g)), tt)

  pub kept : (total count : ℕ) (fs : List Place) (ns : List Node) (p : Progress) (w : Wait) → Fits total count fs ns → Numbered p → after_nodes p ns ≡ v
      → All (Kept v) (recs_of (squeezed w (packed p ns)))
  unfolding enc
  kept total = all_nodes (Kept v) (tt, omega arith) (λ k. (tt, omega arith)) (λ k. (tt, omega arith)) v total kept_node

-- there are at most as many records as bytes
pub few_records : (v : Progress) (xs : List Shown) (rs : List Rec) → All (Kept v) (recs_of xs) → length xs + length (encs rs) ≤ length (encs (recs_of xs ++ rs))
unfolding encs
few_records v [] rs h = omega arith
few_records v (x ∷ xs) rs h =
    let a = few_records v xs rs h.1 in
    let b : 0 < size x.rec = h.0.1 in
    let c = length-append (enc x.rec) (encs (recs_of xs ++ rs)) in
    omega arith
