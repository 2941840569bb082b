-- The records written from nodes that fit may follow one another: their numbers are those that are due, their contents are good, and each stands
-- where the objects that are open allow it.
use Prim.Native.Nat.{ℕ, zero, suc, ◌+◌, ◌≤◌, ◌<◌}
use Rattle.std.specs.Prelude.{◌≡◌, Bool, false, ◌&&◌, drop, eqb, leb}
use Rattle.std.proofs.Math.Path.{refl, ap, subst}
use Rattle.std.proofs.Common.{sym, ◌∙◌, take_at, drop_at, eqb-true, eq-eqb, ne_eqb, leb-true}
use Rattle.std.proofs.Math.Bool.{true}
use mathlib.Core.List.{List, [], ◌∷◌, ◌++◌, map, append_assoc, append-nil}
use native.Mathlib.Omega.{arith}
use Rattle.std.proofs.Math.ListN.{length, replicate, length-append}
use Rattle.format.specs.Terms.{Terms}
use Rattle.format.specs.declared.SlotType.{SlotType}
use Rattle.format.specs.declared.SlotType.TheVariants as S
use Rattle.format.specs.Bytes.{pick, same_bytes}
use Rattle.format.specs.Rows.{is_object}
use Rattle.format.specs.Contents.{Prefixed, shortest, Detail, primitive, text, object, system, class, objects, texts, primitives, slot_for, Rec, null, library, From, the_system, the_library, Class}
use Rattle.format.specs.Grammar.{Entry, another, a_class, a_library, ClassId, ObjectId, Characters, ClassInfo, takes_objects, product, of_objects, of_strings, of_primitives, of_any, of_values, takes_records, all_take}
use Rattle.format.specs.Grammar as G
use Rattle.format.specs.Says.{What, an_object, a_string, an_array, a_primitive, a_reference, a_null, a_primitive_array, an_object_array, a_string_array, a_value, Node}
use Rattle.format.specs.Tidy.{same_class, number_in, Progress, nothing, Libraries, library_records, entered, all_entered, detail_needs, members_need, from_needs, class_needs, detail_by, members_by, class_by, object_by, after_object, records_of, after_what, run_of}
use Rattle.laws.specs.Tests.{both_of}
use Rattle.fields.specs.Judged.{picked}
use Rattle.laws.specs.Numbers.{entered_new, entered_old, after_nodes}
use Rattle.laws.specs.Runs.{Sort, a_null_rule, plain, sort_of}
use Rattle.saying.specs.Good.{GoodClass, slots_of, Place, place, shut, owner_of, slot_of, opened_in, Allowed, top_object, top_string, top_objects, top_strings, top_primitives, top_array, top_values, in_object, in_string, in_primitive, in_reference, in_null, in_value, count_of, item_slots, open_after, Fits, the_end, a_node}
use Rattle.saying.specs.Prefixes.{shortest_name, value_by_lem, values_by_lem}
use Rattle.saying.specs.There.{kind_of}
use Rattle.saying.specs.Numbers.{Listed, number_within, entered_listed, all_listed, Each, a_name, no_name, each_right, Has, all_have, Numbered, numbered_none, numbered_what}
use Rattle.saying.specs.Shown.{Shown, shown, all_shown, packed, Wait, wait, no_wait, run_shown, squeezed, squeezed_null, squeezed_records}
use Rattle.saying.specs.Round.{Under, under_shut, owner_below, under_after}
use Rattle.saying.specs.Counts.{Knows, knows_none, knows_another, knows_library, knows_class}
use Rattle.saying.specs.Legal.{Takes, class_by_id_rule, system_class_rule, library_class_rule, an_array_rule, some_nulls, many_nulls_rule, Nulls, one, some, many, of_class, Stands, top_library, in_library, in_nulls, Legal, all_shown_rule, a_record}
use Rattle.saying.specs.Legal as L
use Rattle.saying.specs.Limits.{positive_of_lem, all_grow, nodes_grow, what_count, fits_le, types_by, detail_good, class_good, library_there, detail_names, class_names, item_slots_lem, Small, small_after}

-- ---- objects counted

no_object : (n : ℕ) → n ≡ n + 0
no_object n = omega arith

one_object : (n : ℕ) → suc n ≡ n + 1
one_object n = omega arith

-- ---- a run

-- the record of a run of so many nulls
pub data RunIs (τ : Terms) (total k : ℕ) : List Rec → Type 0 where
  is_run_rule : {r : Rec} → Nulls r k → ((es : List Entry) → Takes τ total es r []) → RunIs τ total k (r ∷ [])

run_is : (τ : Terms) (total k : ℕ) → 0 < k → k < 2147483648 → RunIs τ total k (run_of k)
unfolding run_of
run_is τ total k a b =
    let P : List Rec → Type 0 = RunIs τ total k in
    picked P (eqb k 0) (λ e. let z = eqb-true k 0 e in absurd (omega arith))
    (λ e. picked P (eqb k 1) (λ f. subst (λ (j : ℕ). RunIs τ total j (null ∷ [])) (sym (eqb-true k 1 f)) (is_run_rule one (λ es. L.a_null_rule)))
    (λ f. picked P (leb k 255) (λ g. let z = leb-true k 255 g in is_run_rule some (λ es. some_nulls a (omega arith)))
    (λ g. is_run_rule many (λ es. many_nulls_rule (positive_of_lem k a b)))))

-- nulls fill the slots us of an object that has ts after them
module _ (τ : Terms) (total count row o s : ℕ) (us ts : List SlotType) (rest : List Place) (es : List Entry) (xs : List Shown) where
  filled_is : (k : ℕ) → length us ≡ k → shut (place o (s + k) ts ∷ rest) ≡ shut (place o (s + k) (drop k (us ++ ts)) ∷ rest)
  filled_is k e = ap (λ (z : List SlotType). shut (place o (s + k) z ∷ rest)) (sym (drop_at us ts k e))

  nulls_step : (r : Rec) (k : ℕ) → Nulls r k → Takes τ total es r [] → Stands τ (place o s (us ++ ts) ∷ rest) r [] → length us ≡ k
      → Legal τ total count (suc row) (shut (place o (s + k) ts ∷ rest)) es xs → Legal τ total count row (place o s (us ++ ts) ∷ rest) es (shown r o s ∷ xs)
  nulls_step r k one t st e l = a_record t st refl refl refl (no_object count) (filled_is k e) (sym (append-nil es)) l
  nulls_step r k some t st e l = a_record t st refl refl refl (no_object count) (filled_is k e) (sym (append-nil es)) l
  nulls_step r k many t st e l = a_record t st refl refl refl (no_object count) (filled_is k e) (sym (append-nil es)) l

first_takes : (u : SlotType) (us : List SlotType) → all_take (u ∷ us) ≡ true → takes_records u ≡ true
first_takes u us e = (both_of (takes_records u) (all_take us) e).0

nulls_stand : (τ : Terms) (o s k : ℕ) (us ts : List SlotType) (rest : List Place) (r : Rec) → Nulls r k → 0 < k → length us ≡ k → all_take us ≡ true
    → Stands τ (place o s (us ++ ts) ∷ rest) r []
nulls_stand τ o s k [] ts rest r n a e p = absurd (omega arith)
nulls_stand τ o s k (u ∷ us) ts rest r n a e p =
    let l = length-append us ts in
    let a : k ≤ length (u ∷ (us ++ ts)) = omega arith in
    in_nulls n (first_takes u us p) a (ap all_take (take_at (u ∷ us) ts k e) ∙ p)

-- nulls that wait: gs is open before them, fs after them
pub data Pending (w : Wait) (gs fs : List Place) : Type 0 where
  none_wait : w.owner ≡ 0 → w.count ≡ 0 → gs ≡ fs → Pending w gs fs
  nulls_wait : (us ts : List SlotType) (rest : List Place) → 0 < w.count → w.count < 2147483648 → length us ≡ w.count → all_take us ≡ true
      → Under w.owner rest → gs ≡ place w.owner w.slot (us ++ ts) ∷ rest → fs ≡ shut (place w.owner (w.slot + w.count) ts ∷ rest)
      → Pending w gs fs

legal_run : (τ : Terms) (total count row : ℕ) (w : Wait) (gs fs : List Place) (es : List Entry) (xs : List Shown) → Pending w gs fs
    → ((row : ℕ) → Legal τ total count row fs es xs) → Legal τ total count row gs es (run_shown w ++ xs)
unfolding run_of
legal_run τ total count row w gs fs es xs (none_wait a b e) again =
    let q : run_shown w ≡ [] = ap (λ (k : ℕ). map (λ (r : Rec). shown r w.owner w.slot) (run_of k)) b in
    subst (λ (hs : List Place). Legal τ total count row hs es (run_shown w ++ xs)) (sym e)
    (subst (λ (ys : List Shown). Legal τ total count row fs es (ys ++ xs)) (sym q) (again row))
legal_run τ total count row w gs fs es xs (nulls_wait us ts rest a b l p u e f) again =
    subst (λ (hs : List Place). Legal τ total count row hs es (run_shown w ++ xs)) (sym e) (go (run_of w.count) (run_is τ total w.count a b))
  where
    go : (rs : List Rec) → RunIs τ total w.count rs
        → Legal τ total count row (place w.owner w.slot (us ++ ts) ∷ rest) es (map (λ (r : Rec). shown r w.owner w.slot) rs ++ xs)
    go (r ∷ rs) (is_run_rule n t) =
        nulls_step τ total count row w.owner w.slot us ts rest es xs r w.count n (t es)
        (nulls_stand τ w.owner w.slot w.count us ts rest r n a l p) l
        (subst (λ (hs : List Place). Legal τ total count (suc row) hs es xs) f (again (suc row)))
    go [] x3 = elim x3 [ ]

-- ---- one null more

abbrev top_types : List Place → List SlotType
top_types [] = []
top_types (f ∷ fs) = f.types

abbrev outer : List Place → List Place
outer [] = []
outer (f ∷ fs) = fs

one_takes : (us : List SlotType) (t : SlotType) → all_take us ≡ true → takes_records t ≡ true → all_take (us ++ (t ∷ [])) ≡ true
one_takes [] t e f = rw f
one_takes (u ∷ us) t e f = go (takes_records u) e (one_takes us t)
  where
    go : (b : Bool) → (b && all_take us) ≡ true
        → (all_take us ≡ true → takes_records t ≡ true → all_take (us ++ (t ∷ [])) ≡ true) → (b && all_take (us ++ (t ∷ []))) ≡ true
    go true e again = again e f
    go false e again = e

module _ (o n : ℕ) (t : SlotType) (ts : List SlotType) (fs : List Place) (p : takes_records t ≡ true) (small : n + suc (length ts) < 2147483648) (under : Under o fs) where
  -- the first of a run
  pending_first : Pending (wait o n 1) (place o n (t ∷ ts) ∷ fs) (shut (place o (n + 1) ts ∷ fs))
  pending_first = nulls_wait (t ∷ []) ts fs (omega arith) (omega arith) refl (rw p) under refl refl

  -- the next of a run
  pending_next : (w : Wait) (gs : List Place) → o ≡ w.owner → Pending w gs (place o n (t ∷ ts) ∷ fs)
      → Pending (wait o w.slot (suc w.count)) gs (shut (place o (n + 1) ts ∷ fs))
  unfolding shut
  pending_next w gs e (none_wait a b q) = let i = owner_below o fs under in absurd (omega arith)
  pending_next w gs e (nulls_wait us [] rest a b l s u q r) =
      let i = owner_below w.owner (shut rest) (under_shut w.owner rest u) in
      let j : o ≡ owner_of (shut rest) = ap owner_of r in
      absurd (omega arith)
  pending_next w gs e (nulls_wait us (v ∷ vs) rest a b l s u q r) =
      let j : n ≡ w.slot + w.count = ap slot_of r in
      let k : t ∷ ts ≡ v ∷ vs = ap top_types r in
      let m : fs ≡ rest = ap outer r in
      let x : length (us ++ (t ∷ [])) ≡ suc w.count = length-append us (t ∷ []) ∙ omega arith in
      let z : gs ≡ place o w.slot ((us ++ (t ∷ [])) ++ ts) ∷ fs =
      q
      ∙ (ap (λ (i : ℕ). place i w.slot (us ++ (v ∷ vs)) ∷ rest) (sym e)
      ∙ (ap (λ (ys : List SlotType). place o w.slot (us ++ ys) ∷ rest) (sym k)
      ∙ (ap (λ (hs : List Place). place o w.slot (us ++ (t ∷ ts)) ∷ hs) (sym m)
      ∙ ap (λ (ys : List SlotType). place o w.slot ys ∷ fs) (sym (append_assoc us (t ∷ []) ts))))) in
      let y : n + 1 ≡ w.slot + suc w.count = omega arith in
      nulls_wait (us ++ (t ∷ [])) ts fs (omega arith) (omega arith) x (one_takes us t s p) under z (ap (λ (i : ℕ). shut (place o i ts ∷ fs)) y)

-- ---- libraries and objects

-- what is known once this was written
abbrev pub KnowsAll : List Entry → Progress → Type 0
KnowsAll es p = Knows es p.count p.classes (length p.libraries)

-- what may follow in any row, once this is known
abbrev pub Goes : Terms → ℕ → Progress → List Place → List Shown → Type 0
Goes τ total p fs xs = (row : ℕ) (es : List Entry) → KnowsAll es p → Legal τ total p.count row fs es xs

module _ (τ : Terms) (total : ℕ) (few : total < 2147483648) where
  class_id : (es : List Entry) (p : Progress) → KnowsAll es p → suc p.count ≤ total → ClassId (suc p.count) es
  class_id es p k l =
      record { apart = omega arith; bits = omega arith; fresh = k.used_not (suc p.count) (omega arith) }

  object_id : (es : List Entry) (p : Progress) → KnowsAll es p → suc p.count ≤ total → ObjectId (suc p.count) es
  object_id es p k l = record { sign = positive_of_lem (suc p.count) (omega arith) (omega arith); fresh = k.used_not (suc p.count) (omega arith) }

  -- the libraries that are entered, and then what follows
  module _ (count o n : ℕ) (cs : List (ℕ × Class)) (fs : List Place) (rs : List Rec) (xs : List Shown) (there : (i : ℕ) (x : Prefixed) → Stands τ fs (library i x) []) where
    legal_libraries : (names : List (List ℕ)) (ls : Libraries) → Each Characters names → Listed ls → length (all_entered names ls) < 2147483648
        → ((row : ℕ) (es : List Entry) → Knows es count cs (length (all_entered names ls)) → Legal τ total count row fs es (all_shown o n rs ++ xs))
        → (row : ℕ) (es : List Entry) → Knows es count cs (length ls) → Legal τ total count row fs es (all_shown o n (library_records names ls ++ rs) ++ xs)
    unfolding all_entered library_records
    legal_libraries [] ls g w b after row es k = after row es k
    legal_libraries (x ∷ names) ls (a_name g gs) w b after row es k =
        go (number_in (same_bytes x) ls) refl (legal_libraries names (entered x ls) gs (entered_listed x ls w) b after)
      where
        go : (m : ℕ) → number_in (same_bytes x) ls ≡ m
            → ((row : ℕ) (es : List Entry) → Knows es count cs (length (entered x ls)) → Legal τ total count row fs es (all_shown o n (library_records names (entered x ls) ++ rs) ++ xs))
            → Legal τ total count row fs es (all_shown o n ((pick (eqb (number_in (same_bytes x) ls) 0) (library (suc (length ls)) (shortest x) ∷ []) [] ++ library_records names (entered x ls)) ++ rs) ++ xs)
        go zero e again =
            let l : length (entered x ls) ≡ suc (length ls) =
            ap length (entered_new x ls e) ∙ (length-append ls ((suc (length ls), x) ∷ []) ∙ omega arith) in
            let m = all_grow names (entered x ls) in
            let ds : List Entry = es ++ (a_library (suc (length ls)) ∷ []) in
            let q : Knows ds count cs (length (entered x ls)) = subst (λ (i : ℕ). Knows ds count cs i) (sym l) (knows_library es count cs (length ls) k) in
            subst
            (λ (t : Bool). Legal τ total count row fs es (all_shown o n ((pick t (library (suc (length ls)) (shortest x) ∷ []) [] ++ library_records names (entered x ls)) ++ rs) ++ xs))
            (sym (eq-eqb (number_in (same_bytes x) ls) 0 e))
            (a_record
            (L.a_library_rule (positive_of_lem (suc (length ls)) (omega arith) (omega arith)) (k.known_not (suc (length ls)) (omega arith)) (shortest_name τ g))
            (there (suc (length ls)) (shortest x))
            refl refl refl (no_object count) refl refl (again (suc row) ds q))
        go (suc m) e again =
            let q : Knows es count cs (length (entered x ls)) = subst (λ (hs : Libraries). Knows es count cs (length hs)) (sym (entered_old x ls m e)) k in
            subst
            (λ (t : Bool). Legal τ total count row fs es (all_shown o n ((pick t (library (suc (length ls)) (shortest x) ∷ []) [] ++ library_records names (entered x ls)) ++ rs) ++ xs))
            (sym (ne_eqb (number_in (same_bytes x) ls) 0 (λ z. omega arith)))
            (again row es q)

  -- an object of a class, where one may stand
  module _ (p : Progress) (c : Class) (o n : ℕ) (fs : List Place) (xs : List Shown) (h : Numbered p) (g : GoodClass c) (e : o ≡ owner_of fs) (f : n ≡ slot_of fs) (there : (i : ℕ) (x : Prefixed) → Stands τ fs (library i x) []) (here : (r : Rec) → of_class (kind_of r) ≡ true → is_object (kind_of r) ≡ true → Stands τ fs r (slots_of c.members)) (l : suc p.count ≤ total) where
    legal_class : (ls : Libraries) → Listed ls → length ls < 2147483648 → Each (Has ls) (class_needs c)
        → Goes τ total (record { count = suc p.count; classes = p.classes ++ ((suc p.count, c) ∷ []); libraries = ls }) (opened_in (suc p.count) (slots_of c.members) fs) xs
        → (row : ℕ) (es : List Entry) → Knows es p.count p.classes (length ls)
        → Legal τ total p.count row fs es (all_shown o n (class_by ls (suc p.count) c c.from ∷ []) ++ xs)
    legal_class ls w b has again row es k = go c.from (each_right (members_need c.members) (from_needs c.from) has)
      where
        id : ClassId (suc p.count) es
        id = class_id es (record { count = p.count; classes = p.classes; libraries = ls }) k l

        library_is : (m : List ℕ) → Has ls m → G.LibraryId (number_in (same_bytes m) ls) es
        library_is = library_there es p.count p.classes ls w b k

        info : ClassInfo τ es (shortest c.name) (members_by ls c.members)
        info = class_good τ es ls library_is c g has

        ts : slots_of c.members ≡ G.types_of (members_by ls c.members)
        ts = sym (types_by ls c.members)

        ds : List Entry
        ds = es ++ (a_class (suc p.count) (suc row) (G.types_of (members_by ls c.members)) ∷ [])

        next : Legal τ total (suc p.count) (suc row) (opened_in (suc p.count) (slots_of c.members) fs) ds xs
        next = again (suc row) ds (knows_class es p.count p.classes (length ls) k c (suc row) (G.types_of (members_by ls c.members)) (sym ts) h.classes_rise)

        go : (x : From) → Each (Has ls) (from_needs x) → Legal τ total p.count row fs es (all_shown o n (class_by ls (suc p.count) c x ∷ []) ++ xs)
        go the_system no_name = a_record (system_class_rule id info ts) (here _ refl refl) e f refl (one_object p.count) refl refl next
        go (the_library m) (a_name q no_name) = a_record (library_class_rule id info (library_is m q) ts) (here _ refl refl) e f refl (one_object p.count) refl refl next

    legal_object : (k : ℕ) → number_in (same_class c) p.classes ≡ k → length (after_object k p c).libraries < 2147483648
        → Goes τ total (after_object k p c) (opened_in (suc p.count) (slots_of c.members) fs) xs → Goes τ total p fs (all_shown o n (object_by k p c) ++ xs)
    legal_object zero q b again row es known =
        let ls : Libraries = all_entered (class_needs c) p.libraries in
        legal_libraries p.count o n p.classes fs (class_by ls (suc p.count) c c.from ∷ []) xs there (class_needs c) p.libraries (class_names c g) h.libraries_rise b
        (legal_class ls (all_listed (class_needs c) p.libraries h.libraries_rise) b (all_have (class_needs c) p.libraries h.libraries_rise) again) row es known
    legal_object (suc k) q b again row es known =
        let r = known.class_is c k q in
        let i = number_within (same_class c) 0 p.count k p.classes h.classes_rise q in
        let j : suc k ≤ p.count = i.1 in
        let m : suc k < 4294967296 = omega arith in
        a_record (class_by_id_rule (class_id es p known l) m r.1) (here _ refl refl) e f refl (one_object p.count) refl refl
        (again (suc row) (es ++ (another (suc p.count) ∷ [])) (knows_another es p.count p.classes (length p.libraries) known))

-- ---- one node

no_value : (t : SlotType) → takes_objects t ≡ true → takes_records t ≡ true
no_value (S.Primitive c) e = absurd (let z : ◌≡◌ {A = ℕ} 0 1 = cc in omega arith)
no_value S.Text e = refl
no_value S.Object e = refl
no_value S.SystemClass e = refl
no_value S.Class e = refl
no_value S.ObjectArray e = refl
no_value S.StringArray e = refl
no_value (S.PrimitiveArray c) e = refl

slot_by : (ls : Libraries) (d : Detail (List ℕ) (List ℕ)) → slot_for d ≡ slot_for (detail_by ls d)
slot_by ls (primitive c) = refl
slot_by ls text = refl
slot_by ls object = refl
slot_by ls (system n) = refl
slot_by ls (class n l) = refl
slot_by ls objects = refl
slot_by ls texts = refl
slot_by ls (primitives c) = refl

module _ (τ : Terms) (total : ℕ) (few : total < 2147483648) (p : Progress) (h : Numbered p) where
  -- what is known after an object that names no class
  after_another : (ls : Libraries) (row : ℕ) (es : List Entry) → Knows es p.count p.classes (length ls)
      → Knows (es ++ (another (suc p.count) ∷ [])) (suc p.count) p.classes (length ls)
  after_another ls row es k = knows_another es p.count p.classes (length ls) k

  legal_node : (fs : List Place) (x : What) (o n : ℕ) (xs : List Shown) → Allowed total fs x → o ≡ owner_of fs → n ≡ slot_of fs
      → (after_what p x).count ≤ total → length (after_what p x).libraries < 2147483648
      → Goes τ total (after_what p x) (open_after p.count fs x) xs → Goes τ total p fs (all_shown o n (records_of p x) ++ xs)
  unfolding after_what records_of shut all_entered library_records
  legal_node fs (an_object c) o n xs (top_object g) e f l b again row es k =
      let z = what_count p (an_object c) in
      let m : suc p.count ≤ total = omega arith in
      legal_object τ total few p c o n [] xs h g e f (λ i x. top_library) (λ r a i. L.top_object i) m (number_in (same_class c) p.classes) refl b again row es k
  legal_node fs (an_object c) o n xs (in_object {t = t} q g d) e f l b again row es k =
      let z = what_count p (an_object c) in
      let m : suc p.count ≤ total = omega arith in
      legal_object τ total few p c o n fs xs h g e f (λ i x. in_library (no_value t q)) (λ r a i. L.in_object q a d) m (number_in (same_class c) p.classes) refl b again row es k
  legal_node fs (a_string x) o n xs (top_string g) e f l b again row es k =
      a_record (L.a_string_rule (object_id τ total few es p k l) (shortest_name τ g)) (L.top_object refl) e f refl (one_object p.count) refl refl
      (again (suc row) _ (after_another p.libraries row es k))
  legal_node fs (a_string x) o n xs (in_string q g) e f l b again row es k =
      a_record (L.a_string_rule (object_id τ total few es p k l) (shortest_name τ g)) (L.in_string q) e f refl (one_object p.count) refl refl
      (again (suc row) _ (after_another p.libraries row es k))
  legal_node fs (an_array type ns d vs) o n xs (top_array s g q) e f l b again row es k =
      let ls : Libraries = all_entered (detail_needs d) p.libraries in
      let w : Listed ls = all_listed (detail_needs d) p.libraries h.libraries_rise in
      let has = all_have (detail_needs d) p.libraries h.libraries_rise in
      let t : item_slots ns d ≡ replicate (product ns) (slot_for (detail_by ls d)) = item_slots_lem ns d q ∙ ap (replicate (product ns)) (slot_by ls d) in
      legal_libraries τ total few p.count o n p.classes [] _ xs (λ i x. top_library) (detail_needs d) p.libraries (detail_names d g) h.libraries_rise b
      (λ row es k. a_record
      (an_array_rule (object_id τ total few es (record { count = p.count; classes = p.classes; libraries = ls }) k l)
      (of_any s refl (detail_good τ es ls (library_there es p.count p.classes ls w b k) d g has) (ap takes_records (sym (slot_by ls d)) ∙ q) t))
      (L.top_object refl) e f refl (one_object p.count) refl refl (again (suc row) _ (after_another ls row es k)))
      row es k
  legal_node fs (an_array type ns d vs) o n xs (top_values s g) e f l b again row es k =
      a_record (an_array_rule (object_id τ total few es p k l) (of_values s refl (values_by_lem τ g))) (L.top_object refl) e f refl (one_object p.count) refl refl
      (again (suc row) _ (after_another p.libraries row es k))
  legal_node fs (a_primitive c v) o n xs (in_primitive q g) e f l b again row es k =
      a_record (L.a_primitive_rule (value_by_lem τ g)) (L.in_primitive q) e f refl (no_object p.count) refl (sym (append-nil es)) (again (suc row) es k)
  legal_node fs (a_reference i) o n xs (in_reference q a r) e f l b again row es k =
      a_record (L.a_reference_rule (positive_of_lem i a (omega arith)) r) (L.in_reference q) e f refl (no_object p.count) refl (sym (append-nil es)) (again (suc row) es k)
  legal_node fs a_null o n xs (in_null {t = t} {ts = ts} q) e f l b again row es k =
      let m : 1 ≤ suc (length ts) = omega arith in
      let i : all_take (t ∷ []) ≡ true = rw q in
      a_record L.a_null_rule (in_nulls one q m i) e f refl (no_object p.count) refl (sym (append-nil es)) (again (suc row) es k)
  legal_node fs (a_primitive_array i c vs) o n xs (top_primitives a g) e f l b again row es k =
      a_record (an_array_rule (object_id τ total few es p k l) (of_primitives a (values_by_lem τ g))) (L.top_object refl) e f refl (one_object p.count) refl refl
      (again (suc row) _ (after_another p.libraries row es k))
  legal_node fs (an_object_array i) o n xs (top_objects a) e f l b again row es k =
      a_record (an_array_rule (object_id τ total few es p k l) (of_objects a)) (L.top_object refl) e f refl (one_object p.count) refl refl
      (again (suc row) _ (after_another p.libraries row es k))
  legal_node fs (a_string_array i) o n xs (top_strings a) e f l b again row es k =
      a_record (an_array_rule (object_id τ total few es p k l) (of_strings a)) (L.top_object refl) e f refl (one_object p.count) refl refl
      (again (suc row) _ (after_another p.libraries row es k))
  legal_node fs (a_value c v) o n xs (in_value g) e f l b again row es k =
      a_record (L.a_value_rule (value_by_lem τ g)) (L.in_value (value_by_lem τ g)) e f refl (no_object p.count) refl (sym (append-nil es)) (again (suc row) es k)

-- ---- all nodes

module _ (τ : Terms) (total : ℕ) (few : total < 2147483648) where
  -- a null waits
  legal_null : (p : Progress) (w : Wait) (gs : List Place) (o n : ℕ) (t : SlotType) (ts : List SlotType) (fs : List Place) (xs : List Shown)
      → takes_records t ≡ true → Under (suc p.count) (place o n (t ∷ ts) ∷ fs) → Small (place o n (t ∷ ts) ∷ fs) → Pending w gs (place o n (t ∷ ts) ∷ fs)
      → ((v : Wait) (hs : List Place) → Pending v hs (shut (place o (n + 1) ts ∷ fs)) → Goes τ total p hs (squeezed v xs))
      → Goes τ total p gs (squeezed w (shown null o n ∷ xs))
  legal_null p w gs o n t ts fs xs q u s pending again row es k =
      subst (Legal τ total p.count row gs es) (sym (squeezed_null w o n xs)) (go (eqb o w.owner) refl)
    where
      go : (b : Bool) → eqb o w.owner ≡ b
          → Legal τ total p.count row gs es (pick b [] (run_shown w) ++ squeezed (wait o (pick b w.slot n) (pick b (suc w.count) 1)) xs)
      go true e =
          again (wait o w.slot (suc w.count)) gs (pending_next o n t ts fs q s.0 u.1 w gs (eqb-true o w.owner e) pending) row es k
      go false e =
          legal_run τ total p.count row w gs (place o n (t ∷ ts) ∷ fs) es (squeezed (wait o n 1) xs) pending
          (λ r. again (wait o n 1) (place o n (t ∷ ts) ∷ fs) (pending_first o n t ts fs q s.0 u.1) r es k)

  one_legal : (p : Progress) (w : Wait) (gs fs : List Place) (x : What) (o n : ℕ) (xs : List Shown) → Sort p x → Allowed total fs x → o ≡ owner_of fs → n ≡ slot_of fs
      → Pending w gs fs → Under (suc p.count) fs → Small fs → Numbered p → (after_what p x).count ≤ total → length (after_what p x).libraries < 2147483648
      → ((v : Wait) (hs : List Place) → Pending v hs (open_after p.count fs x) → Goes τ total (after_what p x) hs (squeezed v xs))
      → Goes τ total p gs (squeezed w (all_shown o n (records_of p x) ++ xs))
  unfolding records_of after_what
  one_legal p w gs fs x o n xs a_null_rule (in_null {o = i} {n = j} {t = t} {ts = ts} {fs = hs} q) e f pending u s h l b again row es k =
      subst (λ (m : ℕ). Goes τ total p gs (squeezed w (shown null m n ∷ xs))) (sym e)
      (subst (λ (m : ℕ). Goes τ total p gs (squeezed w (shown null i m ∷ xs))) (sym f) (legal_null p w gs i j t ts hs xs q u s pending again)) row es k
  one_legal p w gs fs x o n xs (plain q) a e f pending u s h l b again row es k =
      subst (Legal τ total p.count row gs es) (sym (squeezed_records w o n q xs))
      (legal_run τ total p.count row w gs fs es (all_shown o n (records_of p x) ++ squeezed no_wait xs) pending
      (λ r. legal_node τ total few p h fs x o n (squeezed no_wait xs) a e f l b (again no_wait (open_after p.count fs x) (none_wait refl refl refl)) r es k))

  pub legal_from : (ns : List Node) (p : Progress) (w : Wait) (gs fs : List Place) → Fits total p.count fs ns → Pending w gs fs → Under (suc p.count) fs
      → Small fs → Numbered p → length (after_nodes p ns).libraries < 2147483648 → Goes τ total p gs (squeezed w (packed p ns))
  unfolding packed squeezed after_nodes
  legal_from [] p w gs fs (the_end e) pending u s h b row es k =
      subst (Legal τ total p.count row gs es) (append-nil (run_shown w)) (legal_run τ total p.count row w gs [] es [] pending (λ r. all_shown_rule e))
  legal_from (n ∷ ns) p w gs fs (a_node a o s f) pending u small h b row es k =
      let c : (after_what p n.what).count ≡ p.count + count_of n.what = what_count p n.what in
      let l = fits_le total (p.count + count_of n.what) (open_after p.count fs n.what) ns f in
      let m = nodes_grow (after_what p n.what) ns in
      let g : Fits total (after_what p n.what).count (open_after p.count fs n.what) ns = subst (λ (i : ℕ). Fits total i (open_after p.count fs n.what) ns) (sym c) f in
      let v : Under (suc (after_what p n.what).count) (open_after p.count fs n.what) =
      subst (λ (i : ℕ). Under (suc i) (open_after p.count fs n.what)) (sym c) (under_after p.count fs n.what u) in
      one_legal p w gs fs n.what n.owner n.slot (packed (after_what p n.what) ns) (sort_of p n.what) a o s pending u small h (omega arith) (omega arith)
      (λ y hs t. legal_from ns (after_what p n.what) y hs (open_after p.count fs n.what) g t v (small_after total p.count fs n.what a small) (numbered_what p n.what h) b) row es k

-- what is written from nodes that fit is legal, in any rows
pub legal : (τ : Terms) (total : ℕ) (ns : List Node) → Fits total 0 [] ns → total < 2147483648 → length (after_nodes nothing ns).libraries < 2147483648
    → (row : ℕ) → Legal τ total 0 row [] [] (squeezed no_wait (packed nothing ns))
legal τ total ns f few b row = legal_from τ total few ns nothing no_wait [] [] f (none_wait refl refl refl) (omega arith) tt numbered_none b row [] knows_none
