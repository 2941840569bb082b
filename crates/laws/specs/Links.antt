-- The links of a reading are those that the machine's pass makes: the objects of a reading have numbers of their own, so the first row with a number is
-- the only one.
use Prim.Native.Nat.{ℕ, zero, suc, ◌+◌, ◌<◌}
use Rattle.std.proofs.Math.Path.{◌≡◌, refl, ap}
use Rattle.std.proofs.Common.{sym, ap₂, subst, ◌∙◌}
use Rattle.std.specs.Prelude.{Bool, ◌&&◌, ◌||◌, length, get_or}
use Rattle.std.proofs.Math.Bool.{true, false}
use mathlib.Core.List.{List, [], ◌∷◌, ◌++◌, map}
use native.Mathlib.Omega.{arith}
use Rattle.std.proofs.Math.Nat.{zero-add}
use Rattle.std.proofs.Math.Dec.{eqb}
use borrow.Author.Tests.{eqb-true, eqb-false, eq-eqb, ne_eqb}
use Rattle.format.specs.Terms.{Terms}
use Rattle.format.specs.declared.SlotType.{SlotType}
use Rattle.format.specs.declared.Row.{Row}
use Rattle.format.specs.Bytes.{pick}
use Rattle.format.specs.Rows.{is_object, find_from, object_row, with_link, link_of, linked}
use Rattle.format.specs.Contents.{Rec, header, end}
use Rattle.format.specs.Grammar.{Entry, a_class, another, a_library, used, types_of, Cur, cur, row_of, Object, system_class_rule, library_class_rule, class_by_id_rule, Body, hollow, filled, Slots, full, member_value, an_object_rule, a_string_rule, a_typed_primitive, a_reference_rule, a_null_rule, a_run, a_long_run, a_library_rule, Array, of_objects, of_strings, of_primitives, of_any, of_values, Objects, the_end, one_object, one_string, one_array, one_library, id_of, ids_of, refs_of, among, Holds, Link, to_root, to_object, stays, Links, no_links, one_link, Reading}
use Rattle.laws.specs.Tests.{apart, differ, either, or_right}
use Rattle.laws.specs.Ids.{row_ids, row_refs, Shown, shown_more, array_shown, objects_shown, id_there, among_right}

-- ---- what is used

-- an entry before others
first_not : (b : Bool) (u v : Bool) → (u ≡ false → v ≡ false) → pick b true u ≡ false → pick b true v ≡ false
first_not true u v f e = e
first_not false u v f e = f e

rest_not : (b : Bool) (u v : Bool) → (u ≡ false → v ≡ false) → pick b true u ≡ false → v ≡ false
rest_not true u v f e = differ e
rest_not false u v f e = f e

used_before : (i : ℕ) (es fs : List Entry) → used i (es ++ fs) ≡ false → used i es ≡ false
used_before i [] fs e = refl
used_before i (a_class j r ts ∷ es) fs e = first_not (eqb j i) (used i (es ++ fs)) (used i es) (used_before i es fs) e
used_before i (another j ∷ es) fs e = first_not (eqb j i) (used i (es ++ fs)) (used i es) (used_before i es fs) e
used_before i (a_library j ∷ es) fs e = used_before i es fs e

used_after : (i : ℕ) (es fs : List Entry) → used i (es ++ fs) ≡ false → used i fs ≡ false
used_after i [] fs e = e
used_after i (a_class j r ts ∷ es) fs e = rest_not (eqb j i) (used i (es ++ fs)) (used i fs) (used_after i es fs) e
used_after i (another j ∷ es) fs e = rest_not (eqb j i) (used i (es ++ fs)) (used i fs) (used_after i es fs) e
used_after i (a_library j ∷ es) fs e = used_after i es fs e

-- ---- rows beside their records

-- a row has its record's ObjectId; it has a link before linking only where its kind is 1; it is not the header's
record Beside (r : Rec) (it : Row) : Type 0 where
  ids : id_of r ≡ pick (is_object it.kind) (it.id ∷ []) []
  kept : pick (eqb it.kind 1) it.link 0 ≡ it.link

data Besides : List Rec → List Row → Type 0 where
  no_rows : Besides [] []
  one_row : {r : Rec} {it : Row} {rs : List Rec} {is : List Row} → Beside r it → Besides rs is → Besides (r ∷ rs) (it ∷ is)

-- each number once
abbrev Once : List ℕ → Type 0
Once [] = Unit {0}
Once (i ∷ is) = (among i is ≡ false) × Once is

-- none is the header's
abbrev Later : List Row → Type 0
Later [] = Unit {0}
Later (it ∷ is) = (eqb it.kind 0 ≡ false) × Later is

-- the rows that follow where these entries are known
record Ready (es : List Entry) (rs : List Rec) (is : List Row) : Type 0 where
  beside : Besides rs is
  unused : (i : ℕ) → among i (row_ids is) ≡ true → used i es ≡ false
  once : Once (row_ids is)
  later : Later is

-- a row that is no object's
row_other : {es : List Entry} {rs : List Rec} {is : List Row} (it : Row) (r : Rec) (kind at id own slot link count : ℕ) → it ≡ row_of kind at r id own slot link count
    → is_object kind ≡ false → id_of r ≡ [] → pick (eqb kind 1) link 0 ≡ link → eqb kind 0 ≡ false → Ready es rs is → Ready es (r ∷ rs) (it ∷ is)
row_other {is = is} it r kind at id own slot link count e o i k z w =
    let f : row_ids (it ∷ is) ≡ row_ids is = rw (e, o) in
    record {
      beside = one_row {r = r} {it = it} (record { ids = rw (e, o) i; kept = rw e k }) w.beside;
      unused = λ j m. w.unused j (sym (ap (among j) f) ∙ m);
      once = subst Once (sym f) w.once;
      later = (rw e z, w.later);
    }

-- an object's row: its number is free, and used from then on
row_own : (x : Entry) {es : List Entry} {rs : List Rec} {is : List Row} (it : Row) (r : Rec) (kind at id own slot link count : ℕ) → it ≡ row_of kind at r id own slot link count
    → is_object kind ≡ true → id_of r ≡ id ∷ [] → pick (eqb kind 1) link 0 ≡ link → eqb kind 0 ≡ false → used id es ≡ false → used id (x ∷ []) ≡ true
    → Ready (es ++ (x ∷ [])) rs is → Ready es (r ∷ rs) (it ∷ is)
row_own x {es} {is = is} it r kind at id own slot link count e o i k z free taken w =
    let f : row_ids (it ∷ is) ≡ id ∷ row_ids is = rw (e, o) in
    record {
      beside = one_row {r = r} {it = it} (record { ids = rw (e, o) i; kept = rw e k }) w.beside;
      unused = λ j m. by j (eqb j id) refl (sym (ap (among j) f) ∙ m);
      once = subst Once (sym f) (none (among id (row_ids is)) refl, w.once);
      later = (rw e z, w.later);
    }
  where
    by : (j : ℕ) (b : Bool) → eqb j id ≡ b → (b || among j (row_ids is)) ≡ true → used j es ≡ false
    by j true q m = ap (λ (n : ℕ). used n es) (eqb-true j id q) ∙ free
    by j false q m = used_before j es (x ∷ []) (w.unused j m)

    none : (b : Bool) → among id (row_ids is) ≡ b → b ≡ false
    none true q = sym taken ∙ used_after id es (x ∷ []) (w.unused id q)
    none false q = refl

-- an entry that is no object's
aside : (i : ℕ) {es : List Entry} {rs : List Rec} {is : List Row} → Ready (es ++ (a_library i ∷ [])) rs is → Ready es rs is
aside i {es} w =
    record { beside = w.beside; unused = λ j m. used_before j es (a_library i ∷ []) (w.unused j m); once = w.once; later = w.later }

-- the entry of an object makes its number used
itself : (i : ℕ) → pick (eqb i i) true false ≡ true
itself i = rw (eq-eqb i i refl)

abbrev ReadyIn : Cur → Type 0
ReadyIn (cur at row es rs is) = Ready es rs is

array_kind : (τ : Terms) {es : List Entry} {k id n : ℕ} {r : Rec} {ts : List SlotType} → Array τ es r k id n ts
    → (is_object k ≡ true) × ((id_of r ≡ id ∷ []) × ((◌≡◌ {A = ℕ} (pick (eqb k 1) 0 0) 0) × (eqb k 0 ≡ false)))
array_kind τ (of_objects a) = (refl, (refl, (refl, refl)))
array_kind τ (of_strings a) = (refl, (refl, (refl, refl)))
array_kind τ (of_primitives a b) = (refl, (refl, (refl, refl)))
array_kind τ (of_any a b c d e) = (refl, (refl, (refl, refl)))
array_kind τ (of_values a b c) = (refl, (refl, (refl, refl)))

mutual
  object_ready : (τ : Terms) {room own slot : ℕ} {c c₁ : Cur} → Object τ room own slot c c₁ → ReadyIn c₁ → ReadyIn c
  object_ready τ (system_class_rule {row = row} {i = i} {ms = ms} a b q d) k = row_own (a_class i (suc row) (types_of ms)) _ _ 4 _ _ _ _ _ _ q refl refl refl refl a.fresh (itself i) (body_ready τ d k)
  object_ready τ (library_class_rule {row = row} {i = i} {ms = ms} a b l q d) k = row_own (a_class i (suc row) (types_of ms)) _ _ 5 _ _ _ _ _ _ q refl refl refl refl a.fresh (itself i) (body_ready τ d k)
  object_ready τ (class_by_id_rule {i = i} a b f q d) k = row_own (another i) _ _ 1 _ _ _ _ _ _ q refl refl refl refl a.fresh (itself i) (body_ready τ d k)

  body_ready : (τ : Terms) {room row : ℕ} {ts : List SlotType} {c c₁ : Cur} → Body τ room row ts c c₁ → ReadyIn c₁ → ReadyIn c
  body_ready τ hollow k = k
  body_ready τ (filled d) k = slots_ready τ d k

  slots_ready : (τ : Terms) {room own slot : ℕ} {ts : List SlotType} {c c₁ : Cur} → Slots τ room own slot ts c c₁ → ReadyIn c₁ → ReadyIn c
  slots_ready τ full k = k
  slots_ready τ (member_value a q d) k = row_other _ _ 32 _ _ _ _ _ _ q refl refl refl refl (slots_ready τ d k)
  slots_ready τ (an_object_rule t a d) k = object_ready τ a (slots_ready τ d k)
  slots_ready τ (a_string_rule {i = i} t a b q d) k = row_own (another i) _ _ 6 _ _ _ _ _ _ q refl refl refl refl a.fresh (itself i) (slots_ready τ d k)
  slots_ready τ (a_typed_primitive t a q d) k = row_other _ _ 8 _ _ _ _ _ _ q refl refl refl refl (slots_ready τ d k)
  slots_ready τ (a_reference_rule t a q d) k = row_other _ _ 9 _ _ _ _ _ _ q refl refl refl refl (slots_ready τ d k)
  slots_ready τ (a_null_rule t q d) k = row_other _ _ 10 _ _ _ _ _ _ q refl refl refl refl (slots_ready τ d k)
  slots_ready τ (a_run t a b e u q d) k = row_other _ _ 13 _ _ _ _ _ _ q refl refl refl refl (slots_ready τ d k)
  slots_ready τ (a_long_run t a b e u q d) k = row_other _ _ 14 _ _ _ _ _ _ q refl refl refl refl (slots_ready τ d k)
  slots_ready τ (a_library_rule {i = i} t a b n q d) k = row_other _ _ 12 _ _ _ _ _ _ q refl refl refl refl (aside i (slots_ready τ d k))

objects_ready : (τ : Terms) {c : Cur} → Objects τ c → ReadyIn c
objects_ready τ (the_end q) =
    row_other _ _ 11 _ _ _ _ _ _ q refl refl refl refl (record { beside = no_rows; unused = λ i m. apart m; once = tt; later = tt })
objects_ready τ (one_object a d) = object_ready τ a (objects_ready τ d)
objects_ready τ (one_string {i = i} a b q d) = row_own (another i) _ _ 6 _ _ _ _ _ _ q refl refl refl refl a.fresh (itself i) (objects_ready τ d)
objects_ready τ (one_array {kind = kind} {i = i} a b q d f) =
    let w = array_kind τ b in
    row_own (another i) _ _ kind _ _ _ _ _ _ q w.0 w.1.0 w.1.1.0 w.1.1.1 a.fresh (itself i) (body_ready τ d (objects_ready τ f))
objects_ready τ (one_library {i = i} a b n q d) = row_other _ _ 12 _ _ _ _ _ _ q refl refl refl refl (aside i (objects_ready τ d))

-- ---- the row of a number

module _ (i : ℕ) where
  abbrev named : Row → Bool
  named r = is_object r.kind && eqb r.id i

  -- a row whose record has the number
  names : (r : Rec) (it : Row) → Beside r it → id_of r ≡ i ∷ [] → (is_object it.kind ≡ true) × (it.id ≡ i)
  names r it b e = go (is_object it.kind) (sym b.ids ∙ e)
    where
      go : (o : Bool) → pick o (it.id ∷ []) [] ≡ i ∷ [] → (o ≡ true) × (it.id ≡ i)
      go true e = (refl, cc)
      go false e = absurd (let z : 0 ≡ 1 = ap length e in omega arith)

  passes : (r : Rec) (it : Row) → Beside r it → id_of r ≡ i ∷ [] → named it ≡ true
  passes r it b e = let w = names r it b e in rw (w.0, eq-eqb it.id i w.1)

  -- it is among the numbers
  there : (rs : List Rec) (is : List Row) → Besides rs is → (j : ℕ) → j < length rs → id_of (get_or rs j end) ≡ i ∷ [] → among i (row_ids is) ≡ true
  there [] is w j h e = absurd (omega arith)
  there (r ∷ rs) (it ∷ is) (one_row b w) zero h e = let v = names r it b e in rw (v.0, eq-eqb i it.id (sym v.1))
  there (r ∷ rs) (it ∷ is) (one_row b w) (suc j) h e = among_right i (pick (is_object it.kind) (it.id ∷ []) []) (row_ids is) (there rs is w j (omega arith) e)
  there (r ∷ rs) [] w j h e = elim w [ ]

  -- the record that has it has the first row with it
  found_from : (k : ℕ) (rs : List Rec) (is : List Row) → Besides rs is → Once (row_ids is) → (j : ℕ) → j < length rs → id_of (get_or rs j end) ≡ i ∷ []
      → find_from named k is ≡ k + suc j
  unfolding find_from
  found_from k [] is w o j h e = absurd (omega arith)
  found_from k (r ∷ rs) (it ∷ is) (one_row b w) o zero h e = rw (passes r it b e)
  found_from k (r ∷ rs) (it ∷ is) (one_row b w) o (suc j) h e =
      go (is_object it.kind) (eqb it.id i) refl o (λ o. found_from (k + 1) rs is w o j (omega arith) e)
    where
      go : (p q : Bool) → eqb it.id i ≡ q → Once (pick p (it.id ∷ []) [] ++ row_ids is)
          → (Once (row_ids is) → find_from named (k + 1) is ≡ k + 1 + suc j)
          → pick (p && q) (k + 1) (find_from named (k + 1) is) ≡ k + suc (suc j)
      go true true x o onward =
          let y : among it.id (row_ids is) ≡ true = ap (λ (n : ℕ). among n (row_ids is)) (eqb-true it.id i x) ∙ there rs is w j (omega arith) e in
          differ (sym y ∙ o.0)
      go true false x o onward = let z = onward o.1 in omega arith
      go false q x o onward = let z = onward o in omega arith
  found_from k (r ∷ rs) [] w o j h e = elim w [ ]

  -- and a row that is found has such a record
  held_from : (k : ℕ) (rs : List Rec) (is : List Row) → Besides rs is → eqb (find_from named k is) 0 ≡ false
      → (j : ℕ) × (Holds rs i j × (find_from named k is ≡ k + suc j))
  unfolding find_from
  held_from k [] [] no_rows e = differ e
  held_from k (r ∷ rs) (it ∷ is) (one_row b w) e = go (is_object it.kind) (eqb it.id i) refl b.ids e (held_from (k + 1) rs is w)
    where
      after : (j : ℕ) × (Holds rs i j × (find_from named (k + 1) is ≡ k + 1 + suc j)) → (j : ℕ) × (Holds (r ∷ rs) i j × (find_from named (k + 1) is ≡ k + suc j))
      after x =
          let l = x.1.0.inside in
          let z = x.1.1 in
          (suc x.0, (record { inside = omega arith; id = x.1.0.id }, omega arith))

      go : (p q : Bool) → eqb it.id i ≡ q → id_of r ≡ pick p (it.id ∷ []) [] → eqb (pick (p && q) (k + 1) (find_from named (k + 1) is)) 0 ≡ false
          → (eqb (find_from named (k + 1) is) 0 ≡ false → (j : ℕ) × (Holds rs i j × (find_from named (k + 1) is ≡ k + 1 + suc j)))
          → (j : ℕ) × (Holds (r ∷ rs) i j × (pick (p && q) (k + 1) (find_from named (k + 1) is) ≡ k + suc j))
      go true true x y e onward = (0, (record { inside = omega arith; id = y ∙ ap (λ (n : ℕ). n ∷ []) (eqb-true it.id i x) }, refl))
      go true false x y e onward = after (onward e)
      go false q x y e onward = after (onward e)
  held_from k [] (it ∷ is) x4 e = elim x4 [ ]
  held_from k (r ∷ rs) [] x4 e = elim x4 [ ]

-- ---- the links, made and said

module _ (all : List Rec) (raw : List Row) (besides : Besides all raw) (once : Once (row_ids raw)) where
  -- a record that has a number has the row that is looked up
  row_held : (i j : ℕ) → Holds all i j → object_row i raw ≡ suc j
  unfolding object_row
  row_held i j h = found_from i 0 all raw besides once j h.inside h.id ∙ zero-add (suc j)

  held_row : (i : ℕ) → eqb (object_row i raw) 0 ≡ false → (j : ℕ) × (Holds all i j × (object_row i raw ≡ suc j))
  unfolding object_row
  held_row i e = let x = held_from i 0 all raw besides e in (x.0, (x.1.0, x.1.1 ∙ zero-add (suc x.0)))

  root_link : (it : Row) → it.kind ≡ 0 → link_of raw it ≡ object_row it.id raw
  unfolding link_of
  root_link it e = rw e

  reference_link : (it : Row) → it.kind ≡ 9 → link_of raw it ≡ object_row it.id raw
  unfolding link_of
  reference_link it e = rw e

  other_link : (it : Row) → (it.kind ≡ 0 → ⊥) → (it.kind ≡ 9 → ⊥) → link_of raw it ≡ pick (eqb it.kind 1) it.link 0
  unfolding link_of
  other_link it a b = rw (ne_eqb it.kind 0 a, ne_eqb it.kind 9 b)

  -- one row
  link_made : (r : Rec) (it row : Row) → Beside r it → Link all it row → row ≡ with_link it (link_of raw it)
  link_made r it row b (to_root {j = j} e h) = ap (with_link it) (sym (root_link it e ∙ row_held it.id j h))
  link_made r it row b (to_object {j = j} e h) = ap (with_link it) (sym (reference_link it e ∙ row_held it.id j h))
  link_made r it row b (stays x y) = ap (with_link it) (sym (other_link it x y ∙ b.kept))

  links_made : (rs : List Rec) (is rows : List Row) → Besides rs is → Links all is rows → rows ≡ map (λ (it : Row). with_link it (link_of raw it)) is
  links_made rs is rows w no_links = refl
  links_made (r ∷ rs) (it ∷ is) (row ∷ rows) (one_row b w) (one_link l d) = ap₂ (λ (x : Row) (xs : List Row). x ∷ xs) (link_made r it row b l) (links_made rs is rows w d)
  links_made [] (_ ∷ _) (_ ∷ _) w (one_link {it = it} {row = row} {is = is} {rows = rows} l d) = elim w [ ]

  -- the other way: what is linked is there
  link_said : (r : Rec) (it : Row) → Beside r it → (it.kind ≡ 0 → eqb (object_row it.id raw) 0 ≡ false) → (it.kind ≡ 9 → eqb (object_row it.id raw) 0 ≡ false)
      → Link all it (with_link it (link_of raw it))
  link_said r it b root target = either (eqb it.kind 0) at_root (λ x. either (eqb it.kind 9) at_reference (λ y. at_other x y))
    where
      at_root : eqb it.kind 0 ≡ true → Link all it (with_link it (link_of raw it))
      at_root x =
          let e = eqb-true it.kind 0 x in
          let h = held_row it.id (root e) in
          subst (λ (l : ℕ). Link all it (with_link it l)) (sym (root_link it e ∙ h.1.1)) (to_root e h.1.0)

      at_reference : eqb it.kind 9 ≡ true → Link all it (with_link it (link_of raw it))
      at_reference x =
          let e = eqb-true it.kind 9 x in
          let h = held_row it.id (target e) in
          subst (λ (l : ℕ). Link all it (with_link it l)) (sym (reference_link it e ∙ h.1.1)) (to_object e h.1.0)

      at_other : eqb it.kind 0 ≡ false → eqb it.kind 9 ≡ false → Link all it (with_link it (link_of raw it))
      at_other x y =
          let a = eqb-false it.kind 0 x in
          let c = eqb-false it.kind 9 y in
          subst (λ (l : ℕ). Link all it (with_link it l)) (sym (other_link it a c ∙ b.kept)) (stays a c)

  links_said : (rs : List Rec) (is : List Row) → Besides rs is → Later is → ((i : ℕ) → among i (row_refs is) ≡ true → eqb (object_row i raw) 0 ≡ false)
      → Links all is (map (λ (it : Row). with_link it (link_of raw it)) is)
  links_said [] [] no_rows later target = no_links
  links_said (r ∷ rs) (it ∷ is) (one_row b w) later target =
      one_link
      (link_said r it b (λ e. differ (sym (eq-eqb it.kind 0 e) ∙ later.0)) (λ e. target it.id (rw (eq-eqb it.kind 9 e, eq-eqb it.id it.id refl))))
      (links_said rs is w later.1 (λ i m. target i (among_right i (pick (eqb it.kind 9) (it.id ∷ []) []) (row_refs is) m)))
  links_said [] (it ∷ is) x6 later target = elim x6 [ ]
  links_said (r ∷ rs) [] x5 later target = elim x5 [ ]

-- ---- the rows of a reading

module _ (τ : Terms) (root h : ℕ) (rs : List Rec) (is : List Row) (d : Objects τ (cur 17 1 [] rs is)) where
  abbrev first : Row
  first = row_of 0 0 (header root h) root 0 0 0 0

  ready : Ready [] rs is
  ready = objects_ready τ d

  all_beside : Besides (header root h ∷ rs) (first ∷ is)
  all_beside = one_row (record { ids = refl; kept = refl }) ready.beside

  -- the links that the grammar asks for are those of the machine's pass
  pub links_linked : (rows : List Row) → Links (header root h ∷ rs) (first ∷ is) rows → rows ≡ linked (first ∷ is)
  unfolding linked
  links_linked rows l = links_made (header root h ∷ rs) (first ∷ is) all_beside ready.once (header root h ∷ rs) (first ∷ is) rows all_beside l

  -- and where the root and the targets are there, the pass makes them
  pub linked_links : among root (ids_of rs) ≡ true → ((i : ℕ) → among i (refs_of rs) ≡ true → among i (ids_of rs) ≡ true)
      → Links (header root h ∷ rs) (first ∷ is) (linked (first ∷ is))
  unfolding linked
  linked_links r t =
      let w = objects_shown τ d in
      let shown : Shown (header root h ∷ rs) (first ∷ is) = shown_more first (header root h) 0 0 root 0 0 0 0 refl refl refl w in
      let there : (i : ℕ) → among i (ids_of rs) ≡ true → eqb (object_row i (first ∷ is)) 0 ≡ false = id_there (header root h ∷ rs) (first ∷ is) shown in
      one_link
      (link_said (header root h ∷ rs) (first ∷ is) all_beside ready.once (header root h) first (record { ids = refl; kept = refl }) (λ e. there root r)
      (λ e. absurd (let z : ◌≡◌ {A = ℕ} 0 9 = e in omega arith)))
      (links_said (header root h ∷ rs) (first ∷ is) all_beside ready.once rs is ready.beside ready.later
      (λ i m. there i (t i (ap (among i) w.refs ∙ m))))

-- the rows of a reading are those that the machine's pass makes of its rows without links
pub rows_are : (τ : Terms) {s : List ℕ} {rows : List Row} (w : Reading τ s rows) → rows ≡ linked (row_of 0 0 (header w.root w.header_id) w.root 0 0 0 0 ∷ w.is)
rows_are τ {rows = rows} w = links_linked τ w.root w.header_id w.rs w.is w.objects_are rows w.links_are
