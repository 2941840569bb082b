-- What an accepted list says is good: along the grammar's derivation each record says what its slot allows, and opens what its class or shape asks.
use Prim.Native.Nat.{ℕ, zero, suc, ◌+◌, ◌-◌, ◌≤◌, ◌<◌}
use Rattle.std.specs.Prelude.{◌≡◌, Bool, true, false, ◌&&◌, length, get_or, take, drop, eqb}
use Rattle.std.proofs.Math.Path.{refl, sym, ap, subst}
use Rattle.std.proofs.Common.{◌∙◌, eq-eqb}
use mathlib.Core.List.{List, [], ◌∷◌, ◌++◌, map}
use native.Mathlib.Omega.{arith}
use Rattle.std.proofs.Math.ListN.{replicate}
use Rattle.format.specs.Terms.{Terms}
use Rattle.format.specs.declared.PrimitiveCode.{PrimitiveCode}
use Rattle.format.specs.declared.SlotType.{SlotType}
use Rattle.format.specs.declared.SlotType.TheVariants as S
use Rattle.format.specs.declared.Row.{Row}
use Rattle.format.specs.Bytes.{pick}
use Rattle.format.specs.Rows.{blank, is_object, find_from, object_row, with_link, link_of, linked}
use Rattle.format.specs.Contents.{Prefixed, texts_of, Detail, primitive, text, object, system, class, objects, texts, primitives, Member, slot_for, Rec, header, class_by_id, system_class, library_class, string, typed_primitive, reference, null, nulls, many_nulls, end, library, value, enc, encs, the_system, the_library, Class}
use Rattle.format.specs.Grammar.{Characters, Name, Value, Values, ClassInfo, LibraryId, types_of, classed, class_of, product, Array, of_objects, of_strings, of_primitives, of_any, of_values, Object, system_class_rule, library_class_rule, class_by_id_rule, Body, hollow, filled, Slots, full, member_value, an_object_rule, a_string_rule, a_typed_primitive, a_reference_rule, a_null_rule, a_run, a_long_run, a_library_rule, Objects, the_end, one_object, one_string, one_array, one_library, Entry, a_class, another, a_library, known, Cur, cur, size, row_of, ref_of, refs_of, ids_of, among, Reading, takes_records, all_take}
use Rattle.format.specs.Says.{What, an_object, a_string, an_array, a_primitive, a_reference, a_null, a_primitive_array, an_object_array, a_string_array, a_value, Node, node, library_name, class_from, objects_in, order_of, spread, is_nulls, code_in, class_row_of, nodes_of, nodes_from, says}
use Rattle.laws.specs.Fields.{size_header, positive_bits}
use Rattle.laws.specs.Ids.{among_right, shown_more, objects_shown, id_there}
use Rattle.laws.specs.Links.{rows_are}
use Rattle.format.specs.Meant.{named, class_of_all}
use Rattle.saying.specs.Said.{said_by}
use Rattle.saying.specs.Good.{length_filled, GoodClass, slots_of, Place, place, shut, owner_of, slot_of, filled_one, opened_in, Deep, never_open, one_more_rule, Allowed, in_null, count_of, item_slots, open_after, Fits, a_node, Good}
use Rattle.saying.specs.Good as G
use Rattle.saying.specs.There.{rest_there, own_detail, system_class_from, library_class_from, kind_of, CountIs, row_of_lem, row_linked, GoodRec, no_items, LinkIs, in_slot, run, library_said, nodes_there, slot_same, slots_same, own_members}
use Rattle.saying.specs.Prefixes.{contents_of}
use Rattle.saying.specs.Codes.{owner_class, Codes, value_code_lem, class_codes, row_class, run_codes, array_codes}
use Rattle.saying.specs.Order.{item_there, items_after, order_more, order_end, nodes_more, Ordered, target_ordered}
use Rattle.saying.specs.Known.{class_at, no_entry, Knows, library_known, class_known, type_good, class_good, knows_same, knows_another, knows_class, knows_library}

-- ---- nulls

module _ (total count o : ℕ) (fs : List Place) (ns : List Node) where
  -- a run of nulls over slots that all take records
  pub run_fits : (k slot : ℕ) (ts : List SlotType) → k ≤ length ts → all_take (take k ts) ≡ true
      → Fits total count (shut (place o (slot + k) (drop k ts) ∷ fs)) ns → Fits total count (shut (place o slot ts ∷ fs)) (spread k o slot ++ ns)
  unfolding spread shut
  run_fits zero slot ts h p w =
      let z : slot + 0 ≡ slot = omega arith in
      subst (λ (n : ℕ). Fits total count (shut (place o n ts ∷ fs)) ns) z w
  run_fits (suc k) slot [] h p w = absurd (omega arith)
  run_fits (suc k) slot (t ∷ ts) h p w = go (takes_records t) refl p (run_fits k (slot + 1) ts (omega arith))
    where
      a : slot + suc k ≡ slot + 1 + k
      a = omega arith

      b : count ≡ count + 0
      b = omega arith

      go : (x : Bool) → takes_records t ≡ x → (x && all_take (take k ts)) ≡ true
          → (all_take (take k ts) ≡ true → Fits total count (shut (place o (slot + 1 + k) (drop k ts) ∷ fs)) ns
          → Fits total count (shut (place o (slot + 1) ts ∷ fs)) (spread k o (slot + 1) ++ ns))
          → Fits total count (place o slot (t ∷ ts) ∷ fs) (node a_null o slot ∷ (spread k o (slot + 1) ++ ns))
      go false q e again = absurd (let z : ◌≡◌ {A = ℕ} 0 1 = cc in omega arith)
      go true q e again =
          let f = again e (subst (λ (n : ℕ). Fits total count (shut (place o n (drop k ts) ∷ fs)) ns) a w) in
          a_node (in_null q) refl refl (subst (λ (n : ℕ). Fits total n (shut (place o (slot + 1) ts ∷ fs)) (spread k o (slot + 1) ++ ns)) b f)

-- ---- along the rows

-- the row of a record of its own kind
abbrev row_for : ℕ → Rec → ℕ → ℕ → ℕ → ℕ → ℕ → Row
row_for at r id own slot link count = row_of (kind_of r) at r id own slot link count

module _ (τ : Terms) (s : List ℕ) (raw : List Row) where
  -- the rows with their links
  abbrev table : List Row
  table = linked raw

  abbrev with_own : Row → Row
  with_own r = with_link r (link_of raw r)

  abbrev total : ℕ
  total = objects_in table

  -- a cursor of the reading: its rows and bytes stand there, its references have targets, and what is known is good
  pub record At (at row : ℕ) (es : List Entry) (rs : List Rec) (is : List Row) : Type 0 where
    pub rows_there : drop row table ≡ map with_own is
    pub bytes_there : drop at s ≡ encs rs
    pub targets : (i : ℕ) → among i (refs_of rs) ≡ true → Ordered total (order_of table (object_row i raw))
    pub knows : Knows τ s table row es

  -- what the rows from a cursor on say fits these open objects
  pub record Ok (fs : List Place) (at row : ℕ) (es : List Entry) (rs : List Rec) (is : List Row) : Type 0 where
    pub leads : At at row es rs is → Fits total (order_of table row) fs (nodes_from τ.book s table (drop row table))

  abbrev OkIn : List Place → Cur → Type 0
  OkIn fs (cur at row es rs is) = Ok fs at row es rs is

  module _ {at row : ℕ} {es : List Entry} {r : Rec} {rs : List Rec} {x : Row} {is : List Row} (w : At at row es (r ∷ rs) (x ∷ is)) where
    first_bytes : drop at s ≡ enc r ++ encs rs
    unfolding encs
    first_bytes = w.bytes_there

    after : {at₁ : ℕ} {es₁ : List Entry} → at₁ ≡ at + size r → Knows τ s table (suc row) es₁ → At at₁ (suc row) es₁ rs is
    after {at₁} e k =
        record {
          rows_there = items_after table (map with_own is) (with_own x) row w.rows_there;
          bytes_there = rest_there s (enc r) (encs rs) at at₁ e first_bytes;
          targets = λ i h. w.targets i (among_right i (ref_of r) (refs_of rs) h);
          knows = k;
        }

    nodes_are : nodes_from τ.book s table (drop row table) ≡ nodes_of τ.book s table (with_own x) ++ nodes_from τ.book s table (drop (suc row) table)
    nodes_are = nodes_more table (map with_own is) (with_own x) row w.rows_there τ.book s

    order_is : order_of table (suc row) ≡ order_of table row + pick (is_object x.kind) 1 0
    order_is = order_more table (map with_own is) (with_own x) row w.rows_there

  -- ---- one record

  -- the first slot of the open objects is this one of the object in this row
  pub record Stands (fs : List Place) (own slot : ℕ) : Type 0 where
    pub owner_is : order_of table own ≡ owner_of fs
    pub slot_is : slot ≡ slot_of fs

  -- what a record with this row says, and what it leaves open and known
  pub record Step (fs gs : List Place) (row : ℕ) (r : Rec) (x : Row) (es₁ : List Entry) : Type 0 where
    pub what : What
    pub of : ℕ → Class
    pub order : ℕ → ℕ
    pub link_is : LinkIs τ.book s table of order r (with_own x)
    pub said : said_by (library_name s table) of order r ≡ what ∷ []
    pub allowed : Allowed total fs what
    pub counts : count_of what ≡ pick (is_object (kind_of r)) 1 0
    pub opens : open_after (order_of table row) fs what ≡ gs
    pub knows : Knows τ s table (suc row) es₁

  module _ {at row : ℕ} {es es₁ : List Entry} {r : Rec} {rs : List Rec} {is : List Row} (id own slot link count : ℕ) where
    nodes_said : {fs gs : List Place} → Stands fs own slot → CountIs r count → GoodRec τ r → is_nulls (kind_of r) ≡ false
        → At at row es (r ∷ rs) (row_for at r id own slot link count ∷ is) → (t : Step fs gs row r (row_for at r id own slot link count) es₁)
        → nodes_of τ.book s table (with_own (row_for at r id own slot link count)) ≡ node t.what (owner_of fs) (slot_of fs) ∷ []
    nodes_said {fs} p c g n w t =
        let x = row_for at r id own slot link count in
        let y = with_own x in
        let f = row_linked (link_of raw x) (row_of_lem r at id own slot link count c) in
        nodes_there τ τ.book s table y t.of t.order (encs rs) at r (first_bytes w) f g t.link_is
        ∙ (ap (λ (b : Bool). pick b (run s table y) (map (in_slot s table y) (said_by (library_name s table) t.of t.order r))) n
        ∙ (ap (map (in_slot s table y)) t.said
        ∙ (ap (λ (o : ℕ). node t.what o slot ∷ []) p.owner_is ∙ ap (λ (m : ℕ). node t.what (owner_of fs) m ∷ []) p.slot_is)))

    record_fits : {at₁ : ℕ} {fs gs : List Place} → Stands fs own slot → CountIs r count → GoodRec τ r → is_nulls (kind_of r) ≡ false → at₁ ≡ at + size r
        → At at row es (r ∷ rs) (row_for at r id own slot link count ∷ is) → Step fs gs row r (row_for at r id own slot link count) es₁
        → Ok gs at₁ (suc row) es₁ rs is → Fits total (order_of table row) fs (nodes_from τ.book s table (drop row table))
    record_fits {fs = fs} {gs = gs} p c g n e w t k =
        let ns = nodes_from τ.book s table (drop (suc row) table) in
        let f : Fits total (order_of table (suc row)) gs ns = k.leads (after w e t.knows) in
        let m : order_of table (suc row) ≡ order_of table row + count_of t.what = order_is w ∙ ap (λ (j : ℕ). order_of table row + j) (sym t.counts) in
        let h = subst (λ (l : List Place). Fits total (order_of table (suc row)) l ns) (sym t.opens) f in
        let u = subst (λ (j : ℕ). Fits total j (open_after (order_of table row) fs t.what) ns) m h in
        subst (Fits total (order_of table row) fs) (sym (nodes_are w ∙ ap (λ (l : List Node). l ++ ns) (nodes_said p c g n w t)))
        (a_node t.allowed refl refl u)

    -- what follows may use where the record stands
    record_opens : {at₁ : ℕ} {it : Row} {fs gs : List Place} → it ≡ row_for at r id own slot link count → Stands fs own slot → CountIs r count → GoodRec τ r
        → is_nulls (kind_of r) ≡ false → at₁ ≡ at + size r
        → (At at row es (r ∷ rs) (row_for at r id own slot link count ∷ is) → Step fs gs row r (row_for at r id own slot link count) es₁)
        → (At at row es (r ∷ rs) (row_for at r id own slot link count ∷ is) → Ok gs at₁ (suc row) es₁ rs is) → Ok fs at row es (r ∷ rs) (it ∷ is)
    record_opens {fs = fs} q p c g n e t k =
        subst (λ (x : Row). Ok fs at row es (r ∷ rs) (x ∷ is)) (sym q) (record { leads = λ w. record_fits p c g n e w (t w) (k w) })

    record_ok : {at₁ : ℕ} {it : Row} {fs gs : List Place} → it ≡ row_for at r id own slot link count → Stands fs own slot → CountIs r count → GoodRec τ r
        → is_nulls (kind_of r) ≡ false → at₁ ≡ at + size r
        → (At at row es (r ∷ rs) (row_for at r id own slot link count ∷ is) → Step fs gs row r (row_for at r id own slot link count) es₁)
        → Ok gs at₁ (suc row) es₁ rs is → Ok fs at row es (r ∷ rs) (it ∷ is)
    record_ok q p c g n e t k = record_opens q p c g n e t (λ w. k)

  -- ---- what a record leaves known

  module _ {at row : ℕ} {es : List Entry} {r : Rec} {rs : List Rec} {x : Row} {is : List Row} (w : At at row es (r ∷ rs) (x ∷ is)) where
    known_same : eqb x.kind 12 ≡ false → Knows τ s table (suc row) es
    known_same n = knows_same τ s table (map with_own is) (with_own x) row w.rows_there n w.knows

    known_another : (i : ℕ) → eqb x.kind 12 ≡ false → Knows τ s table (suc row) (es ++ (another i ∷ []))
    known_another i n = knows_another τ s table (map with_own is) (with_own x) row w.rows_there i n w.knows

    known_class : (i : ℕ) (ts : List SlotType) (c : Class) → eqb x.kind 12 ≡ false → class_from τ.book s table (with_own x) ≡ c → GoodClass c
        → slots_of c.members ≡ ts → Knows τ s table (suc row) (es ++ (a_class i (suc row) ts ∷ []))
    known_class i ts c n e g h =
        let z : suc row - 1 ≡ row = omega arith in
        let a : class_at τ s table (suc row) ≡ c =
        ap (λ (j : ℕ). class_from τ.book s table (get_or table j blank)) z
        ∙ (ap (class_from τ.book s table) (item_there table (map with_own is) (with_own x) row w.rows_there blank) ∙ e) in
        knows_class τ s table (map with_own is) (with_own x) row w.rows_there i (suc row) ts n
        (record { good = subst GoodClass (sym a) g; slots = ap (λ (d : Class). slots_of d.members) a ∙ h }) w.knows

    -- an object of this class has the codes of its slots
    row_codes : (c : Class) (ts : List SlotType) → class_from τ.book s table (class_row_of table (with_own x)) ≡ c → slots_of c.members ≡ ts → Codes τ τ.book s table (suc row) 0 ts
    row_codes c ts e f = class_codes τ τ.book s table (suc row) c ts (row_class τ τ.book s table (map with_own is) (with_own x) row w.rows_there ∙ e) f

    -- the order of an object
    order_next : is_object x.kind ≡ true → suc (order_of table row) ≡ order_of table (suc row)
    order_next o =
        let e : order_of table (suc row) ≡ order_of table row + 1 = order_is w ∙ ap (λ (b : Bool). order_of table row + pick b 1 0) o in
        omega arith

    -- and what is none
    order_same : is_object x.kind ≡ false → order_of table (suc row) ≡ order_of table row
    order_same o =
        let e : order_of table (suc row) ≡ order_of table row + 0 = order_is w ∙ ap (λ (b : Bool). order_of table row + pick b 1 0) o in
        omega arith

  -- ---- records that open nothing

  -- a record whose link says nothing
  plain_step : {fs gs : List Place} {row : ℕ} {r : Rec} {x : Row} {es₁ : List Entry} (what : What) → LinkIs τ.book s table (class_at τ s table) (order_of table) r (with_own x)
      → said_by (library_name s table) (class_at τ s table) (order_of table) r ≡ what ∷ [] → count_of what ≡ pick (is_object (kind_of r)) 1 0
      → open_after (order_of table row) fs what ≡ gs → Allowed total fs what → Knows τ s table (suc row) es₁ → Step fs gs row r x es₁
  plain_step what l e c o a k =
      record { what = what; of = class_at τ s table; order = order_of table; link_is = l; said = e; allowed = a; counts = c; opens = o; knows = k }

  top_stands : Stands [] 0 0
  unfolding order_of objects_in
  top_stands = record { owner_is = refl; slot_is = refl }

  slot_stands : {own slot : ℕ} {ts : List SlotType} {fs : List Place} → Stands (place (order_of table own) slot ts ∷ fs) own slot
  slot_stands = record { owner_is = refl; slot_is = refl }

  module _ {at row own slot : ℕ} {es : List Entry} {rs : List Rec} {it : Row} {is : List Row} {fs : List Place} (p : Stands fs own slot) where
    string_ok : {i : ℕ} {x : Prefixed} → Allowed total fs (a_string x.text) → Name τ x → it ≡ row_of 6 at (string i x) i own slot 0 0
        → Ok (shut (filled_one fs)) (at + size (string i x)) (suc row) (es ++ (another i ∷ [])) rs is → Ok fs at row es (string i x ∷ rs) (it ∷ is)
    string_ok {i} {x} a n q k =
        record_ok i own slot 0 0 q p tt n refl refl
        (λ w. plain_step (a_string x.text) tt refl refl refl a (known_another w i refl)) k

    -- of the code that its owner's class has for its slot
    value_ok : {b : PrimitiveCode} {v : Prefixed} → Allowed total fs (a_value b v.text) → Value τ b v → code_in (owner_class τ τ.book s table own).members slot ≡ b
        → it ≡ row_of 32 at (value b v) 0 own slot 0 0
        → Ok (shut (filled_one fs)) (at + size (value b v)) (suc row) es rs is → Ok fs at row es (value b v ∷ rs) (it ∷ is)
    value_ok {b} {v} a g e q k =
        record_ok 0 own slot 0 0 q p tt g refl refl
        (λ w. plain_step (a_value b v.text) (value_code_lem τ τ.book s table (with_own (row_of 32 at (value b v) 0 own slot 0 0)) b e) refl refl refl a (known_same w refl)) k

    typed_primitive_ok : {b : PrimitiveCode} {v : Prefixed} → Allowed total fs (a_primitive b v.text) → Value τ b v → it ≡ row_of 8 at (typed_primitive b v) 0 own slot 0 0
        → Ok (shut (filled_one fs)) (at + size (typed_primitive b v)) (suc row) es rs is → Ok fs at row es (typed_primitive b v ∷ rs) (it ∷ is)
    typed_primitive_ok {b} {v} a g q k =
        record_ok 0 own slot 0 0 q p tt g refl refl
        (λ w. plain_step (a_primitive b v.text) tt refl refl refl a (known_same w refl)) k

    reference_ok : {i : ℕ} → ((k : ℕ) → Ordered total k → Allowed total fs (a_reference k)) → it ≡ row_of 9 at (reference i) i own slot 0 0
        → Ok (shut (filled_one fs)) (at + size (reference i)) (suc row) es rs is → Ok fs at row es (reference i ∷ rs) (it ∷ is)
    unfolding link_of
    reference_ok {i} a q k =
        record_ok i own slot 0 0 q p tt tt refl refl
        (λ w. record {
          what = a_reference (order_of table (object_row i raw));
          of = class_at τ s table;
          order = λ j. order_of table (object_row j raw);
          link_is = refl;
          said = refl;
          allowed = a (order_of table (object_row i raw)) (w.targets i (rw (eq-eqb i i refl)));
          counts = refl;
          opens = refl;
          knows = known_same w refl;
        }) k

  -- ---- records that say nothing of their own, and nulls

  -- what is no object and says these nodes
  fits_same : {at row : ℕ} {es : List Entry} {r : Rec} {rs : List Rec} {x : Row} {is : List Row} {fs : List Place} (ns : List Node)
      → At at row es (r ∷ rs) (x ∷ is) → is_object x.kind ≡ false → nodes_of τ.book s table (with_own x) ≡ ns
      → Fits total (order_of table (suc row)) fs (ns ++ nodes_from τ.book s table (drop (suc row) table))
      → Fits total (order_of table row) fs (nodes_from τ.book s table (drop row table))
  fits_same {row = row} {fs = fs} ns w o e f =
      subst (Fits total (order_of table row) fs) (sym (nodes_are w ∙ ap (λ (l : List Node). l ++ nodes_from τ.book s table (drop (suc row) table)) e))
      (subst (λ (n : ℕ). Fits total n fs (ns ++ nodes_from τ.book s table (drop (suc row) table))) (order_same w o) f)

  module _ {at row : ℕ} {es : List Entry} {rs : List Rec} {it : Row} {is : List Row} where
    library_ok : {i : ℕ} {n : Prefixed} {fs : List Place} → known i es ≡ false → Name τ n → it ≡ row_of 12 at (library i n) i 0 0 0 0
        → Ok fs (at + size (library i n)) (suc row) (es ++ (a_library i ∷ [])) rs is → Ok fs at row es (library i n ∷ rs) (it ∷ is)
    library_ok {i} {n} {fs} f g q k = subst (λ (x : Row). Ok fs at row es (library i n ∷ rs) (x ∷ is)) (sym q) (record { leads = leads })
      where
        x : Row
        x = row_of 12 at (library i n) i 0 0 0 0

        leads : At at row es (library i n ∷ rs) (x ∷ is) → Fits total (order_of table row) fs (nodes_from τ.book s table (drop row table))
        leads w =
            let y = with_own x in
            let h = row_linked (link_of raw x) (row_of_lem (library i n) at i 0 0 0 0 tt) in
            let e = nodes_there τ τ.book s table y (class_at τ s table) (order_of table) (encs rs) at (library i n) (first_bytes w) h g tt in
            let m = subst Characters (sym (library_said τ s table y at (encs rs) i n g (first_bytes w) refl)) g.characters in
            let u = knows_library τ s table (map with_own is) y row w.rows_there i refl refl f w.knows m in
            fits_same [] w refl e (k.leads (after w refl u))

    -- a null, or a run of them, in slots that all take records
    nulls_ok : {at₁ own slot : ℕ} {us : List SlotType} (ts : List SlotType) (fs : List Place) (r : Rec) (n : ℕ) → is_nulls (kind_of r) ≡ true
        → is_object (kind_of r) ≡ false → eqb (kind_of r) 12 ≡ false → CountIs r n → GoodRec τ r
        → LinkIs τ.book s table (class_at τ s table) (order_of table) r (with_own (row_for at r 0 own slot 0 n))
        → at₁ ≡ at + size r → n ≤ length ts → all_take (take n ts) ≡ true → us ≡ drop n ts → it ≡ row_for at r 0 own slot 0 n
        → Ok (shut (place (order_of table own) (slot + n) us ∷ fs)) at₁ (suc row) es rs is
        → Ok (shut (place (order_of table own) slot ts ∷ fs)) at row es (r ∷ rs) (it ∷ is)
    nulls_ok {own = own} {slot = slot} ts fs r n a b l c g z p h j u q k =
        subst (λ (x : Row). Ok (shut (place o slot ts ∷ fs)) at row es (r ∷ rs) (x ∷ is)) (sym q) (record { leads = leads })
      where
        o : ℕ
        o = order_of table own

        x : Row
        x = row_for at r 0 own slot 0 n

        rest : List Node
        rest = nodes_from τ.book s table (drop (suc row) table)

        leads : At at row es (r ∷ rs) (x ∷ is) → Fits total (order_of table row) (shut (place o slot ts ∷ fs)) (nodes_from τ.book s table (drop row table))
        leads w =
            let y = with_own x in
            let v = row_linked (link_of raw x) (row_of_lem r at 0 own slot 0 n c) in
            let e = nodes_there τ τ.book s table y (class_at τ s table) (order_of table) (encs rs) at r (first_bytes w) v g z in
            let d : nodes_of τ.book s table y ≡ spread n o slot =
            e ∙ ap (λ (b : Bool). pick b (run s table y) (map (in_slot s table y) (said_by (library_name s table) (class_at τ s table) (order_of table) r))) a in
            let f = k.leads (after w p (known_same w l)) in
            let f₁ = subst (λ (us : List SlotType). Fits total (order_of table (suc row)) (shut (place o (slot + n) us ∷ fs)) rest) u f in
            fits_same (spread n o slot) w b d (run_fits total (order_of table (suc row)) o fs rest n slot ts h j f₁)

    end_ok : it ≡ row_of 11 at end 0 0 0 0 0 → is ≡ [] → Ok [] at row es (end ∷ rs) (it ∷ is)
    end_ok q z = subst (λ (x : Row). Ok [] at row es (end ∷ rs) (x ∷ is)) (sym q) (record { leads = leads })
      where
        x : Row
        x = row_of 11 at end 0 0 0 0 0

        leads : At at row es (end ∷ rs) (x ∷ is) → Fits total (order_of table row) [] (nodes_from τ.book s table (drop row table))
        leads w =
            let h = row_linked (link_of raw x) (row_of_lem end at 0 0 0 0 0 tt) in
            let e = nodes_there τ τ.book s table (with_own x) (class_at τ s table) (order_of table) (encs rs) at end (first_bytes w) h tt tt in
            let d : drop (suc row) table ≡ [] = items_after table (map with_own is) (with_own x) row w.rows_there ∙ ap (map with_own) z in
            let f = order_end table (suc row) d τ.book s in
            fits_same [] w refl e (subst (Fits total (order_of table (suc row)) []) (sym f.1) (G.the_end f.0))

  -- ---- objects of classes

  -- an object may stand here
  abbrev Takes : List Place → Type 0
  Takes fs = (c : Class) → GoodClass c → Deep (slots_of c.members) fs → Allowed total fs (an_object c)

  opened : (fs : List Place) {a b : ℕ} {ts us : List SlotType} → a ≡ b → ts ≡ us → opened_in a ts fs ≡ opened_in b us fs
  opened fs {b = b} {ts = ts} e f = ap (λ (n : ℕ). opened_in n ts fs) e ∙ ap (λ (l : List SlotType). opened_in b l fs) f

  class_step : {at row : ℕ} {es es₁ : List Entry} {r : Rec} {rs : List Rec} {x : Row} {is : List Row} {fs : List Place} {ts : List SlotType} (c : Class)
      → At at row es (r ∷ rs) (x ∷ is) → is_object x.kind ≡ true → is_object (kind_of r) ≡ true → Takes fs → Deep ts fs → GoodClass c
      → slots_of c.members ≡ ts → LinkIs τ.book s table (λ k. c) (order_of table) r (with_own x)
      → said_by (library_name s table) (λ k. c) (order_of table) r ≡ an_object c ∷ []
      → Knows τ s table (suc row) es₁ → Step fs (opened_in (order_of table (suc row)) ts fs) row r x es₁
  class_step {fs = fs} c w o p a d g e l h k =
      record {
        what = an_object c;
        of = λ k. c;
        order = order_of table;
        link_is = l;
        said = h;
        allowed = a c g (subst (λ (l : List SlotType). Deep l fs) (sym e) d);
        counts = ap (λ (b : Bool). pick b 1 0) (sym p);
        opens = opened fs (order_next w o) e;
        knows = k;
      }

  module _ {at row own slot : ℕ} {es : List Entry} {rs : List Rec} {it : Row} {is : List Row} {fs : List Place} (p : Stands fs own slot) (a : Takes fs) where
    system_class_ok : {i : ℕ} {n : Prefixed} {ms : List (Member Prefixed ℕ)} → ClassInfo τ es n ms → it ≡ row_of 4 at (system_class i n ms) i own slot 0 (length ms)
        → Deep (types_of ms) fs
        → (Codes τ τ.book s table (suc row) 0 (types_of ms)
        → Ok (opened_in (order_of table (suc row)) (types_of ms) fs) (at + size (system_class i n ms)) (suc row) (es ++ (a_class i (suc row) (types_of ms) ∷ [])) rs is)
        → Ok fs at row es (system_class i n ms ∷ rs) (it ∷ is)
    system_class_ok {i} {n} {ms} g q d k =
        record_opens i own slot 0 (length ms) q p refl (g.named, own_members τ g.members) refl refl step
        (λ w. k (row_codes w c (types_of ms) (from w) (slots_same (library_name s table) ms)))
      where
        x : Row
        x = row_of 4 at (system_class i n ms) i own slot 0 (length ms)

        c : Class
        c = class_of_all (library_name s table) n.text the_system ms

        from : At at row es (system_class i n ms ∷ rs) (x ∷ is) → class_from τ.book s table (with_own x) ≡ c
        from w =
            let h = row_linked (link_of raw x) (row_of_lem (system_class i n ms) at i own slot 0 (length ms) refl) in
            system_class_from τ τ.book s table (with_own x) at (encs rs) i n ms g.named (own_members τ g.members) (first_bytes w) h

        step : At at row es (system_class i n ms ∷ rs) (x ∷ is)
            → Step fs (opened_in (order_of table (suc row)) (types_of ms) fs) row (system_class i n ms) x (es ++ (a_class i (suc row) (types_of ms) ∷ []))
        step w =
            let u = class_good τ s table es w.knows.good n the_system ms g G.of_system in
            let v = slots_same (library_name s table) ms in
            class_step c w refl refl a d u v tt refl (known_class w i (types_of ms) c refl (from w) u v)

    library_class_ok : {i l : ℕ} {n : Prefixed} {ms : List (Member Prefixed ℕ)} → ClassInfo τ es n ms → LibraryId l es
        → it ≡ row_of 5 at (library_class i n ms l) i own slot 0 (length ms) → Deep (types_of ms) fs
        → (Codes τ τ.book s table (suc row) 0 (types_of ms)
        → Ok (opened_in (order_of table (suc row)) (types_of ms) fs) (at + size (library_class i n ms l)) (suc row) (es ++ (a_class i (suc row) (types_of ms) ∷ [])) rs is)
        → Ok fs at row es (library_class i n ms l ∷ rs) (it ∷ is)
    library_class_ok {i} {l} {n} {ms} g y q d k =
        record_opens i own slot 0 (length ms) q p refl (g.named, own_members τ g.members, positive_bits l y.sign) refl refl step
        (λ w. k (row_codes w c (types_of ms) (from w) (slots_same (library_name s table) ms)))
      where
        x : Row
        x = row_of 5 at (library_class i n ms l) i own slot 0 (length ms)

        c : Class
        c = class_of_all (library_name s table) n.text (the_library (library_name s table l)) ms

        from : At at row es (library_class i n ms l ∷ rs) (x ∷ is) → class_from τ.book s table (with_own x) ≡ c
        from w =
            let h = row_linked (link_of raw x) (row_of_lem (library_class i n ms l) at i own slot 0 (length ms) refl) in
            library_class_from τ τ.book s table (with_own x) at (encs rs) i n ms g.named (own_members τ g.members) l (positive_bits l y.sign) (first_bytes w) h

        step : At at row es (library_class i n ms l ∷ rs) (x ∷ is)
            → Step fs (opened_in (order_of table (suc row)) (types_of ms) fs) row (library_class i n ms l) x (es ++ (a_class i (suc row) (types_of ms) ∷ []))
        step w =
            let f = G.of_library_rule (library_known τ s table l es w.knows.good y.there) in
            let u = class_good τ s table es w.knows.good n (the_library (library_name s table l)) ms g f in
            let v = slots_same (library_name s table) ms in
            class_step c w refl refl a d u v tt refl (known_class w i (types_of ms) c refl (from w) u v)

    class_by_id_ok : {i j r : ℕ} {ts : List SlotType} → class_of j es ≡ classed r ts → it ≡ row_of 1 at (class_by_id i j) i own slot r (length ts) → Deep ts fs
        → (Codes τ τ.book s table (suc row) 0 ts → Ok (opened_in (order_of table (suc row)) ts fs) (at + size (class_by_id i j)) (suc row) (es ++ (another i ∷ [])) rs is)
        → Ok fs at row es (class_by_id i j ∷ rs) (it ∷ is)
    unfolding link_of
    class_by_id_ok {i} {j} {r} {ts} f q d k =
        record_opens i own slot r (length ts) q p tt tt refl refl
        (λ w.
        let g = class_known τ s table j r ts es w.knows.good f in
        class_step (class_at τ s table r) w refl refl a d g.good g.slots refl refl (known_another w i refl))
        (λ w. k (row_codes w (class_at τ s table r) ts refl (class_known τ s table j r ts es w.knows.good f).slots))

  -- ---- arrays

  items_are : (name : ℕ → List ℕ) (ns : List ℕ) (d : Detail Prefixed ℕ) → takes_records (slot_for d) ≡ true
      → item_slots ns (named name d) ≡ replicate (product ns) (slot_for d)
  items_are name ns (primitive c) e = absurd (let z : ◌≡◌ {A = ℕ} 0 1 = cc in omega arith)
  items_are name ns text e = refl
  items_are name ns object e = refl
  items_are name ns (system n) e = refl
  items_are name ns (class n l) e = refl
  items_are name ns objects e = refl
  items_are name ns texts e = refl
  items_are name ns (primitives c) e = refl

  module _ {at row : ℕ} {es : List Entry} {rs : List Rec} {it : Row} {is : List Row} where
    array_ok : {kind i n : ℕ} {r : Rec} {ts : List SlotType} → Array τ es r kind i n ts → it ≡ row_of kind at r i 0 0 0 n
        → Ok (opened_in (order_of table (suc row)) ts []) (at + size r) (suc row) (es ++ (another i ∷ [])) rs is → Ok [] at row es (r ∷ rs) (it ∷ is)
    unfolding shut
    array_ok {i = i} {n = n} (of_objects h) q k =
        record_ok i 0 0 0 n q top_stands refl tt refl refl
        (λ w. plain_step (an_object_array n) tt refl refl (opened [] {ts = replicate n S.Object} (order_next w refl) refl) (G.top_objects h) (known_another w i refl)) k
    array_ok {i = i} {n = n} (of_strings h) q k =
        record_ok i 0 0 0 n q top_stands refl tt refl refl
        (λ w. plain_step (a_string_array n) tt refl refl (opened [] {ts = replicate n S.Text} (order_next w refl) refl) (G.top_strings h) (known_another w i refl)) k
    array_ok {i = i} {n = n} (of_primitives {b = b} {vs = vs} h g) q k =
        record_ok i 0 0 0 n q top_stands refl g refl refl
        (λ w. plain_step (a_primitive_array n b (texts_of vs)) tt refl refl refl (G.top_primitives h (contents_of τ g)) (known_another w i refl)) k
    array_ok {i = i} {n = n} (of_any {type = type} {ns = ns} {d = d} g e h f z) q k =
        let name = library_name s table in
        let u : item_slots ns (named name d) ≡ replicate n (slot_for d) = items_are name ns d f ∙ ap (λ (m : ℕ). replicate m (slot_for d)) (sym e) in
        record_ok i 0 0 0 n q top_stands e (g, own_detail τ es d h, no_items τ d (product ns) f) refl refl
        (λ w. plain_step (an_array type ns (named name d) []) tt refl refl (opened [] (order_next w refl) (u ∙ sym z))
        (G.top_array g (type_good τ s table es w.knows.good d h) (ap takes_records (slot_same name d) ∙ f)) (known_another w i refl)) k
    array_ok {i = i} {n = n} (of_values {type = type} {ns = ns} {b = b} {vs = vs} g e h) q k =
        let v = subst (λ (m : ℕ). Values τ b m vs) e h in
        record_ok i 0 0 0 n q top_stands e (g, tt, v) refl refl
        (λ w. plain_step (an_array type ns (primitive b) (texts_of vs)) tt refl refl refl (G.top_values g (contents_of τ v)) (known_another w i refl)) k

  -- ---- along a derivation

  -- there is room for the slots of an object
  body_deep : {room row : ℕ} {ts : List SlotType} {c c₁ : Cur} (fs : List Place) → Body τ room row ts c c₁ → room + length fs ≡ 64 → Deep ts fs
  body_deep fs hollow h = never_open
  body_deep fs (filled d) h = one_more_rule {fs = fs} (omega arith)

  null_end : (at : ℕ) → at + 1 ≡ at + size null
  unfolding enc
  null_end at = refl

  nulls_end : (at n : ℕ) → at + 2 ≡ at + size (nulls n)
  unfolding enc
  nulls_end at n = refl

  mutual
    unfolding shut

    object_ok : {room own slot : ℕ} {c c₁ : Cur} (fs : List Place) → Object τ room own slot c c₁ → Stands fs own slot → Takes fs → room + length fs ≡ 64
        → OkIn (shut (filled_one fs)) c₁ → OkIn fs c
    object_ok fs (system_class_rule a b q d) p t h k = system_class_ok p t b q (body_deep fs d h) (λ g. body_ok fs d h g k)
    object_ok fs (library_class_rule a b l q d) p t h k = library_class_ok p t b l q (body_deep fs d h) (λ g. body_ok fs d h g k)
    object_ok fs (class_by_id_rule a b f q d) p t h k = class_by_id_ok p t f q (body_deep fs d h) (λ g. body_ok fs d h g k)

    body_ok : {room row : ℕ} {ts : List SlotType} {c c₁ : Cur} (fs : List Place) → Body τ room row ts c c₁ → room + length fs ≡ 64
        → Codes τ τ.book s table row 0 ts → OkIn (shut (filled_one fs)) c₁ → OkIn (opened_in (order_of table row) ts fs) c
    body_ok fs hollow h g k = k
    body_ok fs (filled d) h g k =
        let l : length (filled_one fs) ≡ length fs = length_filled fs in
        slots_ok (filled_one fs) d (omega arith) g k

    slots_ok : {room own slot : ℕ} {ts : List SlotType} {c c₁ : Cur} (fs : List Place) → Slots τ room own slot ts c c₁ → room + length fs ≡ 63
        → Codes τ τ.book s table own slot ts → OkIn (shut fs) c₁ → OkIn (shut (place (order_of table own) slot ts ∷ fs)) c
    slots_ok fs full h g k = k
    slots_ok fs (member_value a q d) h g k = value_ok slot_stands (G.in_value a.content) a g.0 q (slots_ok fs d h g.1 k)
    slots_ok fs (an_object_rule {own = own} {slot = slot} {t = t} {ts = ts} o a d) h g k =
        object_ok (place (order_of table own) slot (t ∷ ts) ∷ fs) a slot_stands (λ c g e. G.in_object o g e) (omega arith) (slots_ok fs d h g.1 k)
    slots_ok fs (a_string_rule t a b q d) h g k = string_ok slot_stands (G.in_string t b.characters) b q (slots_ok fs d h g.1 k)
    slots_ok fs (a_typed_primitive t a q d) h g k = typed_primitive_ok slot_stands (G.in_primitive t a.content) a q (slots_ok fs d h g.1 k)
    slots_ok fs (a_reference_rule t a q d) h g k = reference_ok slot_stands (λ k o. G.in_reference t o.some o.inside) q (slots_ok fs d h g.1 k)
    slots_ok fs (a_null_rule {t = t} {ts = ts} e q d) h g k =
        nulls_ok (t ∷ ts) fs null 1 refl refl refl refl tt tt (null_end _) (omega arith) (rw e) refl q (slots_ok fs d h g.1 k)
    slots_ok fs (a_run {own = own} {slot = slot} {k = n} {t = t} {ts = ts} e a b f u q d) h g k =
        nulls_ok (t ∷ ts) fs (nulls n) n refl refl refl refl tt tt (nulls_end _ n) b f u q (slots_ok fs d h (run_codes τ τ.book s table own slot n (t ∷ ts) u g) k)
    slots_ok fs (a_long_run {own = own} {slot = slot} {k = n} {t = t} {ts = ts} e a b f u q d) h g k =
        nulls_ok (t ∷ ts) fs (many_nulls n) n refl refl refl refl tt tt refl b f u q (slots_ok fs d h (run_codes τ τ.book s table own slot n (t ∷ ts) u g) k)
    slots_ok fs (a_library_rule t a b n q d) h g k = library_ok b n q (slots_ok fs d h g k)

  objects_ok : {c : Cur} → Objects τ c → OkIn [] c
  unfolding shut
  objects_ok (the_end q) = end_ok q refl
  objects_ok (one_object a d) = object_ok [] a top_stands (λ c g e. G.top_object g) refl (objects_ok d)
  objects_ok (one_string a b q d) = string_ok top_stands (G.top_string b.characters) b q (objects_ok d)
  objects_ok (one_array a b q d f) = array_ok b q (body_ok [] d refl (array_codes τ τ.book s table _ b) (objects_ok f))
  objects_ok (one_library a b n q d) = library_ok b n q (objects_ok d)

-- ---- the whole stream

module _ (τ : Terms) (s : List ℕ) (root h : ℕ) (rs : List Rec) (is : List Row) where
  abbrev first : Row
  first = row_of 0 0 (header root h) root 0 0 0 0

  abbrev raw : List Row
  raw = first ∷ is

  -- after the header
  begins : s ≡ enc (header root h) ++ encs rs → ((i : ℕ) → among i (refs_of rs) ≡ true → eqb (object_row i raw) 0 ≡ false) → At τ s raw 17 1 [] rs is
  unfolding linked find_from
  begins e t =
      record {
        rows_there = refl;
        bytes_there = rest_there s (enc (header root h)) (encs rs) 0 17 (omega (arith, size_header root h)) e;
        targets = λ i m. target_ordered raw i (t i m);
        knows = record { good = no_entry; fresh = λ i n. refl };
      }

  first_says : (f : List Node → Type 0) → f (nodes_from τ.book s (linked raw) (drop 1 (linked raw))) → f (nodes_from τ.book s (linked raw) (linked raw))
  unfolding linked nodes_from nodes_of
  first_says f w = w

  none_before : order_of (linked raw) 1 ≡ 0
  unfolding linked order_of objects_in
  none_before = refl

  root_is : (says τ.book s (linked raw)).root ≡ order_of (linked raw) (object_row root raw)
  unfolding says linked link_of
  root_is = refl

  good_linked : Ordered (objects_in (linked raw)) (order_of (linked raw) (object_row root raw)) → At τ s raw 17 1 [] rs is → Objects τ (cur 17 1 [] rs is)
      → Good (says τ.book s (linked raw))
  unfolding says
  good_linked o w d =
      record {
        total = objects_in (linked raw);
        rooted = subst (λ (k : ℕ). 0 < k) (sym root_is) o.some;
        root_in = subst (λ (k : ℕ). k ≤ objects_in (linked raw)) (sym root_is) o.inside;
        nodes_fit = subst (λ (k : ℕ). Fits (objects_in (linked raw)) k [] (nodes_from τ.book s (linked raw) (linked raw))) none_before
            (first_says (Fits (objects_in (linked raw)) (order_of (linked raw) 1) []) ((objects_ok τ s raw d).leads w));
      }

-- what an accepted list says is good
pub said_good : (τ : Terms) (s : List ℕ) (rows : List Row) → Reading τ s rows → Good (says τ.book s rows)
said_good τ s rows r =
    let all = raw τ s r.root r.header_id r.rs r.is in
    let it = first τ s r.root r.header_id r.rs r.is in
    let w = shown_more it (header r.root r.header_id) 0 0 r.root 0 0 0 0 refl refl refl (objects_shown τ r.objects_are) in
    let there : (i : ℕ) → among i (ids_of r.rs) ≡ true → eqb (object_row i all) 0 ≡ false =
    id_there (header r.root r.header_id ∷ r.rs) all w in
    subst (λ (x : List Row). Good (says τ.book s x)) (sym (rows_are τ r))
    (good_linked τ s r.root r.header_id r.rs r.is (target_ordered all r.root (there r.root r.rooted))
    (begins τ s r.root r.header_id r.rs r.is r.bytes_are (λ i m. there i (r.targets i m))) r.objects_are)
