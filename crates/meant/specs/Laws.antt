-- What the stream of a reading says, by its rows, is what its records mean: along the grammar's derivation each row says what its record means, and
-- the walk over the records stands in the object and the slot that the row has.
use Prim.Native.Nat.{ℕ, suc, ◌+◌, ◌-◌}
use Rattle.std.proofs.Math.Path.{◌≡◌, refl, sym, ap, subst}
use Rattle.std.proofs.Common.{◌∙◌, arith, length-drop}
use Rattle.std.specs.Prelude.{Bool, true, false, drop, replicate, eqb}
use mathlib.Core.List.{List, [], ◌∷◌, ◌++◌, map}
use Rattle.std.proofs.Math.ListN.{length}
use Rattle.std.proofs.lemmas.List.{length-replicate}
use Rattle.format.specs.Terms.{Terms}
use Rattle.format.specs.declared.PrimitiveCode.{PrimitiveCode}
use Rattle.format.specs.declared.SlotType.{SlotType}
use Rattle.format.specs.declared.SlotType.TheVariants as S
use Rattle.format.specs.declared.Row.{Row}
use Rattle.format.specs.Bytes.{pick}
use Rattle.format.specs.Rows.{is_object, find_from, object_row, with_link, link_of, linked}
use Rattle.format.specs.Contents.{Prefixed, Detail, Member, Rec, header, class_by_id, system_class, library_class, string, array, typed_primitive, reference, null, nulls, many_nulls, end, library, primitive_array, object_array, string_array, value, enc, encs, the_system, the_library, Class}
use Rattle.format.specs.Grammar.{Name, Value, Values, product, ClassId, ClassInfo, LibraryId, types_of, classed, class_of, used, Array, of_objects, of_strings, of_primitives, of_any, of_values, Object, system_class_rule, library_class_rule, class_by_id_rule, Body, hollow, filled, Slots, full, member_value, an_object_rule, a_string_rule, a_typed_primitive, a_reference_rule, a_null_rule, a_run, a_long_run, a_library_rule, Objects, the_end, one_object, one_string, one_array, one_library, Entry, a_class, another, a_library, known, Cur, cur, size, row_of, Reading}
use Rattle.format.specs.Says.{an_object, an_array, Node, Model, text_from, library_name, class_from, class_row_of, code_in, objects_in, order_of, nodes_of, nodes_from, says}
use Rattle.format.specs.Meant.{class_of_all, library_of, own_class, order_after, name_by, class_by, order_by, Sense, opens, item_slots, sense_of, Open, opened, owner_in, slot_in, fill, close, nodes_by, count_by, open_by, walk, meant, meant_by}
use Rattle.laws.specs.Fields.{size_header, positive_bits}
use Rattle.laws.specs.Links.{rows_are}
use Rattle.laws.specs.Ids.{objects_shown}
use Rattle.saying.specs.There.{rest_there, own_detail, own_members, system_class_from, library_class_from, kind_of, CountIs, row_of_lem, row_linked, GoodRec, no_items, LinkIs, library_said, slots_same}
use Rattle.saying.specs.Order.{items_after, order_more, order_end, nodes_more}
use Rattle.saying.specs.Row.{row_said}
use Rattle.saying.specs.Good.{slots_of}
use Rattle.saying.specs.Codes.{owner_class, Codes, value_code_lem, class_codes, row_class, run_codes, array_codes}
use Rattle.saying.specs.Limits.{length_slots}
use Rattle.meant.specs.Orders.{order_found}
use Rattle.meant.specs.Agree.{Agrees, agrees_same, agrees_another, agrees_class, agrees_library, detail_same, class_same, length_typed}

-- ---- one record

-- the objects that are counted are those of the rows
module _ (name : ℕ → List ℕ) (of : ℕ → Class) (order : ℕ → ℕ) where
  sense_counts : (c : ℕ) (r : Rec) → c + pick (is_object (kind_of r)) 1 0 ≡ count_by (sense_of name of order r) c
  sense_counts c (header r h) = omega arith
  sense_counts c (class_by_id i k) = omega arith
  sense_counts c (system_class i x ms) = omega arith
  sense_counts c (library_class i x ms l) = omega arith
  sense_counts c (string i x) = omega arith
  sense_counts c (array i t ns d vs) = omega arith
  sense_counts c (typed_primitive b v) = omega arith
  sense_counts c (reference i) = omega arith
  sense_counts c null = omega arith
  sense_counts c (nulls k) = omega arith
  sense_counts c (many_nulls k) = omega arith
  sense_counts c end = omega arith
  sense_counts c (library i x) = omega arith
  sense_counts c (primitive_array i k b vs) = omega arith
  sense_counts c (object_array i k) = omega arith
  sense_counts c (string_array i k) = omega arith
  sense_counts c (value b v) = omega arith

-- ---- along the rows

abbrev row_for : ℕ → Rec → ℕ → ℕ → ℕ → ℕ → ℕ → Row
row_for at r id own slot link count = row_of (kind_of r) at r id own slot link count

module _ (τ : Terms) (s : List ℕ) (raw : List Row) (name : ℕ → List ℕ) (of : ℕ → Class) (order : ℕ → ℕ) (ordered : (i : ℕ) → order_of (linked raw) (object_row i raw) ≡ order i) where
  -- the rows with their links
  abbrev table : List Row
  table = linked raw

  abbrev with_own : Row → Row
  with_own r = with_link r (link_of raw r)

  abbrev Knows : ℕ → List Entry → List Rec → Type 0
  Knows row es rs = Agrees τ s table name of row es rs

  -- a cursor of the reading: its rows and bytes stand there, and what is known agrees
  record At (at row : ℕ) (es : List Entry) (rs : List Rec) (is : List Row) : Type 0 where
    pub rows_there : drop row table ≡ map with_own is
    pub bytes_there : drop at s ≡ encs rs
    pub agrees : Knows row es rs

  -- the rows from a cursor on say what its records say, with these objects open
  record Ok (os : List Open) (at row : ℕ) (es : List Entry) (rs : List Rec) (is : List Row) : Type 0 where
    pub leads : At at row es rs is → nodes_from τ.book s table (drop row table) ≡ walk name of order (order_of table row) os rs

  abbrev OkIn : List Open → Cur → Type 0
  OkIn os (cur at row es rs is) = Ok os at row es rs is

  abbrev sense : Rec → Sense
  sense r = sense_of name of order r

  -- a record with this row says what its row says, and leaves this open and this known
  record Step (os gs : List Open) (row : ℕ) (r : Rec) (x : Row) (es₁ : List Entry) (rs : List Rec) : Type 0 where
    pub link_is : LinkIs τ.book s table of order r (with_own x)
    pub said : nodes_by (sense_of (library_name s table) of order r) (order_of table x.owner) x.slot ≡ nodes_by (sense r) (owner_in os) (slot_in os)
    pub left_open : open_by (sense r) (order_of table row) os ≡ gs
    pub agrees : Knows (suc row) es₁ rs

  module _ {at row : ℕ} {es es₁ : List Entry} {r : Rec} {rs : List Rec} {is : List Row} (id own slot link count : ℕ) where
    -- what follows may use where the record stands
    record_opens : {at₁ : ℕ} {it : Row} {os gs : List Open} → it ≡ row_for at r id own slot link count → CountIs r count → GoodRec τ r → at₁ ≡ at + size r
        → (At at row es (r ∷ rs) (row_for at r id own slot link count ∷ is) → Step os gs row r (row_for at r id own slot link count) es₁ rs)
        → (At at row es (r ∷ rs) (row_for at r id own slot link count ∷ is) → Ok gs at₁ (suc row) es₁ rs is) → Ok os at row es (r ∷ rs) (it ∷ is)
    unfolding walk encs
    record_opens {at₁} {os = os} {gs = gs} q c g e t k = subst (λ (x : Row). Ok os at row es (r ∷ rs) (x ∷ is)) (sym q) (record { leads = leads })
      where
        x : Row
        x = row_for at r id own slot link count

        leads : At at row es (r ∷ rs) (x ∷ is) → nodes_from τ.book s table (drop row table) ≡ walk name of order (order_of table row) os (r ∷ rs)
        leads w =
            let y = with_own x in
            let n = order_of table row in
            let u = t w in
            let f = row_linked (link_of raw x) (row_of_lem r at id own slot link count c) in
            let a = nodes_more table (map with_own is) y row w.rows_there τ.book s in
            let b : nodes_of τ.book s table y ≡ nodes_by (sense r) (owner_in os) (slot_in os) =
            row_said τ τ.book s table y of order (encs rs) at r w.bytes_there f g u.link_is ∙ u.said in
            let v : At at₁ (suc row) es₁ rs is =
            record {
              rows_there = items_after table (map with_own is) y row w.rows_there;
              bytes_there = rest_there s (enc r) (encs rs) at at₁ e w.bytes_there;
              agrees = u.agrees;
            } in
            let m : order_of table (suc row) ≡ count_by (sense r) n = order_more table (map with_own is) y row w.rows_there ∙ sense_counts name of order n r in
            let o = ap (λ (l : List Open). walk name of order (count_by (sense r) n) l rs) (sym u.left_open) in
            let d = (k w).leads v ∙ (ap (λ (j : ℕ). walk name of order j gs rs) m ∙ o) in
            a ∙ (ap (λ (l : List Node). l ++ nodes_from τ.book s table (drop (suc row) table)) b
            ∙ ap (λ (l : List Node). nodes_by (sense r) (owner_in os) (slot_in os) ++ l) d)

    record_ok : {at₁ : ℕ} {it : Row} {os gs : List Open} → it ≡ row_for at r id own slot link count → CountIs r count → GoodRec τ r → at₁ ≡ at + size r
        → (At at row es (r ∷ rs) (row_for at r id own slot link count ∷ is) → Step os gs row r (row_for at r id own slot link count) es₁ rs)
        → Ok gs at₁ (suc row) es₁ rs is → Ok os at row es (r ∷ rs) (it ∷ is)
    record_ok q c g e t k = record_opens q c g e t (λ w. k)

  -- ---- what a record leaves known

  module _ {at row : ℕ} {es : List Entry} {r : Rec} {rs : List Rec} {x : Row} {is : List Row} (w : At at row es (r ∷ rs) (x ∷ is)) where
    known_same : eqb x.kind 12 ≡ false → library_of r ≡ [] → own_class name r ≡ [] → Knows (suc row) es rs
    known_same = agrees_same τ s table name of (map with_own is) (with_own x) row w.rows_there w.agrees

    known_another : (i : ℕ) → eqb x.kind 12 ≡ false → library_of r ≡ [] → own_class name r ≡ [] → Knows (suc row) (es ++ (another i ∷ [])) rs
    known_another = agrees_another τ s table name of (map with_own is) (with_own x) row w.rows_there w.agrees

    known_class : (i : ℕ) (ts : List SlotType) (c : Class) → eqb x.kind 12 ≡ false → library_of r ≡ [] → own_class name r ≡ (i, c) ∷ [] → used i es ≡ false
        → class_from τ.book s table (with_own x) ≡ c → slots_of c.members ≡ ts → Knows (suc row) (es ++ (a_class i (suc row) ts ∷ [])) rs
    known_class = agrees_class τ s table name of (map with_own is) (with_own x) row w.rows_there w.agrees

    known_library_holds : (i : ℕ) (n : List ℕ) → x.kind ≡ 12 → x.id ≡ i → known i es ≡ false → library_of r ≡ (i, n) ∷ [] → own_class name r ≡ []
        → text_from s (x.offset + 5) ≡ n → Knows (suc row) (es ++ (a_library i ∷ [])) rs
    known_library_holds = agrees_library τ s table name of (map with_own is) (with_own x) row w.rows_there w.agrees

  -- ---- records in a slot, or at top level

  record Stands (os : List Open) (own slot : ℕ) : Type 0 where
    pub owner_is : order_of table own ≡ owner_in os
    pub slot_is : slot ≡ slot_in os

  top_stands : Stands [] 0 0
  unfolding order_of objects_in
  top_stands = record { owner_is = refl; slot_is = refl }

  slot_stands : {own slot k : ℕ} {os : List Open} → Stands (opened (order_of table own) slot k ∷ os) own slot
  slot_stands = record { owner_is = refl; slot_is = refl }

  step : {os gs : List Open} {row : ℕ} {r : Rec} {x : Row} {es₁ : List Entry} {rs : List Rec} → Stands os x.owner x.slot → LinkIs τ.book s table of order r (with_own x)
      → sense_of (library_name s table) of order r ≡ sense r → open_by (sense r) (order_of table row) os ≡ gs → Knows (suc row) es₁ rs → Step os gs row r x es₁ rs
  step {os = os} {r = r} {x = x} p l e o k =
      record {
        link_is = l;
        said = ap (λ (z : Sense). nodes_by z (order_of table x.owner) x.slot) e
            ∙ (ap (λ (m : ℕ). nodes_by (sense r) m x.slot) p.owner_is ∙ ap (λ (m : ℕ). nodes_by (sense r) (owner_in os) m) p.slot_is);
        left_open = o;
        agrees = k;
      }

  module _ {at row own slot : ℕ} {es : List Entry} {rs : List Rec} {it : Row} {is : List Row} {os : List Open} (p : Stands os own slot) where
    string_ok : {i : ℕ} {x : Prefixed} → Name τ x → it ≡ row_of 6 at (string i x) i own slot 0 0
        → Ok (close (fill 1 os)) (at + size (string i x)) (suc row) (es ++ (another i ∷ [])) rs is → Ok os at row es (string i x ∷ rs) (it ∷ is)
    string_ok {i} {x} n q k = record_ok i own slot 0 0 q tt n refl (λ w. step p tt refl refl (known_another w i refl refl refl)) k

    -- of the code that its owner's class has for its slot
    value_ok : {b : PrimitiveCode} {v : Prefixed} → Value τ b v → code_in (owner_class τ τ.book s table own).members slot ≡ b → it ≡ row_of 32 at (value b v) 0 own slot 0 0
        → Ok (close (fill 1 os)) (at + size (value b v)) (suc row) es rs is → Ok os at row es (value b v ∷ rs) (it ∷ is)
    value_ok {b} {v} g e q k =
        record_ok 0 own slot 0 0 q tt g refl
        (λ w. step p (value_code_lem τ τ.book s table (with_own (row_of 32 at (value b v) 0 own slot 0 0)) b e) refl refl (known_same w refl refl refl)) k

    typed_primitive_ok : {b : PrimitiveCode} {v : Prefixed} → Value τ b v → it ≡ row_of 8 at (typed_primitive b v) 0 own slot 0 0
        → Ok (close (fill 1 os)) (at + size (typed_primitive b v)) (suc row) es rs is → Ok os at row es (typed_primitive b v ∷ rs) (it ∷ is)
    typed_primitive_ok g q k = record_ok 0 own slot 0 0 q tt g refl (λ w. step p tt refl refl (known_same w refl refl refl)) k

    reference_ok : {i : ℕ} → it ≡ row_of 9 at (reference i) i own slot 0 0
        → Ok (close (fill 1 os)) (at + size (reference i)) (suc row) es rs is → Ok os at row es (reference i ∷ rs) (it ∷ is)
    unfolding link_of
    reference_ok {i} q k = record_ok i own slot 0 0 q tt tt refl (λ w. step p (ordered i) refl refl (known_same w refl refl refl)) k

    null_ok : it ≡ row_of 10 at null 0 own slot 0 1 → Ok (close (fill 1 os)) (at + 1) (suc row) es rs is → Ok os at row es (null ∷ rs) (it ∷ is)
    unfolding enc
    null_ok q k = record_ok 0 own slot 0 1 q refl tt refl (λ w. step p tt refl refl (known_same w refl refl refl)) k

    run_ok : {n : ℕ} → it ≡ row_of 13 at (nulls n) 0 own slot 0 n → Ok (close (fill n os)) (at + 2) (suc row) es rs is → Ok os at row es (nulls n ∷ rs) (it ∷ is)
    unfolding enc
    run_ok {n} q k = record_ok 0 own slot 0 n q refl tt refl (λ w. step p tt refl refl (known_same w refl refl refl)) k

    long_run_ok : {n : ℕ} → it ≡ row_of 14 at (many_nulls n) 0 own slot 0 n → Ok (close (fill n os)) (at + size (many_nulls n)) (suc row) es rs is
        → Ok os at row es (many_nulls n ∷ rs) (it ∷ is)
    long_run_ok {n} q k = record_ok 0 own slot 0 n q refl tt refl (λ w. step p tt refl refl (known_same w refl refl refl)) k

  -- ---- records in no slot

  module _ {at row : ℕ} {es : List Entry} {rs : List Rec} {it : Row} {is : List Row} {os : List Open} where
    library_ok : {i : ℕ} {n : Prefixed} → known i es ≡ false → Name τ n → it ≡ row_of 12 at (library i n) i 0 0 0 0
        → Ok os (at + size (library i n)) (suc row) (es ++ (a_library i ∷ [])) rs is → Ok os at row es (library i n ∷ rs) (it ∷ is)
    unfolding encs
    library_ok {i} {n} f g q k =
        record_ok i 0 0 0 0 q tt g refl
        (λ w.
        let x = with_own (row_of 12 at (library i n) i 0 0 0 0) in
        let t = library_said τ s table x at (encs rs) i n g w.bytes_there refl in
        record { link_is = tt; said = refl; left_open = refl; agrees = known_library_holds w i n.text refl refl f refl refl t }) k

  end_ok : {at row : ℕ} {es : List Entry} {it : Row} → it ≡ row_of 11 at end 0 0 0 0 0 → Ok [] at row es (end ∷ []) (it ∷ [])
  unfolding walk
  end_ok {at} {row} {es} q =
      record_ok 0 0 0 0 0 q tt tt refl (λ w. step top_stands tt refl refl (known_same w refl refl refl))
      (record { leads = λ w. (order_end table (suc row) w.rows_there τ.book s).1 })

  -- ---- objects of classes

  open_more : (a b : ℕ) {k m : ℕ} (os : List Open) → a ≡ b → k ≡ m → close (opened a 0 k ∷ os) ≡ close (opened b 0 m ∷ os)
  open_more a b {k} os e f = ap (λ (n : ℕ). close (opened n 0 k ∷ os)) e ∙ ap (λ (n : ℕ). close (opened b 0 n ∷ os)) f

  order_next : {at row : ℕ} {es : List Entry} {r : Rec} {rs : List Rec} {x : Row} {is : List Row} → At at row es (r ∷ rs) (x ∷ is) → is_object x.kind ≡ true
      → suc (order_of table row) ≡ order_of table (suc row)
  order_next {row = row} {x = x} {is = is} w o =
      let e : order_of table (suc row) ≡ order_of table row + 1 =
      order_more table (map with_own is) (with_own x) row w.rows_there ∙ ap (λ (b : Bool). order_of table row + pick b 1 0) o in
      omega arith

  -- an object of this class has the codes of its slots
  row_codes : {at row : ℕ} {es : List Entry} {r : Rec} {rs : List Rec} {x : Row} {is : List Row} → At at row es (r ∷ rs) (x ∷ is) → (c : Class) (ts : List SlotType)
      → class_from τ.book s table (class_row_of table (with_own x)) ≡ c → slots_of c.members ≡ ts → Codes τ τ.book s table (suc row) 0 ts
  row_codes {row = row} {x = x} {is = is} w c ts e f =
      class_codes τ τ.book s table (suc row) c ts (row_class τ τ.book s table (map with_own is) (with_own x) row w.rows_there ∙ e) f

  -- a class of a library that is known
  library_same : {row l : ℕ} {n : Prefixed} {ms : List (Member Prefixed ℕ)} {es : List Entry} {rs : List Rec} → Knows row es rs → ClassInfo τ es n ms → LibraryId l es
      → class_of_all (library_name s table) n.text (the_library (library_name s table l)) ms ≡ class_of_all name n.text (the_library (name l)) ms
  library_same {l = l} {n = n} {ms = ms} a g b =
      ap (λ (y : List ℕ). class_of_all (library_name s table) n.text (the_library y) ms) (a.names l b.there)
      ∙ class_same τ s table name of a n.text (the_library (name l)) ms g.members

  -- the class in the row of a record of kind 4 or 5
  module _ {at row own slot i : ℕ} {n : Prefixed} {ms : List (Member Prefixed ℕ)} {es : List Entry} {rs : List Rec} {is : List Row} (g : ClassInfo τ es n ms) where
    system_from : At at row es (system_class i n ms ∷ rs) (row_of 4 at (system_class i n ms) i own slot 0 (length ms) ∷ is)
        → class_from τ.book s table (with_own (row_of 4 at (system_class i n ms) i own slot 0 (length ms))) ≡ class_of_all name n.text the_system ms
    unfolding encs
    system_from w =
        let x = row_of 4 at (system_class i n ms) i own slot 0 (length ms) in
        let h = row_linked (link_of raw x) (row_of_lem (system_class i n ms) at i own slot 0 (length ms) refl) in
        system_class_from τ τ.book s table (with_own x) at (encs rs) i n ms g.named (own_members τ g.members) w.bytes_there h
        ∙ class_same τ s table name of w.agrees n.text the_system ms g.members

    library_from : {l : ℕ} → LibraryId l es → At at row es (library_class i n ms l ∷ rs) (row_of 5 at (library_class i n ms l) i own slot 0 (length ms) ∷ is)
        → class_from τ.book s table (with_own (row_of 5 at (library_class i n ms l) i own slot 0 (length ms))) ≡ class_of_all name n.text (the_library (name l)) ms
    unfolding encs
    library_from {l} b w =
        let x = row_of 5 at (library_class i n ms l) i own slot 0 (length ms) in
        let h = row_linked (link_of raw x) (row_of_lem (library_class i n ms l) at i own slot 0 (length ms) refl) in
        library_class_from τ τ.book s table (with_own x) at (encs rs) i n ms g.named (own_members τ g.members) l (positive_bits l b.sign) w.bytes_there h
        ∙ library_same w.agrees g b

  module _ {at row own slot : ℕ} {es : List Entry} {rs : List Rec} {it : Row} {is : List Row} {os : List Open} (p : Stands os own slot) where
    system_class_ok : {i : ℕ} {n : Prefixed} {ms : List (Member Prefixed ℕ)} → ClassId i es → ClassInfo τ es n ms → it ≡ row_of 4 at (system_class i n ms) i own slot 0 (length ms)
        → (Codes τ τ.book s table (suc row) 0 (types_of ms)
        → Ok (close (opened (order_of table (suc row)) 0 (length (types_of ms)) ∷ fill 1 os)) (at + size (system_class i n ms)) (suc row)
        (es ++ (a_class i (suc row) (types_of ms) ∷ [])) rs is)
        → Ok os at row es (system_class i n ms ∷ rs) (it ∷ is)
    unfolding encs
    system_class_ok {i} {n} {ms} a g q k =
        let c = class_of_all name n.text the_system ms in
        record_opens i own slot 0 (length ms) q refl (g.named, own_members τ g.members) refl
        (λ w. step p tt (ap (λ (d : Class). opens (an_object d) (length ms)) (class_same τ s table name of w.agrees n.text the_system ms g.members))
        (open_more (suc (order_of table row)) (order_of table (suc row)) (fill 1 os) (order_next w refl) (length_typed ms))
        (known_class w i (types_of ms) c refl refl refl a.fresh (system_from g w) (slots_same name ms)))
        (λ w. k (row_codes w c (types_of ms) (system_from g w) (slots_same name ms)))

    library_class_ok : {i l : ℕ} {n : Prefixed} {ms : List (Member Prefixed ℕ)} → ClassId i es → ClassInfo τ es n ms → LibraryId l es
        → it ≡ row_of 5 at (library_class i n ms l) i own slot 0 (length ms)
        → (Codes τ τ.book s table (suc row) 0 (types_of ms)
        → Ok (close (opened (order_of table (suc row)) 0 (length (types_of ms)) ∷ fill 1 os)) (at + size (library_class i n ms l)) (suc row)
        (es ++ (a_class i (suc row) (types_of ms) ∷ [])) rs is)
        → Ok os at row es (library_class i n ms l ∷ rs) (it ∷ is)
    unfolding encs
    library_class_ok {i} {l} {n} {ms} a g b q k =
        let c = class_of_all name n.text (the_library (name l)) ms in
        record_opens i own slot 0 (length ms) q refl (g.named, own_members τ g.members, positive_bits l b.sign) refl
        (λ w. step p tt (ap (λ (d : Class). opens (an_object d) (length ms)) (library_same w.agrees g b))
        (open_more (suc (order_of table row)) (order_of table (suc row)) (fill 1 os) (order_next w refl) (length_typed ms))
        (known_class w i (types_of ms) c refl refl refl a.fresh (library_from g b w) (slots_same name ms)))
        (λ w. k (row_codes w c (types_of ms) (library_from g b w) (slots_same name ms)))

    class_by_id_ok : {i j r : ℕ} {ts : List SlotType} → class_of j es ≡ classed r ts → it ≡ row_of 1 at (class_by_id i j) i own slot r (length ts)
        → (Codes τ τ.book s table (suc row) 0 ts
        → Ok (close (opened (order_of table (suc row)) 0 (length ts) ∷ fill 1 os)) (at + size (class_by_id i j)) (suc row) (es ++ (another i ∷ [])) rs is)
        → Ok os at row es (class_by_id i j ∷ rs) (it ∷ is)
    unfolding link_of
    class_by_id_ok {i} {j} {r} {ts} f q k =
        record_opens i own slot r (length ts) q tt tt refl
        (λ w.
        let g = w.agrees.classes j r ts f in
        let l : length (of j).members ≡ length ts = sym (length_slots (of j).members) ∙ ap length g.slots_are in
        step p g.class_is refl
        (open_more (suc (order_of table row)) (order_of table (suc row)) (fill 1 os) (order_next w refl) l)
        (known_another w i refl refl refl))
        (λ w. let g = w.agrees.classes j r ts f in k (row_codes w (of j) ts g.class_is g.slots_are))

  -- ---- arrays

  module _ {at row : ℕ} {es : List Entry} {rs : List Rec} {it : Row} {is : List Row} where
    array_ok : {kind i n : ℕ} {r : Rec} {ts : List SlotType} → Array τ es r kind i n ts → it ≡ row_of kind at r i 0 0 0 n
        → Ok (close (opened (order_of table (suc row)) 0 (length ts) ∷ [])) (at + size r) (suc row) (es ++ (another i ∷ [])) rs is → Ok [] at row es (r ∷ rs) (it ∷ is)
    array_ok {i = i} {n = n} (of_objects h) q k =
        let l : n ≡ length (replicate n S.Object) = rw length-replicate in
        record_ok i 0 0 0 n q refl tt refl
        (λ w. step top_stands tt refl (open_more (suc (order_of table row)) (order_of table (suc row)) [] (order_next w refl) l)
        (known_another w i refl refl refl)) k
    array_ok {i = i} {n = n} (of_strings h) q k =
        let l : n ≡ length (replicate n S.Text) = rw length-replicate in
        record_ok i 0 0 0 n q refl tt refl
        (λ w. step top_stands tt refl (open_more (suc (order_of table row)) (order_of table (suc row)) [] (order_next w refl) l)
        (known_another w i refl refl refl)) k
    array_ok {i = i} {n = n} (of_primitives h g) q k =
        record_ok i 0 0 0 n q refl g refl (λ w. step top_stands tt refl refl (known_another w i refl refl refl)) k
    array_ok {i = i} {n = n} {ts = ts} (of_any {type = type} {ns = ns} {d = d} g e h f z) q k =
        let l : item_slots ns d ≡ length ts = rw (f, z, length-replicate) (sym e) in
        record_ok i 0 0 0 n q e (g, own_detail τ es d h, no_items τ d (product ns) f) refl
        (λ w. step top_stands tt (ap (λ (x : Detail (List ℕ) (List ℕ)). opens (an_array type ns x []) (item_slots ns d)) (detail_same τ s table name of w.agrees d h))
        (open_more (suc (order_of table row)) (order_of table (suc row)) [] (order_next w refl) l) (known_another w i refl refl refl)) k
    array_ok {i = i} {n = n} (of_values {b = b} {vs = vs} g e h) q k =
        record_ok i 0 0 0 n q e (g, tt, subst (λ (m : ℕ). Values τ b m vs) e h) refl (λ w. step top_stands tt refl refl (known_another w i refl refl refl)) k

  -- ---- along a derivation

  -- slots of the innermost object were filled
  one_more_rule : (c : Cur) (o n m : ℕ) (os : List Open) → OkIn (close (opened o (n + 1) m ∷ os)) c → OkIn (close (fill 1 (opened o n (suc m) ∷ os))) c
  one_more_rule c o n m os k = let z : m ≡ suc m - 1 = omega arith in subst (λ (j : ℕ). OkIn (close (opened o (n + 1) j ∷ os)) c) z k

  module _ {at row : ℕ} {es : List Entry} {rs : List Rec} {is : List Row} where
    one_filled : (o n m : ℕ) (os : List Open) → Ok (close (opened o (n + 1) m ∷ os)) at row es rs is → Ok (close (fill 1 (opened o n (suc m) ∷ os))) at row es rs is
    one_filled = one_more_rule (cur at row es rs is)

    some_filled : (o n k : ℕ) (ts us : List SlotType) (os : List Open) → us ≡ drop k ts → Ok (close (opened o (n + k) (length us) ∷ os)) at row es rs is
        → Ok (close (fill k (opened o n (length ts) ∷ os))) at row es rs is
    some_filled o n k ts us os e h =
        let z : length us ≡ length ts - k = rw (e, length-drop) in
        subst (λ (j : ℕ). Ok (close (opened o (n + k) j ∷ os)) at row es rs is) z h

  mutual
    object_ok : {room own slot : ℕ} {c c₁ : Cur} (os : List Open) → Object τ room own slot c c₁ → Stands os own slot → OkIn (close (fill 1 os)) c₁ → OkIn os c
    object_ok os (system_class_rule a b q d) p k = system_class_ok p a b q (λ g. body_ok (fill 1 os) d g k)
    object_ok os (library_class_rule a b l q d) p k = library_class_ok p a b l q (λ g. body_ok (fill 1 os) d g k)
    object_ok os (class_by_id_rule a b f q d) p k = class_by_id_ok p f q (λ g. body_ok (fill 1 os) d g k)

    body_ok : {room row : ℕ} {ts : List SlotType} {c c₁ : Cur} (os : List Open) → Body τ room row ts c c₁ → Codes τ τ.book s table row 0 ts → OkIn (close os) c₁
        → OkIn (close (opened (order_of table row) 0 (length ts) ∷ os)) c
    body_ok os hollow g k = k
    body_ok os (filled d) g k = slots_ok os d g k

    slots_ok : {room own slot : ℕ} {ts : List SlotType} {c c₁ : Cur} (os : List Open) → Slots τ room own slot ts c c₁ → Codes τ τ.book s table own slot ts → OkIn (close os) c₁
        → OkIn (close (opened (order_of table own) slot (length ts) ∷ os)) c
    slots_ok os full g k = k
    slots_ok os (member_value {own = own} {slot = slot} {ts = ts} a q d) g k =
        value_ok slot_stands a g.0 q (one_filled (order_of table own) slot (length ts) os (slots_ok os d g.1 k))
    slots_ok os (an_object_rule {own = own} {slot = slot} {t = t} {ts = ts} {c₁ = c₁} o a d) g k =
        object_ok (opened (order_of table own) slot (length (t ∷ ts)) ∷ os) a slot_stands (one_more_rule c₁ (order_of table own) slot (length ts) os (slots_ok os d g.1 k))
    slots_ok os (a_string_rule {own = own} {slot = slot} {ts = ts} t a b q d) g k =
        string_ok slot_stands b q (one_filled (order_of table own) slot (length ts) os (slots_ok os d g.1 k))
    slots_ok os (a_typed_primitive {own = own} {slot = slot} {ts = ts} t a q d) g k =
        typed_primitive_ok slot_stands a q (one_filled (order_of table own) slot (length ts) os (slots_ok os d g.1 k))
    slots_ok os (a_reference_rule {own = own} {slot = slot} {ts = ts} t a q d) g k =
        reference_ok slot_stands q (one_filled (order_of table own) slot (length ts) os (slots_ok os d g.1 k))
    slots_ok os (a_null_rule {own = own} {slot = slot} {ts = ts} e q d) g k =
        null_ok slot_stands q (one_filled (order_of table own) slot (length ts) os (slots_ok os d g.1 k))
    slots_ok os (a_run {own = own} {slot = slot} {k = n} {t = t} {ts = ts} {us = us} e a b f u q d) g k =
        run_ok slot_stands q (some_filled (order_of table own) slot n (t ∷ ts) us os u (slots_ok os d (run_codes τ τ.book s table own slot n (t ∷ ts) u g) k))
    slots_ok os (a_long_run {own = own} {slot = slot} {k = n} {t = t} {ts = ts} {us = us} e a b f u q d) g k =
        long_run_ok slot_stands q (some_filled (order_of table own) slot n (t ∷ ts) us os u (slots_ok os d (run_codes τ τ.book s table own slot n (t ∷ ts) u g) k))
    slots_ok os (a_library_rule t a b n q d) g k = library_ok b n q (slots_ok os d g k)

  objects_ok : {c : Cur} → Objects τ c → OkIn [] c
  objects_ok (the_end q) = end_ok q
  objects_ok (one_object a d) = object_ok [] a top_stands (objects_ok d)
  objects_ok (one_string a b q d) = string_ok top_stands b q (objects_ok d)
  objects_ok (one_array a b q d f) = array_ok b q (body_ok [] d (array_codes τ τ.book s table _ b) (objects_ok f))
  objects_ok (one_library a b n q d) = library_ok b n q (objects_ok d)

-- ---- the whole stream

module _ (τ : Terms) (s : List ℕ) (root h : ℕ) (rs : List Rec) (is : List Row) where
  abbrev first : Row
  first = row_of 0 0 (header root h) root 0 0 0 0

  abbrev raw : List Row
  raw = first ∷ is

  abbrev whole : List Row
  whole = linked raw

  order_is : Objects τ (cur 17 1 [] rs is) → (i : ℕ) → order_of whole (object_row i raw) ≡ order_by rs i
  unfolding order_by
  order_is d i = sym (ap (order_after 0 i) (objects_shown τ d).ids ∙ order_found raw i)

  -- after the header
  begins : s ≡ enc (header root h) ++ encs rs → (d : Objects τ (cur 17 1 [] rs is)) → At τ s raw (name_by rs) (class_by rs) (order_by rs) (order_is d) 17 1 [] rs is
  unfolding linked find_from name_by class_by
  begins e d =
      record {
        rows_there = refl;
        bytes_there = rest_there s (enc (header root h)) (encs rs) 0 17 (omega (arith, size_header root h)) e;
        agrees = record {
          fresh = λ i n. refl;
          names = λ l n. absurd (let z : ◌≡◌ {A = ℕ} 0 1 = cc in omega arith);
          name_later = λ i n. refl;
          classes = λ k r ts n. absurd (let z : ◌≡◌ {A = ℕ} 0 1 = cc in omega arith);
          class_later = λ i n. refl;
        };
      }

  first_says : nodes_from τ.book s whole whole ≡ nodes_from τ.book s whole (drop 1 whole)
  unfolding linked nodes_from nodes_of
  first_says = refl

  none_before : order_of whole 1 ≡ 0
  unfolding linked order_of objects_in
  none_before = refl

  root_is : (says τ.book s whole).root ≡ order_of whole (object_row root raw)
  unfolding says linked link_of
  root_is = refl

  linked_meant : s ≡ enc (header root h) ++ encs rs → Objects τ (cur 17 1 [] rs is) → says τ.book s whole ≡ meant root rs
  unfolding says meant
  linked_meant e d =
      let ns = walk (name_by rs) (class_by rs) (order_by rs) 0 [] rs in
      let a : (says τ.book s whole).root ≡ order_by rs root = root_is ∙ order_is d root in
      let b : nodes_from τ.book s whole whole ≡ ns =
      first_says
      ∙ ((objects_ok τ s raw (name_by rs) (class_by rs) (order_by rs) (order_is d) d).leads (begins e d)
      ∙ ap (λ (n : ℕ). walk (name_by rs) (class_by rs) (order_by rs) n [] rs) none_before) in
      ap (λ (k : ℕ). model k (nodes_from τ.book s whole whole)) a ∙ ap (λ (l : List Node). model (order_by rs root) l) b
    where
      model : ℕ → List Node → Model
      model k l = record { root = k; nodes = l }

-- what a stream says, by its rows, is what the records of its reading mean
pub says_meant : (τ : Terms) {s : List ℕ} {rows : List Row} (w : Reading τ s rows) → says τ.book s rows ≡ meant_by w
says_meant τ {s} w = ap (says τ.book s) (rows_are τ w) ∙ linked_meant τ s w.root w.header_id w.rs w.is w.bytes_are w.objects_are
