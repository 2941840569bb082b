-- The copy written from marked rows is the tidy copy of what the rows say: each row writes its record as what was written before it asks.
use Prim.Native.Nat.{ℕ, zero, suc, ◌+◌, ◌-◌, ◌≤◌, ◌<◌}
use Rattle.std.specs.Prelude.{◌≡◌, refl, Bool, length}
use Rattle.std.proofs.Math.Path.{sym, ap}
use Rattle.std.proofs.Common.{ap₂, ◌∙◌, arith}
use Rattle.std.proofs.Math.Bool.{true, false}
use mathlib.Core.List.{List, [], ◌∷◌, ◌++◌, append-nil}
use Rattle.std.proofs.Math.ListN.{get_or}
use Rattle.std.proofs.Math.Dec.{eqb}
use borrow.Author.Tests.{eqb-true, eqb-false}
use Rattle.format.specs.Terms.{Terms}
use Rattle.format.specs.declared.PrimitiveCode.{PrimitiveCode}
use Rattle.format.specs.declared.Row.{Row}
use Rattle.format.specs.Bytes.{pick}
use Rattle.format.specs.Rows.{blank, is_object, is_class}
use Rattle.format.specs.Contents.{shortest, Detail, Rec, header, class_by_id, string, array, typed_primitive, reference, end, primitive_array, object_array, string_array, value, enc, encs, Class}
use Rattle.format.specs.Says.{text_from, code_from, content_from, items_from, code_of, value_code, class_from, order_of, what_from, is_nulls, is_silent, says}
use Rattle.format.specs.Tidy.{Progress, Libraries, number_in, same_class, all_entered, library_records, class_needs, detail_needs, detail_by, value_by, values_by, class_by, object_by, records_of, tidy_of}
use Rattle.laws.specs.Tests.{pick_of, class_eq, class_refl, differ, either}
use Rattle.laws.specs.Kinds.{class_kind, class_is_object}
use Rattle.laws.specs.Runs.{encs_append}
use Rattle.put.specs.Out.{head_out, by_id_out, header_out}
use Rattle.marks.specs.Marks.{row_at, with_id, item_type, numbered, placed, firsts, needed, marked, is_first}
use Rattle.pieces.specs.Copy.{anew_in, need_class_out, class_out, object_out, array_out, body_out, need_info_out, record_out, copy_of}
use Rattle.pieces.specs.Laws.{record_as, record_as_lem}
use Rattle.meaning.specs.Stands.{RowStands, the_header, by_id, a_class_rule, a_string_rule, an_array_rule, a_primitive_rule, a_reference_rule, nulls, the_end, a_library_rule, primitives, objects, texts, a_value_rule, ArrayStands, Stands}
use Rattle.meaning.specs.Marked.{TypesThere, ValueThere, Placed, Firsts, class_fields, array_fields, row_fields, fields_from, All, class_first}
use Rattle.meaning.specs.Names.{class_at_holds, array_at}
use Rattle.meaning.specs.Bytes.{Numbered}
use Rattle.meaning.specs.ClassBytes.{class_is}
use Rattle.meaning.specs.ArrayBytes.{array_item, array_items, array_lengths, items_place, array_is}
use Rattle.meaning.specs.RecordBytes.{header_is, by_id_is, reference_is, member_is, end_is, typed_is, string_is, primitives_is, objects_is, texts_is}
use Rattle.meaning.specs.Said.{records_by_id, records_system, records_class, records_string, records_array, records_typed, records_reference, records_primitives, records_objects, records_texts, records_value}
use Rattle.meaning.specs.Passes.{object_not_library, placed_rows, firsts_rows}
use Rattle.meaning.specs.Stamps.{Fields, needed_same}
use Rattle.meaning.specs.LibrariesOut.{class_out_lem, array_out_lem, Spelled}
use Rattle.meaning.specs.Orders.{order_object, progress_to, progress_count, item_needs, is_new, row_needs, class_of_id, first_order, first_before, class_known, class_later}
use Rattle.meaning.specs.Runs.{nulls_kind}
use Rattle.meaning.specs.Traversal.{Writes, copied}
use Rattle.meaning.specs.Rising.{fields_hold, fields_spelled}
use Rattle.meaning.specs.Words.{first_kind, class_words, object_words, marked_kind, marked_kept, marked_other, target_id, first_id, class_id}
use Rattle.meaning.specs.RowLibraries.{class_row_fields, other_row_fields, class_row_needs, other_row_needs, first_new, row_out_lem, row_numbers}

-- ---- records

-- one record
one_record : (out : List ℕ) (r : Rec) (rs : List Rec) → out ≡ enc r → rs ≡ r ∷ [] → out ≡ encs rs
unfolding encs
one_record out r rs a b = a ∙ (sym (append-nil (enc r)) ∙ ap encs (sym b))

-- after the records of libraries
last_record : (need out : List ℕ) (ls : List Rec) (r : Rec) (rs : List Rec) → need ≡ encs ls → out ≡ enc r → rs ≡ ls ++ (r ∷ []) → need ++ out ≡ encs rs
unfolding encs
last_record need out ls r rs a b e =
    ap₂ (λ (x y : List ℕ). x ++ y) a (b ∙ sym (append-nil (enc r))) ∙ (sym (encs_append ls (r ∷ [])) ∙ ap encs (sym e))

known_by : (n : ℕ) (w : Progress) (c : Class) → 0 < n → object_by n w c ≡ class_by_id (suc w.count) n ∷ []
known_by zero w c h = absurd (omega arith)
known_by (suc n) w c h = refl

-- ---- row by row

module _ (τ : Terms) (s : List ℕ) (rows ps fs : List Row) (st : Stands τ s rows) (pl : Placed τ s rows ps) (fi : Firsts s rows ps fs) (F : Fields s rows fs) (spelled : All (Spelled s rows fs) (fields_from s 0 fs)) where
  -- the code whose values are written anew
  abbrev δ : ℕ
  δ = anew_in τ.setting

  abbrev ms : List Row
  ms = needed s fs

  module _ (i : ℕ) (h : i < length rows) where
    -- ---- objects

    -- rows of objects get their numbers in the order of the rows
    next_number : is_object (get_or rows i blank).kind ≡ true → order_of rows (suc i) ≡ suc (progress_to τ.book s rows i).count
    next_number o = order_object rows i h o ∙ ap suc (sym (progress_count τ.book s rows i (omega arith)))

    -- an object's row writes the record that it has before libraries are numbered
    from_first : is_object (get_or rows i blank).kind ≡ true → record_out δ s ms i (get_or ms i blank) ≡ record_out δ s ms i (get_or fs i blank)
    from_first o = ap (record_out δ s ms i) (marked_kept τ s rows ps fs st pl fi ms (needed_same s rows fs F) i h (object_not_library (get_or rows i blank).kind o))

    module _ (k : is_class (get_or rows i blank).kind ≡ true) where
      -- the class, and its number so far
      abbrev class : Class
      class = class_from τ.book s rows (get_or rows i blank)

      abbrev number : ℕ
      number = number_in (same_class class) (progress_to τ.book s rows i).classes

      object : is_object (get_or rows i blank).kind ≡ true
      object = class_is_object (get_or rows i blank).kind k

      class_number_lem : (get_or fs i blank).id ≡ suc (progress_to τ.book s rows i).count
      class_number_lem = ap (λ (r : Row). r.id) (class_words τ s rows ps fs st pl fi i h k) ∙ next_number object

      -- the first object of a class, in full
      new_object : is_new τ.book s rows i (get_or rows i blank) ≡ true → object_out s ms i (get_or fs i blank) ≡ encs (object_by number (progress_to τ.book s rows i) class)
      unfolding object_out
      new_object e =
          let r : Row = get_or rows i blank in
          let q : Row = get_or fs i blank in
          let w : Progress = progress_to τ.book s rows i in
          let ls : Libraries = all_entered (class_needs class) w.libraries in
          let first : is_first i q ≡ true = first_new τ s rows ps fs st pl fi i h ∙ e in
          let fields : row_fields s i q ≡ class_fields s q = class_row_fields s i q first in
          let needs : row_needs τ.book s rows i r ≡ class_needs class = class_row_needs τ.book s rows i r e in
          let a : need_class_out s ms q ≡ encs (library_records (class_needs class) w.libraries) =
          class_out_lem s ms q ∙ row_out_lem τ s rows ps fs st pl fi F i h (class_fields s q) (class_needs class) fields needs spelled in
          let numbers : All (Numbered s rows ms ls) (class_fields s q) = row_numbers τ s rows ps fs st pl fi F i h (class_fields s q) (class_needs class) fields needs in
          let c = class_words τ s rows ps fs st pl fi i h k in
          let b : class_out s ms q ≡ enc (class_by ls (suc w.count) class class.from) =
          class_is τ s rows r (class_at_holds τ s rows st i h k) q (ap (λ (z : Row). z.kind) c) (ap (λ (z : Row). z.offset) c) (ap (λ (z : Row). z.end) c)
          (ap (λ (z : Row). z.count) c) (ap (λ (z : Row). z.slot) c) ms ls numbers
          ∙ ap (λ (n : ℕ). enc (class_by ls n class class.from)) class_number_lem in
          let f : class_first τ.book s rows class ≡ i + 1 =
          eqb-true (class_first τ.book s rows class) (i + 1) (pick_of (is_class r.kind) (eqb (class_first τ.book s rows class) (i + 1)) e).1 in
          let z : number ≡ 0 = class_later τ s rows class_refl class_eq st i (omega arith) class (omega arith) in
          ap (λ (t : Bool). pick t (need_class_out s ms q ++ class_out s ms q) (by_id_out q.id (row_at ms q.link).id)) first
          ∙ last_record (need_class_out s ms q) (class_out s ms q) (library_records (class_needs class) w.libraries) (class_by ls (suc w.count) class class.from)
          (object_by number w class) a b (ap (λ (n : ℕ). object_by n w class) z)

      -- and later ones by it
      known_object : is_new τ.book s rows i (get_or rows i blank) ≡ false → object_out s ms i (get_or fs i blank) ≡ encs (object_by number (progress_to τ.book s rows i) class)
      unfolding object_out
      known_object e =
          let r : Row = get_or rows i blank in
          let q : Row = get_or fs i blank in
          let w : Progress = progress_to τ.book s rows i in
          let f : ℕ = class_first τ.book s rows class in
          let g : eqb f (i + 1) ≡ false = ap (λ (t : Bool). pick t (eqb f (i + 1)) false) (sym k) ∙ e in
          let n = eqb-false f (i + 1) g in
          let b = first_before τ s rows class_refl class_eq i h k in
          let b0 : 0 < f = b.0 in
          let b1 : f ≤ suc i = b.1 in
          let l : f ≤ i = omega (arith, n) in
          let z : number ≡ order_of rows f = class_known τ s rows class_refl class_eq st i (omega arith) class l in
          let o = first_order τ s rows class b0 in
          let id : (row_at ms q.link).id ≡ number =
          ap (λ (x : Row). (row_at ms x.link).id) (class_words τ s rows ps fs st pl fi i h k)
          ∙ (first_id τ s rows ps fs st pl fi ms (needed_same s rows fs F) i h k ∙ sym z) in
          ap (λ (t : Bool). pick t (need_class_out s ms q ++ class_out s ms q) (by_id_out q.id (row_at ms q.link).id)) (first_new τ s rows ps fs st pl fi i h ∙ e)
          ∙ (ap₂ by_id_out class_number_lem id
          ∙ one_record (by_id_out (suc w.count) number) (class_by_id (suc w.count) number) (object_by number w class) (by_id_is (suc w.count) number)
          (known_by number w class (omega arith)))

      class_writes : record_out δ s ms i (get_or ms i blank) ≡ encs (records_of (progress_to τ.book s rows i) (what_from τ.book s rows (get_or rows i blank)))
      class_writes =
          let r : Row = get_or rows i blank in
          let q : Row = get_or fs i blank in
          let w : Progress = progress_to τ.book s rows i in
          let kind = first_kind τ s rows ps fs st pl fi i h in
          let out : record_out δ s ms i q ≡ object_out s ms i q =
          class_kind r.kind k (λ (n : ℕ). r.kind ≡ n → record_out δ s ms i q ≡ object_out s ms i q)
          (λ e. record_as_lem δ s ms i q 4 (kind ∙ e)) (λ e. record_as_lem δ s ms i q 5 (kind ∙ e)) refl in
          let says : records_of w (what_from τ.book s rows r) ≡ object_by number w class =
          class_kind r.kind k (λ (n : ℕ). r.kind ≡ n → records_of w (what_from τ.book s rows r) ≡ object_by number w class) (records_system τ.book s rows r w) (records_class τ.book s rows r w) refl in
          from_first object ∙ (out ∙ (either (is_new τ.book s rows i r) new_object known_object ∙ ap encs (sym says)))

    -- an object by its class's row
    by_id_writes : (get_or rows i blank).kind ≡ 1 → record_out δ s ms i (get_or ms i blank) ≡ encs (records_of (progress_to τ.book s rows i) (what_from τ.book s rows (get_or rows i blank)))
    by_id_writes k =
        let r : Row = get_or rows i blank in
        let w : Progress = progress_to τ.book s rows i in
        let c : Class = class_from τ.book s rows (get_or rows (r.link - 1) blank) in
        let n : ℕ = number_in (same_class c) w.classes in
        let y = class_of_id τ s rows i r (st.each i h) k in
        let j : ℕ = y.0 in
        let e : r.link ≡ suc j = y.1 in
        let l : j < i = y.2 in
        let z : r.link - 1 ≡ j = omega arith in
        let q : get_or fs i blank ≡ with_id r (order_of rows (suc i)) = object_words τ s rows ps fs st pl fi i h (ap is_object k) (ap is_class k) in
        let d : Class = class_from τ.book s rows (get_or rows j blank) in
        let same : c ≡ d = ap (λ (m : ℕ). class_from τ.book s rows (get_or rows m blank)) z in
        let b = first_before τ s rows class_refl class_eq j (omega arith) y.3 in
        let b0 : 0 < class_first τ.book s rows d = b.0 in
        let b1 : class_first τ.book s rows d ≤ suc j = b.1 in
        let known : n ≡ order_of rows (class_first τ.book s rows d) =
        ap (λ (x : Class). number_in (same_class x) w.classes) same ∙ class_known τ s rows class_refl class_eq st i (omega arith) d (omega arith) in
        let o = first_order τ s rows d b0 in
        let id : (row_at ms (row_at ms r.link).link).id ≡ n =
        ap (λ (m : ℕ). (row_at ms (get_or ms m blank).link).id) z ∙ (class_id τ s rows ps fs st pl fi ms (needed_same s rows fs F) j (omega arith) y.3 ∙ sym known) in
        from_first (ap is_object k)
        ∙ (ap (record_out δ s ms i) q
        ∙ (record_as_lem δ s ms i (with_id r (order_of rows (suc i))) 1 k
        ∙ (ap₂ by_id_out (next_number (ap is_object k)) id
        ∙ one_record (by_id_out (suc w.count) n) (class_by_id (suc w.count) n) (records_of w (what_from τ.book s rows r)) (by_id_is (suc w.count) n)
        (records_by_id τ.book s rows r w k ∙ known_by n w c (omega arith)))))

    array_writes : (get_or rows i blank).kind ≡ 7 → record_out δ s ms i (get_or ms i blank) ≡ encs (records_of (progress_to τ.book s rows i) (what_from τ.book s rows (get_or rows i blank)))
    unfolding array_out item_needs
    array_writes k =
        let r : Row = get_or rows i blank in
        let q : Row = get_or fs i blank in
        let w : Progress = progress_to τ.book s rows i in
        let e : q ≡ with_id r (order_of rows (suc i)) = object_words τ s rows ps fs st pl fi i h (ap is_object k) (ap is_class k) in
        let item : Detail (List ℕ) (List ℕ) = array_item s rows r in
        let ls : Libraries = all_entered (detail_needs item) w.libraries in
        let c : ArrayStands τ s rows r = array_at τ s rows st i h k in
        let kind : q.kind ≡ 7 = first_kind τ s rows ps fs st pl fi i h ∙ k in
        let none_new : is_new τ.book s rows i r ≡ false = ap (λ (t : Bool). pick t (eqb (class_first τ.book s rows (class_from τ.book s rows r)) (i + 1)) false) (ap is_class k) in
        let fields : row_fields s i q ≡ array_fields s q =
        other_row_fields s i q (first_new τ s rows ps fs st pl fi i h ∙ none_new) ∙ ap (λ (n : ℕ). pick (eqb n 7) (array_fields s q) []) kind in
        let needs : row_needs τ.book s rows i r ≡ detail_needs item = other_row_needs τ.book s rows i r none_new ∙ ap (λ (n : ℕ). pick (eqb n 7) (item_needs s rows r) []) k in
        let need : List ℕ = need_info_out s ms (get_or s (item_type s q) 0) (items_place s q) in
        let body : List ℕ = body_out δ s ms (item_type s q) (items_place s q) q in
        let a : need ≡ encs (library_records (detail_needs item) w.libraries) =
        array_out_lem s ms q ∙ row_out_lem τ s rows ps fs st pl fi F i h (array_fields s q) (detail_needs item) fields needs spelled in
        let numbers : All (Numbered s rows ms ls) (array_fields s q) = row_numbers τ s rows ps fs st pl fi F i h (array_fields s q) (detail_needs item) fields needs in
        let whole : ℕ → Rec = λ (n : ℕ). array n (get_or s (r.offset + 5) 0) (array_lengths s r) (detail_by ls item) (values_by (code_of item) (array_items s r)) in
        let b : body ≡ enc (whole (suc w.count)) =
        array_is τ s rows r c q (ap (λ (z : Row). z.offset) e) (ap (λ (z : Row). z.end) e) (ap (λ (z : Row). z.count) e) ms st.bytes ls numbers
        ∙ ap (λ (n : ℕ). enc (whole n)) (ap (λ (z : Row). z.id) e ∙ next_number (ap is_object k)) in
        from_first (ap is_object k)
        ∙ (record_as_lem δ s ms i q 7 kind
        ∙ last_record need body (library_records (detail_needs item) w.libraries) (whole (suc w.count)) (records_of w (what_from τ.book s rows r)) a b (records_array τ.book s rows r w k))

    -- ---- rows that are kept but for their number

    abbrev Said : Type 0
    Said = record_out δ s ms i (get_or ms i blank) ≡ encs (records_of (progress_to τ.book s rows i) (what_from τ.book s rows (get_or rows i blank)))

    -- the row with its number
    abbrev renumbered : Row
    renumbered = with_id (get_or rows i blank) (order_of rows (suc i))

    object_writes : (kind : ℕ) (rec : ℕ → Rec) → (get_or rows i blank).kind ≡ kind → is_object kind ≡ true → is_class kind ≡ false
        → record_as δ s ms i renumbered kind ≡ enc (rec (order_of rows (suc i)))
        → records_of (progress_to τ.book s rows i) (what_from τ.book s rows (get_or rows i blank)) ≡ rec (suc (progress_to τ.book s rows i).count) ∷ [] → Said
    object_writes kind rec k o c out says =
        let object : is_object (get_or rows i blank).kind ≡ true = ap is_object k ∙ o in
        let w : Progress = progress_to τ.book s rows i in
        from_first object
        ∙ (ap (record_out δ s ms i) (object_words τ s rows ps fs st pl fi i h object (ap is_class k ∙ c))
        ∙ (record_as_lem δ s ms i renumbered kind k
        ∙ one_record (record_as δ s ms i renumbered kind) (rec (suc w.count)) (records_of w (what_from τ.book s rows (get_or rows i blank)))
        (out ∙ ap (λ (n : ℕ). enc (rec n)) (next_number object)) says))

    -- rows that are no object's are as they were
    as_it_was : (kind : ℕ) → (get_or rows i blank).kind ≡ kind → is_object kind ≡ false → eqb kind 12 ≡ false
        → record_out δ s ms i (get_or ms i blank) ≡ record_as δ s ms i (get_or rows i blank) kind
    as_it_was kind k o l =
        ap (record_out δ s ms i)
        (marked_other τ s rows ps fs st pl fi ms (needed_same s rows fs F) i h (ap is_object k ∙ o) (ap (λ (n : ℕ). eqb n 12) k ∙ l))
        ∙ record_as_lem δ s ms i (get_or rows i blank) kind k

    other_writes : (kind : ℕ) (rec : Rec) → (get_or rows i blank).kind ≡ kind → is_object kind ≡ false → eqb kind 12 ≡ false
        → record_as δ s ms i (get_or rows i blank) kind ≡ enc rec → records_of (progress_to τ.book s rows i) (what_from τ.book s rows (get_or rows i blank)) ≡ rec ∷ [] → Said
    other_writes kind rec k o l out says =
        as_it_was kind k o l ∙ one_record (record_as δ s ms i (get_or rows i blank) kind) rec (records_of (progress_to τ.book s rows i) (what_from τ.book s rows (get_or rows i blank))) out says

    -- ---- any row

    -- header and end by themselves
    record Written : Type 0 where
      pub first : (get_or rows i blank).kind ≡ 0
          → record_out δ s ms i (get_or ms i blank) ≡ enc (header (order_of rows (get_or rows i blank).link) (order_of rows (get_or rows i blank).link))
      pub last : (get_or rows i blank).kind ≡ 11 → record_out δ s ms i (get_or ms i blank) ≡ enc end
      pub each : is_silent (get_or rows i blank).kind ≡ false → is_nulls (get_or rows i blank).kind ≡ false → Said

    said : (kind : ℕ) → (get_or rows i blank).kind ≡ kind → is_silent kind ≡ false → Said → Written
    said kind k e out =
        let speaks : is_silent (get_or rows i blank).kind ≡ false = ap is_silent k ∙ e in
        record {
          first = λ z. differ (sym (ap is_silent z) ∙ speaks);
          last = λ z. differ (sym (ap is_silent z) ∙ speaks);
          each = λ a b. out;
        }

    written : RowStands τ s rows i (get_or rows i blank) → Written
    written (the_header z k t) =
        let root : ℕ = order_of rows (get_or rows i blank).link in
        record {
          first = λ e.
              as_it_was 0 k refl refl
              ∙ (ap header_out (target_id τ s rows ps fs st pl fi ms (needed_same s rows fs F) (get_or rows i blank).link t) ∙ header_is root);
          last = λ e. absurd (omega arith);
          each = λ a b. differ (sym (ap is_silent k) ∙ a);
        }
    written (by_id k class l g c) = said 1 k refl (by_id_writes k)
    written (a_class_rule k c) =
        said (get_or rows i blank).kind refl (class_kind (get_or rows i blank).kind k (λ (n : ℕ). is_silent n ≡ false) refl refl) (class_writes k)
    written (a_string_rule k t) =
        said 6 k refl
        (object_writes 6 (λ (n : ℕ). string n (shortest (text_from s ((get_or rows i blank).offset + 5)))) k refl refl
        (string_is s st.bytes renumbered (get_or rows i blank) refl refl) (records_string τ.book s rows (get_or rows i blank) (progress_to τ.book s rows i) k))
    written (an_array_rule k a) = said 7 k refl (array_writes k)
    written (a_primitive_rule k c a b) =
        let r : Row = get_or rows i blank in
        let code = code_from s (r.offset + 1) in
        said 8 k refl
        (other_writes 8 (typed_primitive code (value_by code (content_from s code (r.offset + 2)))) k refl refl
        (typed_is τ s st.bytes r (st.kind_byte i h (λ z. absurd (omega arith)) ∙ k) c a) (records_typed τ.book s rows r (progress_to τ.book s rows i) k))
    written (a_reference_rule k t) =
        let target : ℕ = order_of rows (get_or rows i blank).link in
        said 9 k refl
        (other_writes 9 (reference target) k refl refl
        (ap (head_out 9) (target_id τ s rows ps fs st pl fi ms (needed_same s rows fs F) (get_or rows i blank).link t) ∙ reference_is target)
        (records_reference τ.book s rows (get_or rows i blank) (progress_to τ.book s rows i) k))
    written (nulls k n) =
        record {
          first = λ e. differ (sym k ∙ ap is_nulls e);
          last = λ e. differ (sym k ∙ ap is_nulls e);
          each = λ a b. differ (sym k ∙ b);
        }
    written (the_end k l e) =
        record {
          first = λ z. absurd (omega arith);
          last = λ z.
              as_it_was 11 k refl refl
              ∙ end_is s (get_or rows i blank).offset (get_or rows i blank).end (st.kind_byte i h (λ y. absurd (omega arith)) ∙ k) e (st.inside i h);
          each = λ a b. differ (sym (ap is_silent k) ∙ a);
        }
    written (a_library_rule k t) =
        record { first = λ z. absurd (omega arith); last = λ z. absurd (omega arith); each = λ a b. differ (sym (ap is_silent k) ∙ a) }
    written (primitives k u c a b) =
        let r : Row = get_or rows i blank in
        let code = code_from s (r.offset + 9) in
        said 15 k refl
        (object_writes 15 (λ (n : ℕ). primitive_array n r.count code (values_by code (items_from s code r.count (r.offset + 10)))) k refl refl
        (primitives_is τ s st.bytes renumbered r refl refl u refl c a) (records_primitives τ.book s rows r (progress_to τ.book s rows i) k))
    written (objects k u e) =
        let r : Row = get_or rows i blank in
        said 16 k refl
        (object_writes 16 (λ (n : ℕ). object_array n r.count) k refl refl
        (objects_is s st.bytes renumbered r refl refl u k e) (records_objects τ.book s rows r (progress_to τ.book s rows i) k))
    written (texts k u e) =
        let r : Row = get_or rows i blank in
        said 17 k refl
        (object_writes 17 (λ (n : ℕ). string_array n r.count) k refl refl
        (texts_is s st.bytes renumbered r refl refl u k e) (records_texts τ.book s rows r (progress_to τ.book s rows i) k))
    written (a_value_rule k a b) =
        let r : Row = get_or rows i blank in
        let w = pl.values i h k in
        let code = value_code τ.book s rows r in
        said 32 k refl
        (other_writes 32 (value code (value_by code (content_from s code r.offset))) k refl refl
        (member_is τ s st.bytes r w.code w.link_is w.reads
        ∙ ap (λ (c : PrimitiveCode). enc (value c (value_by c (content_from s c r.offset)))) (sym w.said))
        (records_value τ.book s rows r (progress_to τ.book s rows i) k))

  -- marked rows write what the rows say
  pub writes : Writes δ τ.book s rows ms
  writes =
      let like = needed_same s rows fs F in
      record {
        size = like.size ∙ (fi.size ∙ pl.size);
        kinds = marked_kind τ s rows ps fs st pl fi ms like;
        nulls = λ i h k.
            marked_other τ s rows ps fs st pl fi ms like i h (nulls_kind (get_or rows i blank).kind k (λ (n : ℕ). is_object n ≡ false) refl refl refl)
            (nulls_kind (get_or rows i blank).kind k (λ (n : ℕ). eqb n 12 ≡ false) refl refl refl);
        first = (written 0 st.some (st.each 0 st.some)).first st.first;
        last = λ i h. (written i h (st.each i h)).last;
        each = λ i h. (written i h (st.each i h)).each;
      }

-- ---- the link

pub copy_of_rows : (τ : Terms) (s : List ℕ) (rows : List Row) → Stands τ s rows
    → ((i : ℕ) → i < length rows → is_class (get_or rows i blank).kind ≡ true → TypesThere τ s (get_or rows i blank))
    → ((i : ℕ) → i < length rows → (get_or rows i blank).kind ≡ 32 → ValueThere τ s rows (get_or rows i blank))
    → ((i : ℕ) → i < length rows → (get_or rows i blank).kind ≡ 12 → (get_or rows i blank).slot ≡ 0) → copy_of (anew_in τ.setting) s (marked s rows) ≡ tidy_of (says τ.book s rows)
unfolding marked
copy_of_rows τ s rows st types values fresh =
    let ps : List Row = placed s (numbered rows) in
    let fs : List Row = firsts s ps in
    let few = st.few in
    let pl : Placed τ s rows ps = placed_rows τ s rows (omega arith) types values in
    let fi : Firsts s rows ps fs = firsts_rows s rows ps in
    copied τ (anew_in τ.setting) s rows (needed s fs) st (writes τ s rows ps fs st pl fi (fields_hold τ s rows ps fs st pl fi fresh) (fields_spelled τ s rows ps fs st pl fi))
