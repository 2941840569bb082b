-- What a row says, kind by kind, and the records by which the tidy copy says it.
use Rattle.std.specs.Prelude.{ℕ, suc, ◌+◌, ◌-◌, ◌≡◌, List, [], ◌∷◌, ◌++◌, get_or}
use Rattle.std.proofs.Math.Path.{ap}
use Rattle.std.proofs.Common.{◌∙◌}
use Rattle.format.specs.declared.Row.{Row}
use Rattle.format.specs.Rows.{blank}
use Rattle.format.specs.Contents.{shortest, string, array, typed_primitive, reference, primitive_array, object_array, string_array, value}
use Rattle.format.specs.Says.{text_from, code_from, content_from, items_from, code_of, value_code, class_from, order_of, what_from}
use Rattle.format.specs.Tidy.{Progress, number_in, same_class, all_entered, library_records, detail_needs, detail_by, value_by, values_by, object_by, records_of}
use Rattle.meaning.specs.ArrayBytes.{array_item, array_items, array_lengths, array_from_lem}
use Rattle.meaning.specs.Orders.{what_as_lem}

module _ (β s : List ℕ) (rows : List Row) (r : Row) where
  module _ (w : Progress) where
    pub records_by_id : r.kind ≡ 1 → records_of w (what_from β s rows r)
        ≡ object_by (number_in (same_class (class_from β s rows (get_or rows (r.link - 1) blank))) w.classes) w (class_from β s rows (get_or rows (r.link - 1) blank))
    unfolding records_of
    records_by_id k = ap (records_of w) (what_as_lem β s rows r 1 k)

    pub records_system : r.kind ≡ 4 → records_of w (what_from β s rows r) ≡ object_by (number_in (same_class (class_from β s rows r)) w.classes) w (class_from β s rows r)
    unfolding records_of
    records_system k = ap (records_of w) (what_as_lem β s rows r 4 k)

    pub records_class : r.kind ≡ 5 → records_of w (what_from β s rows r) ≡ object_by (number_in (same_class (class_from β s rows r)) w.classes) w (class_from β s rows r)
    unfolding records_of
    records_class k = ap (records_of w) (what_as_lem β s rows r 5 k)

    pub records_string : r.kind ≡ 6 → records_of w (what_from β s rows r) ≡ string (suc w.count) (shortest (text_from s (r.offset + 5))) ∷ []
    unfolding records_of
    records_string k = ap (records_of w) (what_as_lem β s rows r 6 k)

    pub records_array : r.kind ≡ 7 → records_of w (what_from β s rows r)
        ≡ library_records (detail_needs (array_item s rows r)) w.libraries
        ++ (array (suc w.count) (get_or s (r.offset + 5) 0) (array_lengths s r)
        (detail_by (all_entered (detail_needs (array_item s rows r)) w.libraries) (array_item s rows r)) (values_by (code_of (array_item s rows r)) (array_items s r)) ∷ [])
    unfolding records_of
    records_array k = ap (records_of w) (what_as_lem β s rows r 7 k ∙ array_from_lem s rows r)

    pub records_typed : r.kind ≡ 8 → records_of w (what_from β s rows r)
        ≡ typed_primitive (code_from s (r.offset + 1)) (value_by (code_from s (r.offset + 1)) (content_from s (code_from s (r.offset + 1)) (r.offset + 2))) ∷ []
    unfolding records_of
    records_typed k = ap (records_of w) (what_as_lem β s rows r 8 k)

    pub records_reference : r.kind ≡ 9 → records_of w (what_from β s rows r) ≡ reference (order_of rows r.link) ∷ []
    unfolding records_of
    records_reference k = ap (records_of w) (what_as_lem β s rows r 9 k)

    pub records_primitives : r.kind ≡ 15 → records_of w (what_from β s rows r)
        ≡ primitive_array (suc w.count) r.count (code_from s (r.offset + 9))
        (values_by (code_from s (r.offset + 9)) (items_from s (code_from s (r.offset + 9)) r.count (r.offset + 10))) ∷ []
    unfolding records_of
    records_primitives k = ap (records_of w) (what_as_lem β s rows r 15 k)

    pub records_objects : r.kind ≡ 16 → records_of w (what_from β s rows r) ≡ object_array (suc w.count) r.count ∷ []
    unfolding records_of
    records_objects k = ap (records_of w) (what_as_lem β s rows r 16 k)

    pub records_texts : r.kind ≡ 17 → records_of w (what_from β s rows r) ≡ string_array (suc w.count) r.count ∷ []
    unfolding records_of
    records_texts k = ap (records_of w) (what_as_lem β s rows r 17 k)

    pub records_value : r.kind ≡ 32 → records_of w (what_from β s rows r)
        ≡ value (value_code β s rows r) (value_by (value_code β s rows r) (content_from s (value_code β s rows r) r.offset)) ∷ []
    unfolding records_of
    records_value k = ap (records_of w) (what_as_lem β s rows r 32 k)
