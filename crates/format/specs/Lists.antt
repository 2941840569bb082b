-- Worked lists, as records, beside the counter examples: what is read of them, how they are tidied, and which of them say the
-- same.
use Rattle.std.specs.Prelude.{ℕ, ◌≡◌, refl, List, [], ◌∷◌, ◌++◌, get_or, eqb}
use Rattle.std.proofs.Common.{ap, arith}
use Rattle.format.specs.declared.PrimitiveCode.TheVariants as C
use Rattle.format.specs.declared.Row.{Row}
use Rattle.format.specs.Bytes.{pick, same_bytes, laid}
use Rattle.format.specs.Terms.{strict}
use Rattle.format.specs.Numbers.{le, u32_at, u64_at, le_bytes}
use Rattle.format.specs.Prefix.{prefix_in, groups_of, groups_in, prefix_of}
use Rattle.format.specs.Text.{need_of, lo_of, hi_of, lead_of, step_of, after, well_formed, text_at, string_at, span_at}
use Rattle.format.specs.Values.{times, bytes_at, boolean_at, value_at, scalar_at, char_at, whole_digit, fraction_digit, digit, decimal_byte, decimal_after, decimal, decimal_text, decimal_at, date_time_at, value_span, items_at}
use Rattle.format.specs.Types.{primitive_of, code_at, type_byte_at, name_at, library_id_at, info_at, slot_of, typed_at, after_info, moved, passed, passed_of, code_number}
use Rattle.format.specs.Entries.{bad_entry, bad_from}
use Rattle.format.specs.Rows.{words, find_from, object_row, class_row, library_row, link_of, linked}
use Rattle.format.specs.Records.{allowed, kind_of, kind_at, own_library_at, header_at, string_record_at, reference_at, nulls_at, long_nulls_at, library_at, info_known, infos_at, members_at, class_at, class_by_id_at, first_type, slot_array_at, heading_at, typed_primitive_at, primitive_array_at, lengths_at, item_type_at, rank_at, binary_array_at}
use Rattle.format.specs.Machine.{close, filled, opened, add, object, null_run, ending, act, record_step, value_step, step, finish, run, Outcome, accepted, refused, raw_of, stream_of, read_of, read_answer, table_words}
use Rattle.format.specs.View.{record_text, row_text, row_question, text_view}
use Rattle.format.specs.Contents.{Prefixed, bare, shortest, Detail, primitive, text, Member, type_byte, Rec, header, class_by_id, system_class, library_class, string, array, typed_primitive, primitive_array, reference, null, nulls, end, library, object_array, value, enc, encs}
use Rattle.format.specs.Contents.{object as anything}
use Rattle.format.specs.Says.{numbers_from, after_texts, library_name, detail_from, members_from, class_from, typed_from, code_in, value_code, array_from, objects_in, order_of, what_from, spread, nodes_of, nodes_from, What, an_object, a_string, an_array, a_primitive, a_reference, a_null, a_primitive_array, an_object_array, a_string_array, a_value, Node, Model, says, items_from}
use Rattle.format.specs.Tidy.{same_detail, same_members, same_class, number_in, entered, all_entered, library_records, records_of, after_what, pack, run_of, written, waiting, squeeze, tidy_records, tidy_of, tidy_answer, tidy_output, tidy_table}
use Rattle.format.specs.Examples.{Example, entry, leniently, hex_onto, hex, accepts, refuses, writes, as_read, texts_from, holds, failing, None}

-- ---- the lists

-- the text 12E5
abbrev pub jaw : List ℕ
jaw = hex 4 0x31324535

-- one member, N, of this type
abbrev pub named : Detail Prefixed ℕ → List (Member Prefixed ℕ)
named d = record { name = shortest (0x4E ∷ []); type = d } ∷ []

-- an array of two slots: a part P of the library L that has the text, the library's record in the slot before it; and a reference. The ids of the
-- array, the part, its text and the library are free, and so are the type of N and the target
abbrev pub in_slot : (header_id array part string library : ℕ) → Detail Prefixed ℕ → (target : ℕ) → List Rec
in_slot h a p t l d target =
    header a h ∷ object_array a 2 ∷ library l (shortest (0x4C ∷ [])) ∷ library_class p (shortest (0x50 ∷ [])) (named d) l ∷ string t (shortest jaw) ∷ reference target ∷ end ∷ []

-- two parts P, each with its own record: the first with N of type text, the second with N of this type
abbrev pub two_parts : Detail Prefixed ℕ → List Rec
two_parts d =
    header 2 0 ∷ library 5 (shortest (0x4C ∷ [])) ∷ library_class 4 (shortest (0x50 ∷ [])) (named text) 5 ∷ null
    ∷ library_class 2 (shortest (0x50 ∷ [])) (named d) 5 ∷ null ∷ end ∷ []

-- a part P; in its slot another one, of the class whose first object is still open, with a reference to a text that comes later
abbrev pub forwards : List Rec
forwards = header 1 1 ∷ system_class 1 (shortest (0x50 ∷ [])) (named anything) ∷ class_by_id 2 1 ∷ reference 3 ∷ string 3 (shortest jaw) ∷ end ∷ []

-- Decimals at their four places, the texts of all with prefixes of one kind: 7.5 in a slot with its code, 1 and 23 as items, 7 as a member, 9 as the
-- item of an array of any type. The names of the class and of its member have such prefixes too
abbrev pub decimals_by : (List ℕ → Prefixed) → List Rec
decimals_by f =
    header 1 1 ∷ object_array 1 1 ∷ typed_primitive C.Decimal (f (55 ∷ 46 ∷ 53 ∷ []))
    ∷ primitive_array 2 2 C.Decimal (f (49 ∷ []) ∷ f (50 ∷ 51 ∷ []) ∷ [])
    ∷ system_class 3 (f (0x50 ∷ [])) (record { name = f (0x4E ∷ []); type = primitive C.Decimal } ∷ []) ∷ value C.Decimal (f (55 ∷ []))
    ∷ array 4 0 (1 ∷ []) (primitive C.Decimal) (f (57 ∷ []) ∷ []) ∷ end ∷ []

abbrev pub decimals : List Rec
decimals = decimals_by shortest

-- in two bytes each
abbrev pub padded_decimals : List Rec
padded_decimals = decimals_by (λ t. record { width = 2; text = t })

-- ---- read and tidied

abbrev pub in_slot_rows : List ℕ
in_slot_rows =
    0 ∷ 0 ∷ 17 ∷ 4 ∷ 0 ∷ 0 ∷ 2 ∷ 0
    ∷ 16 ∷ 17 ∷ 26 ∷ 4 ∷ 0 ∷ 0 ∷ 0 ∷ 2
    ∷ 12 ∷ 26 ∷ 33 ∷ 9 ∷ 0 ∷ 0 ∷ 0 ∷ 0
    ∷ 5 ∷ 33 ∷ 51 ∷ 6 ∷ 2 ∷ 0 ∷ 0 ∷ 1
    ∷ 6 ∷ 51 ∷ 61 ∷ 2 ∷ 4 ∷ 0 ∷ 0 ∷ 0
    ∷ 9 ∷ 61 ∷ 66 ∷ 2 ∷ 2 ∷ 1 ∷ 5 ∷ 0
    ∷ 11 ∷ 66 ∷ 67 ∷ 0 ∷ 0 ∷ 0 ∷ 0 ∷ 0 ∷ []

abbrev pub two_parts_rows : List ℕ
two_parts_rows =
    0 ∷ 0 ∷ 17 ∷ 2 ∷ 0 ∷ 0 ∷ 5 ∷ 0
    ∷ 12 ∷ 17 ∷ 24 ∷ 5 ∷ 0 ∷ 0 ∷ 0 ∷ 0
    ∷ 5 ∷ 24 ∷ 42 ∷ 4 ∷ 0 ∷ 0 ∷ 0 ∷ 1
    ∷ 10 ∷ 42 ∷ 43 ∷ 0 ∷ 3 ∷ 0 ∷ 0 ∷ 1
    ∷ 5 ∷ 43 ∷ 61 ∷ 2 ∷ 0 ∷ 0 ∷ 0 ∷ 1
    ∷ 10 ∷ 61 ∷ 62 ∷ 0 ∷ 5 ∷ 0 ∷ 0 ∷ 1
    ∷ 11 ∷ 62 ∷ 63 ∷ 0 ∷ 0 ∷ 0 ∷ 0 ∷ 0 ∷ []

abbrev pub forwards_rows : List ℕ
forwards_rows =
    0 ∷ 0 ∷ 17 ∷ 1 ∷ 0 ∷ 0 ∷ 2 ∷ 0
    ∷ 4 ∷ 17 ∷ 31 ∷ 1 ∷ 0 ∷ 0 ∷ 0 ∷ 1
    ∷ 1 ∷ 31 ∷ 40 ∷ 2 ∷ 2 ∷ 0 ∷ 2 ∷ 1
    ∷ 9 ∷ 40 ∷ 45 ∷ 3 ∷ 3 ∷ 0 ∷ 5 ∷ 0
    ∷ 6 ∷ 45 ∷ 55 ∷ 3 ∷ 0 ∷ 0 ∷ 0 ∷ 0
    ∷ 11 ∷ 55 ∷ 56 ∷ 0 ∷ 0 ∷ 0 ∷ 0 ∷ 0 ∷ []

abbrev pub decimals_rows : List ℕ
decimals_rows =
    0 ∷ 0 ∷ 17 ∷ 1 ∷ 0 ∷ 0 ∷ 2 ∷ 0
    ∷ 16 ∷ 17 ∷ 26 ∷ 1 ∷ 0 ∷ 0 ∷ 0 ∷ 1
    ∷ 8 ∷ 26 ∷ 32 ∷ 0 ∷ 2 ∷ 0 ∷ 0 ∷ 0
    ∷ 15 ∷ 32 ∷ 47 ∷ 2 ∷ 0 ∷ 0 ∷ 0 ∷ 2
    ∷ 4 ∷ 47 ∷ 62 ∷ 3 ∷ 0 ∷ 0 ∷ 0 ∷ 1
    ∷ 32 ∷ 62 ∷ 64 ∷ 0 ∷ 5 ∷ 0 ∷ 0 ∷ 0
    ∷ 7 ∷ 64 ∷ 82 ∷ 4 ∷ 0 ∷ 0 ∷ 0 ∷ 1
    ∷ 11 ∷ 82 ∷ 83 ∷ 0 ∷ 0 ∷ 0 ∷ 0 ∷ 0 ∷ []

abbrev pub padded_decimals_rows : List ℕ
padded_decimals_rows =
    0 ∷ 0 ∷ 17 ∷ 1 ∷ 0 ∷ 0 ∷ 2 ∷ 0
    ∷ 16 ∷ 17 ∷ 26 ∷ 1 ∷ 0 ∷ 0 ∷ 0 ∷ 1
    ∷ 8 ∷ 26 ∷ 33 ∷ 0 ∷ 2 ∷ 0 ∷ 0 ∷ 0
    ∷ 15 ∷ 33 ∷ 50 ∷ 2 ∷ 0 ∷ 0 ∷ 0 ∷ 2
    ∷ 4 ∷ 50 ∷ 67 ∷ 3 ∷ 0 ∷ 0 ∷ 0 ∷ 1
    ∷ 32 ∷ 67 ∷ 70 ∷ 0 ∷ 5 ∷ 0 ∷ 0 ∷ 0
    ∷ 7 ∷ 70 ∷ 89 ∷ 4 ∷ 0 ∷ 0 ∷ 0 ∷ 1
    ∷ 11 ∷ 89 ∷ 90 ∷ 0 ∷ 0 ∷ 0 ∷ 0 ∷ 0 ∷ []

-- the start of both tidy copies: the second object is the root, and the library stands before the first record that needs it
abbrev pub first_part : List Rec
first_part = header 2 2 ∷ library 1 (shortest (0x4C ∷ [])) ∷ library_class 1 (shortest (0x50 ∷ [])) (named text) 1 ∷ null ∷ []

unfoldable pub lists : List Example
lists =
    entry (encs (in_slot 4294967295 4 6 2 9 text 2)) 64 80 (accepts in_slot_rows (4 ∷ 4 ∷ jaw)) (writes (encs (in_slot 1 1 2 3 1 text 3)))
    ∷ entry (encs (two_parts text)) 64 80 (accepts two_parts_rows []) (writes (encs (first_part ++ (class_by_id 2 1 ∷ null ∷ end ∷ []))))
    ∷ entry (encs (two_parts anything)) 64 80 (accepts two_parts_rows []) (writes (encs (first_part ++ (library_class 2 (shortest (0x50 ∷ [])) (named anything) 1 ∷ null ∷ end ∷ []))))
    ∷ entry (encs forwards) 64 80 (accepts forwards_rows (4 ∷ 4 ∷ jaw)) (writes (encs forwards))
    ∷ entry (encs decimals) 64 96 (accepts decimals_rows []) (writes (encs decimals))
    ∷ leniently (encs decimals) 64 96 (accepts decimals_rows []) (writes (encs decimals))
    ∷ entry (encs padded_decimals) 64 96 (refuses 7 26) as_read
    ∷ leniently (encs padded_decimals) 64 96 (accepts padded_decimals_rows []) (writes (encs decimals))
    ∷ []

-- ---- saying the same

abbrev pub said_by : List ℕ → Outcome → Model
said_by s (accepted rows) = says [] s rows
said_by s (refused r place) = record { root = 0; nodes = [] }

-- what a list of these records says; at most 16 rows
unfoldable pub said : List Rec → Model
said rs = said_by (encs rs) (read_of strict (encs rs) 16)

-- three empty slots, packed in these records
abbrev pub three_nulls : List Rec → List Rec
three_nulls rs = header 1 1 ∷ object_array 1 3 ∷ (rs ++ (end ∷ []))

-- the types of a class's members, and the target of a reference
abbrev member_types : List (Member (List ℕ) (List ℕ)) → List ℕ
member_types [] = []
member_types (m ∷ ms) = type_byte m.type ∷ member_types ms

abbrev told : What → List ℕ
told (an_object c) = member_types c.members
told (a_string t) = []
told (an_array t ns d items) = []
told (a_primitive c v) = []
told (a_reference target) = target ∷ []
told a_null = []
told (a_primitive_array n c items) = []
told (an_object_array n) = []
told (a_string_array n) = []
told (a_value c v) = []

unfoldable pub told_by : List Node → List ℕ
told_by [] = []
told_by (n ∷ ns) = told n.what ++ told_by ns

-- ---- the codes of member values

-- two objects of a class with a number and a truth value, the second by the first
abbrev pub valued : List Rec
valued =
    header 1 1
    ∷ system_class 1 (shortest (0x50 ∷ [])) (record { name = shortest (0x4E ∷ []); type = primitive C.Int16 } ∷ record { name = shortest (0x4D ∷ []); type = primitive C.Boolean } ∷ [])
    ∷ value C.Int16 (bare (5 ∷ 0 ∷ [])) ∷ value C.Boolean (bare (1 ∷ [])) ∷ class_by_id 2 1 ∷ value C.Int16 (bare (6 ∷ 0 ∷ [])) ∷ value C.Boolean (bare (0 ∷ [])) ∷ end ∷ []

-- the link as it was read, of each row of a member value
unfoldable pub read_codes : List Row → List ℕ
read_codes [] = []
read_codes (r ∷ rs) = pick (eqb r.kind 32) (r.link ∷ read_codes rs) (read_codes rs)

-- and the code that the rows say
unfoldable pub said_codes : List ℕ → List Row → List Row → List ℕ
said_codes s rows [] = []
said_codes s rows (r ∷ rs) = pick (eqb r.kind 32) (code_number (value_code [] s rows r) ∷ said_codes s rows rs) (said_codes s rows rs)

abbrev pub codes_by : (List Row → List ℕ) → Outcome → List ℕ
codes_by f (accepted rows) = f rows
codes_by f (refused r place) = []
