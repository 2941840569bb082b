-- The starred counter examples, 1 to 12, as entries of one table, proved by one fact. In 2 the tidy copy is the list itself, also with HeaderId -1
-- and with 7 for both object ids; in 12 it is two bytes longer than the list. 6, whose prefix is padded, is a list in lenient, and its copy is that of 2.
use Rattle.std.specs.Prelude.{ℕ, suc, List, [], ◌∷◌, ◌++◌}
use Rattle.format.specs.Bytes.{same_bytes, laid}
use Rattle.format.specs.Numbers.{le, u32_at, u64_at, le_bytes}
use Rattle.format.specs.Prefix.{prefix_in, groups_of, groups_in, prefix_of}
use Rattle.format.specs.Text.{need_of, lo_of, hi_of, lead_of, step_of, after, well_formed, text_at, string_at, span_at}
use Rattle.format.specs.Values.{bytes_at, boolean_at, scalar_at, char_at, whole_digit, fraction_digit, digit, decimal_byte, decimal_after, decimal, decimal_text, decimal_at, date_time_at, value_at, value_span, times, items_at}
use Rattle.format.specs.Types.{primitive_of, code_at, type_byte_at, name_at, library_id_at, info_at, slot_of, typed_at, after_info, moved, passed, passed_of}
use Rattle.format.specs.Entries.{bad_entry, bad_from}
use Rattle.format.specs.Rows.{words, find_from, object_row, class_row, library_row, link_of, linked}
use Rattle.format.specs.Records.{allowed, kind_of, kind_at, own_library_at, header_at, string_record_at, typed_primitive_at, reference_at, nulls_at, long_nulls_at, library_at, info_known, infos_at, members_at, class_at, class_by_id_at, first_type, slot_array_at, primitive_array_at, lengths_at, item_type_at, rank_at, binary_array_at, heading_at}
use Rattle.format.specs.Machine.{close, filled, opened, add, object, null_run, ending, act, record_step, value_step, step, finish, run, raw_of, stream_of, read_of, read_answer, table_words}
use Rattle.format.specs.View.{record_text, row_text, row_question, text_view}
use Rattle.format.specs.Contents.{enc, encs}
use Rattle.format.specs.Says.{numbers_from, after_texts, library_name, detail_from, members_from, class_from, typed_from, items_from, code_in, value_code, array_from, objects_in, order_of, what_from, spread, nodes_of, nodes_from, says}
use Rattle.format.specs.Tidy.{same_detail, same_members, same_class, number_in, entered, all_entered, library_records, records_of, after_what, pack, run_of, written, waiting, squeeze, tidy_records, tidy_of, tidy_answer, tidy_output, tidy_table}
use Rattle.format.specs.Examples.{Example, entry, leniently, hex, hex_onto, accepts, refuses, writes, as_read, texts_from, holds, failing, None}

-- the header with these ids
abbrev pub header_of : (root headerId : ℕ) → List ℕ
header_of root h = 0 ∷ (le_bytes 4 root ++ (le_bytes 4 h ++ (le_bytes 4 1 ++ le_bytes 4 0)))

abbrev pub H : List ℕ
H = header_of 1 1

-- the string 12E5 with this ObjectId
abbrev pub string_of : ℕ → List ℕ
string_of id = 6 ∷ (le_bytes 4 id ++ hex 5 0x0431324535)

abbrev pub Str : List ℕ
Str = string_of 1

-- 2 with this prefix, of n bytes, before the text
abbrev pub prefixed : (n prefix : ℕ) → List ℕ
prefixed n x = H ++ (6 ∷ (le_bytes 4 1 ++ (hex n x ++ hex 5 0x313245350B)))

-- the empty text behind this prefix, of n bytes
abbrev pub empty_in : (n prefix : ℕ) → List ℕ
empty_in n x = H ++ (6 ∷ (le_bytes 4 1 ++ (hex n x ++ (11 ∷ []))))

-- 2 with its length in two bytes
abbrev pub case6 : List ℕ
case6 = prefixed 2 0x8400

-- an object array of n slots
abbrev pub A : ℕ → List ℕ
A n = 16 ∷ (le_bytes 4 1 ++ le_bytes 4 n)

abbrev pub case2 : List ℕ
case2 = H ++ (Str ++ (11 ∷ []))

-- the same with 7 for both ids
abbrev pub sevens : List ℕ
sevens = header_of 7 1 ++ (string_of 7 ++ (11 ∷ []))

-- an array of three slots after the header, with a null run of n over them, and what follows it
abbrev pub run_list : ℕ → List ℕ → List ℕ
run_list n rest = H ++ (A 3 ++ (13 ∷ n ∷ rest))

-- the rows of a string after a header with this RootId
abbrev pub string_rows : ℕ → List ℕ
string_rows id =
    0 ∷ 0 ∷ 17 ∷ id ∷ 0 ∷ 0 ∷ 2 ∷ 0
    ∷ 6 ∷ 17 ∷ 27 ∷ id ∷ 0 ∷ 0 ∷ 0 ∷ 0
    ∷ 11 ∷ 27 ∷ 28 ∷ 0 ∷ 0 ∷ 0 ∷ 0 ∷ 0 ∷ []

-- and where the string ends here
abbrev pub prefixed_rows : (end : ℕ) → List ℕ
prefixed_rows end =
    0 ∷ 0 ∷ 17 ∷ 1 ∷ 0 ∷ 0 ∷ 2 ∷ 0
    ∷ 6 ∷ 17 ∷ end ∷ 1 ∷ 0 ∷ 0 ∷ 0 ∷ 0
    ∷ 11 ∷ end ∷ suc end ∷ 0 ∷ 0 ∷ 0 ∷ 0 ∷ 0 ∷ []

abbrev pub case7 : List ℕ
case7 =
    0 ∷ 0 ∷ 17 ∷ 1 ∷ 0 ∷ 0 ∷ 2 ∷ 0
    ∷ 16 ∷ 17 ∷ 26 ∷ 1 ∷ 0 ∷ 0 ∷ 0 ∷ 3
    ∷ 13 ∷ 26 ∷ 28 ∷ 0 ∷ 2 ∷ 0 ∷ 0 ∷ 3
    ∷ 11 ∷ 28 ∷ 29 ∷ 0 ∷ 0 ∷ 0 ∷ 0 ∷ 0 ∷ []

abbrev pub case12 : List ℕ
case12 =
    0 ∷ 0 ∷ 17 ∷ 1 ∷ 0 ∷ 0 ∷ 2 ∷ 0
    ∷ 16 ∷ 17 ∷ 26 ∷ 1 ∷ 0 ∷ 0 ∷ 0 ∷ 256
    ∷ 13 ∷ 26 ∷ 28 ∷ 0 ∷ 2 ∷ 0 ∷ 0 ∷ 255
    ∷ 10 ∷ 28 ∷ 29 ∷ 0 ∷ 2 ∷ 255 ∷ 0 ∷ 1
    ∷ 11 ∷ 29 ∷ 30 ∷ 0 ∷ 0 ∷ 0 ∷ 0 ∷ 0 ∷ []

-- row 1 has a text of four bytes, 12E5
abbrev pub text : List ℕ
text = 1 ∷ 4 ∷ hex 4 0x31324535

unfoldable pub table : List Example
table =
    entry [] 64 64 (refuses 2 0) as_read
    ∷ entry case2 64 64 (accepts (string_rows 1) text) (writes case2)
    ∷ entry (header_of 1 4294967295 ++ (Str ++ (11 ∷ []))) 64 64 (accepts (string_rows 1) text) (writes case2)
    ∷ entry sevens 64 64 (accepts (string_rows 7) text) (writes case2)
    ∷ entry (H ++ Str) 64 64 (refuses 2 27) as_read
    ∷ entry (case2 ++ (0 ∷ [])) 64 64 (refuses 17 28) as_read
    ∷ entry (header_of 2 1 ++ (Str ++ (11 ∷ []))) 64 64 (refuses 18 0) as_read
    ∷ entry case6 64 64 (refuses 7 17) as_read
    ∷ entry (run_list 3 (11 ∷ [])) 64 64 (accepts case7 []) (writes (run_list 3 (11 ∷ [])))
    ∷ entry (run_list 4 []) 64 64 (refuses 9 26) as_read
    ∷ entry (run_list 0 (11 ∷ [])) 64 64 (refuses 5 28) as_read
    ∷ entry (H ++ (A 1 ++ (9 ∷ (le_bytes 4 5 ++ (11 ∷ []))))) 64 64 (refuses 19 26) as_read
    ∷ entry (H ++ (A 1 ++ (8 ∷ 5 ∷ hex 5 0x0431324535))) 64 64 (refuses 11 26) as_read
    ∷ entry (H ++ (A 256 ++ (13 ∷ 255 ∷ 10 ∷ 11 ∷ []))) 64 64 (accepts case12 []) (writes (H ++ (A 256 ++ (14 ∷ (le_bytes 4 256 ++ (11 ∷ []))))))
    -- 2 and 6 in lenient; its length in five bytes, of which the fifth is 0, 7 (the text passes the end) or 8; a sixth byte; a prefix that the list ends in
    ∷ leniently case2 64 64 (accepts (string_rows 1) text) (writes case2)
    ∷ leniently case6 64 64 (accepts (prefixed_rows 28) text) (writes case2)
    ∷ leniently (prefixed 5 0x8480808000) 64 64 (accepts (prefixed_rows 31) text) (writes case2)
    ∷ leniently (prefixed 5 0x8480808007) 64 64 (refuses 2 17) as_read
    ∷ leniently (prefixed 5 0x8480808008) 64 64 (refuses 7 17) as_read
    ∷ leniently (prefixed 6 0x848080808000) 64 64 (refuses 7 17) as_read
    ∷ leniently (H ++ (6 ∷ (le_bytes 4 1 ++ hex 2 0x8480))) 64 64 (refuses 2 17) as_read
    -- a whole prefix that the list ends after; and the empty text, its length in five bytes: the row has text
    ∷ leniently (H ++ (6 ∷ (le_bytes 4 1 ++ hex 2 0x8400))) 64 64 (refuses 2 17) as_read
    ∷ leniently (empty_in 5 0x8080808000) 64 64 (accepts (prefixed_rows 27) (1 ∷ 0 ∷ [])) (writes (empty_in 1 0))
    ∷ []
