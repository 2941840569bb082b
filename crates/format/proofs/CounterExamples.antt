-- The table of counter examples holds (format: CounterExamples).
use Rattle.std.specs.Prelude.{ℕ, suc, List, [], ◌∷◌, ◌++◌}
use Rattle.format.specs.Bytes.{same_bytes, laid}
use Rattle.format.specs.Numbers.{le, u32_at, u64_at, le_bytes}
use Rattle.format.specs.Prefix.{prefix_in, groups_of, groups_in, prefix_of}
use Rattle.format.specs.Text.{need_of, lo_of, hi_of, lead_of, step_of, after, well_formed, text_at, string_at, span_at}
use Rattle.format.specs.Values.{bytes_at, boolean_at, scalar_at, char_at, whole_digit, fraction_digit, digit, decimal_byte, decimal_after, decimal, decimal_text, decimal_at, date_time_at, value_at, value_span, times, items_at}
use Rattle.format.specs.Types.{primitive_of, code_at, type_byte_at, name_at, library_id_at, info_at, slot_of, typed_at, after_info, moved, passed, passed_of}
use Rattle.format.specs.Entries.{bad_entry, bad_from}
use Rattle.format.specs.Rows.{words, find_from, object_row, class_row, library_row, link_of, linked}
use Rattle.format.specs.Records.{allowed, kind_of, kind_at, own_library_at, header_at, string_record_at, typed_primitive_at, reference_at, nulls_at, long_nulls_at, library_at, info_known, infos_at, members_at, class_at, class_by_id_at, first_type, slot_array_at, primitive_array_at, lengths_at, item_type_at, rank_at, binary_array_at, heading_at}
use Rattle.format.specs.Machine.{close, filled, opened, add, object, null_run, ending, act, record_step, value_step, step, finish, run, raw_of, stream_of, read_of, read_answer, table_words}
use Rattle.format.specs.View.{record_text, row_text, row_question, text_view}
use Rattle.format.specs.Contents.{enc, encs}
use Rattle.format.specs.Says.{numbers_from, after_texts, library_name, detail_from, members_from, class_from, typed_from, items_from, code_in, value_code, array_from, objects_in, order_of, what_from, spread, nodes_of, nodes_from, says}
use Rattle.format.specs.Tidy.{same_detail, same_members, same_class, number_in, entered, all_entered, library_records, records_of, after_what, pack, run_of, written, waiting, squeeze, tidy_records, tidy_of, tidy_answer, tidy_output, tidy_table}
use Rattle.format.specs.Examples.{Example, entry, leniently, hex, hex_onto, accepts, refuses, writes, as_read, texts_from, holds, failing, None}
use Rattle.format.specs.CounterExamples.{table}

pub counter_examples : None (failing 0 table)
unfolding table holds failing tidy_table tidy_output tidy_answer tidy_of tidy_records squeeze waiting written run_of pack after_what records_of library_records all_entered entered number_in same_class same_members same_detail says nodes_from nodes_of spread what_from order_of objects_in array_from value_code code_in items_from class_from typed_from members_from detail_from library_name after_texts numbers_from encs enc table_words read_answer read_of raw_of stream_of bad_entry bad_from run finish step value_step record_step act ending null_run object add opened filled close heading_at binary_array_at rank_at item_type_at lengths_at primitive_array_at slot_array_at class_by_id_at first_type class_at members_at infos_at info_known library_at long_nulls_at nulls_at reference_at typed_primitive_at string_record_at header_at own_library_at kind_at kind_of allowed linked link_of library_row class_row object_row find_from words passed_of passed moved after_info typed_at slot_of info_at library_id_at name_at type_byte_at code_at primitive_of items_at times value_span value_at date_time_at decimal_at decimal_text decimal decimal_after decimal_byte digit fraction_digit whole_digit char_at scalar_at boolean_at bytes_at span_at string_at text_at well_formed after step_of lead_of hi_of lo_of need_of groups_of groups_in prefix_of prefix_in le_bytes u64_at u32_at le laid same_bytes hex_onto texts_from row_question text_view row_text record_text
counter_examples = tt
