-- The table of fields holds (format: Fields).
use Rattle.std.specs.Prelude.{ℕ, suc, List, [], ◌∷◌, ◌++◌, map, replicate}
use Rattle.format.specs.declared.SlotType.{SlotType}
use Rattle.format.specs.declared.SlotType.TheVariants as S
use Rattle.format.specs.declared.Setting.{Setting}
use Rattle.format.specs.declared.Setting.TheVariants as Q
use Rattle.format.specs.declared.Span.{Span}
use Rattle.format.specs.Bytes.{pick, same_bytes}
use Rattle.format.specs.Replies.{number_of, row_reply}
use Rattle.format.specs.Numbers.{le, u16_at, u32_at, u64_at, le_bytes}
use Rattle.format.specs.Prefix.{prefix_in, prefix_at, groups_of, groups_in, prefix_of, prefix_bytes}
use Rattle.format.specs.Text.{need_of, lo_of, hi_of, lead_of, step_of, after, well_formed, text_at, string_at, span_at}
use Rattle.format.specs.Values.{bytes_at, boolean_at, scalar_at, char_at, whole_digit, fraction_digit, digit, decimal_byte, decimal_after, decimal, decimal_text, decimal_at, date_time_at, value_at, times, items_at}
use Rattle.format.specs.Types.{code_number, primitive_of, code_at, coded, type_byte_at, name_at, library_id_at, info_at, slot_of}
use Rattle.format.specs.View.{record_text, row_text, row_question, text_view}
use Rattle.format.specs.Examples.{hex, hex_onto, None}
use Rattle.format.specs.Fields.{each, fields, failing}

pub field_examples : None (failing 0 fields)
unfolding fields failing each text_view row_question row_text record_text slot_of info_at library_id_at name_at type_byte_at code_at primitive_of items_at times value_at date_time_at decimal_at decimal_text decimal decimal_after decimal_byte digit fraction_digit whole_digit char_at scalar_at boolean_at bytes_at span_at string_at text_at well_formed after step_of lead_of hi_of lo_of need_of groups_of groups_in prefix_of prefix_in le_bytes u64_at u32_at u16_at le same_bytes hex_onto
field_examples = tt
