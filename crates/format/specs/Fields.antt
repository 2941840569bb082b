-- Worked fields: bytes, and what is read of them, mostly on either side of a bound of the field rules; then the text view. One table, proved by one fact.
use Rattle.std.specs.Prelude.{ℕ, suc, List, [], ◌∷◌, ◌++◌, map, replicate, Option, Result, Ok, Err}
use Rattle.format.specs.declared.Refusal.{Refusal}
use Rattle.format.specs.declared.PrimitiveCode.{PrimitiveCode}
use Rattle.std.specs.declared.option.Option.TheVariants as Maybe
use Rattle.format.specs.declared.SlotType.{SlotType}
use Rattle.format.specs.declared.SlotType.TheVariants as S
use Rattle.format.specs.declared.Setting.{Setting}
use Rattle.format.specs.declared.Setting.TheVariants as Q
use Rattle.format.specs.declared.Span.{Span}
use Rattle.format.specs.Bytes.{pick, same_bytes}
use Rattle.format.specs.Replies.{number_of, row_reply}
use Rattle.format.specs.Numbers.{le, u16_at, u32_at, u64_at, le_bytes}
use Rattle.format.specs.Prefix.{prefix_in, prefix_at, groups_of, groups_in, prefix_of, prefix_bytes}
use Rattle.format.specs.Text.{need_of, lo_of, hi_of, lead_of, step_of, after, well_formed, text_at, string_at, span_at}
use Rattle.format.specs.Values.{bytes_at, boolean_at, scalar_at, char_at, whole_digit, fraction_digit, digit, decimal_byte, decimal_after, decimal, decimal_text, decimal_at, date_time_at, value_at, times, items_at}
use Rattle.format.specs.Types.{code_number, primitive_of, code_at, coded, type_byte_at, name_at, library_id_at, info_at, slot_of}
use Rattle.format.specs.View.{record_text, row_text, row_question, text_view}
use Rattle.format.specs.Examples.{hex, hex_onto, None}

-- ---- what is shown: the number and the place after it, or 0 where bytes are missing

abbrev shown16 : Option (ℕ × ℕ) → List ℕ
shown16 (Maybe.Some (v, next)) = v ∷ next ∷ []
shown16 Maybe.None = 0 ∷ []

abbrev shown32 : Option (ℕ × ℕ) → List ℕ
shown32 (Maybe.Some (v, next)) = v ∷ next ∷ []
shown32 Maybe.None = 0 ∷ []

abbrev shown64 : Option (ℕ × ℕ) → List ℕ
shown64 (Maybe.Some (v, next)) = v ∷ next ∷ []
shown64 Maybe.None = 0 ∷ []

-- the number of a prefix, or where a text begins; and the place after the field; or the number of the refusal alone
abbrev shown_prefix : Result (ℕ × ℕ) Refusal → List ℕ
shown_prefix (Ok (n, next)) = n ∷ next ∷ []
shown_prefix (Err f) = number_of f ∷ []

abbrev shown_text : Result Span Refusal → List ℕ
shown_text (Ok t) = t.from ∷ t.to ∷ []
shown_text (Err f) = number_of f ∷ []

abbrev shown_span : Span → List ℕ
shown_span x = x.from ∷ x.to ∷ []

abbrev shown_field : Result ℕ Refusal → List ℕ
shown_field (Ok next) = 0 ∷ next ∷ []
shown_field (Err f) = number_of f ∷ []

-- the number of a code, 0 for none
abbrev shown_code : Option PrimitiveCode → ℕ
shown_code (Maybe.Some c) = code_number c
shown_code Maybe.None = 0

-- the type byte of a slot, with its code
abbrev shown_slot : SlotType → List ℕ
shown_slot (S.Primitive c) = 0 ∷ code_number c ∷ []
shown_slot S.Text = 1 ∷ []
shown_slot S.Object = 2 ∷ []
shown_slot S.SystemClass = 3 ∷ []
shown_slot S.Class = 4 ∷ []
shown_slot S.ObjectArray = 5 ∷ []
shown_slot S.StringArray = 6 ∷ []
shown_slot (S.PrimitiveArray c) = 7 ∷ code_number c ∷ []

-- ---- entries

pub record Worked : Type 0 where
  pub found : List ℕ
  pub wanted : List ℕ

abbrev gives : List ℕ → List ℕ → Worked
gives f w = record { found = f; wanted = w }

-- a field ends here
abbrev ends : ℕ → List ℕ
ends place = 0 ∷ place ∷ []

-- the numbers of refusals
abbrev cut_short : List ℕ
cut_short = 2 ∷ []

abbrev bad_length : List ℕ
bad_length = 7 ∷ []

abbrev bad_text : List ℕ
bad_text = 8 ∷ []

abbrev bad_type : List ℕ
bad_type = 10 ∷ []

abbrev bad_value : List ℕ
bad_value = 11 ∷ []

abbrev bad_id : List ℕ
bad_id = 12 ∷ []

-- a prefix of n bytes, strict and lenient
abbrev prefix : ℕ → ℕ → List ℕ
prefix n x = shown_prefix (prefix_at Q.Strict (hex n x) 0)

abbrev lenient : ℕ → ℕ → List ℕ
lenient n x = shown_prefix (prefix_at Q.Lenient (hex n x) 0)

-- a string whose text is these n bytes: taken whole, or refused
abbrev string : ℕ → ℕ → List ℕ
string n x = shown_text (string_at Q.Strict (n ∷ hex n x) 0)

abbrev taken : ℕ → List ℕ
taken n = 1 ∷ suc n ∷ []

-- a value of this code in n bytes
abbrev value : ℕ → ℕ → ℕ → List ℕ
value code n x = shown_field (value_at Q.Strict (hex n x) (coded (primitive_of code)) 0)

-- a Decimal of n bytes of text; and one in n bytes, its prefix among them
abbrev decimal_of : ℕ → ℕ → List ℕ
decimal_of n x = shown_field (value_at Q.Strict (n ∷ hex n x) (coded (primitive_of 5)) 0)

abbrev decimal_by : Setting → ℕ → ℕ → List ℕ
decimal_by σ n x = shown_field (value_at σ (hex n x) (coded (primitive_of 5)) 0)

-- where a value and where three items of this code end, in 24 bytes that are all 1
abbrev value_end : ℕ → List ℕ
value_end code = shown_field (value_at Q.Strict (replicate 24 1) (coded (primitive_of code)) 0)

abbrev items_end : ℕ → List ℕ
items_end code = shown_field (items_at Q.Strict (replicate 24 1) (coded (primitive_of code)) 3 0)

-- of each, one after the other
unfoldable pub each : (ℕ → List ℕ) → List ℕ → List ℕ
each f [] = []
each f (x ∷ l) = f x ++ each f l

-- all codes but Decimal
abbrev codes : List ℕ
codes = 1 ∷ 2 ∷ 3 ∷ 6 ∷ 7 ∷ 8 ∷ 9 ∷ 10 ∷ 11 ∷ 12 ∷ 13 ∷ 14 ∷ 15 ∷ 16 ∷ []

abbrev types : List ℕ
types = 0 ∷ 1 ∷ 2 ∷ 3 ∷ 4 ∷ 5 ∷ 6 ∷ 7 ∷ []

-- a detail of this type: the code 1, or the name A, or the name A and the LibraryId 1
abbrev detail : ℕ → List ℕ
detail type = shown_field (info_at Q.Strict (hex 6 0x014101000000) type 0)

-- the string A with the id 1, of seven bytes; and its text, by a row with these words
abbrev record7 : List ℕ
record7 = hex 7 0x06010000000141

abbrev text_by : (kind offset end row : ℕ) → List ℕ
text_by k o e row = text_view Q.Strict record7 (k ∷ o ∷ e ∷ 1 ∷ 0 ∷ 0 ∷ 0 ∷ 0 ∷ []) row

-- the same string with its length in two bytes, and the row that shows it: its text, and whether it has one
abbrev record8 : List ℕ
record8 = hex 8 0x0601000000810041

abbrev row8 : List ℕ
row8 = 6 ∷ 0 ∷ 8 ∷ 1 ∷ 0 ∷ 0 ∷ 0 ∷ 0 ∷ []

abbrev padded : Setting → List ℕ
padded σ = text_view σ record8 row8 0

abbrev padded_asked : Setting → List ℕ
padded_asked σ = (row_reply (row_question σ record8 row8 0)).number ∷ []

-- ---- the table

unfoldable pub fields : List Worked
fields =
    -- numbers: the low byte first, and all bytes there
    gives (shown16 (u16_at (hex 3 0xFF0102) 1)) (0x0201 ∷ 3 ∷ [])
    ∷ gives (shown16 (u16_at (hex 2 0xFF01) 1)) (0 ∷ [])
    ∷ gives (shown32 (u32_at (hex 5 0xFF01020384) 1)) (0x84030201 ∷ 5 ∷ [])
    ∷ gives (shown32 (u32_at (hex 4 0xFF010203) 1)) (0 ∷ [])
    ∷ gives (shown64 (u64_at (hex 9 0xFF0102030405060788) 1)) (0x8807060504030201 ∷ 9 ∷ [])
    ∷ gives (shown64 (u64_at (hex 8 0xFF01020304050607) 1)) (0 ∷ [])
    ∷ gives (le_bytes 4 0x84030201) (1 ∷ 2 ∷ 3 ∷ 0x84 ∷ [])
    -- prefixes: the shortest form, up to 31 bits; and how they are written
    ∷ gives (prefix 1 0x00) (0 ∷ 1 ∷ [])
    ∷ gives (prefix 1 0x7F) (127 ∷ 1 ∷ [])
    ∷ gives (prefix 2 0x8001) (128 ∷ 2 ∷ [])
    ∷ gives (prefix 2 0x8400) bad_length
    ∷ gives (prefix 1 0x80) cut_short
    ∷ gives (prefix 4 0x80808000) bad_length
    ∷ gives (prefix 5 0xFFFFFFFF07) (2147483647 ∷ 5 ∷ [])
    ∷ gives (prefix 5 0x8080808008) bad_length
    ∷ gives (prefix 5 0x8080808000) bad_length
    ∷ gives (prefix 5 0x8080808080) bad_length
    ∷ gives (prefix 4 0x80808080) cut_short
    -- lenient: any form of at most five bytes, the fifth at most 7; a sixth byte is never read
    ∷ gives (lenient 2 0x8000) (0 ∷ 2 ∷ [])
    ∷ gives (lenient 2 0x8400) (4 ∷ 2 ∷ [])
    ∷ gives (lenient 5 0x8480808000) (4 ∷ 5 ∷ [])
    ∷ gives (lenient 5 0xFFFFFFFF07) (2147483647 ∷ 5 ∷ [])
    ∷ gives (lenient 5 0x8480808008) bad_length
    ∷ gives (lenient 5 0x8480808080) bad_length
    ∷ gives (lenient 6 0x848080808000) bad_length
    ∷ gives (lenient 5 0x8080808000) (0 ∷ 5 ∷ [])
    ∷ gives (lenient 4 0x84808080) cut_short
    ∷ gives (lenient 3 0x848080) cut_short
    ∷ gives (lenient 2 0x8480) cut_short
    ∷ gives (lenient 1 0x80) cut_short
    ∷ gives (prefix_bytes 127) (0x7F ∷ [])
    ∷ gives (prefix_bytes 128) (0x80 ∷ 1 ∷ [])
    ∷ gives (prefix_bytes 2147483647) (hex 5 0xFFFFFFFF07)
    -- a number in a prefix of a given width; none of no bytes
    ∷ gives (prefix_of 0 4) []
    ∷ gives (prefix_of 1 4) (4 ∷ [])
    ∷ gives (prefix_of 2 4) (0x84 ∷ 0 ∷ [])
    ∷ gives (prefix_of 2 300) (0xAC ∷ 2 ∷ [])
    ∷ gives (prefix_of 5 0) (hex 5 0x8080808000)
    -- text: the bounds of the second byte after E0, ED, F0 and F4, and of the first byte
    ∷ gives (string 1 0x7F) (taken 1)
    ∷ gives (string 1 0x80) bad_text
    ∷ gives (string 2 0xC1BF) bad_text
    ∷ gives (string 2 0xC280) (taken 2)
    ∷ gives (string 2 0xDFBF) (taken 2)
    ∷ gives (string 2 0xDFC0) bad_text
    ∷ gives (string 3 0xE09FBF) bad_text
    ∷ gives (string 3 0xE0A080) (taken 3)
    ∷ gives (string 3 0xED9FBF) (taken 3)
    ∷ gives (string 3 0xEDA080) bad_text
    ∷ gives (string 3 0xEE8080) (taken 3)
    ∷ gives (string 3 0xEFBFBF) (taken 3)
    ∷ gives (string 4 0xF08FBFBF) bad_text
    ∷ gives (string 4 0xF0908080) (taken 4)
    ∷ gives (string 4 0xF48FBFBF) (taken 4)
    ∷ gives (string 4 0xF4908080) bad_text
    ∷ gives (string 4 0xF5808080) bad_text
    ∷ gives (string 2 0xE0A0) bad_text
    ∷ gives (shown_text (string_at Q.Strict (hex 3 0x034142) 0)) cut_short
    -- strings that were judged before: any prefix and any text, and nothing where the text is not all there
    ∷ gives (shown_span (span_at (hex 3 0x024142) 0)) (1 ∷ 3 ∷ [])
    ∷ gives (shown_span (span_at (hex 8 0x0082808080004142) 1)) (6 ∷ 8 ∷ [])
    ∷ gives (shown_span (span_at (hex 2 0x01FF) 0)) (1 ∷ 2 ∷ [])
    ∷ gives (shown_span (span_at (hex 3 0x034142) 0)) (0 ∷ 0 ∷ [])
    ∷ gives (shown_span (span_at (hex 2 0x8480) 1)) (1 ∷ 1 ∷ [])
    -- Boolean, Char, Decimal, DateTime
    ∷ gives (value 1 1 0x00) (ends 1)
    ∷ gives (value 1 1 0x01) (ends 1)
    ∷ gives (value 1 1 0x02) bad_value
    ∷ gives (value 3 3 0x41C3A9) (ends 1)
    ∷ gives (value 3 3 0xC3A941) (ends 2)
    ∷ gives (value 3 4 0xE282AC41) (ends 3)
    ∷ gives (value 3 5 0xF09F988041) (ends 4)
    ∷ gives (value 3 3 0xE09FBF) bad_value
    ∷ gives (value 3 2 0xE282) cut_short
    ∷ gives (value 3 2 0x8041) bad_value
    ∷ gives (decimal_of 29 0x3739323238313632353134323634333337353933353433393530333335) (ends 30)
    ∷ gives (decimal_of 29 0x3739323238313632353134323634333337353933353433393530333336) bad_value
    ∷ gives (decimal_of 31 0x37393232383136323531343236343333373539333534333935303333352E30) (ends 32)
    ∷ gives (decimal_of 31 0x37393232383136323531343236343333373539333534333935303333352E31) bad_value
    ∷ gives (decimal_of 31 0x37393232383136323531343236343333373539333534333935303333342E39) (ends 32)
    ∷ gives (decimal_of 4 0x2D302E35) (ends 5)
    ∷ gives (decimal_of 3 0x303037) (ends 4)
    ∷ gives (decimal_of 1 0x2D) bad_value
    ∷ gives (decimal_of 2 0x2E35) bad_value
    ∷ gives (decimal_of 2 0x352E) bad_value
    ∷ gives (decimal_of 4 0x31324535) bad_value
    ∷ gives (decimal_of 2 0x312D) bad_value
    ∷ gives (decimal_of 0 0) bad_value
    -- a Decimal's prefix is judged as any other; then its text
    ∷ gives (decimal_by Q.Strict 3 0x810037) bad_length
    ∷ gives (decimal_by Q.Lenient 3 0x810037) (ends 3)
    ∷ gives (decimal_by Q.Lenient 3 0x81002D) bad_value
    ∷ gives (decimal_by Q.Lenient 2 0x8100) cut_short
    -- of each kind of DateTime the first tick, the last, one more, and the bits before the next kind; kind 3; bit 61 alone; a byte that is missing
    ∷ gives (value 13 8 0x0000000000000000) (ends 8)
    ∷ gives (value 13 8 0xFF3F37F47528CA2B) (ends 8)
    ∷ gives (value 13 8 0x004037F47528CA2B) bad_value
    ∷ gives (value 13 8 0xFFFFFFFFFFFFFF3F) bad_value
    ∷ gives (value 13 8 0x0000000000000040) (ends 8)
    ∷ gives (value 13 8 0xFF3F37F47528CA6B) (ends 8)
    ∷ gives (value 13 8 0x004037F47528CA6B) bad_value
    ∷ gives (value 13 8 0xFFFFFFFFFFFFFF7F) bad_value
    ∷ gives (value 13 8 0x0000000000000080) (ends 8)
    ∷ gives (value 13 8 0xFF3F37F47528CAAB) (ends 8)
    ∷ gives (value 13 8 0x004037F47528CAAB) bad_value
    ∷ gives (value 13 8 0xFFFFFFFFFFFFFFBF) bad_value
    ∷ gives (value 13 8 0x00000000000000C0) bad_value
    ∷ gives (value 13 8 0xFF3F37F47528CAEB) bad_value
    ∷ gives (value 13 8 0x0000000000000020) (ends 8)
    ∷ gives (value 13 7 0xFF3F37F47528CA) cut_short
    -- where a value ends, and where three items end, by code
    ∷ gives (each value_end codes) (0 ∷ 1 ∷ 0 ∷ 1 ∷ 0 ∷ 1 ∷ 0 ∷ 8 ∷ 0 ∷ 2 ∷ 0 ∷ 4 ∷ 0 ∷ 8 ∷ 0 ∷ 1 ∷ 0 ∷ 4 ∷ 0 ∷ 8 ∷ 0 ∷ 8 ∷ 0 ∷ 2 ∷ 0 ∷ 4 ∷ 0 ∷ 8 ∷ [])
    ∷ gives (each items_end codes) (0 ∷ 3 ∷ 0 ∷ 3 ∷ 0 ∷ 3 ∷ 0 ∷ 24 ∷ 0 ∷ 6 ∷ 0 ∷ 12 ∷ 0 ∷ 24 ∷ 0 ∷ 3 ∷ 0 ∷ 12 ∷ 0 ∷ 24 ∷ 0 ∷ 24 ∷ 0 ∷ 6 ∷ 0 ∷ 12 ∷ 0 ∷ 24 ∷ [])
    ∷ gives (shown_field (items_at Q.Strict (replicate 23 1) (coded (primitive_of 6)) 3 0)) cut_short
    -- codes, type bytes, details and slots
    ∷ gives (map (λ (b : ℕ). shown_code (primitive_of b)) (17 ∷ 18 ∷ 0 ∷ 4 ∷ 5 ∷ codes)) (0 ∷ 0 ∷ 0 ∷ 0 ∷ 5 ∷ 1 ∷ 2 ∷ 3 ∷ 6 ∷ 7 ∷ 8 ∷ 9 ∷ 10 ∷ 11 ∷ 12 ∷ 13 ∷ 14 ∷ 15 ∷ 16 ∷ [])
    ∷ gives (shown_field (type_byte_at (7 ∷ []) 0)) (ends 1)
    ∷ gives (shown_field (type_byte_at (8 ∷ []) 0)) bad_type
    ∷ gives (shown_field (type_byte_at (7 ∷ []) 1)) cut_short
    ∷ gives (each detail types) (0 ∷ 1 ∷ 0 ∷ 0 ∷ 0 ∷ 0 ∷ 0 ∷ 2 ∷ 0 ∷ 6 ∷ 0 ∷ 0 ∷ 0 ∷ 0 ∷ 0 ∷ 1 ∷ [])
    ∷ gives (shown_field (info_at Q.Strict (hex 6 0x014100000000) 4 0)) bad_id
    ∷ gives (shown_field (info_at Q.Strict (hex 6 0x014100000080) 4 0)) bad_id
    ∷ gives (shown_field (info_at Q.Strict (4 ∷ []) 0 0)) bad_type
    ∷ gives (each (λ (t : ℕ). shown_slot (slot_of t 13)) types) (0 ∷ 13 ∷ 1 ∷ 2 ∷ 3 ∷ 4 ∷ 5 ∷ 6 ∷ 7 ∷ 13 ∷ [])
    -- the text of a row, by its words; no row but the first is there
    ∷ gives (text_by 6 0 7 0) (0x41 ∷ [])
    ∷ gives (text_by 6 0 6 0) []
    ∷ gives (text_by 6 0 8 0) []
    ∷ gives (text_by 17 0 7 0) []
    ∷ gives (text_by 6 1 7 0) []
    ∷ gives (text_by 6 7 7 0) []
    ∷ gives (text_by 6 0 7 1) []
    ∷ gives (padded Q.Strict) []
    ∷ gives (padded Q.Lenient) (0x41 ∷ [])
    ∷ gives (padded_asked Q.Strict) (21 ∷ [])
    ∷ gives (padded_asked Q.Lenient) (0 ∷ [])
    ∷ []

-- the numbers, from k on, of the entries that fail
unfoldable pub failing : ℕ → List Worked → List ℕ
failing k [] = []
failing k (e ∷ es) = pick (same_bytes e.found e.wanted) [] (k ∷ []) ++ failing (suc k) es
