-- What stands at a place of a stream: every place is taken, and past the end stand zeros and empty texts. Of a stream whose fields are good it
-- is what the format's own definitions find there.
use Rattle.std.specs.Prelude.{ℕ, suc, ◌+◌, ◌*◌, Bool, true, false, ◌||◌, List, [], ◌∷◌, length, get_or, drop, ltb, leb, eqb}
use Rattle.format.specs.declared.Span.{Span}
use Rattle.format.specs.Bytes.{pick}
use Rattle.format.specs.Text.{span_at}

-- the place n bytes on, never past the end
unfoldable pub onward : List ℕ → ℕ → ℕ → ℕ
onward s at n = pick (leb (at + n) (length s)) (at + n) (length s)

-- the place after the rank of an array and so many lengths, four bytes each
abbrev pub after_lengths : List ℕ → ℕ → ℕ → ℕ
after_lengths s at rank = onward s at (4 + 4 * rank)

abbrev pub byte_at : List ℕ → ℕ → ℕ
byte_at s at = get_or s at 0

-- ---- numbers, by halves

unfoldable pub two_at : List ℕ → ℕ → ℕ
two_at s at = byte_at s at + 256 * byte_at s (onward s at 1)

unfoldable pub four_at : List ℕ → ℕ → ℕ
four_at s at = two_at s at + 65536 * two_at s (onward s at 2)

unfoldable pub eight_at : List ℕ → ℕ → ℕ
eight_at s at = four_at s at + 4294967296 * four_at s (onward s at 4)

-- ---- the texts of strings

-- the text of a string, whatever form its prefix has; an empty text where it is not all there
unfoldable pub string_span : List ℕ → ℕ → Span
string_span s at = span_at s (onward s at 0)

unfoldable pub after_string : List ℕ → ℕ → ℕ
after_string s at = (string_span s at).to

-- no control character and no backslash
unfoldable pub is_plain : ℕ → Bool
is_plain b =
    pick (ltb b 32) false
    (pick (eqb b 34) false
    (pick (eqb b 92) false (pick (eqb b 96) false (pick (eqb b 127) false (pick (eqb b 194) false (pick (eqb b 226) false true))))))

-- how many bytes a character has that is not shown as it is, by the number of its first three bytes; 0 where it is shown
unfoldable pub hidden_by : ℕ → ℕ
hidden_by n =
    pick (ltb n 0xC28000) 1
    (pick (ltb n 0xC2A000) 2
    (pick (ltb n 0xE280A8) 0 (pick (ltb n 0xE280AF) 3 (pick (ltb n 0xE281A6) 0 (pick (ltb n 0xE281AA) 3 0)))))

abbrev pub hidden_at : List ℕ → ℕ → ℕ
hidden_at s at = hidden_by (65536 * byte_at s at + 256 * byte_at s (onward s at 1) + byte_at s (onward s at 2))

-- how many plain bytes begin a list
unfoldable pub plain_count : List ℕ → ℕ
plain_count [] = 0
plain_count (b ∷ l) = pick (is_plain b) (suc (plain_count l)) 0

-- the first place from at on whose byte is not plain, or the end
unfoldable pub plain_end : List ℕ → ℕ → ℕ
plain_end s at = at + plain_count (drop at s)

-- ---- primitive values

-- how many bytes a Char has, by the first of them
unfoldable pub char_size : ℕ → ℕ
char_size b = pick (ltb b 128) 1 (pick (ltb b 224) 2 (pick (ltb b 240) 3 4))

-- how many bytes a value has whose code alone says so
unfoldable pub fixed_size : ℕ → ℕ
fixed_size code =
    pick (eqb code 1 || (eqb code 2 || eqb code 10)) 1
    (pick (eqb code 7 || eqb code 14) 2 (pick (eqb code 8 || (eqb code 11 || eqb code 15)) 4 8))

-- the place after a value
unfoldable pub after_value : List ℕ → ℕ → ℕ → ℕ
after_value s at code =
    pick (eqb code 3) (onward s at (char_size (byte_at s at)))
    (pick (eqb code 5) (after_string s at) (onward s at (fixed_size code)))
