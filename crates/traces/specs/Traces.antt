-- What the comparing programs take as the hash of a table or output, what stands there before a job, and the sizes that stand before a stream.
use Rattle.std.specs.Prelude.{ℕ, ◌+◌, ◌*◌, ◌%◌, List, [], ◌∷◌, length, replicate, Option, Some, None}
use Rattle.format.specs.Numbers.{u32_at}
use Rattle.traces.specs.declared.Lanes.{Lanes}

-- ---- the hash

-- the lanes after one word more
unfoldable pub stirred : Lanes → ℕ → Lanes
stirred l w = record { a = (l.a * 65599 + w + 1) % 4294967291; b = (l.b * 131071 + w + 1) % 4294967291 }

-- the lanes after a list of words, in its order
unfoldable pub lanes_from : Lanes → List ℕ → Lanes
lanes_from l [] = l
lanes_from l (w ∷ ws) = lanes_from (stirred l w) ws

-- the hash of words, or of bytes taken as words
abbrev pub lanes_of : List ℕ → Lanes
lanes_of ws = lanes_from (record { a = 0; b = 0 }) ws

-- ---- the pattern

-- every word of a table is 165 in each of its four bytes, every byte of an output 165
abbrev pub littered_words : List ℕ → List ℕ
littered_words table = replicate (length table) 2779096485

abbrev pub littered_bytes : List ℕ → List ℕ
littered_bytes out = replicate (length out) 165

-- ---- sizes

abbrev pub or_zero : Option (ℕ × ℕ) → ℕ
or_zero (Some (n, end)) = n
or_zero None = 0

-- the number of four bytes at a place, 0 where a byte of it is missing
abbrev pub size_at : List ℕ → ℕ → ℕ
size_at s at = or_zero (u32_at s at)
