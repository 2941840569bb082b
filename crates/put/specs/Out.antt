-- The bytes that the writers put out: parts of the stream, texts after the prefix of their length, numbers, and null runs.
use Rattle.std.specs.Prelude.{ℕ, zero, suc, ◌-◌, List, [], ◌∷◌, ◌++◌}
use Rattle.format.specs.Bytes.{part}
use Rattle.format.specs.Numbers.{le_bytes}
use Rattle.format.specs.Prefix.{prefix_bytes}
use Rattle.format.specs.Text.{span_at}
use Rattle.format.specs.Types.{after_text}
use Rattle.format.specs.Contents.{encs}
use Rattle.format.specs.Tidy.{run_of}

-- the bytes of the stream from a to b
abbrev pub between : List ℕ → ℕ → ℕ → List ℕ
between s a b = part s a (b - a)

-- the text of the string at p, after a prefix of its length
unfoldable pub text_out : List ℕ → ℕ → List ℕ
text_out s p = prefix_bytes ((span_at s p).to - (span_at s p).from) ++ between s (span_at s p).from (span_at s p).to

-- n strings in a row
unfoldable pub texts_out : List ℕ → ℕ → ℕ → List ℕ
texts_out s zero p = []
texts_out s (suc n) p = text_out s p ++ texts_out s n (after_text s p)

-- a kind byte and a number
abbrev pub head_out : ℕ → ℕ → List ℕ
head_out kind n = kind ∷ le_bytes 4 n

-- an object by the first of its class
unfoldable pub by_id_out : ℕ → ℕ → List ℕ
by_id_out id first = head_out 1 id ++ le_bytes 4 first

-- RootId and HeaderId alike, version 1, 0
unfoldable pub header_out : ℕ → List ℕ
header_out root = head_out 0 root ++ (le_bytes 4 root ++ (le_bytes 4 1 ++ le_bytes 4 0))

-- a null run: kind 10, 13 or 14
unfoldable pub run_out : ℕ → List ℕ
run_out n = encs (run_of n)
