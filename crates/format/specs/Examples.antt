-- Tables of worked examples: the terms, a stream, the sizes of the lent table and output, and what must come of reading and tidying. That no entry fails is
-- one computed fact; where one fails, the refusal of that fact names it.
use Rattle.std.specs.Prelude.{ℕ, zero, suc, ◌-◌, ◌/◌, ◌%◌, Bool, true, false, ◌&&◌, List, [], ◌∷◌, ◌++◌, length, replicate, eqb}
use Rattle.format.specs.declared.Setting.{Setting}
use Rattle.format.specs.Bytes.{pick, same_bytes, laid}
use Rattle.format.specs.Terms.{Terms, strict, lenient}
use Rattle.format.specs.Replies.{Reply, reply, read_reply, row_reply, tidy_reply}
use Rattle.format.specs.Machine.{Outcome, read_of, read_answer, table_words}
use Rattle.format.specs.View.{row_question, text_view}
use Rattle.format.specs.Tidy.{tidy_answer, tidy_output, tidy_table}

-- n bytes, written as one number in base 16
unfoldable pub hex_onto : ℕ → ℕ → List ℕ → List ℕ
hex_onto zero x l = l
hex_onto (suc n) x l = hex_onto n (x / 256) ((x % 256) ∷ l)

abbrev pub hex : ℕ → ℕ → List ℕ
hex n x = hex_onto n x []

pub data ToRead : Type 0 where
  -- the rows' words; then, for each row with text, its number, how long the text is, and the text
  accepts : (words texts : List ℕ) → ToRead
  refuses : (number place : ℕ) → ToRead

pub data ToTidy : Type 0 where
  writes : (copy : List ℕ) → ToTidy
  -- the reading is refused
  as_read : ToTidy
  -- number 20, with the needed length
  needs : (length : ℕ) → ToTidy

pub record Example : Type 0 where
  pub terms : Terms
  pub stream : List ℕ
  pub words : ℕ
  pub out : ℕ
  pub read : ToRead
  pub tidy : ToTidy

abbrev pub entry_by : Terms → List ℕ → ℕ → ℕ → ToRead → ToTidy → Example
entry_by τ s n o r t = record { terms = τ; stream = s; words = n; out = o; read = r; tidy = t }

-- strict, and lenient
abbrev pub entry : List ℕ → ℕ → ℕ → ToRead → ToTidy → Example
entry = entry_by strict

abbrev pub leniently : List ℕ → ℕ → ℕ → ToRead → ToTidy → Example
leniently = entry_by lenient

-- what is shown of a row: nothing where the question answers 21 and the text is empty
abbrev pub shown_text : ℕ → ℕ → List ℕ → List ℕ
shown_text zero i t = i ∷ length t ∷ t
shown_text (suc k) i [] = pick (eqb k 20) [] (k ∷ [])
shown_text (suc k) i (b ∷ t) = k ∷ b ∷ t

abbrev pub same_reply : Reply → Reply → Bool
same_reply a b = eqb a.number b.number && (eqb a.place b.place && eqb a.value b.value)

-- the reply and every word of the table after reading
abbrev pub read_reply_of : ToRead → Reply
read_reply_of (accepts ws texts) = reply 0 0 (length ws / 8)
read_reply_of (refuses n p) = reply n p 0

abbrev pub words_of : ℕ → ToRead → List ℕ
words_of n (accepts ws texts) = ws ++ replicate (n - length ws) 0
words_of n (refuses k p) = replicate n 0

-- the texts of n rows from row i on, by the row question and the text view
unfoldable pub texts_from : Setting → List ℕ → List ℕ → ℕ → ℕ → List ℕ
texts_from σ s table zero i = []
texts_from σ s table (suc n) i =
    shown_text (row_reply (row_question σ s table i)).number i (text_view σ s table i) ++ texts_from σ s table n (suc i)

abbrev pub texts_of : ToRead → List ℕ
texts_of (accepts ws texts) = texts
texts_of (refuses n p) = []

-- every row is asked, and one that is not there
abbrev pub asked : ToRead → ℕ
asked (accepts ws texts) = suc (length ws / 8)
asked (refuses n p) = 1

abbrev pub texts_hold : Example → List ℕ → Bool
texts_hold e table = same_bytes (texts_from e.terms.setting e.stream table (asked e.read) 0) (texts_of e.read)

abbrev pub read_holds : Example → Outcome → Bool
read_holds e o = texts_hold e (table_words e.words o) && (same_reply (read_reply (read_answer o)) (read_reply_of e.read) && same_bytes (table_words e.words o) (words_of e.words e.read))

-- the reply, every byte of the output and every word of the table after tidying; the output was full of AA before
abbrev pub before : Example → List ℕ
before e = replicate e.out 0xAA

abbrev pub tidy_reply_of : Example → ToTidy → Reply
tidy_reply_of e (writes c) = reply 0 0 (length c)
tidy_reply_of e as_read = read_reply_of e.read
tidy_reply_of e (needs n) = reply 20 0 n

abbrev pub output_of : Example → ToTidy → List ℕ
output_of e (writes c) = laid c (before e)
output_of e as_read = before e
output_of e (needs n) = before e

abbrev pub table_of : Example → ToTidy → List ℕ
table_of e (writes c) = words_of e.words e.read
table_of e as_read = replicate e.words 0
table_of e (needs n) = replicate e.words 0

abbrev pub tidy_as : Example → Outcome → ToTidy → Bool
tidy_as e o t =
    same_reply (tidy_reply (tidy_answer e.terms.book e.stream (before e) o)) (tidy_reply_of e t)
    && (same_bytes (tidy_output e.terms.book e.stream (before e) o) (output_of e t) && same_bytes (tidy_table e.words e.terms.book e.stream (before e) o) (table_of e t))

abbrev pub tidy_holds : Example → Outcome → ToTidy → Bool
tidy_holds e o (writes c) = tidy_as e o (writes c)
tidy_holds e o as_read = tidy_as e o as_read
tidy_holds e o (needs n) = tidy_as e o (needs n)

abbrev pub both_hold : Example → Outcome → Bool
both_hold e o = read_holds e o && tidy_holds e o e.tidy

unfoldable pub holds : Example → Bool
holds e = both_hold e (read_of e.terms e.stream (e.words / 8))

-- the numbers, from k on, of the entries that fail
unfoldable pub failing : ℕ → List Example → List ℕ
failing k [] = []
failing k (e ∷ es) = pick (holds e) [] (k ∷ []) ++ failing (suc k) es

-- named after the first entry that fails
pub data EntryFails (k : ℕ) : Type 0 where

abbrev pub None : List ℕ → Type 0
None [] = Unit {0}
None (k ∷ ks) = EntryFails k
