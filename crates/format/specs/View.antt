-- The row question and the text view (01, Replies), on any stream, any table and any row number. A string record is judged by itself.
use Rattle.std.specs.Prelude.{ℕ, ◌+◌, ◌-◌, ◌*◌, List, [], length, get_or, drop, ltb, eqb, Option, Some, None, Result, Ok, Err}
use Rattle.format.specs.declared.Refusal.{Refusal}
use Rattle.format.specs.declared.Span.{Span}
use Rattle.format.specs.declared.Setting.{Setting}
use Rattle.format.specs.declared.Refusal.TheVariants as R
use Rattle.format.specs.declared.RowAnswer.{RowAnswer}
use Rattle.format.specs.declared.RowAnswer.TheVariants as Q
use Rattle.format.specs.declared.Row.{Row}
use Rattle.format.specs.Bytes.{pick, part}
use Rattle.format.specs.Numbers.{u32_at}
use Rattle.format.specs.Text.{string_at}
use Rattle.format.specs.Types.{positive}
use Rattle.format.specs.Rows.{row_of, room_of}

abbrev pub no_text : Result Span Refusal
no_text = Err R.NoSuchRow

-- a positive ObjectId, then the text
abbrev pub after_id : Setting → List ℕ → Option (ℕ × ℕ) → Result Span Refusal
after_id σ s (Some (id, next)) = pick (positive id) (string_at σ s next) no_text
after_id σ s None = no_text

-- the text of a whole string record at a place
unfoldable pub record_text : Setting → List ℕ → ℕ → Result Span Refusal
record_text σ s at = pick (ltb at (length s)) (pick (eqb (get_or s at 0) 6) (after_id σ s (u32_at s (at + 1))) no_text) no_text

-- the text, where it ends here
abbrev pub ending_at : ℕ → Result Span Refusal → Result Span Refusal
ending_at end (Ok t) = pick (eqb t.to end) (Ok t) no_text
ending_at end (Err f) = no_text

abbrev pub text_of_row : Setting → List ℕ → Row → Result Span Refusal
text_of_row σ s r = pick (eqb r.kind 6) (ending_at r.end (record_text σ s r.offset)) no_text

-- where the text of a row stands
unfoldable pub row_text : Setting → List ℕ → List ℕ → ℕ → Result Span Refusal
row_text σ s table row = pick (ltb row (room_of table)) (text_of_row σ s (row_of (drop (8 * row) table))) no_text

abbrev pub question_of : Result Span Refusal → RowAnswer
question_of (Ok t) = Q.HasText
question_of (Err f) = Q.NoSuchRow

-- whether a row has text
unfoldable pub row_question : Setting → List ℕ → List ℕ → ℕ → RowAnswer
row_question σ s table row = question_of (row_text σ s table row)

abbrev pub bytes_of : List ℕ → Result Span Refusal → List ℕ
bytes_of s (Ok t) = part s t.from (t.to - t.from)
bytes_of s (Err f) = []

-- the text of a row, or nothing
unfoldable pub text_view : Setting → List ℕ → List ℕ → ℕ → List ℕ
text_view σ s table row = bytes_of s (row_text σ s table row)
