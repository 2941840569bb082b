-- The promises of the four public jobs, each a relation between what is lent and what comes of it. The jobs' contracts are these words.
use Rattle.std.specs.Prelude.{ℕ, ◌≡◌, refl, Bool, true, false, List, length, Result}
use Rattle.format.specs.declared.Refused.{Refused}
use Rattle.format.specs.declared.Untidied.{Untidied}
use Rattle.std.proofs.Common.{ap, ◌∙◌}
use Rattle.format.specs.declared.Setting.{Setting}
use Rattle.format.specs.Terms.{Terms}
use Rattle.format.specs.declared.RowAnswer.{RowAnswer}
use Rattle.format.specs.Bytes.{pick}
use Rattle.format.specs.Rows.{room_of}
use Rattle.format.specs.Machine.{Outcome, accepted, refused, read_of, read_answer, table_words}
use Rattle.format.specs.View.{row_text, question_of, row_question, text_view}
use Rattle.format.specs.Says.{says}
use Rattle.format.specs.Tidy.{tidy_of, fits, tidy_answer, tidy_output, tidy_table}
use Rattle.format.specs.Replies.{reply, read_reply, row_reply, tidy_reply, of_reading, of_question, of_tidying}

-- reading s into a table that held t answers a and leaves u in the table
pub record ReadPromise (τ : Terms) (s t : List ℕ) (a : Result ℕ Refused) (u : List ℕ) : Type 0 where
  pub answer : a ≡ read_answer (read_of τ s (room_of t))
  pub numbers : read_reply a ≡ of_reading (read_of τ s (room_of t))
  pub table : u ≡ table_words (length t) (read_of τ s (room_of t))

-- the row question about a row of the table t answers a
pub record QuestionPromise (σ : Setting) (s t : List ℕ) (row : ℕ) (a : RowAnswer) : Type 0 where
  pub answer : a ≡ row_question σ s t row
  pub numbers : row_reply a ≡ of_question (row_text σ s t row)

-- the text view of a row of the table t shows v
abbrev pub ViewPromise : Setting → (s t : List ℕ) → ℕ → (v : List ℕ) → Type 0
ViewPromise σ s t row v = v ≡ text_view σ s t row

-- tidying s with a table that held t and an output that held d answers q, leaves u in the table and e in the output
pub record TidyPromise (τ : Terms) (s t d : List ℕ) (q : Result ℕ Untidied) (u e : List ℕ) : Type 0 where
  pub answer : q ≡ tidy_answer τ.book s d (read_of τ s (room_of t))
  pub numbers : tidy_reply q ≡ of_tidying τ.book s d (read_of τ s (room_of t))
  pub table : u ≡ tidy_table (length t) τ.book s d (read_of τ s (room_of t))
  pub output : e ≡ tidy_output τ.book s d (read_of τ s (room_of t))

-- ---- an answer that is right has the right numbers
