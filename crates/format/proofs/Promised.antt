-- An answer that is right has the right numbers (format: Promises).
use Rattle.std.specs.Prelude.{ℕ, ◌≡◌, refl, Bool, true, false, List, length, Result, Ok, Err}
use Rattle.format.specs.declared.Refusal.{Refusal}
use Rattle.format.specs.declared.Span.{Span}
use Rattle.format.specs.declared.Refused.{Refused}
use Rattle.format.specs.declared.Untidied.{Untidied}
use Rattle.format.specs.declared.Untidied.TheVariants as Q
use Rattle.std.proofs.Common.{ap, ◌∙◌}
use Rattle.format.specs.declared.Setting.{Setting}
use Rattle.format.specs.Terms.{Terms}
use Rattle.format.specs.declared.RowAnswer.{RowAnswer}
use Rattle.format.specs.Bytes.{pick}
use Rattle.format.specs.Rows.{room_of}
use Rattle.format.specs.Machine.{Outcome, accepted, refused, read_of, read_answer, table_words}
use Rattle.format.specs.View.{row_text, question_of, row_question, text_view}
use Rattle.format.specs.Says.{says}
use Rattle.format.specs.Tidy.{tidy_of, fits, tidy_answer, tidy_output, tidy_table}
use Rattle.format.specs.Replies.{reply, read_reply, row_reply, tidy_reply, of_reading, of_question, of_tidying}
use Rattle.format.specs.Promises.{ReadPromise, QuestionPromise, TidyPromise}

pub read_promised : (τ : Terms) (s t : List ℕ) (a : Result ℕ Refused) (u : List ℕ) → a ≡ read_answer (read_of τ s (room_of t)) → u ≡ table_words (length t) (read_of τ s (room_of t))
    → ReadPromise τ s t a u
unfolding read_answer
read_promised τ s t a u e w = record { answer = e; numbers = ap read_reply e ∙ numbered (read_of τ s (room_of t)); table = w }
  where
    numbered : (o : Outcome) → read_reply (read_answer o) ≡ of_reading o
    numbered (accepted rows) = refl
    numbered (refused r place) = refl

pub question_promised : (σ : Setting) (s t : List ℕ) (row : ℕ) (a : RowAnswer) → a ≡ row_question σ s t row → QuestionPromise σ s t row a
unfolding row_question
question_promised σ s t row a e = record { answer = e; numbers = ap row_reply e ∙ numbered (row_text σ s t row) }
  where
    numbered : (x : Result Span Refusal) → row_reply (question_of x) ≡ of_question x
    numbered (Ok t) = refl
    numbered (Err f) = refl

pub tidy_promised : (τ : Terms) (s t d : List ℕ) (q : Result ℕ Untidied) (u e : List ℕ) → q ≡ tidy_answer τ.book s d (read_of τ s (room_of t))
    → u ≡ tidy_table (length t) τ.book s d (read_of τ s (room_of t)) → e ≡ tidy_output τ.book s d (read_of τ s (room_of t)) → TidyPromise τ s t d q u e
unfolding tidy_answer
tidy_promised τ s t d q u e a w o =
    record { answer = a; numbers = ap tidy_reply a ∙ numbered (read_of τ s (room_of t)); table = w; output = o }
  where
    by : (b : Bool) (n : ℕ) → tidy_reply (pick b (Ok n) (Err (Q.OutFull n))) ≡ pick b (reply 0 0 n) (reply 20 0 n)
    by true n = refl
    by false n = refl

    numbered : (o : Outcome) → tidy_reply (tidy_answer τ.book s d o) ≡ of_tidying τ.book s d o
    numbered (accepted rows) = by (fits (tidy_of (says τ.book s rows)) d) (length (tidy_of (says τ.book s rows)))
    numbered (refused r place) = refl
