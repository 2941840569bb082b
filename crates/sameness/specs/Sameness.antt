-- Do two lists say the same: the promise of the comparing job, a relation between what is lent and what comes of it, as those of the four public jobs
-- are. The answer and what is left come from the two readings, each under its own terms; and an answer that compares is right about what the lists mean.
use Rattle.std.specs.Prelude.{ℕ, ◌≤◌, ◌≡◌, ◌↔◌, Bool, true, false, List, [], length, Result, Ok, Err}
use Rattle.format.specs.declared.Untidied.{Untidied}
use Rattle.format.specs.declared.Uncompared.{Uncompared}
use Rattle.format.specs.declared.Untidied.TheVariants as Q
use Rattle.format.specs.declared.Uncompared.TheVariants as S
use Rattle.format.specs.Terms.{Terms}
use Rattle.format.specs.declared.Row.{Row}
use Rattle.format.specs.Bytes.{pick, same_bytes}
use Rattle.format.specs.Rows.{room_of}
use Rattle.format.specs.Machine.{Outcome, accepted, refused, read_of}
use Rattle.format.specs.Grammar.{Reading}
use Rattle.format.specs.Says.{says}
use Rattle.format.specs.Meant.{meant_by}
use Rattle.format.specs.Tidy.{tidy_of, tidy_answer, tidy_output, tidy_table}
use Rattle.format.specs.Replies.{same_reply, of_tidying, of_comparing}

-- the tidy copy of a stream with this book and this outcome; a refused one has none
abbrev pub copied : (β s : List ℕ) → Outcome → List ℕ
copied β s (accepted rows) = tidy_of (says β s rows)
copied β s (refused r p) = []

-- the answer from both tidyings and whether the copies are the same; the first list's trouble goes before the second's
abbrev pub answer_of : Result ℕ Untidied → Result ℕ Untidied → Bool → Result Bool Uncompared
answer_of (Ok m) (Ok n) same = Ok same
answer_of (Ok m) (Err why) same = Err (S.Second why)
answer_of (Err why) q same = Err (S.First why)

abbrev pub is_written : Result ℕ Untidied → Bool
is_written (Ok n) = true
is_written (Err why) = false

-- whether the lists were compared
abbrev pub is_compared : Result Bool Uncompared → Bool
is_compared (Ok same) = true
is_compared (Err why) = false

-- both lists, a read under τ and b under υ, have readings of so many rows at most, and the answer is Same exactly when their records mean the same
pub record Exact (τ υ : Terms) (a b : List ℕ) (room : ℕ) (q : Result Bool Uncompared) : Type 0 where
  pub rows : List Row
  pub others : List Row
  pub first : Reading τ a rows
  pub second : Reading υ b others
  pub first_fits : length rows ≤ room
  pub second_fits : length others ≤ room
  pub exactly : (q ≡ Ok true) ↔ (meant_by first ≡ meant_by second)

-- comparing the lists a, under τ, and b, under υ, with a table that held t and outputs that held c and d answers q and leaves w, e and f in them: the
-- second list is tidied where the first has its copy
pub record ComparePromise (τ υ : Terms) (a b t c d : List ℕ) (q : Result Bool Uncompared) (w e f : List ℕ) : Type 0 where
  pub answer : q
      ≡ answer_of (tidy_answer τ.book a c (read_of τ a (room_of t))) (tidy_answer υ.book b d (read_of υ b (room_of t)))
      (same_bytes (copied τ.book a (read_of τ a (room_of t))) (copied υ.book b (read_of υ b (room_of t))))
  pub numbers : same_reply q ≡ of_comparing (of_tidying τ.book a c (read_of τ a (room_of t))) (of_tidying υ.book b d (read_of υ b (room_of t)))
  pub exact : is_compared q ≡ true → Exact τ υ a b (room_of t) q
  pub table : w
      ≡ pick (is_written (tidy_answer τ.book a c (read_of τ a (room_of t)))) (tidy_table (length t) υ.book b d (read_of υ b (room_of t)))
      (tidy_table (length t) τ.book a c (read_of τ a (room_of t)))
  pub first : e ≡ tidy_output τ.book a c (read_of τ a (room_of t))
  pub second : f ≡ pick (is_written (tidy_answer τ.book a c (read_of τ a (room_of t)))) (tidy_output υ.book b d (read_of υ b (room_of t))) d
