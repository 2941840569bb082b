-- Replies by number: the refusals, and the values of each answer of the public jobs and of the comparing one.
use Rattle.std.specs.Prelude.{ℕ, List, length, eqb, Bool, true, false, Result, Ok, Err}
use Rattle.format.specs.declared.Span.{Span}
use Rattle.format.specs.declared.Refused.{Refused}
use Rattle.format.specs.declared.Untidied.{Untidied}
use Rattle.format.specs.declared.Uncompared.{Uncompared}
use Rattle.format.specs.declared.Untidied.TheVariants as Tidy
use Rattle.format.specs.declared.Uncompared.TheVariants as Same
use Rattle.format.specs.declared.Refusal.{Refusal}
use Rattle.format.specs.declared.Refusal.TheVariants as R
use Rattle.format.specs.declared.RowAnswer.{RowAnswer}
use Rattle.format.specs.declared.RowAnswer.TheVariants as Row
use Rattle.format.specs.Bytes.{pick}
use Rattle.format.specs.Machine.{Outcome, accepted, refused}
use Rattle.format.specs.Says.{says}
use Rattle.format.specs.Tidy.{tidy_of, fits}

-- the number of each refusal
abbrev pub number_of : Refusal → ℕ
number_of R.TooLarge = 1
number_of R.CutShort = 2
number_of R.UnknownKind = 3
number_of R.NotTaken = 4
number_of R.WrongPlace = 5
number_of R.BadVersion = 6
number_of R.BadLength = 7
number_of R.BadText = 8
number_of R.BadCount = 9
number_of R.BadType = 10
number_of R.BadValue = 11
number_of R.BadId = 12
number_of R.NoLibrary = 13
number_of R.NoClass = 14
number_of R.TooDeep = 15
number_of R.NoRoom = 16
number_of R.Trailing = 17
number_of R.NoRoot = 18
number_of R.NoObject = 19
number_of R.OutFull = 20
number_of R.NoSuchRow = 21
number_of R.BadBook = 22

-- what an answer says: 0 or the refusal's number, its place, and the value: how many rows, how long the copy is or would be
pub record Reply : Type 0 where
  pub number : ℕ
  pub place : ℕ
  pub value : ℕ

abbrev pub reply : ℕ → ℕ → ℕ → Reply
reply n p v = record { number = n; place = p; value = v }

abbrev pub read_reply : Result ℕ Refused → Reply
read_reply (Ok rows) = reply 0 0 rows
read_reply (Err r) = reply (number_of r.refusal) r.place 0

abbrev pub row_reply : RowAnswer → Reply
row_reply Row.HasText = reply 0 0 0
row_reply Row.NoSuchRow = reply (number_of R.NoSuchRow) 0 0

abbrev pub tidy_reply : Result ℕ Untidied → Reply
tidy_reply (Ok size) = reply 0 0 size
tidy_reply (Err (Tidy.Refused r)) = reply (number_of r.refusal) r.place 0
tidy_reply (Err (Tidy.OutFull size)) = reply (number_of R.OutFull) 0 size

-- the tidying that ends a comparing: 0 and no length where both copies are written
abbrev pub ending_of : Result Bool Uncompared → Result ℕ Untidied
ending_of (Ok same) = Ok 0
ending_of (Err (Same.First why)) = Err why
ending_of (Err (Same.Second why)) = Err why

-- the list that is refused or has no room for its copy; 0 where neither is
abbrev pub list_of : Result Bool Uncompared → ℕ
list_of (Ok same) = 0
list_of (Err (Same.First why)) = 1
list_of (Err (Same.Second why)) = 2

-- 1 where the lists say the same
abbrev pub same_of : Result Bool Uncompared → ℕ
same_of (Ok true) = 1
same_of (Ok false) = 0
same_of (Err why) = 0

abbrev pub same_reply : Result Bool Uncompared → Reply
same_reply q = tidy_reply (ending_of q)

-- ---- what a job comes to, in these numbers

-- a reading: how many rows there are, or the refusal and its place
abbrev pub of_reading : Outcome → Reply
of_reading (accepted rows) = reply 0 0 (length rows)
of_reading (refused r place) = reply (number_of r) place 0

-- the row question, by the text that the row has
abbrev pub of_question : Result Span Refusal → Reply
of_question (Ok t) = reply 0 0 0
of_question (Err f) = reply 21 0 0

-- a tidying of s into an output that held d: how long the copy is or would be, or the refusal of the reading and its place
abbrev pub of_tidying : (β s d : List ℕ) → Outcome → Reply
of_tidying β s d (accepted rows) =
    pick (fits (tidy_of (says β s rows)) d) (reply 0 0 (length (tidy_of (says β s rows)))) (reply 20 0 (length (tidy_of (says β s rows))))
of_tidying β s d (refused r place) = reply (number_of r) place 0

-- a comparing, by the replies of both tidyings: the first that is not 0, else 0 without a value
abbrev pub of_comparing : Reply → Reply → Reply
of_comparing x y = pick (eqb x.number 0) (pick (eqb y.number 0) (reply 0 0 0) y) x
