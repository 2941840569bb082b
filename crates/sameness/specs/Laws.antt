-- The comparing job from its parts: what a written copy says of its list and its output, and one law for each way that a function ends.
use Rattle.std.specs.Prelude.{ℕ, ◌≡◌, Bool, true, false, Result, Ok}
use Rattle.format.specs.declared.Uncompared.{Uncompared}
use mathlib.Core.List.{List}
use Rattle.std.proofs.Math.ListN.{length}
use Rattle.format.specs.Terms.{Terms}
use Rattle.format.specs.Bytes.{pick, same_bytes}
use Rattle.format.specs.Rows.{room_of}
use Rattle.format.specs.Machine.{read_of}
use Rattle.format.specs.Tidy.{tidy_answer, tidy_output, tidy_table}
use Rattle.sameness.specs.Sameness.{copied, answer_of}

abbrev pub compared_as : List ℕ → List ℕ → Result Bool Uncompared
compared_as l m = Ok (same_bytes l m)

-- a list b is tidied with a table that held t into an output that held d, which hold u and f afterwards, and its copy is compared with this one
pub record Against (τ : Terms) (copy b t d u f : List ℕ) (q : Result Bool Uncompared) : Type 0 where
  pub answer : q
      ≡ answer_of (Ok (length copy)) (tidy_answer τ.book b d (read_of τ b (room_of t))) (same_bytes copy (copied τ.book b (read_of τ b (room_of t))))
  pub table : u ≡ tidy_table (length t) τ.book b d (read_of τ b (room_of t))
  pub second : f ≡ tidy_output τ.book b d (read_of τ b (room_of t))
