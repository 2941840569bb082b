-- How the code holds the machine's state: rows in the table, frames in a flat array, the rest in a struct.
use Rattle.std.specs.Prelude.{ℕ, ◌≤◌, List, Result, Ok, Err}
use Rattle.format.specs.declared.Refused.{Refused}
use Rattle.format.specs.declared.Refusal.{Refusal}
use Rattle.format.specs.declared.Head.{Head}
use Rattle.format.specs.declared.Reader.{Reader}
use Rattle.format.specs.Rows.{rows_of}
use Rattle.format.specs.Machine.{State, Next, go, ended, refuse}
use Rattle.frames.specs.Frames.{open_of}
use Rattle.adding.specs.declared.Progress.{Progress}
use Rattle.adding.specs.declared.Progress.TheVariants as Q

abbrev pub state_of : List ℕ → List ℕ → Reader → State
state_of t f m = record { at = m.at; rows = rows_of m.rows t; stack = open_of f m }

-- what a step's answer says, given the table and the frames that it leaves
abbrev pub after : List ℕ → List ℕ → Result Progress Refused → Next
after t f (Ok (Q.Go m)) = go (state_of t f m)
after t f (Ok (Q.Ended n at)) = ended (rows_of n t) at
after t f (Err r) = refuse r.refusal r.place

-- the bounds between two records, at a table with this room
pub record Held (room : ℕ) (m : Reader) : Type 0 where
  pub inside : m.at ≤ 16777216
  pub counted : m.rows ≤ 16777216
  pub roomy : m.rows ≤ room
  pub shallow : m.depth ≤ 64

-- a heading whose end can be a word
abbrev pub Short : Result Head Refusal → Type 0
Short (Ok h) = h.end ≤ 16777216
Short (Err f) = Unit {0}
