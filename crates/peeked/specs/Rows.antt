-- A row by the names of its words is the table's row, and the blank row where there is none.
use Rattle.std.specs.Prelude.{ℕ, ◌≤◌, ◌<◌, ◌≡◌, List, get_or}
use Rattle.std.proofs.Common.{arith, add-zero}
use Rattle.std.proofs.Math.Decide.{dec_lt}
use Rattle.format.specs.Rows.{blank, room_of, rows_of}
use Rattle.table.specs.Rows.{row_in_lem, row_out_lem}
use Rattle.members.specs.Members.{row_in}
use Rattle.members.specs.Laws.{word_in, word_out}

pub row_found : (t : List ℕ) (i : ℕ) → row_in t i ≡ get_or (rows_of (room_of t) t) i blank
unfolding row_in
row_found t i = go (dec_lt i (room_of t))
  where
    there : i < room_of t → row_in t i ≡ get_or (rows_of (room_of t) t) i blank
    there h =
        rw (
          ← word_in t i 0 h (omega arith),
          ← word_in t i 1 h (omega arith),
          ← word_in t i 2 h (omega arith),
          ← word_in t i 3 h (omega arith),
          ← word_in t i 4 h (omega arith),
          ← word_in t i 5 h (omega arith),
          ← word_in t i 6 h (omega arith),
          ← word_in t i 7 h (omega arith),
          add-zero,
        )
        (row_in_lem (room_of t) i t h)

    none : room_of t ≤ i → row_in t i ≡ get_or (rows_of (room_of t) t) i blank
    none h =
        rw (
          ← word_out t i 0 h,
          ← word_out t i 1 h,
          ← word_out t i 2 h,
          ← word_out t i 3 h,
          ← word_out t i 4 h,
          ← word_out t i 5 h,
          ← word_out t i 6 h,
          ← word_out t i 7 h,
        )
        (row_out_lem (room_of t) i t h)

    go : Dec (i < room_of t) → row_in t i ≡ get_or (rows_of (room_of t) t) i blank
    go (yes h) = there h
    go (no h) = none (omega arith)
