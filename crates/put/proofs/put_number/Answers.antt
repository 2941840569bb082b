-- Four bytes, where there is room: the number's, the low one first.
use Rattle.std.proofs.Common.{arith, ◌∙◌}
use Rattle.put.specs.Pieces.{number_unfilled, number_written}
use Rattle.put.proofs.put_number.Goals as goal

pub returns-then-out-lt4 : goal.returns-then-out-lt4
returns-then-out-lt4 c = number_unfilled _ _ (omega arith)

pub returns : goal.returns
returns c = number_written _ _ _ (omega arith) (c.copy_from_slice.ensures.after ∙ c.to_le_bytes.ensures)
