-- What is cleared is what is left.
use Rattle.reader.specs.Ends.{left_rows, left_zeros, within_rows}
use Rattle.reader.proofs.leave.Goals as goal

pub clear_after-requires : goal.clear_after-requires
clear_after-requires c = within_rows c.args.table.now c.args.table.now c.args.a _ _ c.in-Ok.is c.requires

pub returns-in-Ok : goal.returns-in-Ok
returns-in-Ok c = left_rows _ _ _ _ c.in-Ok.is c.clear_after.ensures

pub returns-in-Err : goal.returns-in-Err
returns-in-Err c = left_zeros _ _ _ _ _ c.in-Err.is c.clear.ensures
