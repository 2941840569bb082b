-- A second reading leaves the reading in the table; clearing leaves zeros.
use Rattle.tidy.specs.Top.{restored_read, restored_none}
use Rattle.tidy.proofs.restore.Goals as goal

pub returns-in-Ok : goal.returns-in-Ok
returns-in-Ok c = restored_read _ _ _ _ _ _ c.in-Ok.is c.read_again.ensures.table

pub returns-in-Err : goal.returns-in-Err
returns-in-Err c = restored_none _ _ _ _ _ _ c.in-Err.is c.clear.ensures
