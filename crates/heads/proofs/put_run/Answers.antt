-- One clause of the run for each arm.
use Rattle.std.proofs.Common.{arith}
use Rattle.put.specs.Put.{became, nothing}
use Rattle.put.specs.Pieces.{run_none, run_one, run_some, run_many}
use Rattle.heads.proofs.put_run.Goals as goal

pub returns-in-0 : goal.returns-in-0
returns-in-0 c = nothing _ _ (run_none _ c.in-0.is)

pub returns-in-1 : goal.returns-in-1
returns-in-1 c = became _ _ _ _ _ (run_one _ c.in-1.is) c.put_byte.ensures

pub returns-in-2-to-255 : goal.returns-in-2-to-255
returns-in-2-to-255 c = became _ _ _ _ _ (run_some _ (omega arith) (omega arith) (omega arith)) c.put_two.ensures

pub returns-in_default : goal.returns-in_default
returns-in_default c = became _ _ _ _ _ (run_many _ (omega arith) (omega arith) (omega arith)) c.put_long_run.ensures
