-- One store, where there is room.
use mathlib.Core.Path.{refl}
use native.Mathlib.Omega.{arith}
use Rattle.prefix.specs.Writing.{laid_one}
use Rattle.put.specs.Put.{unfilled, filled}
use Rattle.put.proofs.put_byte.Goals as goal

pub returns-then-out-lt1 : goal.returns-then-out-lt1
returns-then-out-lt1 c = unfilled _ _ _ refl (omega arith) (omega arith)

pub returns : goal.returns
returns c = filled _ _ _ _ refl (omega arith) (laid_one _ _ (omega arith))
