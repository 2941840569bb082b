-- Two stores, where there is room.
use mathlib.Core.Path.{refl}
use native.Mathlib.Omega.{arith}
use Rattle.put.specs.Put.{unfilled, filled}
use Rattle.put.specs.Pieces.{laid_two}
use Rattle.put.proofs.put_two.Goals as goal

pub returns-then-out-lt2 : goal.returns-then-out-lt2
returns-then-out-lt2 c = unfilled _ _ _ refl (omega arith) (omega arith)

pub returns : goal.returns
returns c = filled _ _ _ _ refl (omega arith) (laid_two _ _ _ (omega arith))
