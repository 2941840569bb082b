-- The link is the number that the callee answers.
use Prim.Native.Nat.{ℕ}
use mathlib.Core.Path.{ap}
use Rattle.format.specs.declared.SlotType.TheVariants as S
use Rattle.format.specs.declared.Head.{Head}
use Rattle.format.specs.Types.{alike}
use Rattle.steps.proofs.value_head.Goals as goal

abbrev with_code : ℕ → ℕ → Head
with_code end n = record { id = 0; end = end; count = 0; slots = 0; first = alike S.Object 0; link = n }

pub returns : goal.returns
returns c = ap (with_code _) c.code_number-link.ensures
