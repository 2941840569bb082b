-- At an arm's key the kind is brief; in the last arm no key is left.
use Rattle.std.proofs.Common.{refl, arith}
use Rattle.kinds.specs.Kinds.{brief_known, brief_either, brief_other}
use Rattle.kinds.proofs.is_brief_in.Goals as goal

pub returns-in-6 : goal.returns-in-6
returns-in-6 c = brief_known _ _ 6 _ refl c.in-6.is c.takes_string.ensures

pub returns-in-8 : goal.returns-in-8
returns-in-8 c = brief_known _ _ 8 _ refl c.in-8.is c.takes_typed.ensures

pub returns-in-9 : goal.returns-in-9
returns-in-9 c = brief_either _ _ _ (omega arith) (omega arith) c.takes_null.ensures

pub returns-in_default : goal.returns-in_default
returns-in_default c = brief_other _ _ (omega arith) (omega arith) (omega arith) (omega arith)

pub returns-in_default-2 : goal.returns-in_default-2
returns-in_default-2 c = brief_other _ _ (omega arith) (omega arith) (omega arith) (omega arith)
