-- One law for each answer.
use Rattle.std.proofs.Common.{arith}
use Rattle.members.specs.Laws.{library_none, library_last}
use Rattle.members.proofs.library_of.Goals as goal

pub returns-in-Some : goal.returns-in-Some
returns-in-Some c = let w = c.in-Some.ensures in rw (c.u32_at.ensures, w.1) (library_last _ _ w.0)

pub returns-in-None : goal.returns-in-None
returns-in-None c = library_none _ _ (omega arith)
