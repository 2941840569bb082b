-- Past the end there is no byte, and 0 stands for it.
use mathlib.Core.Path.{sym}
use lib.ListN.{get_or-eq_default}
use Rattle.codes.proofs.byte_at.Goals as goal

pub returns : goal.returns
returns c = sym (get_or-eq_default c.args.s.now 0 c.if-p-s.false)
