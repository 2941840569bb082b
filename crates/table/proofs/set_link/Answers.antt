-- One store (`link_set`).
use Rattle.table.specs.Rows.{link_set}
use native.Mathlib.Omega.{arith}
use Rattle.table.proofs.set_link.Goals as goal

pub returns : goal.returns
returns c = link_set c.args.n c.args.i c.args.link c.args.table.now (omega arith) (omega arith)
