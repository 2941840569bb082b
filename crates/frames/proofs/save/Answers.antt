-- `save-at` says what the six stores leave.
use lib.ListN.{length-set}
use Rattle.frames.specs.Laws.{save_at}
use Rattle.frames.proofs.save.Goals as goal

pub returns : goal.returns
returns c = (simp length-set c.requires.1, save_at c.args.frames.now c.args.d c.args.g c.slot_code-code.result c.requires.0 c.requires.1 c.slot_code-code.ensures)
