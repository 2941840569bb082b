-- The definition is the code's.
use Rattle.members.specs.Members.{names_at}
use Rattle.members.proofs.names_at.Goals as goal

pub returns : goal.returns
unfolding names_at
returns c = rw (c.on.ensures, c.after_string.ensures, c.on-name.ensures)
