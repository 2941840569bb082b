-- The definition is the code's.
use Rattle.members.specs.Members.{class_name}
use Rattle.members.proofs.class_name.Goals as goal

pub returns : goal.returns
unfolding class_name
returns c = rw (c.string_at.ensures, c.on.ensures)
