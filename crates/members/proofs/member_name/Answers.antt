-- The definition is the code's.
use Rattle.members.specs.Members.{member_name}
use Rattle.members.proofs.member_name.Goals as goal

pub returns : goal.returns
unfolding member_name
returns c = rw (c.string_at.ensures, c.after_strings.ensures, c.names_at.ensures)
