-- The definition is the code's.
use Rattle.members.specs.Members.{code_from, member_code}
use Rattle.members.proofs.member_code.Goals as goal

pub returns : goal.returns
unfolding member_code code_from
returns c = rw (c.byte_at.ensures, c.detail_of.ensures, c.on-details.ensures, c.after_strings-types.ensures, c.names_at.ensures)
