-- The definition, at what was read.
use Rattle.distinct.proofs.next_member.Goals as goal

pub returns : goal.returns
returns c = rw (c.after_info.ensures, c.after_text.ensures, c.byte_at-kind.ensures)
