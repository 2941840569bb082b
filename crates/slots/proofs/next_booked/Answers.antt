-- Type byte, detail and name, one after the other.
use Rattle.slots.proofs.next_booked.Goals as goal

pub returns : goal.returns
returns c = rw (c.after_name.ensures, c.after_info.ensures, c.next_place.ensures, c.byte_at-kind.ensures)
