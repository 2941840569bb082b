-- The two bytes are those of the definition.
use Rattle.slots.proofs.booked_at.Goals as goal

pub returns : goal.returns
returns c = rw (c.slot_of-slot.ensures, c.byte_at-2.ensures, c.byte_at.ensures)
