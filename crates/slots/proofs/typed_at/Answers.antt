-- The slot type is that of the two bytes.
use Rattle.format.specs.Types.{typed_at}
use Rattle.slots.proofs.typed_at.Goals as goal

pub returns : goal.returns
unfolding typed_at
returns c = rw (c.slot_of-slot.ensures, c.byte_at-2.ensures, c.byte_at.ensures)
