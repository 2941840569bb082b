-- The six words are read where the definition reads them.
use Rattle.frames.specs.Frames.{frame_at}
use Rattle.frames.proofs.frame_at.Goals as goal

pub returns : goal.returns
unfolding frame_at
returns c = rw c.slot_from-slot.ensures
