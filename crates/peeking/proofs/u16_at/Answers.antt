-- The bytes one by one make the number.
use Rattle.peeking.proofs.Numbers.{two_told}
use Rattle.peeking.proofs.u16_at.Goals as goal

pub returns : goal.returns
returns c = two_told _ _ _ _ c.from_le_bytes.ensures c.bytes_at.ensures
