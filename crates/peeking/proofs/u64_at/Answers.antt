-- The bytes one by one make the number.
use Rattle.peeking.proofs.Numbers.{eight_told}
use Rattle.peeking.proofs.u64_at.Goals as goal

pub returns : goal.returns
returns c = eight_told _ _ _ _ c.from_le_bytes.ensures c.bytes_at.ensures
