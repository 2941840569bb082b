-- A row number plus 1 is at most n, so it fits a word (`found_le`).
use Rattle.std.proofs.Common.{arith}
use Rattle.lookups.specs.Find.{found_le}
use Rattle.links.proofs.link_of.Goals as goal

pub overflow_cast-result : goal.overflow_cast-result
overflow_cast-result c = omega (arith, found_le _ _ _ _ c.find_object.ensures)
