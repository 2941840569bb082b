-- Each return is one law of the definition; the bytes that may still follow fall, so the calls end.
use Rattle.prefix.proofs.+groups.Given as goal

abbrev pub decreases-groups : goal.decreases-groups
decreases-groups l = l.k
