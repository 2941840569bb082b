-- The groups that may still follow fall, so the calls end.
use Rattle.prefix.proofs.+put_groups.Given as goal

abbrev pub decreases-put_groups : goal.decreases-put_groups
decreases-put_groups l = l.k
