-- The lesser of the end and the place n bytes on.
use Rattle.std.proofs.Common.{rules}
use Rattle.peeking.proofs.Numbers.{onward_least}
use Rattle.peeking.proofs.on.Goals as goal

pub returns : goal.returns
returns c = search (onward_least, rules)
