-- A byte that was written stays, and that of the index is the one of its place.
use Rattle.std.proofs.Common.{◌<◌, ◌≢◌, length, arith, rules, get_or-set_other, get_or-set_same, below_more}
use Rattle.peeking.proofs.bytes_at.Goals as goal

pub loop-i-preserved : goal.loop-i-preserved
loop-i-preserved g c = (
  search rules,
  below_more _ _
      (λ k h. let ne : k ≢ c.loop-i.i = omega arith in rw get_or-set_other (c.loop-i.invariant.1 k h))
      (let lt : c.loop-i.i < length c.loop-i.bytes = omega arith in rw get_or-set_same (search rules)),
)
