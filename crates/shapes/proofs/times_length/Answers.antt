-- Both factors are small enough for their product; then the definition asks what the code asks.
use Prim.Native.Nat.{◌*◌}
use borrow.Author.Tests.{le-leb, lt-leb}
use native.Mathlib.Omega.{arith}
use Rattle.shapes.specs.Lengths.{capped, product_fits}
use Rattle.shapes.proofs.times_length.Goals as goal

pub overflow_mul-all : goal.overflow_mul-all
unfolding capped
overflow_mul-all c = omega (arith, product_fits c.args.product c.args.count (omega arith) (omega arith))

pub returns-then-all : goal.returns-then-all
unfolding capped
returns-then-all c = rw (le-leb (c.args.product * c.args.count) 2147483647 c.if-all.true)

pub returns : goal.returns
unfolding capped
returns c = rw (lt-leb (c.args.product * c.args.count) 2147483647 c.if-all.false)
