-- The definition asks what the code asks.
use borrow.Author.Tests.{le-leb, lt-leb}
use Rattle.shapes.proofs.judge.Goals as goal

pub returns-then-product : goal.returns-then-product
returns-then-product c = rw (le-leb _ 2147483647 c.if-product.true)

pub returns : goal.returns
returns c = rw (lt-leb _ 2147483647 c.if-product.false)
