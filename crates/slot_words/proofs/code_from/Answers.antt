-- A number above every byte is no code; any other is judged as a byte.
use native.Mathlib.Omega.{arith}
use Rattle.codes.specs.Codes.{no_code}
use Rattle.slot_words.proofs.code_from.Goals as goal

pub returns-then-k-ge256 : goal.returns-then-k-ge256
returns-then-k-ge256 c = rw (no_code c.args.k (omega arith))

pub returns : goal.returns
returns c = rw (c.coded_of.ensures, c.primitive_of.ensures)
