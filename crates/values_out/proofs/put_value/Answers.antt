-- One writer for Decimals, one for other values.
use Rattle.values_out.proofs.put_value.Goals as goal

pub returns-then-prefixed : goal.returns-then-prefixed
returns-then-prefixed c = rw c.if-prefixed.true c.put_text.ensures

pub returns : goal.returns
returns c = rw c.if-prefixed.false c.put_part.ensures
