-- The place fits a u32: a name ends within the bytes, or where it begins.
use native.Mathlib.Omega.{arith}
use Rattle.spans.specs.Spans.{text_within}
use Rattle.slots.proofs.after_name.Goals as goal

pub overflow_cast-result : goal.overflow_cast-result
overflow_cast-result c =
    let w = text_within c.args.s.now c.args.p 4294967295 (omega arith) (omega arith) in
    omega (arith, c.after_text.ensures, w)

pub returns : goal.returns
returns c = c.after_text.ensures
