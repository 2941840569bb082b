-- The place fits a u32: a detail ends within the stream, or where it begins.
use native.Mathlib.Omega.{arith}
use Rattle.spans.specs.Spans.{info_place}
use Rattle.slots.proofs.after_info.Goals as goal

pub overflow_cast-result : goal.overflow_cast-result
overflow_cast-result c =
    let w = info_place c.args.s.now c.args.kind c.args.p 4294967295 (omega arith) (omega arith) in
    omega (arith, c.after_info.ensures, w.1)

pub returns : goal.returns
returns c = c.after_info.ensures
