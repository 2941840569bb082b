-- A string ends within the stream or where it begins, so the place of the names fits (`text-within`).
use Prim.Native.Nat.{◌+◌}
use native.Mathlib.Omega.{arith}
use Rattle.spans.specs.Spans.{text_within}
use Rattle.distinct.proofs.first_member.Goals as goal

pub overflow_add-result : goal.overflow_add-result
overflow_add-result c = omega (arith, text_within c.args.s.now (c.args.r.offset + 5) 9223372036854775807 (omega arith) (omega arith), c.after_text.ensures)

pub returns : goal.returns
returns c = rw (c.infos_place.ensures, c.after_text.ensures)
