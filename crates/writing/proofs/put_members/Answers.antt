-- The names, whose place fits since a string ends within the stream or where it begins (`text-within`), then the types.
use Prim.Native.Nat.{◌+◌}
use native.Mathlib.Omega.{arith}
use Rattle.spans.specs.Spans.{text_within}
use Rattle.put.specs.Put.{joined_as}
use Rattle.pieces.specs.Laws.{members_is}
use Rattle.writing.proofs.put_members.Goals as goal

pub overflow_add-names : goal.overflow_add-names
overflow_add-names c = omega (arith, text_within c.args.s.now (c.args.r.offset + 5) 9223372036854775807 (omega arith) (omega arith), c.after_text-names.ensures)

pub returns : goal.returns
returns c = joined_as _ _ _ _ _ _ _ _ _ _ (members_is _ _ _ _ c.after_text-names.ensures) c.put_texts-a.auto.out c.least-from.ensures c.put_texts-a.ensures c.put_types-b.ensures c.add_up.ensures
