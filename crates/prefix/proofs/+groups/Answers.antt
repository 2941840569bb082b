-- Each return is one law of the definition.
use native.Mathlib.Omega.{arith}
use mathlib.Core.Path.{sym}
use Rattle.prefix.specs.Laws.{short, low, fifth_high, fifth, last, more, small}
use Rattle.prefix.proofs.+groups.Goals as goal

pub returns-then-s-at : goal.returns-then-s-at
returns-then-s-at t c = sym (short _ _ _ _ _ (omega arith))

pub returns-then-b-least : goal.returns-then-b-least
returns-then-b-least t c = sym (low _ _ _ _ (omega arith) _ (omega arith))

pub returns-then-b-ge8 : goal.returns-then-b-ge8
returns-then-b-ge8 t c = sym (fifth_high _ _ _ _ (omega arith) (omega arith) _ (omega arith) (omega arith))

pub returns-then-k-eq0 : goal.returns-then-k-eq0
returns-then-k-eq0 t c = rw c.last_group.ensures (sym (fifth _ _ _ _ (omega arith) (omega arith) _ (omega arith) (omega arith)))

pub returns-then-b-lt128 : goal.returns-then-b-lt128
returns-then-b-lt128 t c = rw c.last_group-then-b-lt128.ensures (sym (last _ _ _ _ (omega arith) (omega arith) _ (omega arith) (omega arith)))

pub onto_group-requires : goal.onto_group-requires
onto_group-requires t c = rw c.groups.ensures (small _ _ _ _ _ (omega arith))

pub returns : goal.returns
returns t c = rw (c.onto_group.ensures, c.groups.ensures) (sym (more _ _ _ _ (omega arith) (omega arith) _ (omega arith) (omega arith)))
