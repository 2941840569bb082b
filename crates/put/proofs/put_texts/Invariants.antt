-- The invariant: what is written and the strings that are left are all of them.
use Rattle.std.proofs.Common.{◌-◌}
use Rattle.put.specs.Out.{texts_out}
use Rattle.put.specs.Put.{Along}
use Rattle.put.proofs.put_texts.Given as goal

abbrev pub invariant-loop : goal.invariant-loop
invariant-loop l = Along (texts_out l.s l.n l.p) (texts_out l.s (l.n - l.counter) l.q) l.initial.out l.out l.at
