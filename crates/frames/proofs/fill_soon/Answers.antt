-- An object of which slots are left stays open (`fill-open`); else it is `fill`.
use mathlib.Core.Path.{ap}
use native.Mathlib.Omega.{arith}
use Rattle.format.specs.declared.Reader.{Reader}
use Rattle.frames.specs.Laws.{fill_open}
use Rattle.frames.proofs.fill_soon.Goals as goal

pub returns-then-k-m : goal.returns-then-k-m
returns-then-k-m c =
    let e = c.passed.ensures in
    let d = ap (λ (r : Reader). r.depth) e in
    record {
      stack = fill_open _ _ _ _ _ e c.if-k-m.true;
      place = ap (λ (r : Reader). r.at) e;
      rows = ap (λ (r : Reader). r.rows) e;
      shallow = omega (arith, d);
    }
