-- `fill-at` makes the wanted open objects of what `settle` is given.
use mathlib.Core.Path.{ap, ◌∙◌}
use native.Mathlib.Omega.{arith}
use borrow.Author.Rules.{rules}
use Rattle.format.specs.declared.Reader.{Reader}
use Rattle.frames.specs.Laws.{fill_at}
use Rattle.frames.proofs.fill.Goals as goal

pub settle-requires : goal.settle-requires
settle-requires c =
    let d = ap (λ (r : Reader). r.depth) c.passed-n.ensures in
    search rules

pub returns : goal.returns
returns c =
    let p = c.passed-n.ensures in
    let e = c.settle.ensures in
    let d = ap (λ (r : Reader). r.depth) p in
    let q = c.settle.ensures.shallow in
    record {
      stack = c.settle.ensures.stack ∙ fill_at _ _ _ _ _ p;
      place = c.settle.ensures.place ∙ ap (λ (r : Reader). r.at) p;
      rows = c.settle.ensures.rows ∙ ap (λ (r : Reader). r.rows) p;
      shallow = omega arith;
    }
