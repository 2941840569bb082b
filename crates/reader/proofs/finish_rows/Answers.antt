-- One law for each end; the links make the rows those of the outcome.
use mathlib.Core.Path.{ap, ◌∙◌}
use Rattle.format.specs.Rows.{rows_of}
use Rattle.format.specs.Machine.{accepted}
use Rattle.reader.specs.Ends.{end_by, trailing, rootless, lost, whole}
use Rattle.reader.proofs.finish_rows.Goals as goal

pub returns-then-at-s : goal.returns-then-at-s
returns-then-at-s c = (ap (end_by c.args.keep) (trailing c.args.s.now (rows_of c.args.rows c.args.table.now) c.args.at c.if-at-s.true), tt)

pub returns-then-root-eq0 : goal.returns-then-root-eq0
returns-then-root-eq0 c = (ap (end_by c.args.keep) (rootless c.args.s.now (rows_of c.args.rows c.args.table.now) c.args.at c.if-at-s.false c.row_at-head.result c.find_object-root.result c.row_at-head.ensures c.find_object-root.ensures c.if-root-eq0.true), tt)

pub returns-then-lost-ne0 : goal.returns-then-lost-ne0
returns-then-lost-ne0 c =
    let k = c.if-lost-ne0.true in (
      ap (end_by c.args.keep) (lost c.args.s.now (rows_of c.args.rows c.args.table.now) c.args.at c.if-at-s.false c.row_at-head.result c.find_object-root.result c.row_at-head.ensures c.find_object-root.ensures c.if-root-eq0.false
          c.link_all-lost.result c.row_at-r.result c.link_all-lost.ensures.first k (c.row_at-r.ensures ∙ c.link_all-lost.ensures.there k)),
      tt,
    )

pub returns : goal.returns
returns c = (
  ap accepted (c.link_all-lost.ensures.all c.if-lost-ne0.false)
      ∙ ap (end_by c.args.keep) (whole c.args.s.now (rows_of c.args.rows c.args.table.now) c.args.at c.if-at-s.false c.row_at-head.result c.find_object-root.result c.row_at-head.ensures c.find_object-root.ensures c.if-root-eq0.false
      c.link_all-lost.result c.link_all-lost.ensures.first c.if-lost-ne0.false),
  c.requires.0,
)
