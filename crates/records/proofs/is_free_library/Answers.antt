-- The sign first, then the lookup.
use mathlib.Core.Path.{sym, ◌∙◌}
use Rattle.format.specs.Rows.{rows_of}
use Rattle.records.specs.Laws.{library_negative, library_used}
use Rattle.records.proofs.is_free_library.Goals as goal

pub returns-then-is_positive : goal.returns-then-is_positive
returns-then-is_positive c = rw c.find_library.ensures (sym (library_used _ _ (sym c.is_positive.ensures ∙ c.if-is_positive.true)))

pub returns : goal.returns
returns c = sym (library_negative (rows_of c.args.n c.args.table.now) c.args.id.0 (sym c.is_positive.ensures ∙ c.if-is_positive.false))
