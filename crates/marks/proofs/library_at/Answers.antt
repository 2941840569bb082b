-- The lookups, one after the other, are the definition.
use Rattle.marks.specs.Rows.{library_is}
use Rattle.marks.proofs.library_at.Goals as goal

pub returns : goal.returns
returns c = library_is _ _ _ _ _ _ _ c.number_from-id.ensures c.find_library-row.ensures c.less.ensures c.row_at-r.ensures
