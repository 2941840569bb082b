-- The link of the library's first row.
use Rattle.libraries_out.specs.Places.{library_number_is}
use Rattle.libraries_out.proofs.library_number.Goals as goal

pub returns : goal.returns
returns c = library_number_is _ _ _ _ _ c.library_at-f.ensures c.row_named-g.ensures
