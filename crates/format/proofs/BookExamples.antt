-- The table of class books holds (format: BookExamples).
use Rattle.std.specs.Prelude.{ℕ, suc, List, [], ◌∷◌, ◌++◌, eqb}
use Rattle.format.specs.Bytes.{pick}
use Rattle.format.specs.Prefix.{prefix_in}
use Rattle.format.specs.Text.{need_of, lo_of, hi_of, lead_of, step_of, after, well_formed, text_at, string_at}
use Rattle.format.specs.Values.{times}
use Rattle.format.specs.Types.{primitive_of, code_at, type_byte_at, name_at, info_at}
use Rattle.format.specs.Entries.{coded_info_at, described_at, counted_at, origin_at, entry_at, bad_from, bad_entry}
use Rattle.format.specs.Examples.{hex_onto, hex, None}
use Rattle.format.specs.BookExamples.{books, misjudged}

pub book_examples : None (misjudged 0 books)
unfolding books misjudged bad_entry bad_from entry_at origin_at counted_at described_at coded_info_at info_at name_at type_byte_at code_at primitive_of times string_at text_at well_formed after step_of lead_of hi_of lo_of need_of prefix_in hex_onto
book_examples = tt
