-- The words that are left are those of the outcome.
use mathlib.Core.Path.{sym, ap, ◌∙◌}
use mathlib.Core.Bool.{false}
use Rattle.format.specs.Rows.{room_of}
use Rattle.book.specs.Moves.{good_small}
use Rattle.reader.specs.Ends.{end_by, good_book, within_room, read_left}
use Rattle.reader.proofs.read_again.Goals as goal

pub judge_stream-a-requires : goal.judge_stream-a-requires
judge_stream-a-requires c = (c.requires.0, good_small _ c.requires.1)

pub leave-requires : goal.leave-requires
leave-requires c = within_room c.args.table.now c.judge_stream-a.new.table c.judge_stream-a.result (sym c.judge_stream-a.auto.table) c.judge_stream-a.ensures.1

pub returns : goal.returns
returns c = read_left _ c.args.s.now c.args.table.now c.judge_stream-a.new.table _ c.judge_stream-a.result c.judge_stream-a.auto.table (c.judge_stream-a.ensures.0 ∙ ap (end_by false) (good_book _ c.args.s.now (room_of c.args.table.now) c.requires.0 c.requires.1)) c.leave.ensures
