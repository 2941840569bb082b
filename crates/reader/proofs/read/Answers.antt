-- The words that are left are those of the outcome.
use mathlib.Core.Path.{sym}
use Rattle.reader.specs.Ends.{within_room, read_left}
use Rattle.reader.proofs.read.Goals as goal

pub leave-requires : goal.leave-requires
leave-requires c = within_room c.args.table.now c.judge-a.new.table c.judge-a.result (sym c.judge-a.auto.table) c.judge-a.ensures.1

pub returns : goal.returns
returns c = read_left _ c.args.s.now c.args.table.now c.judge-a.new.table _ c.judge-a.result c.judge-a.auto.table c.judge-a.ensures.0 c.leave.ensures
