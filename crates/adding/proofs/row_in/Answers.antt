-- The slot word is the law of `less`; all else is the struct itself.
use Rattle.adding.specs.Laws.{row_of_lem}
use Rattle.adding.proofs.row_in.Goals as goal

pub returns : goal.returns
returns c = λ t f. row_of_lem t f c.args.m c.args.kind c.args.h _ c.less-slot.ensures
