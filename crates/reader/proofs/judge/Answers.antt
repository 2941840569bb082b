-- The limit, then the book, then the stream; a good book is small.
use mathlib.Core.Path.{sym, ap, ◌∙◌}
use Rattle.format.specs.Rows.{room_of}
use Rattle.book.specs.Moves.{good_small}
use Rattle.reader.specs.Ends.{end_by, too_large, bad_book, good_book}
use Rattle.reader.proofs.judge.Goals as goal

pub returns-then-s-gt-LIMIT : goal.returns-then-s-gt-LIMIT
returns-then-s-gt-LIMIT c = (ap (end_by c.args.keep) (too_large _ c.args.s.now (room_of c.args.table.now) c.if-s-gt-LIMIT.true), tt)

pub returns-then-bad-ne0 : goal.returns-then-bad-ne0
returns-then-bad-ne0 c = (ap (end_by c.args.keep) (bad_book _ c.args.s.now (room_of c.args.table.now) c.if-s-gt-LIMIT.false _ c.bad_entry-bad.ensures c.if-bad-ne0.true), tt)

pub judge_stream-requires : goal.judge_stream-requires
judge_stream-requires c = (c.if-s-gt-LIMIT.false, good_small _ (sym c.bad_entry-bad.ensures ∙ c.if-bad-ne0.false))

pub returns : goal.returns
returns c =
    let b = sym c.bad_entry-bad.ensures ∙ c.if-bad-ne0.false in
    (c.judge_stream.ensures.0 ∙ ap (end_by c.args.keep) (good_book _ c.args.s.now (room_of c.args.table.now) c.if-s-gt-LIMIT.false b), c.judge_stream.ensures.1)
