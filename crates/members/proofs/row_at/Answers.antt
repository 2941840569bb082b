-- Eight words by their names.
use Rattle.members.specs.Members.{row_in}
use Rattle.members.proofs.row_at.Goals as goal

pub returns : goal.returns
unfolding row_in
returns c =
    rw (
      c.word-8.ensures,
      c.word-7.ensures,
      c.word-6.ensures,
      c.word-5.ensures,
      c.word-4.ensures,
      c.word-3.ensures,
      c.word-2.ensures,
      c.word.ensures,
    )
