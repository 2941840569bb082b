-- A row that is passed, one that is more of the nulls, and any other.
use Rattle.put.specs.Put.{became, nothing}
use Rattle.copying.specs.Laws.{before_passed, before_added, before_apart}
use Rattle.copying.proofs.put_before.Goals as goal
use Rattle.copying.proofs.put_before.Goals.{then-is_passed-via-then-is_passed, then-is_passed-via-else-is_passed+then-is_more}

pub returns-then-is_passed : goal.returns-then-is_passed
returns-then-is_passed c =
    elim c.then-is_passed.branch [
      | then-is_passed-via-then-is_passed w ↦ nothing _ _ (before_passed _ _ _ c.is_passed.ensures w.if-is_passed.true)
      | then-is_passed-via-else-is_passed+then-is_more w ↦ nothing _ _ (before_added _ _ _ c.is_passed.ensures w.if-is_passed.false _ w.is_more.ensures w.if-is_more.true)
    ]

pub returns : goal.returns
returns c = became _ _ _ _ _ (before_apart _ _ _ c.is_passed.ensures c.if-is_passed.false _ c.is_more.ensures c.if-is_more.false) c.put_run.ensures
