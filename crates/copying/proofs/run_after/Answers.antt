-- The four clauses of the run after a row.
use Rattle.copying.specs.Laws.{after_passed, after_more, after_other, after_record}
use Rattle.copying.proofs.run_after.Goals as goal

pub returns-then-is_passed : goal.returns-then-is_passed
returns-then-is_passed c = after_passed _ _ _ c.is_passed.ensures c.if-is_passed.true

pub returns-then-r-before : goal.returns-then-r-before
returns-then-r-before c = after_more _ _ _ c.is_passed.ensures c.if-is_passed.false _ c.is_nulls.ensures c.if-is_nulls.true c.if-r-before.true

pub returns-then-is_nulls : goal.returns-then-is_nulls
returns-then-is_nulls c = after_other _ _ _ c.is_passed.ensures c.if-is_passed.false _ c.is_nulls.ensures c.if-is_nulls.true c.if-r-before.false

pub returns : goal.returns
returns c = after_record _ _ _ c.is_passed.ensures c.if-is_passed.false _ c.is_nulls.ensures c.if-is_nulls.false
