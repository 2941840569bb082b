-- Each return is one row of the table whose bytes stand there, or do not: the patterns of its arm say which.
use Rattle.std.proofs.Common.{arith}
use Rattle.text.specs.Rows.{row_1, row_2, row_3, row_4, row_5, row_6, row_7, row_8, row_9, before_row_2, after_row_9, by_row_1, by_none}
use Rattle.text.specs.Rests.{two_there, two_gone, three_there, three_gone, four_there, four_gone}
use Rattle.text.proofs.width_at.Goals as goal

pub returns-in-0-to-127 : goal.returns-in-0-to-127
returns-in-0-to-127 c = by_row_1 _ _ (omega arith) (row_1 _ (omega arith))

pub returns-in-194-to-223 : goal.returns-in-194-to-223
returns-in-194-to-223 c = two_there _ _ (omega arith) (row_2 _ (omega arith) (omega arith)) (grind arith)

pub returns-in-224 : goal.returns-in-224
returns-in-224 c = three_there _ _ (omega arith) (row_3 _ (omega arith)) (grind arith) (grind arith)

pub returns-in-225-to-236 : goal.returns-in-225-to-236
returns-in-225-to-236 c = three_there _ _ (omega arith) (row_4 _ (omega arith) (omega arith)) (grind arith) (grind arith)

pub returns-in-237 : goal.returns-in-237
returns-in-237 c = three_there _ _ (omega arith) (row_5 _ (omega arith)) (grind arith) (grind arith)

pub returns-in-238-to-239 : goal.returns-in-238-to-239
returns-in-238-to-239 c = three_there _ _ (omega arith) (row_6 _ (omega arith) (omega arith)) (grind arith) (grind arith)

pub returns-in-240 : goal.returns-in-240
returns-in-240 c = four_there _ _ (omega arith) (row_7 _ (omega arith)) (grind arith) (grind arith) (grind arith)

pub returns-in-241-to-243 : goal.returns-in-241-to-243
returns-in-241-to-243 c = four_there _ _ (omega arith) (row_8 _ (omega arith) (omega arith)) (grind arith) (grind arith) (grind arith)

pub returns-in-244 : goal.returns-in-244
returns-in-244 c = four_there _ _ (omega arith) (row_9 _ (omega arith)) (grind arith) (grind arith) (grind arith)

pub returns-in_default : goal.returns-in_default
returns-in_default c = three_gone _ _ (omega arith) (row_3 _ (omega arith)) (grind arith)

pub returns-in_default-2 : goal.returns-in_default-2
returns-in_default-2 c = three_gone _ _ (omega arith) (row_5 _ (omega arith)) (grind arith)

pub returns-in_default-3 : goal.returns-in_default-3
returns-in_default-3 c = four_gone _ _ (omega arith) (row_7 _ (omega arith)) (grind arith)

pub returns-in_default-4 : goal.returns-in_default-4
returns-in_default-4 c = four_gone _ _ (omega arith) (row_9 _ (omega arith)) (grind arith)

pub returns-in_default-5 : goal.returns-in_default-5
returns-in_default-5 c = by_none _ _ (omega arith) (before_row_2 _ (omega arith) (omega arith))

pub returns-in_default-6 : goal.returns-in_default-6
returns-in_default-6 c = two_gone _ _ (omega arith) (row_2 _ (omega arith) (omega arith)) (grind arith)

pub returns-in_default-7 : goal.returns-in_default-7
returns-in_default-7 c = three_gone _ _ (omega arith) (row_4 _ (omega arith) (omega arith)) (grind arith)

pub returns-in_default-8 : goal.returns-in_default-8
returns-in_default-8 c = three_gone _ _ (omega arith) (row_6 _ (omega arith) (omega arith)) (grind arith)

pub returns-in_default-9 : goal.returns-in_default-9
returns-in_default-9 c = four_gone _ _ (omega arith) (row_8 _ (omega arith) (omega arith)) (grind arith)

pub returns-in_default-10 : goal.returns-in_default-10
returns-in_default-10 c = by_none _ _ (omega arith) (after_row_9 _ (omega arith))
