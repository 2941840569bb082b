-- The answer is that of `row_text`.
use Rattle.format.proofs.Promised.{question_promised}
use Rattle.view.specs.Laws.{question_part, question_fault}
use Rattle.view.proofs.row_question.Goals as goal

pub returns-in-Ok : goal.returns-in-Ok
returns-in-Ok c = question_promised _ _ _ _ _ (question_part _ _ _ _ _ c.row_text.ensures _ _ c.in-Ok.is)

pub returns-in-Err : goal.returns-in-Err
returns-in-Err c = question_promised _ _ _ _ _ (question_fault _ _ _ _ _ c.row_text.ensures _ c.in-Err.is)
