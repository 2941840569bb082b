-- One law for each answer; what follows the content is a function by cases of what the content answers.
use Rattle.std.specs.Prelude.{Err}
use Rattle.std.proofs.Common.{rules}
use mathlib.Core.Path.{sym, ◌∙◌, ◌≡◌}
use native.Mathlib.Omega.{arith}
use Rattle.book.specs.Moves.{entry_short, entry_first, entry_more, entry_fault}
use Rattle.book.proofs.entry_at.Goals as goal

pub returns-then-book-at : goal.returns-then-book-at
returns-then-book-at c = sym (entry_short _ _ c.if-book-at.true)

pub returns-then-book-at-gt1 : goal.returns-then-book-at-gt1
returns-then-book-at-gt1 c = sym (entry_first _ _ (omega arith) c.if-book-at-gt1.true)

pub returns : goal.returns
returns c = c.kept_at.ensures ∙ sym (entry_more _ _ _ (omega arith) c.if-book-at-gt1.false c.content_at.ensures _ c.in_ok-end.was)

pub returns-in_err-end : goal.returns-in_err-end
returns-in_err-end c =
    let r : c.from_residual.result ≡ Err c.in_err-end.field-0.0 = search rules in
    r ∙ sym (entry_fault _ _ _ (omega arith) c.if-book-at-gt1.false c.content_at.ensures _ c.in_err-end.was)
