-- What follows the name is a function by cases of what the name answers.
use Rattle.std.specs.Prelude.{Err}
use Rattle.std.proofs.Common.{rules}
use mathlib.Core.Path.{sym, ◌∙◌, ◌≡◌}
use Rattle.book.specs.Moves.{described_more, described_fault}
use Rattle.book.proofs.described_at.Goals as goal

pub returns : goal.returns
returns c = c.typed_at.ensures ∙ sym (described_more _ _ _ c.name_at.ensures _ c.in_ok-next.was)

pub returns-in_err-next : goal.returns-in_err-next
returns-in_err-next c =
    let r : c.from_residual.result ≡ Err c.in_err-next.field-0.0 = search rules in
    r ∙ sym (described_fault _ _ _ c.name_at.ensures _ c.in_err-next.was)
