-- Types 3 and 4 are bad; one law for all others.
use mathlib.Core.Path.{sym, ◌∙◌}
use Rattle.book.specs.Moves.{coded_class, coded_plain}
use Rattle.book.proofs.coded_info_at.Goals as goal

pub returns-in-3 : goal.returns-in-3
returns-in-3 c = sym (coded_class _ _ _ (rw c.in-3.is))

pub returns-in-4 : goal.returns-in-4
returns-in-4 c = sym (coded_class _ _ _ (rw c.in-4.is))

pub returns-in_default : goal.returns-in_default
returns-in_default c = c.info_at.ensures ∙ sym (coded_plain _ _ _ c.in_default.in_default-own.rest.0.1 c.in_default.in_default-own.rest.1)
