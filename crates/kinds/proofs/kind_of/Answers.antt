-- One law for each answer.
use mathlib.Core.Path.{sym, ◌∙◌}
use Rattle.kinds.specs.Kinds.{kind_unknown, kind_refused, kind_allowed, kind_misplaced}
use Rattle.kinds.proofs.kind_of.Goals as goal

pub returns-then-allowed : goal.returns-then-allowed
returns-then-allowed c = sym (kind_allowed _ _ (sym c.allowed.ensures ∙ c.if-allowed.true))

pub returns-then-not_taken : goal.returns-then-not_taken
returns-then-not_taken c = sym (kind_refused _ _ (sym c.is_kind.ensures ∙ c.if-is_kind.true) (sym c.not_taken.ensures ∙ c.if-not_taken.true))

pub returns-then-is_kind : goal.returns-then-is_kind
returns-then-is_kind c = sym (kind_misplaced _ _ (sym c.is_kind.ensures ∙ c.if-is_kind.true) (sym c.not_taken.ensures ∙ c.if-not_taken.false) (sym c.allowed.ensures ∙ c.if-allowed.false))

pub returns : goal.returns
returns c = sym (kind_unknown _ _ (sym c.is_kind.ensures ∙ c.if-is_kind.false))
