-- The type stands where the kind of the class's row says.
use mathlib.Core.Path.{sym, ◌∙◌}
use Rattle.class_info.specs.Stages.{first_untyped, first_typed}
use Rattle.class_by_id.proofs.first_type.Goals as goal

pub returns-then-is_untyped : goal.returns-then-is_untyped
returns-then-is_untyped c = c.booked_at.ensures ∙ sym (first_untyped _ _ _ (sym c.is_untyped.ensures ∙ c.if-is_untyped.true))

pub returns : goal.returns
returns c =
    rw (c.typed_at.ensures, c.infos_of.ensures)
    (sym (first_typed _ _ _ (sym c.is_untyped.ensures ∙ c.if-is_untyped.false)))
