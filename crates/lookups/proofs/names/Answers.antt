-- The row's number decides (`other_number`), then its kind (`this_number`).
use Rattle.std.proofs.Common.{sym, ◌∙◌, ne_eqb}
use Rattle.lookups.specs.Find.{other_number, this_number}
use Rattle.lookups.proofs.names.Goals as goal

pub returns-then-id_at-id_of : goal.returns-then-id_at-id_of
returns-then-id_at-id_of c =
    c.is_of.ensures
    ∙ this_number _ _ _ _ c.id_at.ensures (c.if-id_at-id_of.true ∙ c.id_of.ensures) _ c.kind_at.ensures

pub returns-else-id_at-id_of : goal.returns-else-id_at-id_of
returns-else-id_at-id_of c =
    ne_eqb _ _ c.if-id_at-id_of.false
    ∙ other_number _ _ _ _ c.id_at.ensures (λ z. c.if-id_at-id_of.false (z ∙ sym c.id_of.ensures))
