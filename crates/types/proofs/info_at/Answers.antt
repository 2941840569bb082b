-- One law for each type byte that has a detail, and one for all others.
use mathlib.Core.Path.{sym, ◌∙◌}
use Rattle.codes.specs.Ends.{info_primitive, info_array, info_system, info_class, info_none}
use Rattle.types.proofs.info_at.Goals as goal

pub returns-in-0 : goal.returns-in-0
returns-in-0 c = c.code_at.ensures ∙ sym (info_primitive _ _ _ _ c.in-0.is)

pub returns-in-7 : goal.returns-in-7
returns-in-7 c = c.code_at-in-7.ensures ∙ sym (info_array _ _ _ _ c.in-7.is)

pub returns-in-3 : goal.returns-in-3
returns-in-3 c = c.name_at.ensures ∙ sym (info_system _ _ _ _ c.in-3.is)

pub returns-in-4 : goal.returns-in-4
returns-in-4 c = c.class_at.ensures ∙ sym (info_class _ _ _ _ c.in-4.is)

pub returns-in_default : goal.returns-in_default
returns-in_default c = sym (info_none _ _ _ _ c.in_default.in_default-own.rest.0.0.0.1 c.in_default.in_default-own.rest.0.0.1 c.in_default.in_default-own.rest.0.1 c.in_default.in_default-own.rest.1)
