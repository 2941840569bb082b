-- One law for each type byte that has a detail, and one for all others.
use mathlib.Core.Path.{sym, ◌∙◌}
use Rattle.spans.specs.Spans.{after_primitive, after_array, after_system, after_class, after_none}
use Rattle.spans.proofs.after_info.Goals as goal

pub returns-in-0 : goal.returns-in-0
returns-in-0 c = c.after_byte.ensures ∙ sym (after_primitive _ _ _ c.in-0.is)

pub returns-in-7 : goal.returns-in-7
returns-in-7 c = c.after_byte-in-7.ensures ∙ sym (after_array _ _ _ c.in-7.is)

pub returns-in-3 : goal.returns-in-3
returns-in-3 c = c.after_text.ensures ∙ sym (after_system _ _ _ c.in-3.is)

pub returns-in-4 : goal.returns-in-4
returns-in-4 c = rw (c.after_number.ensures, c.after_text-in-4.ensures) (sym (after_class _ _ _ c.in-4.is))

pub returns-in_default : goal.returns-in_default
returns-in_default c = sym (after_none _ _ _ c.in_default.in_default-own.rest.0.0.0.1 c.in_default.in_default-own.rest.0.0.1 c.in_default.in_default-own.rest.0.1 c.in_default.in_default-own.rest.1)
