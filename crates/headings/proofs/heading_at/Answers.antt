-- One law for each kind that has an arm, and one for all others, of which none is brief.
use mathlib.Core.Path.{sym, ◌∙◌}
use Rattle.headings.specs.Headings.{header_heading, by_id_heading, system_heading, class_heading, array_heading, end_heading, library_heading, nulls_heading, long_nulls_heading, primitives_heading, objects_heading, strings_heading}
use Rattle.headings.proofs.heading_at.Goals as goal

pub returns-in-0 : goal.returns-in-0
returns-in-0 c = c.header_at.ensures ∙ sym (header_heading _ _ _ _ _ c.in-0.is)

pub returns-in-1 : goal.returns-in-1
returns-in-1 c = c.class_by_id_at.ensures ∙ sym (by_id_heading _ _ _ _ _ c.in-1.is)

pub returns-in-4 : goal.returns-in-4
returns-in-4 c = c.class_at-h.ensures ∙ sym (system_heading _ _ _ _ _ c.in-4.is)

pub returns-in-5 : goal.returns-in-5
returns-in-5 c = c.class_at-h-in-5.ensures ∙ sym (class_heading _ _ _ _ _ c.in-5.is)

pub returns-in-7 : goal.returns-in-7
returns-in-7 c = c.binary_array_at.ensures ∙ sym (array_heading _ _ _ _ _ c.in-7.is)

pub returns-in-11 : goal.returns-in-11
returns-in-11 c = c.plain_head.ensures ∙ sym (end_heading _ _ _ _ _ c.in-11.is)

pub returns-in-12 : goal.returns-in-12
returns-in-12 c = c.library_at.ensures ∙ sym (library_heading _ _ _ _ _ c.in-12.is)

pub returns-in-13 : goal.returns-in-13
returns-in-13 c = c.nulls_at.ensures ∙ sym (nulls_heading _ _ _ _ _ c.in-13.is)

pub returns-in-14 : goal.returns-in-14
returns-in-14 c = c.long_nulls_at.ensures ∙ sym (long_nulls_heading _ _ _ _ _ c.in-14.is)

pub returns-in-15 : goal.returns-in-15
returns-in-15 c = c.primitive_array_at.ensures ∙ sym (primitives_heading _ _ _ _ _ c.in-15.is)

pub returns-in-16 : goal.returns-in-16
returns-in-16 c = c.slot_array_at.ensures ∙ sym (objects_heading _ _ _ _ _ c.in-16.is)

pub returns-in_default : goal.returns-in_default
returns-in_default c = c.slot_array_at-in_default.ensures ∙ sym (strings_heading _ _ _ _ _ c.in_default.in_default-own.rest c.requires.4)
