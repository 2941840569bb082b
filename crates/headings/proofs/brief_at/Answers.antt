-- Two laws for each kind: what its heading is, and that it has no slots; the last kind is 10, since no other is left.
use Rattle.std.specs.Prelude.{Result}
use Rattle.format.specs.declared.Refusal.{Refusal}
use Rattle.format.specs.declared.Head.{Head}
use mathlib.Core.Path.{◌≡◌, refl, sym, subst, ◌∙◌}
use Rattle.kinds.specs.Kinds.{Hollow, brief_null}
use Rattle.headings.specs.Headings.{string_heading, typed_heading, reference_heading, null_heading, string_hollow, typed_hollow, reference_hollow}
use Rattle.headings.proofs.brief_at.Goals as goal

hollow_as : (x y : Result Head Refusal) → x ≡ y → Hollow y → Hollow x
hollow_as x y e h = subst (λ (z : Result Head Refusal). Hollow z) (sym e) h

pub returns-in-6 : goal.returns-in-6
returns-in-6 c =
    let e = c.string_record_at.ensures in
    (e ∙ sym (string_heading _ _ _ _ _ c.in-6.is), hollow_as _ _ e (string_hollow _ _ _ _))

pub returns-in-8 : goal.returns-in-8
returns-in-8 c =
    let e = c.typed_primitive_at.ensures in
    (e ∙ sym (typed_heading _ _ _ _ _ c.in-8.is), hollow_as _ _ e (typed_hollow _ _ _))

pub returns-in-9 : goal.returns-in-9
returns-in-9 c =
    let e = c.reference_at.ensures in
    (e ∙ sym (reference_heading _ _ _ _ _ c.in-9.is), hollow_as _ _ e (reference_hollow _ _))

pub returns-in_default : goal.returns-in_default
returns-in_default c =
    let e = c.plain_head.ensures in
    (e ∙ sym (null_heading _ _ _ _ _ (brief_null _ c.requires.0 c.in_default.in_default-own.rest.0.0.1 c.in_default.in_default-own.rest.0.1 c.in_default.in_default-own.rest.1)), hollow_as _ _ e refl)
