-- Answers of tests: two that agree, and two that are true together.
use Rattle.std.specs.Prelude.{◌≡◌, refl, Bool, true, false, ◌&&◌}
use Rattle.std.proofs.Common.{sym}

pub bool_ext : (p q : Bool) → (p ≡ true → q ≡ true) → (q ≡ true → p ≡ true) → p ≡ q
bool_ext true true f g = refl
bool_ext true false f g = sym (f refl)
bool_ext false true f g = g refl
bool_ext false false f g = refl

pub both_of : (p q : Bool) → p && q ≡ true → (p ≡ true) × (q ≡ true)
both_of true q e = (refl, e)
both_of false true e = (e, refl)
both_of false false e = (e, e)
