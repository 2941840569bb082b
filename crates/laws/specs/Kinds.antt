-- Kinds of rows (01, The table): what holds of both kinds of classes holds of every class, and a class is an object.
use Rattle.std.specs.Prelude.{ℕ, ◌≡◌, refl, true, eqb}
use Rattle.std.proofs.Common.{sym, subst, ◌∙◌, eqb-true}
use Rattle.format.specs.Rows.{is_object, is_class}
use Rattle.laws.specs.Tests.{differ, either}

-- kind 4 or 5
pub class_kind : (k : ℕ) → is_class k ≡ true → (P : ℕ → Type 0) → P 4 → P 5 → P k
class_kind k e P four five =
    either (eqb k 4) (λ a. subst P (sym (eqb-true k 4 a)) four)
    (λ a. either (eqb k 5) (λ b. subst P (sym (eqb-true k 5 b)) five)
    (λ b. differ (sym e ∙ rw (a, b))))

pub class_is_object : (k : ℕ) → is_class k ≡ true → is_object k ≡ true
class_is_object k e = class_kind k e (λ (n : ℕ). is_object n ≡ true) refl refl
