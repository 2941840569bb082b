-- A number and the place after it: where two such answers are equal, the numbers are, and the places.
use Rattle.std.specs.Prelude.{ℕ, ◌≡◌, Option, Some, Result, Ok}
use Rattle.std.proofs.Common.{ap}
use Rattle.format.specs.declared.Refusal.{Refusal}
use Rattle.format.specs.declared.Span.{Span}

pub pair_parts : {a b c d : ℕ} → ◌≡◌ {A = ℕ × ℕ} (a, b) (c, d) → (a ≡ c) × (b ≡ d)
pair_parts e = (ap (λ (x : ℕ × ℕ). x.0) e, ap (λ (x : ℕ × ℕ). x.1) e)

pub some_pair : {a b c d : ℕ} → ◌≡◌ {A = Option (ℕ × ℕ)} (Some (a, b)) (Some (c, d)) → (a ≡ c) × (b ≡ d)
some_pair {a = a} {b = b} {c = c} {d = d} q = let e : ◌≡◌ {A = ℕ × ℕ} (a, b) (c, d) = cc in pair_parts e

pub ok_pair : {a b c d : ℕ} → ◌≡◌ {A = Result (ℕ × ℕ) Refusal} (Ok (a, b)) (Ok (c, d)) → (a ≡ c) × (b ≡ d)
ok_pair {a = a} {b = b} {c = c} {d = d} q = let e : ◌≡◌ {A = ℕ × ℕ} (a, b) (c, d) = cc in pair_parts e

-- where two texts are the same part, they begin and end alike
pub ok_span : {t u : Span} → ◌≡◌ {A = Result Span Refusal} (Ok t) (Ok u) → (t.from ≡ u.from) × (t.to ≡ u.to)
ok_span {t = t} {u = u} q = let e : t ≡ u = cc in (ap (λ (x : Span). x.from) e, ap (λ (x : Span). x.to) e)
