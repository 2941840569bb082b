-- The promise of the comparing job allows one outcome.
use Rattle.std.specs.Prelude.{ℕ, ◌≡◌, List, Bool, Result}
use Rattle.format.specs.declared.Uncompared.{Uncompared}
use Rattle.std.proofs.Common.{sym, ap₂, ◌∙◌}
use Rattle.format.specs.Terms.{Terms}
use Rattle.demands.specs.Settled.{Settles}
use Rattle.sameness.specs.Sameness.{ComparePromise}

-- answer, every word of the table and every byte of both outputs
pub comparing_settles : (τ υ : Terms) (a b t c d : List ℕ)
    → Settles (λ (o : Result Bool Uncompared × (List ℕ × (List ℕ × List ℕ))). ComparePromise τ υ a b t c d o.0 o.1.0 o.1.1.0 o.1.1.1)
comparing_settles τ υ a b t c d x y p q =
    pair (p.answer ∙ sym q.answer)
    (pair (p.table ∙ sym q.table) (pair (p.first ∙ sym q.first) (p.second ∙ sym q.second)))
  where
    pair : {A B : Type 0} → {a c : A} → {b d : B} → a ≡ c → b ≡ d → ◌≡◌ {A = A × B} (a, b) (c, d)
    pair p q = ap₂ (λ a b. (a, b)) p q
