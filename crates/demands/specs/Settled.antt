-- Each promise of the public jobs allows one outcome.
use Rattle.std.specs.Prelude.{ℕ, ◌≡◌, List, Result}
use Rattle.format.specs.declared.Refused.{Refused}
use Rattle.format.specs.declared.Untidied.{Untidied}
use Rattle.std.proofs.Common.{sym, ap₂, ◌∙◌}
use Rattle.format.specs.Terms.{Terms}
use Rattle.format.specs.View.{row_question, text_view}
use Rattle.format.specs.Promises.{ReadPromise, QuestionPromise, ViewPromise, TidyPromise}

-- a promise settles its outcome: two outcomes that it allows coincide
abbrev pub Settles : {A : Type 0} → (A → Type 0) → Type 0
Settles {A} Promise = (x y : A) → Promise x → Promise y → x ≡ y

one : {A : Type 0} → (z : A) → Settles (λ (x : A). x ≡ z)
one z x y a b = a ∙ sym b

-- answer, every word of the table and every byte of the output, for the four public jobs
pub promises_settle : (τ : Terms) → ((s t : List ℕ) → Settles (λ (o : Result ℕ Refused × List ℕ). ReadPromise τ s t o.0 o.1))
    × (((s t : List ℕ) (row : ℕ) → Settles (QuestionPromise τ.setting s t row))
    × (((s t : List ℕ) (row : ℕ) → Settles (ViewPromise τ.setting s t row))
    × ((s t d : List ℕ) → Settles (λ (o : Result ℕ Untidied × (List ℕ × List ℕ)). TidyPromise τ s t d o.0 o.1.0 o.1.1))))
promises_settle τ = (
  λ s t x y a b. pair (one _ x.0 y.0 a.answer b.answer) (one _ x.1 y.1 a.table b.table),
  (
    λ s t row x y a b. one (row_question τ.setting s t row) x y a.answer b.answer,
    (
      λ s t row. one (text_view τ.setting s t row),
      λ s t d x y a b.
          pair (one _ x.0 y.0 a.answer b.answer)
          (pair (one _ x.1.0 y.1.0 a.table b.table) (one _ x.1.1 y.1.1 a.output b.output)),
    ),
  ),
)
  where
    pair : {A B : Type 0} → {a c : A} → {b d : B} → a ≡ c → b ≡ d → ◌≡◌ {A = A × B} (a, b) (c, d)
    pair p q = ap₂ (λ a b. (a, b)) p q
