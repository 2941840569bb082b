-- Demand 3 over the records: two lists, each read under its own terms, mean the same exactly when their tidy copies are equal, byte for byte; the records
-- of a copy mean what those of its list mean, under any terms; and what is written is the tidy form of what the records mean.
use Rattle.std.specs.Prelude.{ℕ, ◌≡◌, ◌↔◌, List, take, Ok}
use Rattle.std.proofs.Common.{ap, ◌∙◌}
use Rattle.format.specs.Terms.{Terms}
use Rattle.format.specs.declared.Row.{Row}
use Rattle.format.specs.Grammar.{Reading}
use Rattle.format.specs.Meant.{meant_by}
use Rattle.format.specs.Tidy.{tidy_of}
use Rattle.format.specs.Promises.{TidyPromise}
use Rattle.num.specs.Le.{Bytes}
use Rattle.meant.specs.Laws.{says_meant}
use Rattle.demands.proofs.Calls.{tidy_writes, two_tidied}
use Rattle.demands.specs.Exactly.{same_meant, one_meaning}

-- the copy that a call leaves is the tidy form of what the records mean
pub written_meant : (τ : Terms) (s t d : List ℕ) → Bytes τ.book → Bytes s → (n : ℕ) (u e : List ℕ) → TidyPromise τ s t d (Ok n) u e → {rows : List Row} (w : Reading τ s rows)
    → take n e ≡ tidy_of (meant_by w)
written_meant τ s t d booked byte n u e p {rows} w =
    let x = tidy_writes τ s t d booked byte n u e p in
    x.copy_is ∙ ap tidy_of (says_meant τ x.reads ∙ one_meaning τ x.reads w)

-- two calls leave equal copies exactly when the records mean the same
pub two_meant : (τ : Terms) (s t d : List ℕ) → Bytes τ.book → Bytes s → (n : ℕ) (u e : List ℕ) → TidyPromise τ s t d (Ok n) u e
    → (τ' : Terms) (s' t' d' : List ℕ) → Bytes τ'.book → Bytes s' → (m : ℕ) (u' e' : List ℕ) → TidyPromise τ' s' t' d' (Ok m) u' e'
    → {rows others : List Row} (w : Reading τ s rows) (w' : Reading τ' s' others) → (meant_by w ≡ meant_by w') ↔ (take n e ≡ take m e')
two_meant τ s t d booked byte n u e p τ' s' t' d' booked' byte' m u' e' p' {rows} {others} w w' =
    let x = two_tidied τ s t d booked byte n u e p τ' s' t' d' booked' byte' m u' e' p' rows others w w' in
    let y = same_meant τ τ' w w' in
    (λ h. x.0 (y.1 h), λ h. y.0 (x.1 h))
