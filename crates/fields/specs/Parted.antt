-- What `part_at` hands on with `ok_or`: the part, where the stream has all of it, or the refusal that was named.
use Rattle.std.specs.Prelude.{◌≡◌, ◌+◌, ◌≤◌, ◌<◌, ℕ, Bool, true, false, List, length, leb, Option, Some, None, Result, Ok, Err, ok_or, is_some, IfSome}
use Rattle.std.proofs.Common.{ap, arith, sym, ◌∙◌, subst, refl, leb-true, leb-false, Bor}
use Rattle.format.specs.declared.Refusal.{Refusal}
use Rattle.format.specs.Bytes.{part}
use Rattle.fields.specs.Tried.{found, missing}

module _ (s : List ℕ) (at n : ℕ) (r : Option (Bor (List ℕ))) (there : is_some r ≡ leb (at + n) (length s)) where
  pub part_missing : {f : Refusal} (e : Refusal) → ◌≡◌ {A = Result (Bor (List ℕ)) Refusal} (Err f) (ok_or r e) → (length s < at + n) × (f ≡ e)
  part_missing e q =
      let w = missing e refl q in
      (leb-false (at + n) (length s) (sym there ∙ ap is_some w.0), w.1)

  pub part_found : IfSome r (λ (b : Bor (List ℕ)). b.now ≡ part s at n) → {b : Bor (List ℕ)} (e : Refusal)
      → ◌≡◌ {A = Result (Bor (List ℕ)) Refusal} (Ok b) (ok_or r e) → (at + n ≤ length s) × (b.now ≡ part s at n)
  part_found same e q =
      let w = found e refl q in
      (leb-true (at + n) (length s) (sym there ∙ ap is_some w), subst (λ (x : Option (Bor (List ℕ))). IfSome x (λ (b : Bor (List ℕ)). b.now ≡ part s at n)) w same)
