-- What `ok_or` and `?` hand on: the value of an answer that is there, or the refusal of one that is not.
use Rattle.std.specs.Prelude.{◌≡◌, refl, ℕ, Option, Some, None, Result, Ok, Err, ok_or, IsErr, IsErrAnd}
use Rattle.std.proofs.Common.{ap, arith, sym, ◌∙◌}
use Rattle.format.specs.declared.Refusal.{Refusal}

-- a value is handed on only where the answer has one
some_of : {X : Type 0} (o : Option X) (e : Refusal) (x : X) → ◌≡◌ {A = Result X Refusal} (Ok x) (ok_or o e) → o ≡ Some x
some_of (Some y) e x q = let w : x ≡ y = cc in ap Some (sym w)
some_of None e x q = absurd (let z : ◌≡◌ {A = ℕ} 0 1 = cc in omega arith)

pub found : {X : Type 0} {o r : Option X} {x : X} (e : Refusal) → r ≡ o → ◌≡◌ {A = Result X Refusal} (Ok x) (ok_or r e) → o ≡ Some x
found {o = o} {r = r} {x = x} e k q = sym k ∙ some_of r e x q

none_of : {X : Type 0} (o : Option X) (e f : Refusal) → ◌≡◌ {A = Result X Refusal} (Err f) (ok_or o e) → (o ≡ None) × (f ≡ e)
none_of (Some y) e f q = absurd (let z : ◌≡◌ {A = ℕ} 0 1 = cc in omega arith)
none_of None e f q = let w : f ≡ e = cc in (refl, w)

-- where there is none, the refusal is the one that was named
pub missing : {X : Type 0} {o r : Option X} {f : Refusal} (e : Refusal) → r ≡ o → ◌≡◌ {A = Result X Refusal} (Err f) (ok_or r e) → (o ≡ None) × (f ≡ e)
missing {r = r} {f = f} e k q = let w = none_of r e f q in (sym k ∙ w.0, w.1)
