-- What an answer of reading says of the outcome that it reports (01, Replies by number).
use Rattle.std.specs.Prelude.{ℕ, ◌≡◌, refl, List, length, Ok, Err}
use Rattle.std.proofs.Common.{arith, ap, sym}
use Rattle.format.specs.declared.Refusal.{Refusal}
use Rattle.format.specs.declared.Refused.{Refused}
use Rattle.format.specs.declared.Row.{Row}
use Rattle.format.specs.Machine.{Outcome, accepted, refused, read_answer}

pub accepted_of : (o : Outcome) (n : ℕ) → Ok n ≡ read_answer o → (rows : List Row) × (o ≡ accepted rows) × (length rows ≡ n)
unfolding read_answer
accepted_of (accepted rows) n e = (rows, refl, cc)
accepted_of (refused r p) n e = absurd (let z : ◌≡◌ {A = ℕ} 0 1 = cc in omega arith)

pub refused_of : (o : Outcome) (r : Refusal) (p : ℕ) → Err (record { refusal = r; place = p }) ≡ read_answer o → o ≡ refused r p
unfolding read_answer
refused_of (accepted rows) r p e = absurd (let z : ◌≡◌ {A = ℕ} 0 1 = cc in omega arith)
refused_of (refused x y) r p e =
    let w : ◌≡◌ {A = Refused} (record { refusal = r; place = p }) (record { refusal = x; place = y }) = cc in
    sym (ap (λ (z : Refused). refused z.refusal z.place) w)
