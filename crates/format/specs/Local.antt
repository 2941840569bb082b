-- What every reader of a field keeps to: it moves forward within the stream, and looks only at the bytes that it takes.
use Rattle.std.specs.Prelude.{ℕ, ◌+◌, ◌-◌, ◌≤◌, ◌≡◌, List, ◌++◌, length, drop, Result, Ok}
use Rattle.format.specs.declared.Refusal.{Refusal}
use Rattle.format.specs.Bytes.{part}

pub record Local (field : List ℕ → ℕ → Result ℕ Refusal) : Type 0 where
  -- the field ends where it begins or later, and not past the end
  pub moves : (s : List ℕ) (p e : ℕ) → field s p ≡ Ok e → (p ≤ e) × (e ≤ length s)
  -- wherever the same bytes stand, the same field is read
  pub only : (s t rest : List ℕ) (p q e : ℕ) → field s p ≡ Ok e → drop q t ≡ part s p (e - p) ++ rest → field t q ≡ Ok (q + (e - p))
