-- What a record's fields say, where they are good, ends after the record's place and within the stream: the statement, and how it
-- goes through choices, numbers, fields and lengths.
use Rattle.std.specs.Prelude.{ℕ, ◌+◌, ◌≤◌, ◌<◌, ◌≡◌, refl, Bool, true, false, List, length, Option, Some, None, Result, Ok, Err}
use Rattle.format.specs.declared.Refusal.{Refusal}
use Rattle.format.specs.declared.Head.{Head}
use Rattle.std.proofs.Common.{arith}
use Rattle.format.specs.Bytes.{pick}
use Rattle.format.specs.Numbers.{u32_at}
use Rattle.format.specs.Records.{on_number, on_field, on_slots}
use Rattle.fields.specs.Judged.{picked}
use Rattle.num.specs.Read.{u32_says}

abbrev pub EndsIn : ℕ → ℕ → Result Head Refusal → Type 0
EndsIn at len (Ok h) = (at < h.end) × (h.end ≤ len)
EndsIn at len (Err f) = Unit {0}

-- where a number ends
pub number_moves : (s : List ℕ) (p v e : ℕ) → u32_at s p ≡ Some (v, e) → (e ≡ p + 4) × (e ≤ length s)
number_moves s p v e q =
    let w = u32_says s p v e q in
    (omega arith, omega arith)

module _ (at len : ℕ) where
  pub ends_pick : (t : Bool) (a b : Result Head Refusal) → (t ≡ true → EndsIn at len a) → (t ≡ false → EndsIn at len b) → EndsIn at len (pick t a b)
  ends_pick t a b f g = picked (EndsIn at len) t f g

  pub ends_number : (k : ℕ → ℕ → Result Head Refusal) (r : Option (ℕ × ℕ)) → ((v e : ℕ) → r ≡ Some (v, e) → EndsIn at len (k v e)) → EndsIn at len (on_number k r)
  ends_number k (Some (v, e)) f = f v e refl
  ends_number k None f = tt

  pub ends_field : (k : ℕ → Result Head Refusal) (r : Result ℕ Refusal) → ((e : ℕ) → r ≡ Ok e → EndsIn at len (k e)) → EndsIn at len (on_field k r)
  ends_field k (Ok e) f = f e refl
  ends_field k (Err x) f = tt

  pub ends_slots : (k : ℕ → ℕ → Result Head Refusal) (r : Result (ℕ × ℕ) Refusal) → ((n e : ℕ) → r ≡ Ok (n, e) → EndsIn at len (k n e)) → EndsIn at len (on_slots k r)
  ends_slots k (Ok (n, e)) f = f n e refl
  ends_slots k (Err x) f = tt
