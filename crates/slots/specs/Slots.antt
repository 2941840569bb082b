-- The type of the next slot, and a null run over slots: one law for each way.
use Prim.Native.Nat.{ℕ, zero, suc, ◌-◌, ◌≤◌, ◌<◌}
use Rattle.std.specs.Prelude.{◌≡◌, true, false, List, length, get_or, Some, None}
use Rattle.std.proofs.Math.Path.{refl}
use native.Mathlib.Omega.{arith}
use borrow.Author.Tests.{eq-eqb, ne_eqb}
use Rattle.format.specs.declared.Typed.{Typed}
use Rattle.format.specs.Types.{typed_at, past, after_info, book_typed, next_booked, moved, is_primitive, passed, passed_of}

module _ (β s : List ℕ) (t : Typed) where
  pub moved_alike : t.types ≡ 0 → moved β s t ≡ t
  unfolding moved
  moved_alike e = rw (eq-eqb t.types 0 e)

  pub moved_booked : (t.types ≡ 0 → ⊥) → t.infos ≡ 0 → moved β s t ≡ book_typed β (next_booked β t.types)
  unfolding moved
  moved_booked e h = rw (ne_eqb t.types 0 e, eq-eqb t.infos 0 h)

  pub moved_on : (t.types ≡ 0 → ⊥) → (t.infos ≡ 0 → ⊥) → moved β s t ≡ typed_at s (past (length s) t.types) (after_info s (get_or s t.types 0) t.infos)
  unfolding moved
  moved_on e h = rw (ne_eqb t.types 0 e, ne_eqb t.infos 0 h)

  module _ (n : ℕ) where
    pub passed_alike : t.types ≡ 0 → passed_of β s t n ≡ Some t
    unfolding passed_of
    passed_alike e = rw (eq-eqb t.types 0 e)

    pub passed_walk : (t.types ≡ 0 → ⊥) → passed_of β s t n ≡ passed β s t n
    unfolding passed_of
    passed_walk e = rw (ne_eqb t.types 0 e)

  pub passed_none : (n : ℕ) → n ≤ 0 → passed β s t n ≡ Some t
  unfolding passed
  passed_none zero h = refl
  passed_none (suc n) h = absurd (omega arith)

  pub passed_crossed : (n : ℕ) → 0 < n → is_primitive t.slot ≡ true → passed β s t n ≡ None
  unfolding passed
  passed_crossed zero h e = absurd (omega arith)
  passed_crossed (suc n) h e = rw e

  pub passed_step : (n : ℕ) → 0 < n → is_primitive t.slot ≡ false → passed β s t n ≡ passed β s (moved β s t) (n - 1)
  unfolding passed
  passed_step zero h e = absurd (omega arith)
  passed_step (suc n) h e =
      let d : suc n - 1 ≡ n = omega arith in
      rw (e, d)
