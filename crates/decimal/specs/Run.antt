-- Decimal text as a loop over a slice reads it: what is read after the bytes from i on, one byte at a time.
use Rattle.std.specs.Prelude.{ℕ, ◌+◌, ◌≤◌, ◌<◌, ◌≡◌, List, length, get_or, drop, eqb}
use Rattle.std.proofs.Math.Path.{ap}
use Rattle.std.proofs.Common.{add-one, drop_of_length-le, drop-cons, eq-eqb, ne_eqb}
use Rattle.format.specs.Values.{Read, begun, decimal_byte, decimal_after, ends, decimal}

-- Shut, so that a law's `r`, `s` and `i` are found from a goal.
unfoldable pub run_from : Read → List ℕ → ℕ → Read
run_from r s i = decimal_after r (drop i s)

pub run_step : (r : Read) (s : List ℕ) (i : ℕ) → i < length s → run_from r s i ≡ run_from (decimal_byte r (get_or s i 0)) s (i + 1)
unfolding run_from decimal_after
run_step r s i h = rw (add-one, drop-cons s i 0)

pub run_end : (r : Read) (s : List ℕ) (i : ℕ) → length s ≤ i → run_from r s i ≡ r
unfolding run_from decimal_after
run_end r s i h = rw (drop_of_length-le s h)

-- the answer, as `phase == 2 || phase == 4` comes to it on either way
module _ (s : List ℕ) (r : Read) (e : run_from begun s 0 ≡ r) where
  decimal_is : decimal s ≡ ends r.phase
  unfolding decimal run_from
  decimal_is = ap (λ (x : Read). ends x.phase) e

  pub whole_end : r.phase ≡ 2 → eqb r.phase 2 ≡ decimal s
  whole_end h = rw decimal_is (simp eq-eqb)

  pub fraction_end : (r.phase ≡ 2 → ⊥) → eqb r.phase 4 ≡ decimal s
  fraction_end h = rw decimal_is (simp (ne_eqb r.phase 2 h))
