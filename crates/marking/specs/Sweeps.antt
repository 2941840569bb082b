-- A pass over the rows, as a loop runs it: what is left to do gives the whole, whatever the step is and whatever goes along with the rows.
use Prim.Native.Nat.{ℕ, suc, ◌+◌, ◌-◌, ◌≤◌, ◌<◌}
use Rattle.std.specs.Prelude.{◌≡◌, refl, List, length}
use Rattle.std.proofs.Math.Path.{sym}
use Rattle.std.proofs.Common.{ap, ◌∙◌}
use native.Mathlib.Omega.{arith}
use Rattle.std.proofs.Math.Nat.{sub-zero}
use Rattle.format.specs.declared.Row.{Row}
use Rattle.format.specs.Rows.{rows_of}
use Rattle.table.specs.Rows.{length_rows_of}
use Rattle.marks.specs.Marks.{Pass, pass, sweep}

module _ {S : Type 0} (f : ℕ → S → S) (n : ℕ) where
  -- the pass over table t, from state a, is at row i, with state b and a table of l words
  abbrev pub Passing : List ℕ → S → ℕ → ℕ → S → Type 0
  Passing t a i l b = (i ≤ n) × (l ≡ length t) × (sweep f (n - i) i b ≡ sweep f (length (rows_of n t)) 0 a)

  pub pass_start : (t : List ℕ) (a : S) → Passing t a 0 (length t) a
  pass_start t a = (omega arith, refl, rw (length_rows_of n t, sub-zero))

  module _ (t : List ℕ) (a : S) (i l : ℕ) (b : S) (e : Passing t a i l b) where
    pub pass_more : (m : ℕ) (c : S) → i < n → m ≡ l → c ≡ f i b → Passing t a (i + 1) m c
    unfolding sweep
    pass_more m c h k q =
        let z : n - i ≡ suc (n - (i + 1)) = omega arith in
        let step : sweep f (n - i) i b ≡ sweep f (n - (i + 1)) (i + 1) (f i b) = rw z in
        (omega arith, k ∙ e.1, rw q (sym step ∙ e.2))

    pub pass_end : n ≤ i → b ≡ sweep f (length (rows_of n t)) 0 a
    unfolding sweep
    pass_end h =
        let z : n - i ≡ 0 = omega arith in
        let none : sweep f (n - i) i b ≡ b = rw z in
        sym none ∙ e.2

-- the rows at the end of a pass that numbers
pub rows_end : (f : ℕ → Pass → Pass) (n : ℕ) (t : List ℕ) (a : Pass) (i l c : ℕ) (rows : List Row)
    → Passing f n t a i l (pass c rows) → n ≤ i → rows ≡ (sweep f (length (rows_of n t)) 0 a).rows
rows_end f n t a i l c rows e h = ap (λ (p : Pass). p.rows) (pass_end f n t a i l (pass c rows) e h)
