-- A kind byte and its record, by what each call answers.
use Rattle.std.specs.Prelude.{ℕ, ◌≤◌, ◌<◌, ◌≡◌, List, length, Result, Ok, Err}
use Rattle.format.specs.declared.Head.{Head}
use Rattle.std.proofs.Common.{sym, subst, ◌∙◌, arith}
use Rattle.std.proofs.Math.Path.{ap}
use Rattle.format.specs.Terms.{Terms}
use Rattle.format.specs.declared.Refusal.{Refusal}
use Rattle.format.specs.declared.Where.{Where}
use Rattle.format.specs.declared.Row.{Row}
use Rattle.format.specs.Records.{kind_at, heading_at}
use Rattle.format.specs.Machine.{State, refuse, act, record_step}
use Rattle.class_info.specs.Ends.{EndsIn}
use Rattle.ends.specs.Headings.{heading_ends}
use Rattle.adding.specs.Held.{Short}

-- what ends within a stream within the limit has an end that can be a word
short : (at len : ℕ) (x : Result Head Refusal) → EndsIn at len x → len ≤ 16777216 → Short x
short at len (Ok h) e l = let b = e.1 in omega arith
short at len (Err f) e l = tt

pub heading_short : (τ : Terms) (s : List ℕ) (rows : List Row) (k at : ℕ) (x : Result Head Refusal) → x ≡ heading_at τ s rows k at → at < length s → length s ≤ 16777216 → Short x
heading_short τ s rows k at x e i l = subst (λ (y : Result Head Refusal). Short y) (sym e) (short at (length s) (heading_at τ s rows k at) (heading_ends τ s rows k at i) l)

module _ (τ : Terms) (s : List ℕ) (room : ℕ) (st : State) (w : Where) (k : Result ℕ Refusal) (e : k ≡ kind_at s w st.at) where
  pub record_on : (kind : ℕ) (x : Result Head Refusal) → k ≡ Ok kind → x ≡ heading_at τ s st.rows kind st.at → act τ.book s room st kind x ≡ record_step τ s room st w
  unfolding record_step
  record_on kind x q h = ap (λ (y : Result Head Refusal). act τ.book s room st kind y) h ∙ rw (← e, q)

  pub record_off : (f : Refusal) → k ≡ Err f → refuse f st.at ≡ record_step τ s room st w
  unfolding record_step
  record_off f q = rw (← e, q)
