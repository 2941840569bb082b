-- The demands as predicates of any job, whatever it computes, and that the jobs of the promises meet them.
use Rattle.std.specs.Prelude.{ℕ, ◌≤◌, ◌≡◌, List, length, take, Ok}
use Rattle.std.proofs.Common.{sym, ap, subst, ◌∙◌}
use Rattle.format.specs.Terms.{Terms}
use Rattle.format.specs.Rows.{room_of}
use Rattle.format.specs.Promises.{ReadPromise, TidyPromise}
use Rattle.num.specs.Le.{Bytes}
use Rattle.demands.specs.Calls.{HasRows, read_accepts}
use Rattle.demands.proofs.Calls.{tidy_writes}
use Rattle.demands.specs.Texts.{shown_in}
use Rattle.demands.proofs.Texts.{shown_rows}
use Rattle.demands.specs.Exactly.{meant_small}
use Rattle.demands.proofs.Exactly.{written_meant}
use Rattle.demands.specs.Jobs.{Filler, Demand2Table, read_into, read_into_meets, TableRule, copy_of, copy_form}

shown_count : (τ : Terms) (s t : List ℕ) (n : ℕ) (u : List ℕ) → HasRows τ s t n u → shown_in u ≡ n
shown_count τ s t n u x =
    let f : length x.rows ≤ room_of t = subst (λ (k : ℕ). k ≤ room_of t) (sym x.count) x.fit in
    ap shown_in x.table_is ∙ (shown_rows τ x.reads t f ∙ x.count)

-- a caller learns it from the promise
pub rule_promised : (τ : Terms) (s t : List ℕ) → Bytes τ.book → Bytes s → (n : ℕ) (u : List ℕ) → ReadPromise τ s t (Ok n) u → shown_in u ≡ n
rule_promised τ s t booked byte n u p = shown_count τ s t n u (read_accepts τ s t booked byte n u p)

-- every job that meets demand 2 with a book of bytes keeps it
pub demand2_rules : (τ : Terms) (job : Filler) → Demand2Table τ job → Bytes τ.book → TableRule job
demand2_rules τ job demand booked s t byte n e = shown_count τ s t n (job s t).1 (demand.only s t booked byte n e)

pub read_into_rules : (τ : Terms) → Bytes τ.book → TableRule (read_into τ)
read_into_rules τ = demand2_rules τ (read_into τ) (read_into_meets τ)

-- it is what a call of the tidy job leaves in the output
pub written_copy : (τ : Terms) (s t d : List ℕ) → Bytes τ.book → Bytes s → (n : ℕ) (u e : List ℕ) → TidyPromise τ s t d (Ok n) u e → take n e ≡ copy_of τ s
written_copy τ s t d booked byte n u e p =
    let x = tidy_writes τ s t d booked byte n u e p in
    written_meant τ s t d booked byte n u e p x.reads ∙ sym (copy_form τ s x.rows x.reads (meant_small τ x.reads x.small))
