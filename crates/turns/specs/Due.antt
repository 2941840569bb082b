-- What a slot waits for: a member value, or a kind byte where one stands.
use Rattle.std.specs.Prelude.{◌≡◌, refl, List, ℕ}
use Rattle.format.specs.Terms.{Terms}
use Rattle.format.specs.declared.SlotType.{SlotType}
use Rattle.format.specs.declared.SlotType.TheVariants as S
use Rattle.format.specs.declared.Where.TheVariants as W
use Rattle.format.specs.Machine.{State, Next, record_step, value_step, where_in, by_slot, step}
use Rattle.turns.specs.declared.Due.{Due}
use Rattle.turns.specs.declared.Due.TheVariants as D

unfoldable pub due_of : SlotType → Due
due_of (S.Primitive c) = D.Value c
due_of S.Text = D.Record W.StringSlot
due_of S.Object = D.Record W.ObjectSlot
due_of S.SystemClass = D.Record W.ObjectSlot
due_of S.Class = D.Record W.ObjectSlot
due_of S.ObjectArray = D.Record W.ArraySlot
due_of S.StringArray = D.Record W.ArraySlot
due_of (S.PrimitiveArray c) = D.Record W.ArraySlot

abbrev pub on_due : Terms → List ℕ → ℕ → State → Due → Next
on_due τ s room st (D.Value c) = value_step τ s room st c
on_due τ s room st (D.Record w) = record_step τ s room st (where_in st.stack.below w)

pub due_slot : (τ : Terms) (s : List ℕ) (room : ℕ) (st : State) (t : SlotType) → on_due τ s room st (due_of t) ≡ by_slot τ s room st t
unfolding due_of
due_slot τ s room st (S.Primitive c) = refl
due_slot τ s room st S.Text = refl
due_slot τ s room st S.Object = refl
due_slot τ s room st S.SystemClass = refl
due_slot τ s room st S.Class = refl
due_slot τ s room st S.ObjectArray = refl
due_slot τ s room st S.StringArray = refl
due_slot τ s room st (S.PrimitiveArray c) = refl

-- a step by what the next slot waits for
pub due_step : (τ : Terms) (s : List ℕ) (room : ℕ) (st : State) (d x : Due) → d ≡ due_of st.stack.cur.typed.slot → d ≡ x → on_due τ s room st x ≡ step τ s room st
unfolding step
due_step τ s room st d x e q = rw (← q, e) (due_slot τ s room st st.stack.cur.typed.slot)
