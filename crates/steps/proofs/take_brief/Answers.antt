-- A record of a brief kind fills one slot: a string is an object without slots of its own, the others are the last clause of `act`.
use Rattle.std.specs.Prelude.{Result, Ok}
use Rattle.format.specs.declared.Refusal.{Refusal}
use Prim.Native.Nat.{ℕ}
use mathlib.Core.Path.{◌≡◌, refl, subst, ◌∙◌}
use mathlib.Core.Bool.{true}
use mathlib.Core.List.{List}
use native.Mathlib.Omega.{arith}
use borrow.Author.Tests.{eq-eqb}
use Rattle.format.specs.declared.Typed.{Typed}
use Rattle.format.specs.declared.Head.{Head}
use Rattle.format.specs.Rows.{room_of, is_object}
use Rattle.format.specs.Types.{moved}
use Rattle.format.specs.Machine.{State, object, act}
use Rattle.adding.specs.Held.{state_of}
use Rattle.adding.specs.Laws.{slots_taken, act_plain, act_as, act_bad, short_of}
use Rattle.kinds.specs.Kinds.{is_brief, Hollow, by_brief}
use Rattle.steps.proofs.take_brief.Goals as goal

module _ (β s : List ℕ) (room : ℕ) (st : State) (h : Head) (ty : Typed) (e : ty ≡ moved β s st.stack.cur.typed) (z : h.slots ≡ 0) where
  act_hollow : (kind : ℕ) → is_object kind ≡ true → slots_taken room st kind h 1 ty ≡ act β s room st kind (Ok h)
  unfolding act object slots_taken
  act_hollow kind o = rw (o, e, eq-eqb h.slots 0 z)

  act_brief : (kind : ℕ) → is_brief kind ≡ true → slots_taken room st kind h 1 ty ≡ act β s room st kind (Ok h)
  act_brief kind =
      by_brief kind (λ (k : ℕ). slots_taken room st k h 1 ty ≡ act β s room st k (Ok h)) (act_hollow 6 refl)
      (act_plain β s room st h 8 ty e refl (λ q. omega arith) (λ q. omega arith) (λ q. omega arith) (λ q. omega arith))
      (act_plain β s room st h 9 ty e refl (λ q. omega arith) (λ q. omega arith) (λ q. omega arith) (λ q. omega arith))
      (act_plain β s room st h 10 ty e refl (λ q. omega arith) (λ q. omega arith) (λ q. omega arith) (λ q. omega arith))

hollow_of : (x : Result Head Refusal) (h : Head) → x ≡ Ok h → Hollow x → h.slots ≡ 0
hollow_of x h e k = subst (λ (y : Result Head Refusal). Hollow y) e k

pub take_slots-requires : goal.take_slots-requires
take_slots-requires c = (c.requires.0, short_of _ _ c.in-Ok.is c.requires.1, c.requires.4)

pub returns-in-Ok : goal.returns-in-Ok
returns-in-Ok c =
    let q = c.in-Ok.is in
    c.take_slots.ensures ∙ act_brief c.args.book.now c.args.s.now (room_of c.args.table.now) (state_of c.args.table.now c.args.frames.now c.args.m) _ c.move_on-t.result c.move_on-t.ensures (hollow_of _ _ q c.requires.2) c.args.kind c.requires.3 ∙ act_as c.args.book.now c.args.s.now (room_of c.args.table.now) (state_of c.args.table.now c.args.frames.now c.args.m) c.args.kind c.args.heading _ q

pub returns-in-Err : goal.returns-in-Err
returns-in-Err c = act_bad c.args.book.now c.args.s.now (room_of c.args.table.now) (state_of c.args.table.now c.args.frames.now c.args.m) c.args.kind _ ∙ act_as c.args.book.now c.args.s.now (room_of c.args.table.now) (state_of c.args.table.now c.args.frames.now c.args.m) c.args.kind c.args.heading _ c.in-Err.is
