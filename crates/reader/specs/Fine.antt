-- What holds between two steps: the place is within the stream, each row took a byte or more, the rows are within the table's room, and no more
-- than 64 objects are open. A step keeps it and moves on.
use Rattle.std.specs.Prelude.{ℕ, ◌+◌, ◌≤◌, ◌<◌, ◌≡◌, ◌||◌, List, [], ◌∷◌, ◌++◌, get_or, ltb, Option, Some, None, Result, Ok, Err}
use Rattle.format.specs.declared.Refusal.{Refusal}
use Rattle.std.proofs.Math.Path.{refl}
use native.Mathlib.Omega.{arith}
use Rattle.std.proofs.Math.ListN.{length, length-append}
use Rattle.std.proofs.Math.Dec.{eqb}
use borrow.Author.Tests.{ltb-true}
use Rattle.format.specs.Terms.{Terms}
use Rattle.format.specs.declared.Refusal.TheVariants as R
use Rattle.format.specs.declared.PrimitiveCode.{PrimitiveCode}
use Rattle.format.specs.declared.SlotType.{SlotType}
use Rattle.format.specs.declared.SlotType.TheVariants as S
use Rattle.format.specs.declared.Typed.{Typed}
use Rattle.format.specs.declared.Where.{Where}
use Rattle.format.specs.declared.Where.TheVariants as W
use Rattle.format.specs.declared.Head.{Head}
use Rattle.format.specs.declared.Row.{Row}
use Rattle.format.specs.declared.Frame.{Frame}
use Rattle.format.specs.Values.{value_at}
use Rattle.format.specs.Types.{moved, passed_of}
use Rattle.format.specs.Rows.{is_object}
use Rattle.format.specs.Records.{kind_at, kind_of, heading_at}
use Rattle.format.specs.Machine.{Open, State, Next, go, ended, refuse, close, filled_by, filled, opened, row_in, row_apart, add, object, run_over, null_run, ending, act, on_kind, record_step, value_head, on_value, value_step, where_in, by_slot, step}
use Rattle.fields.specs.Judged.{picked}
use Rattle.items.specs.Keeps.{value_moves}
use Rattle.class_info.specs.Ends.{EndsIn}
use Rattle.ends.specs.Headings.{heading_ends}

pub record Fine (s : List ℕ) (room : ℕ) (st : State) : Type 0 where
  pub inside : st.at ≤ length s
  pub counted : length st.rows ≤ st.at
  pub roomy : length st.rows ≤ room
  pub shallow : length st.stack.below ≤ 64

-- what a step leaves that began at this place
abbrev pub NextFine : List ℕ → ℕ → ℕ → Next → Type 0
NextFine s room at (go st) = Fine s room st × (at < st.at)
NextFine s room at (ended rows end) = (length rows ≤ room) × (length rows ≤ length s)
NextFine s room at (refuse r place) = Unit {0}

-- ---- closing and filling open no object

close_shallow : (f : Frame) (gs : List Frame) → length (close f gs).below ≤ length gs
unfolding close
close_shallow f [] = omega arith
close_shallow f (g ∷ gs) =
    picked (λ (o : Open). length o.below ≤ length (g ∷ gs)) (eqb f.left 0) (λ t. omega (arith, close_shallow g gs)) (λ t. omega arith)

filled_shallow : (o : Open) (k : ℕ) (t : Typed) → length (filled o k t).below ≤ length o.below
unfolding filled
filled_shallow o k t = close_shallow (filled_by o.cur k t) o.below

-- ---- the parts of a step

module _ (τ : Terms) (s : List ℕ) (room : ℕ) (st : State) (w : Fine s room st) where
  add_fine : (r : Row) (o : Open) → st.at < r.end → r.end ≤ length s → length o.below ≤ 64 → NextFine s room st.at (add room st r o)
  unfolding add
  add_fine r o a b d =
      picked (NextFine s room st.at) (ltb (length st.rows) room)
      (λ t.
      let h : length st.rows < room = ltb-true (length st.rows) room t in
      let l : length (st.rows ++ (r ∷ [])) ≡ length st.rows + 1 = length-append st.rows (r ∷ []) in
      (record { inside = b; counted = omega arith; roomy = omega arith; shallow = d }, a))
      (λ t. tt)

  module _ (kind : ℕ) (h : Head) (a : st.at < h.end) (b : h.end ≤ length s) where
    slots_fine : (k : ℕ) (t : Typed) → NextFine s room st.at (add room st (row_in st kind h) (filled st.stack k t))
    slots_fine k t = add_fine (row_in st kind h) (filled st.stack k t) a b (omega (arith, filled_shallow st.stack k t))

    object_fine : (t : Typed) → NextFine s room st.at (object room st kind h t)
    unfolding object opened
    object_fine t =
        picked (NextFine s room st.at) (eqb h.slots 0) (λ z. slots_fine 1 t)
        (λ z. picked (NextFine s room st.at) (ltb (length st.stack.below) 64)
        (λ d.
        let g : length st.stack.below < 64 = ltb-true (length st.stack.below) 64 d in
        add_fine (row_in st kind h) (opened st.stack (length st.rows + 1) h t) a b (omega arith))
        (λ d. tt))

    over_fine : (p : Option Typed) → NextFine s room st.at (run_over room st kind h p)
    over_fine (Some t) = slots_fine h.count t
    over_fine None = tt

    run_fine : NextFine s room st.at (null_run τ.book s room st kind h)
    unfolding null_run
    run_fine =
        picked (NextFine s room st.at) (ltb st.stack.cur.left h.count) (λ t. tt)
        (λ t. over_fine (passed_of τ.book s st.stack.cur.typed h.count))

    end_fine : NextFine s room st.at (ending room st h)
    unfolding ending
    end_fine =
        picked (NextFine s room st.at) (ltb (length st.rows) room)
        (λ t.
        let g : length st.rows < room = ltb-true (length st.rows) room t in
        let l : length (st.rows ++ (row_in st 11 h ∷ [])) ≡ length st.rows + 1 = length-append st.rows (row_in st 11 h ∷ []) in
        (omega arith, omega arith))
        (λ t. tt)

  act_fine : (kind : ℕ) (x : Result Head Refusal) → EndsIn st.at (length s) x → NextFine s room st.at (act τ.book s room st kind x)
  unfolding act
  act_fine kind (Ok h) e =
      picked (NextFine s room st.at) (is_object kind) (λ t. object_fine kind h e.0 e.1 (moved τ.book s st.stack.cur.typed))
      (λ t. picked (NextFine s room st.at) (eqb kind 13 || eqb kind 14) (λ u. run_fine kind h e.0 e.1)
      (λ u. picked (NextFine s room st.at) (eqb kind 12) (λ v. add_fine (row_apart st kind h) st.stack e.0 e.1 w.shallow)
      (λ v. picked (NextFine s room st.at) (eqb kind 11) (λ x. end_fine kind h e.0 e.1)
      (λ x. slots_fine kind h e.0 e.1 1 (moved τ.book s st.stack.cur.typed)))))
  act_fine kind (Err f) e = tt

  kind_fine : (k : Result ℕ Refusal) → st.at < length s → NextFine s room st.at (on_kind τ s room st k)
  kind_fine (Ok k) i = act_fine k (heading_at τ s st.rows k st.at) (heading_ends τ s st.rows k st.at i)
  kind_fine (Err f) i = tt

  pub record_fine : (v : Where) → NextFine s room st.at (record_step τ s room st v)
  unfolding record_step kind_at
  record_fine v =
      picked (λ (k : Result ℕ Refusal). NextFine s room st.at (on_kind τ s room st k)) (ltb st.at (length s))
      (λ t. kind_fine (kind_of v (get_or s st.at 0)) (ltb-true st.at (length s) t))
      (λ t. tt)

  value_fine : (c : PrimitiveCode) (v : Result ℕ Refusal) → value_at τ.setting s c st.at ≡ v → NextFine s room st.at (on_value τ.book s room st c v)
  value_fine c (Ok end) e =
      let m = value_moves τ.setting s c st.at end e in
      slots_fine 32 (value_head c end) m.0 m.1 1 (moved τ.book s st.stack.cur.typed)
  value_fine c (Err f) e = tt

  slot_fine : (t : SlotType) → NextFine s room st.at (by_slot τ s room st t)
  unfolding value_step
  slot_fine (S.Primitive c) = value_fine c (value_at τ.setting s c st.at) refl
  slot_fine S.Text = record_fine (where_in st.stack.below W.StringSlot)
  slot_fine S.Object = record_fine (where_in st.stack.below W.ObjectSlot)
  slot_fine S.SystemClass = record_fine (where_in st.stack.below W.ObjectSlot)
  slot_fine S.Class = record_fine (where_in st.stack.below W.ObjectSlot)
  slot_fine S.ObjectArray = record_fine (where_in st.stack.below W.ArraySlot)
  slot_fine S.StringArray = record_fine (where_in st.stack.below W.ArraySlot)
  slot_fine (S.PrimitiveArray c) = record_fine (where_in st.stack.below W.ArraySlot)

  -- a step keeps what holds between two steps, and takes a byte or more
  pub step_fine : NextFine s room st.at (step τ s room st)
  unfolding step
  step_fine = slot_fine st.stack.cur.typed.slot
