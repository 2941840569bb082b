-- What a whole step says (01, What may stand where), along its own choices: a member value, or a kind byte and the record of that kind.
use Rattle.std.specs.Prelude.{ℕ, ◌≡◌, refl, true, false, ◌||◌, List, Result, Ok, Err}
use Rattle.format.specs.declared.Refusal.{Refusal}
use Rattle.std.proofs.Common.{sym, ap, ◌∙◌, eqb-true}
use Rattle.std.proofs.Math.Path.{subst}
use Rattle.std.proofs.Math.Dec.{eqb}
use Rattle.format.specs.Terms.{Terms}
use Rattle.format.specs.declared.SlotType.{SlotType}
use Rattle.format.specs.declared.SlotType.TheVariants as S
use Rattle.format.specs.declared.Head.{Head}
use Rattle.format.specs.declared.Row.{Row}
use Rattle.format.specs.declared.Frame.{Frame}
use Rattle.format.specs.Types.{is_primitive}
use Rattle.format.specs.Rows.{is_object}
use Rattle.format.specs.Records.{allowed, kind_at, heading_at}
use Rattle.format.specs.Machine.{State, Next, row_apart, add, act, on_kind, record_step, where_in, by_slot, step}
use Rattle.fields.specs.Judged.{picked}
use Rattle.num.specs.Le.{Bytes}
use Rattle.kinds.specs.Kinds.{kind_byte}
use Rattle.places.specs.Recs.{Back}
use Rattle.places.specs.Tell.{record_told}
use Rattle.readings.specs.Steps.{state_at, where_of}
use Rattle.readings.specs.Frames.{open_at}
use Rattle.readings.specs.Firsts.{First, heading_first}
use Rattle.readings.specs.Said.{Between, NextSaid, object_said, plain_said, library_said, run_said, end_said, value_said}

module _ (τ : Terms) (s : List ℕ) (byte : Bytes s) (room at : ℕ) (rows : List Row) (f : Frame) (gs : List Frame) (b : Between (state_at at rows (open_at f gs))) where
  abbrev st : State
  st = state_at at rows (open_at f gs)

  abbrev P : Next → Type 0
  P x = NextSaid τ room s st x

  -- the type of the next slot
  abbrev next : SlotType
  next = f.typed.slot

  -- the kind is this
  as_kind : (k n : ℕ) (h : Head) → eqb k n ≡ true → Back τ s rows k at h → Back τ s rows n at h
  as_kind k n h e d = subst (λ (m : ℕ). Back τ s rows m at h) (eqb-true k n e) d

  good_said : is_primitive next ≡ false → (k : ℕ) (h : Head) → Back τ s rows k at h → First k h → allowed (where_in gs (where_of next)) k ≡ true
      → P (act τ.book s room st k (Ok h))
  unfolding act
  good_said p k h d first w =
      picked P (is_object k) (λ o. object_said τ s room at rows f gs b k h d first w p o)
      (λ o. picked P (eqb k 13 || eqb k 14) (λ n. run_said τ s room at rows f gs b k h d first w p o n)
      (λ n. picked P (eqb k 12)
      (λ l. subst (λ (m : ℕ). P (add room st (row_apart st m h) st.stack)) (sym (eqb-true k 12 l)) (library_said τ s room at rows f gs b h (as_kind k 12 h l d) p))
      (λ l. picked P (eqb k 11)
      (λ e. end_said τ s room at rows f gs b h (as_kind k 11 h e d) (subst (λ (m : ℕ). allowed (where_in gs (where_of next)) m ≡ true) (eqb-true k 11 e) w))
      (λ e. plain_said τ s room at rows f gs b k h d first w p o n l e))))

  act_said : is_primitive next ≡ false → (k : ℕ) → kind_at s (where_in gs (where_of next)) at ≡ Ok k → (x : Result Head Refusal) → heading_at τ s rows k at ≡ x
      → P (act τ.book s room st k x)
  unfolding act
  act_said p k q (Ok h) e =
      let d = record_told τ s rows (where_in gs (where_of next)) at k h byte q e in
      good_said p k h d (heading_first τ s rows at h k b.later e d) (kind_byte s (where_in gs (where_of next)) at k q).fits
  act_said p k q (Err r) e = tt

  kind_said : is_primitive next ≡ false → (x : Result ℕ Refusal) → kind_at s (where_in gs (where_of next)) at ≡ x → P (on_kind τ s room st x)
  kind_said p (Ok k) q = act_said p k q (heading_at τ s rows k at) refl
  kind_said p (Err r) q = tt

  record_said : (t : SlotType) → next ≡ t → is_primitive t ≡ false → P (record_step τ s room st (where_in gs (where_of t)))
  unfolding record_step
  record_said t e p =
      subst (λ (t : SlotType). P (on_kind τ s room st (kind_at s (where_in gs (where_of t)) at))) e
      (kind_said (ap is_primitive e ∙ p) (kind_at s (where_in gs (where_of next)) at) refl)

  slot_said : (t : SlotType) → next ≡ t → P (by_slot τ s room st t)
  slot_said (S.Primitive c) e = value_said τ s room at rows f byte gs b c e
  slot_said S.Text e = record_said S.Text e refl
  slot_said S.Object e = record_said S.Object e refl
  slot_said S.SystemClass e = record_said S.SystemClass e refl
  slot_said S.Class e = record_said S.Class e refl
  slot_said S.ObjectArray e = record_said S.ObjectArray e refl
  slot_said S.StringArray e = record_said S.StringArray e refl
  slot_said (S.PrimitiveArray c) e = record_said (S.PrimitiveArray c) e refl

-- what a step says
pub step_said : (τ : Terms) (s : List ℕ) → Bytes s → (room : ℕ) (st : State) → Between st → NextSaid τ room s st (step τ s room st)
unfolding step
step_said τ s byte room st b =
    slot_said τ s byte room st.at st.rows st.stack.cur st.stack.below b st.stack.cur.typed.slot refl
