-- A class book that no record needs changes nothing (02, (ii)): the types of all slots stand in the stream, so that every step is the same under any
-- book, and so is what comes of the stream, be it accepted or refused.
use Prim.Native.Nat.{ℕ, zero, suc, ◌+◌, ◌-◌, ◌≤◌, ◌<◌}
use Rattle.std.specs.Prelude.{◌≡◌, ◌⊎◌, Bool, ◌||◌, List, [], ◌∷◌, get_or, take, ltb, Option, Some, None, Result, Ok, Err}
use Rattle.format.specs.declared.Refusal.{Refusal}
use Rattle.std.proofs.Math.Path.{refl, ap}
use Rattle.std.proofs.Common.{sym, subst, ◌∙◌, inl, arith, eqb-true, ne_eqb}
use Rattle.std.proofs.Math.Logic.{inr}
use Rattle.std.proofs.Math.Bool.{true, false}
use Rattle.std.proofs.Math.ListN.{length}
use Rattle.std.proofs.Math.Dec.{eqb}
use Rattle.std.proofs.lemmas.Bool.{eqb-false}
use Rattle.format.specs.Terms.{Terms, terms}
use Rattle.format.specs.declared.Setting.{Setting}
use Rattle.format.specs.declared.Refusal.TheVariants as R
use Rattle.format.specs.declared.PrimitiveCode.{PrimitiveCode}
use Rattle.format.specs.declared.SlotType.{SlotType}
use Rattle.format.specs.declared.SlotType.TheVariants as S
use Rattle.format.specs.declared.Typed.{Typed}
use Rattle.format.specs.declared.Where.{Where}
use Rattle.format.specs.declared.Where.TheVariants as W
use Rattle.format.specs.declared.Head.{Head}
use Rattle.format.specs.declared.Row.{Row}
use Rattle.format.specs.declared.Frame.{Frame}
use Rattle.format.specs.Bytes.{pick}
use Rattle.format.specs.Numbers.{u32_at}
use Rattle.format.specs.Values.{value_at}
use Rattle.format.specs.Types.{typed_at, is_primitive, moved, passed, passed_by, passed_of}
use Rattle.format.specs.Rows.{blank, is_object, is_class, is_untyped, class_row}
use Rattle.format.specs.Records.{on_number, good_class_id, kind_at, first_type, of_class, by_row, class_by_id_at, heading_at}
use Rattle.format.specs.Machine.{Open, State, Next, go, ended, refuse, close, filled_by, filled, opened, row_in, row_apart, add, object, run_over, null_run, ending, act, on_kind, record_step, value_head, on_value, value_step, by_slot, step, Outcome, onward, run, start, begin, stream_of}
use Rattle.fields.specs.Judged.{picked}
use Rattle.spans.specs.Spans.{info_place}
use Rattle.kinds.specs.Kinds.{kind_byte}
use Rattle.lookups.specs.Find.{class_at_holds}
use Rattle.standing.specs.Standing.{Stood, allowed_known}
use Rattle.standing.specs.Steps.{Gathered, NextGathered, step_gathered}
use Rattle.standing.specs.Accepted.{start_gathered, header_gathered}
use Rattle.standing.specs.Cursors.{first_of, types_in, Starts, alike_slots, own_class_rule, by_class, starts}

-- ---- types that stand in the stream

-- all slots are alike, or the detail of the type has a place in the stream
abbrev Streamed : Typed → Type 0
Streamed t = (t.types ≡ 0) ⊎ (0 < t.infos)

typed_streamed : (s : List ℕ) (types infos : ℕ) → types ≤ infos → Streamed (typed_at s types infos)
unfolding typed_at
typed_streamed s zero infos l = inl refl
typed_streamed s (suc n) infos l = inr (omega arith)

-- where a null run ends
abbrev Over : Option Typed → Type 0
Over (Some t) = Streamed t
Over None = Unit {0}

-- the slots after such a one are so, too
module _ (β s : List ℕ) where
  moved_streamed : (t : Typed) → Streamed t → Streamed (moved β s t)
  unfolding moved typed_at
  moved_streamed t (inl e) = rw e (inl refl)
  moved_streamed t (inr h) =
      let i = info_place s (get_or s t.types 0) t.infos (t.infos + length s) (omega arith) (omega arith) in
      rw (ne_eqb t.infos 0 (λ z. omega arith)) (picked Streamed (eqb t.types 0) (λ q. inr h) (λ q. inr (omega (arith, i.0))))

  passed_streamed : (n : ℕ) (t : Typed) → Streamed t → Over (passed β s t n)
  unfolding passed
  passed_streamed zero t w = w
  passed_streamed (suc n) t w = picked Over (is_primitive t.slot) (λ q. tt) (λ q. passed_streamed n (moved β s t) (moved_streamed t w))

  over_streamed : (n : ℕ) (t : Typed) → Streamed t → Over (passed_of β s t n)
  unfolding passed_of
  over_streamed n t w = go (eqb t.types 0)
    where
      go : (b : Bool) → Over (passed_by b β s t n)
      go true = w
      go false = passed_streamed n t w

-- they are the same under any book
module _ (β γ s : List ℕ) where
  moved_same : (t : Typed) → Streamed t → moved β s t ≡ moved γ s t
  unfolding moved
  moved_same t (inl e) = rw e
  moved_same t (inr h) = rw (ne_eqb t.infos 0 (λ z. omega arith))

  passed_same : (n : ℕ) (t : Typed) → Streamed t → passed β s t n ≡ passed γ s t n
  unfolding passed
  passed_same zero t w = refl
  passed_same (suc n) t w =
      ap (pick (is_primitive t.slot) None)
      (passed_same n (moved β s t) (moved_streamed β s t w) ∙ ap (λ (u : Typed). passed γ s u n) (moved_same t w))

  over_same : (n : ℕ) (t : Typed) → Streamed t → passed_of β s t n ≡ passed_of γ s t n
  unfolding passed_of
  over_same n t w = go (eqb t.types 0)
    where
      go : (b : Bool) → passed_by b β s t n ≡ passed_by b γ s t n
      go true = refl
      go false = passed_same n t w

  -- ---- the fields of a record

  -- a class by id names a class of kind 4 or 5, whose types stand in its own record
  number_same : (f g : ℕ → ℕ → Result Head Refusal) → ((v e : ℕ) → f v e ≡ g v e) → (r : Option (ℕ × ℕ)) → on_number f r ≡ on_number g r
  number_same f g w (Some (v, e)) = w v e
  number_same f g w None = refl

  class_typed : (k : ℕ) → is_class k ≡ true → is_untyped k ≡ false
  class_typed k t = go (eqb k 4) refl t
    where
      go : (b : Bool) → eqb k 4 ≡ b → (b || eqb k 5) ≡ true → is_untyped k ≡ false
      go true e t = ap is_untyped (eqb-true k 4 e)
      go false e t = ap is_untyped (eqb-true k 5 t)

  first_same : (c : Row) → is_untyped c.kind ≡ false → first_type β s c ≡ first_type γ s c
  unfolding first_type
  first_same c u = rw u

  row_same : (rows : List Row) (id end class : ℕ) → by_row β s rows id end (class_row class rows) ≡ by_row γ s rows id end (class_row class rows)
  row_same rows id end class = go (eqb (class_row class rows) 0) refl
    where
      c : Row
      c = get_or rows (class_row class rows - 1) blank

      go : (b : Bool) → eqb (class_row class rows) 0 ≡ b
          → pick b (Err R.NoClass) (of_class β s id end (class_row class rows) c) ≡ pick b (Err R.NoClass) (of_class γ s id end (class_row class rows) c)
      go true q = refl
      go false q =
          let n = eqb-false (class_row class rows) 0 q in
          let f = class_at_holds class rows (omega arith) in
          ap (λ (t : Typed). Ok (record { id = id; end = end; count = c.count; slots = c.count; first = t; link = class_row class rows }))
          (first_same c (class_typed c.kind f.kind))

  by_id_same : (rows : List Row) (at : ℕ) → class_by_id_at β s rows at ≡ class_by_id_at γ s rows at
  unfolding class_by_id_at
  by_id_same rows at =
      number_same _ _ (λ id p. ap (λ (x : Result Head Refusal). pick (good_class_id rows id) x (Err R.BadId))
      (number_same _ _ (λ class end. row_same rows id end class) (u32_at s p)))
      (u32_at s (at + 1))

  heading_same : (σ : Setting) (rows : List Row) (k at : ℕ) → heading_at (terms σ β) s rows k at ≡ heading_at (terms σ γ) s rows k at
  unfolding heading_at
  heading_same σ rows k at = rw (by_id_same rows at)

-- ---- a step under any book

-- so are the types of all open objects
abbrev Frames : Frame → List Frame → Type 0
Frames f [] = Streamed f.typed
Frames f (g ∷ gs) = Streamed f.typed × Frames g gs

abbrev Opens : Open → Type 0
Opens o = Frames o.cur o.below

top_of : (f : Frame) (gs : List Frame) → Frames f gs → Streamed f.typed
top_of f [] w = w
top_of f (g ∷ gs) w = w.0

fill_frames : (f : Frame) (gs : List Frame) (k : ℕ) (t : Typed) → Streamed t → Frames f gs → Frames (filled_by f k t) gs
fill_frames f [] k t x w = x
fill_frames f (g ∷ gs) k t x w = (x, w.1)

close_frames : (f : Frame) (gs : List Frame) → Frames f gs → Opens (close f gs)
unfolding close
close_frames f [] w = w
close_frames f (g ∷ gs) w = picked Opens (eqb f.left 0) (λ q. close_frames g gs w.1) (λ q. w)

abbrev NextStreamed : Next → Type 0
NextStreamed (go st) = Opens st.stack
NextStreamed (ended rows at) = Unit {0}
NextStreamed (refuse r place) = Unit {0}

module _ (β γ s : List ℕ) (room : ℕ) (st : State) (v : Opens st.stack) where
  abbrev typed : Typed
  typed = st.stack.cur.typed

  here : Streamed typed
  here = top_of st.stack.cur st.stack.below v

  add_streamed : (r : Row) (o : Open) → Opens o → NextStreamed (add room st r o)
  unfolding add
  add_streamed r o w = picked NextStreamed (ltb (length st.rows) room) (λ q. w) (λ q. tt)

  fill_streamed : (r : Row) (k : ℕ) (t : Typed) → Streamed t → NextStreamed (add room st r (filled st.stack k t))
  unfolding filled
  fill_streamed r k t x =
      add_streamed r (filled st.stack k t)
      (close_frames (filled_by st.stack.cur k t) st.stack.below (fill_frames st.stack.cur st.stack.below k t x v))

  one_streamed : (r : Row) → NextStreamed (add room st r (filled st.stack 1 (moved β s typed)))
  one_streamed r = fill_streamed r 1 (moved β s typed) (moved_streamed β s typed here)

  run_streamed : (kind : ℕ) (h : Head) → NextStreamed (null_run β s room st kind h)
  unfolding null_run
  run_streamed kind h =
      picked NextStreamed (ltb st.stack.cur.left h.count) (λ q. tt) (λ q. over (passed_of β s typed h.count) (over_streamed β s h.count typed here))
    where
      over : (p : Option Typed) → Over p → NextStreamed (run_over room st kind h p)
      over (Some t) w = fill_streamed (row_in st kind h) h.count t w
      over None w = tt

  object_streamed : (kind : ℕ) (h : Head) → Streamed h.first → NextStreamed (object room st kind h (moved β s typed))
  unfolding object opened
  object_streamed kind h x =
      let t = moved β s typed in
      picked NextStreamed (eqb h.slots 0) (λ z. one_streamed (row_in st kind h))
      (λ z. picked NextStreamed (ltb (length st.stack.below) 64)
      (λ d. add_streamed (row_in st kind h) (opened st.stack (length st.rows + 1) h t)
      (x, fill_frames st.stack.cur st.stack.below 1 t (moved_streamed β s typed here) v))
      (λ d. tt))

  end_streamed : (h : Head) → NextStreamed (ending room st h)
  unfolding ending
  end_streamed h = picked NextStreamed (ltb (length st.rows) room) (λ q. tt) (λ q. tt)

  act_streamed : (kind : ℕ) (h : Head) → (is_object kind ≡ true → Streamed h.first) → NextStreamed (act β s room st kind (Ok h))
  unfolding act
  act_streamed kind h x =
      picked NextStreamed (is_object kind) (λ t. object_streamed kind h (x t))
      (λ t. picked NextStreamed (eqb kind 13 || eqb kind 14) (λ u. run_streamed kind h)
      (λ u. picked NextStreamed (eqb kind 12) (λ a. add_streamed (row_apart st kind h) st.stack v)
      (λ a. picked NextStreamed (eqb kind 11) (λ b. end_streamed h) (λ b. one_streamed (row_in st kind h)))))

  act_same : (kind : ℕ) (x : Result Head Refusal) → act β s room st kind x ≡ act γ s room st kind x
  unfolding act null_run
  act_same kind (Err f) = refl
  act_same kind (Ok h) = rw (moved_same β γ s typed here, over_same β γ s h.count typed here)

  value_same : (c : PrimitiveCode) (x : Result ℕ Refusal) → (on_value β s room st c x ≡ on_value γ s room st c x) × NextStreamed (on_value β s room st c x)
  value_same c (Ok end) =
      (rw (moved_same β γ s typed here), one_streamed (row_in st 32 (value_head c end)))
  value_same c (Err f) = (refl, tt)

-- the first slot of an object has its type in the stream
module _ (τ : Terms) (s : List ℕ) (rows : List Row) (each : (i : ℕ) → i < length rows → Stood τ s (take i rows) (get_or rows i blank)) (k : ℕ) (h : Head) where
  start_streamed : Starts τ.book s rows k h → Streamed h.first
  start_streamed (alike_slots e) = inl e.0
  start_streamed (own_class_rule c n i f) = subst Streamed (sym f) (typed_streamed s h.link (h.link + h.count) (omega arith))
  start_streamed (by_class q i c n f) =
      let r = get_or rows (h.link - 1) blank in
      let x = types_in τ (each (h.link - 1) i) c in
      subst Streamed (sym (f ∙ first_of τ.book s r c x.inside)) (typed_streamed s r.link (r.link + r.count) (omega arith))

module _ (σ : Setting) (β γ s : List ℕ) (room : ℕ) where
  abbrev τ : Terms
  τ = terms σ β

  abbrev υ : Terms
  υ = terms σ γ

  module _ (st : State) (w : Gathered τ s st) (v : Opens st.stack) where
    abbrev Same : Next → Next → Type 0
    Same x y = (x ≡ y) × NextStreamed x

    kind_same : (place : Where) (k : Result ℕ Refusal) → kind_at s place st.at ≡ k → Same (on_kind τ s room st k) (on_kind υ s room st k)
    unfolding act
    kind_same place (Ok k) q = (
      act_same β γ s room st v k (heading_at τ s st.rows k st.at) ∙ ap (act γ s room st k) (heading_same β γ s σ st.rows k st.at),
      streamed (heading_at τ s st.rows k st.at) refl,
    )
      where
        streamed : (x : Result Head Refusal) → heading_at τ s st.rows k st.at ≡ x → NextStreamed (act β s room st k x)
        streamed (Ok h) e =
            let b = kind_byte s place st.at k q in
            let each : (i : ℕ) → i < length st.rows → Stood τ s (take i st.rows) (get_or st.rows i blank) = λ i l. (w.each i l).0.said in
            act_streamed β γ s room st v k h
            (λ o. start_streamed τ s st.rows each k h (starts τ s st.rows each k st.at h e (allowed_known k place b.fits) o))
        streamed (Err f) e = tt
    kind_same place (Err f) q = (refl, tt)

    record_same : (place : Where) → Same (record_step τ s room st place) (record_step υ s room st place)
    unfolding record_step
    record_same place = kind_same place (kind_at s place st.at) refl

    slot_same : (t : SlotType) → Same (by_slot τ s room st t) (by_slot υ s room st t)
    unfolding value_step
    slot_same (S.Primitive c) = value_same β γ s room st v c (value_at σ s c st.at)
    slot_same S.Text = record_same _
    slot_same S.Object = record_same _
    slot_same S.SystemClass = record_same _
    slot_same S.Class = record_same _
    slot_same S.ObjectArray = record_same _
    slot_same S.StringArray = record_same _
    slot_same (S.PrimitiveArray c) = record_same _

    step_same : Same (step τ s room st) (step υ s room st)
    unfolding step
    step_same = slot_same st.stack.cur.typed.slot

  -- ---- the whole stream

  next_same : (f g : State → Outcome) → ((st : State) → Gathered τ s st → 0 < length st.rows → Opens st.stack → f st ≡ g st)
      → (x : Next) → NextGathered τ s x → NextStreamed x → onward s f x ≡ onward s g x
  next_same f g e (go st) w v = e st w.0 w.1 v
  next_same f g e (ended rows at) w v = refl
  next_same f g e (refuse r place) w v = refl

  run_same : (k : ℕ) (st : State) → Gathered τ s st → 0 < length st.rows → Opens st.stack → run τ k s room st ≡ run υ k s room st
  unfolding run
  run_same zero st w n v = refl
  run_same (suc k) st w n v =
      let x = step_same st w v in
      next_same (run τ k s room) (run υ k s room) (run_same k) (step τ s room st) (step_gathered τ s room st w n) x.1
      ∙ ap (onward s (run υ k s room)) x.0

  begin_same : (x : Next) → NextGathered τ s x → NextStreamed x → begin τ s room x ≡ begin υ s room x
  begin_same (go st) w v = run_same (length s) st w.0 w.1 v
  begin_same (ended rows at) w v = refl
  begin_same (refuse r place) w v = refl

  -- the book does not come into what a stream comes to
  pub stream_same : stream_of τ s room ≡ stream_of υ s room
  unfolding stream_of
  stream_same =
      let x = record_same start (start_gathered τ s) (inl refl) W.Start in
      begin_same (record_step τ s room start W.Start) (header_gathered τ s room) x.1 ∙ ap (begin υ s room) x.0
