-- What one step says (01, What may stand where): if the rows that come in the end show what the grammar asks from after the step on, they show it
-- from before the step on, with the record or value that the step took. Each choice of a step in its turn.
use Rattle.std.specs.Prelude.{ℕ, suc, ◌+◌, ◌-◌, ◌≤◌, ◌<◌, ◌≡◌, Bool, true, false, ◌||◌, ltb, eqb, Option, Some, None, Result, Ok, Err}
use Rattle.format.specs.declared.Refusal.{Refusal}
use Rattle.format.specs.declared.Typed.{Typed}
use Rattle.std.proofs.Math.Path.{refl, ap, subst}
use Rattle.std.proofs.Common.{sym, ◌∙◌, drop_of_length-le}
use mathlib.Core.List.{List, [], ◌∷◌, ◌++◌}
use native.Mathlib.Omega.{arith}
use Rattle.std.proofs.Math.ListN.{length, length-append}
use borrow.Author.Tests.{ltb-true, ltb-false, eqb-true}
use Rattle.format.specs.Terms.{Terms}
use Rattle.format.specs.declared.PrimitiveCode.{PrimitiveCode}
use Rattle.format.specs.declared.SlotType.{SlotType}
use Rattle.format.specs.declared.SlotType.TheVariants as S
use Rattle.format.specs.declared.Where.{Where}
use Rattle.format.specs.declared.Head.{Head}
use Rattle.format.specs.declared.Row.{Row}
use Rattle.format.specs.declared.Frame.{Frame}
use Rattle.format.specs.Values.{value_at}
use Rattle.format.specs.Types.{moved, is_primitive, passed_of}
use Rattle.format.specs.Rows.{is_object}
use Rattle.format.specs.Records.{allowed}
use Rattle.format.specs.Contents.{Prefixed, Rec, value, enc, encs}
use Rattle.format.specs.Grammar.{Cur, cur, row_of, size, Body, Slots, member_value, Objects}
use Rattle.format.specs.Machine.{Open, State, Next, go, ended, refuse, close, filled_by, filled, opened, row_in, row_apart, add, object, run_over, null_run, ending, value_head, on_value, value_step, where_in}
use Rattle.fields.specs.Judged.{picked}
use Rattle.num.specs.Le.{Bytes}
use Rattle.laws.specs.Tests.{apart}
use Rattle.places.specs.Env.{env_of, env_same}
use Rattle.places.specs.Stand.{stand_size}
use Rattle.places.specs.Recs.{Back, told_slots}
use Rattle.places.specs.Values.{value_in}
use Rattle.places.specs.Tell.{member_told}
use Rattle.readings.specs.Steps.{state_at, where_of}
use Rattle.readings.specs.Frames.{open_at, spent}
use Rattle.readings.specs.Rows.{bare, row_bare}
use Rattle.readings.specs.Shape.{Ran, run_over_lem, Shaped, some, close_shaped, based_spent, based_run}
use Rattle.readings.specs.Firsts.{Later, AllLater, later_more, First}
use Rattle.readings.specs.Rest.{Rest, RestOf, rest_close, fill_one}
use Rattle.readings.specs.Before.{object_rest, library_rest, plain_rest, run_rest}
use Rattle.readings.specs.Goal.{Goal, goal_more, back_more}
use Rattle.readings.specs.Fills.{in_slots, hollow_body, open_body, after, top_end, top_plain}

-- what holds between two steps
pub record Between (st : State) : Type 0 where
  pub later : AllLater st.rows
  pub shaped : Shaped st.stack

-- what the answer of a step from this state says
abbrev pub NextSaid : Terms → ℕ → List ℕ → State → Next → Type 0
NextSaid τ room s st (go st') = Between st' × ((final : List Row) → Goal τ s st' final → Goal τ s st final)
NextSaid τ room s st (ended rows e) = (length s ≤ e → Goal τ s st rows) × (length rows ≤ room)
NextSaid τ room s st (refuse r place) = Unit {0}

same_slots : (τ : Terms) {room own own' slot slot' : ℕ} {ts ts' : List SlotType} {c c₁ : Cur} → own ≡ own' → slot ≡ slot' → ts ≡ ts' → Slots τ room own slot ts c c₁ → Slots τ room own' slot' ts' c c₁
same_slots τ {room} {own} {own'} {slot} {slot'} {ts} {ts'} {c} {c₁} a b d x =
    subst (λ (n : ℕ). Slots τ room n slot' ts' c c₁) a (subst (λ (n : ℕ). Slots τ room own n ts' c c₁) b (subst (λ (us : List SlotType). Slots τ room own slot us c c₁) d x))

module _ (τ : Terms) (s : List ℕ) (room at : ℕ) (rows : List Row) (f : Frame) (gs : List Frame) (b : Between (state_at at rows (open_at f gs))) where
  abbrev st : State
  st = state_at at rows (open_at f gs)

  add_said : (r : Row) (o : Open) → Later r → Shaped o → ((final : List Row) → Goal τ s (state_at r.end (rows ++ (r ∷ [])) o) final → Goal τ s st final)
      → NextSaid τ room s st (add room st r o)
  unfolding add
  add_said r o l h k =
      picked (NextSaid τ room s st) (ltb (length rows) room) (λ t. (record { later = later_more rows r b.later l; shaped = h }, k)) (λ t. tt)

  -- a record whose fields are good, of a kind that may stand there
  module _ (k : ℕ) (h : Head) (d : Back τ s rows k at h) (first : First k h) (w : allowed (where_in gs (where_of f.typed.slot)) k ≡ true) (p : is_primitive f.typed.slot ≡ false) where
    pub object_said : is_object k ≡ true → NextSaid τ room s st (object room st k h (moved τ.book s f.typed))
    unfolding object filled opened
    object_said o =
        picked (NextSaid τ room s st) (eqb h.slots 0)
        (λ z. add_said (row_in st k h) (close (spent τ.book s f) gs) first.0 (close_shaped (spent τ.book s f) gs (based_spent τ.book s f gs b.shaped.based))
        (back_more τ s at rows f gs (close (spent τ.book s f) gs) k h d f.owner (f.count - f.left) (hollow z)))
        (λ z. picked (NextSaid τ room s st) (ltb (length gs) 64)
        (λ l. add_said (row_in st k h) (opened st.stack (length rows + 1) h (moved τ.book s f.typed)) first.0 (open_shaped z)
        (back_more τ s at rows f gs (opened st.stack (length rows + 1) h (moved τ.book s f.typed)) k h d f.owner (f.count - f.left) (slotted z (ltb-true (length gs) 64 l))))
        (λ l. tt))
      where
        before : (rs : List Rec) (is : List Row) (c : Cur) → Body τ (64 - length gs) (suc (length rows)) d.types (after at (length rows) (env_of τ.book s rows) d.rec rs is) c
            → Rest τ s (spent τ.book s f) gs c
            → Rest τ s f gs (cur at (length rows) (env_of τ.book s rows) (d.rec ∷ rs) (row_of k at d.rec d.id f.owner (f.count - f.left) d.class d.count ∷ is))
        before rs is c x y = object_rest τ s f at (length rows) rs is gs c d.good o w b.shaped.tight b.shaped.based x y

        hollow : eqb h.slots 0 ≡ true → (rs : List Rec) (is : List Row) → RestOf τ s (close (spent τ.book s f) gs) (after at (length rows) (env_of τ.book s rows) d.rec rs is)
            → Rest τ s f gs (cur at (length rows) (env_of τ.book s rows) (d.rec ∷ rs) (row_of k at d.rec d.id f.owner (f.count - f.left) d.class d.count ∷ is))
        hollow z rs is r =
            let c = after at (length rows) (env_of τ.book s rows) d.rec rs is in
            before rs is c (hollow_body τ d.types (sym (eqb-true h.slots 0 z) ∙ told_slots d.told)) (rest_close τ s (spent τ.book s f) gs c r)

        open_shaped : eqb h.slots 0 ≡ false → Shaped (opened st.stack (length rows + 1) h (moved τ.book s f.typed))
        open_shaped z =
            let n = some h.slots z in
            record { tight = n; based = (record { within = omega arith; free = first.1 n }, based_spent τ.book s f gs b.shaped.based) }

        slotted : eqb h.slots 0 ≡ false → length gs < 64 → (rs : List Rec) (is : List Row)
            → RestOf τ s (opened st.stack (length rows + 1) h (moved τ.book s f.typed)) (after at (length rows) (env_of τ.book s rows) d.rec rs is)
            → Rest τ s f gs (cur at (length rows) (env_of τ.book s rows) (d.rec ∷ rs) (row_of k at d.rec d.id f.owner (f.count - f.left) d.class d.count ∷ is))
        slotted z l rs is r =
            let n = some h.slots z in
            let m = told_slots d.told in
            let x : length rows + 1 ≡ suc (length rows) = omega arith in
            let y : h.slots - h.slots ≡ 0 = omega arith in
            before rs is r.0 (open_body τ (length gs) d.types (omega arith) l (same_slots τ x y d.told.slots_are r.1)) r.2

    pub plain_said : is_object k ≡ false → (eqb k 13 || eqb k 14) ≡ false → eqb k 12 ≡ false → eqb k 11 ≡ false
        → NextSaid τ room s st (add room st (row_in st k h) (filled st.stack 1 (moved τ.book s f.typed)))
    unfolding filled
    plain_said o n l e =
        add_said (row_in st k h) (close (spent τ.book s f) gs) first.0 (close_shaped (spent τ.book s f) gs (based_spent τ.book s f gs b.shaped.based))
        (back_more τ s at rows f gs (close (spent τ.book s f) gs) k h d f.owner (f.count - f.left) (λ rs is r.
        plain_rest τ s f at (length rows) rs is gs d.good o n l e w p b.shaped.tight b.shaped.based
        (rest_close τ s (spent τ.book s f) gs (after at (length rows) (env_of τ.book s rows) d.rec rs is) r)))

  -- a library
  pub library_said : (h : Head) → Back τ s rows 12 at h → is_primitive f.typed.slot ≡ false → NextSaid τ room s st (add room st (row_apart st 12 h) st.stack)
  library_said h d p =
      add_said (row_apart st 12 h) st.stack (λ t. apart t) b.shaped (back_more τ s at rows f gs st.stack 12 h d 0 0 (λ rs is r.
      library_rest τ s f at (length rows) rs is gs d.good p b.shaped.tight b.shaped.based r))

-- ---- null runs, the end record and member values: by the objects that are open

-- a kind of null run is no other
run_not : (k n : ℕ) → eqb 13 n ≡ false → eqb 14 n ≡ false → (eqb k 13 || eqb k 14) ≡ true → eqb k n ≡ false
run_not k n a b e = go (eqb k 13) refl (eqb k 14) refl e
  where
    go : (x : Bool) → eqb k 13 ≡ x → (y : Bool) → eqb k 14 ≡ y → (x || y) ≡ true → eqb k n ≡ false
    go true p y q e = rw (eqb-true k 13 p) a
    go false p true q e = rw (eqb-true k 14 q) b
    go false p false q e = apart e

module _ (τ : Terms) (s : List ℕ) (room at : ℕ) (rows : List Row) (f : Frame) where
  abbrev with_open : List Frame → State
  with_open gs = state_at at rows (open_at f gs)

  pub run_said : (gs : List Frame) → Between (with_open gs) → (k : ℕ) (h : Head) (d : Back τ s rows k at h) → First k h
      → allowed (where_in gs (where_of f.typed.slot)) k ≡ true → is_primitive f.typed.slot ≡ false → is_object k ≡ false → (eqb k 13 || eqb k 14) ≡ true
      → NextSaid τ room s (with_open gs) (null_run τ.book s room (with_open gs) k h)
  unfolding null_run filled
  run_said [] b k h d first w p o e = absurd (top_plain τ d.good o (run_not k 12 refl refl e) (run_not k 11 refl refl e) w)
  run_said (g ∷ gs) b k h d first w p o e =
      picked (NextSaid τ room s (with_open (g ∷ gs))) (ltb f.left h.count) (λ t. tt)
      (λ t. over (ltb-false f.left h.count t) (passed_of τ.book s f.typed h.count) refl)
    where
      over : h.count ≤ f.left → (x : Option Typed) → passed_of τ.book s f.typed h.count ≡ x → NextSaid τ room s (with_open (g ∷ gs)) (run_over room (with_open (g ∷ gs)) k h x)
      over l (Some u) q =
          let n = run_over_lem τ.book s f.typed u h.count f.left b.shaped.based.0.free q l in
          let c = d.told.count_is in
          let m = subst (λ (x : ℕ). Ran τ.book s f.typed u x f.left) c n in
          add_said τ s room at rows f (g ∷ gs) b (row_in (with_open (g ∷ gs)) k h) (close (filled_by f h.count u) (g ∷ gs)) first.0
          (close_shaped (filled_by f h.count u) (g ∷ gs) (based_run f g gs h.count u n.free b.shaped.based))
          (back_more τ s at rows f (g ∷ gs) (close (filled_by f h.count u) (g ∷ gs)) k h d f.owner (f.count - f.left) (λ rs is r.
          run_rest τ s f at (length rows) rs is g gs u d.good e p b.shaped.tight b.shaped.based.0 (subst (λ (x : ℕ). x ≤ f.left) c l) m
          (subst (λ (x : ℕ). Rest τ s (filled_by f x u) (g ∷ gs) (after at (length rows) (env_of τ.book s rows) d.rec rs is)) c
          (rest_close τ s (filled_by f h.count u) (g ∷ gs) (after at (length rows) (env_of τ.book s rows) d.rec rs is) r))))
      over l None q = tt

  pub end_said : (gs : List Frame) → Between (with_open gs) → (h : Head) (d : Back τ s rows 11 at h) → allowed (where_in gs (where_of f.typed.slot)) 11 ≡ true
      → NextSaid τ room s (with_open gs) (ending room (with_open gs) h)
  unfolding ending allowed encs
  end_said [] b h d w =
      picked (NextSaid τ room s (with_open [])) (ltb (length rows) room)
      (λ t.
      let row = row_in (with_open []) 11 h in
      let i : length rows < room = ltb-true (length rows) room t in
      let n : length (rows ++ (row ∷ [])) ≡ length rows + 1 = length-append rows (row ∷ []) in (
        λ l. record {
          rs = d.rec ∷ [];
          later = row ∷ [];
          rows_are = refl;
          bytes_are = d.told.stands.bytes ∙ ap (λ (l : List ℕ). enc d.rec ++ l) (drop_of_length-le s l);
          rest = subst (λ (x : Row). Objects τ (cur at (length rows) (env_of τ.book s rows) (d.rec ∷ []) (x ∷ []))) (sym own_row) (top_end τ d.good);
        },
        omega arith,
      ))
      (λ t. tt)
    where
      -- the top level has no owner
      own_row : bare (row_in (with_open []) 11 h) ≡ row_of 11 at d.rec d.id 0 0 d.class d.count
      own_row =
          row_bare d.told refl f.owner (f.count - f.left)
          ∙ ap (λ (x : Frame). row_of 11 at d.rec d.id x.owner (x.count - x.left) d.class d.count) b.shaped.based
  end_said (g ∷ gs) b h d w = apart (sym (in_slots (λ (w : Where). allowed w 11 ≡ false) refl refl refl f.typed.slot) ∙ w)

  pub value_said : Bytes s → (gs : List Frame) → Between (with_open gs) → (c : PrimitiveCode) → f.typed.slot ≡ S.Primitive c
      → NextSaid τ room s (with_open gs) (value_step τ s room (with_open gs) c)
  unfolding value_step filled enc
  value_said byte [] b c e = apart (ap is_primitive (sym (ap (λ (x : Frame). x.typed.slot) b.shaped.based) ∙ e))
  value_said byte (g ∷ gs) b c e = by_value (value_at τ.setting s c at) refl
    where
      value_row : {end : ℕ} (v : Prefixed) → end ≡ at + size (value c v)
          → bare (row_in (with_open (g ∷ gs)) 32 (value_head c end)) ≡ row_of 32 at (value c v) 0 f.owner (f.count - f.left) 0 0
      value_row v z = rw z

      by_value : (x : Result ℕ Refusal) → value_at τ.setting s c at ≡ x → NextSaid τ room s (with_open (g ∷ gs)) (on_value τ.book s room (with_open (g ∷ gs)) c x)
      by_value (Ok end) q =
          let v = value_in s c at in
          let m = member_told τ s c at end byte q in
          let row = row_in (with_open (g ∷ gs)) 32 (value_head c end) in
          let it = row_of 32 at (value c v) 0 f.owner (f.count - f.left) 0 0 in
          add_said τ s room at rows f (g ∷ gs) b row (close (spent τ.book s f) (g ∷ gs)) (λ t. apart t)
          (close_shaped (spent τ.book s f) (g ∷ gs) (based_spent τ.book s f (g ∷ gs) b.shaped.based))
          (goal_more τ s at rows f (g ∷ gs) (close (spent τ.book s f) (g ∷ gs)) end row it (value c v) (env_of τ.book s rows) (value_row v (stand_size m.1)) m.1
          (env_same τ.book s rows row refl) (λ rs is r.
          let c₁ = cur (at + size (value c v)) (suc (length rows)) (env_of τ.book s rows) rs is in
          let c₀ = cur at (length rows) (env_of τ.book s rows) (value c v ∷ rs) (it ∷ is) in
          fill_one τ s f g gs b.shaped.based.0 b.shaped.tight c₀ c₁ (λ us c₂ x.
          subst (λ (t : SlotType). Slots τ (64 - suc (length gs)) f.owner (f.count - f.left) (t ∷ us) c₀ c₂) (sym e) (member_value m.0 refl x))
          (rest_close τ s (spent τ.book s f) (g ∷ gs) c₁ r)))
      by_value (Err x) q = tt
