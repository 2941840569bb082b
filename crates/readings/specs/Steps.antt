-- What a step of the machine does where a record or a member value stands that the grammar takes (01, What may stand where; Records): one law for an
-- object without slots, an object with slots, a record that fills one slot, a null run, a library, a member value, the end record and the header.
use Rattle.std.specs.Prelude.{ℕ, ◌+◌, ◌≤◌, ◌<◌, ◌≡◌, Bool, true, false, ◌||◌, eqb, Some, Ok}
use Rattle.std.proofs.Math.Path.{refl, ap}
use Rattle.std.proofs.Common.{sym, subst, ◌∙◌, arith}
use mathlib.Core.List.{List, [], ◌∷◌, ◌++◌}
use Rattle.std.proofs.Math.ListN.{length}
use borrow.Author.Tests.{lt-ltb, le-ltb, eqb-true, eq-eqb, ne_eqb}
use Rattle.format.specs.Terms.{Terms}
use Rattle.format.specs.declared.PrimitiveCode.{PrimitiveCode}
use Rattle.format.specs.declared.SlotType.{SlotType}
use Rattle.format.specs.declared.SlotType.TheVariants as S
use Rattle.format.specs.declared.Typed.{Typed}
use Rattle.format.specs.declared.Where.{Where}
use Rattle.format.specs.declared.Where.TheVariants as W
use Rattle.format.specs.declared.Head.{Head}
use Rattle.format.specs.declared.Row.{Row}
use Rattle.format.specs.Types.{alike, moved, is_primitive, passed_of}
use Rattle.format.specs.Rows.{is_object}
use Rattle.format.specs.Records.{is_kind, not_taken, allowed, kind_of, kind_at, heading_at}
use Rattle.format.specs.Contents.{Prefixed, Rec, value, enc}
use Rattle.format.specs.Grammar.{Value}
use Rattle.format.specs.Machine.{Open, State, go, ended, close, filled, opened, row_in, row_apart, add, object, null_run, ending, act, on_kind, record_step, value_head, on_value, value_step, where_in, by_slot, step, start}
use Rattle.class_info.specs.Ends.{EndsIn}
use Rattle.ends.specs.Headings.{heading_ends}
use Rattle.kinds.specs.Kinds.{kind_there, kind_taken}
use Rattle.slots.specs.Slots.{moved_alike}
use Rattle.places.specs.Env.{env_of}
use Rattle.places.specs.Stand.{Stand, stand_size}
use Rattle.places.specs.Recs.{Good, good_kind, Told, told_end, told_slots}
use Rattle.places.specs.Read.{record_read, member_read}

abbrev pub state_at : ℕ → List Row → Open → State
state_at at rows o = record { at = at; rows = rows; stack = o }

-- ---- a record that is taken where it may stand

-- where a slot of a type that is not primitive has its record
abbrev pub where_of : SlotType → Where
where_of (S.Primitive c) = W.ArraySlot
where_of S.Text = W.StringSlot
where_of S.Object = W.ObjectSlot
where_of S.SystemClass = W.ObjectSlot
where_of S.Class = W.ObjectSlot
where_of S.ObjectArray = W.ArraySlot
where_of S.StringArray = W.ArraySlot
where_of (S.PrimitiveArray c) = W.ArraySlot

-- a record of kind k may stand next
pub record Allows (o : Open) (k : ℕ) : Type 0 where
  pub by_record : is_primitive o.cur.typed.slot ≡ false
  pub fits : allowed (where_in o.below (where_of o.cur.typed.slot)) k ≡ true

-- the fields that are read of the record r, which stands from at to e
pub record Taken (τ : Terms) (s : List ℕ) (rows : List Row) (at e k : ℕ) (r : Rec) (id count class : ℕ) (ts : List SlotType) : Type 0 where
  pub head : Head
  pub fields : heading_at τ s rows k at ≡ Ok head
  pub told : Told τ.book s k at head r id count class ts
  pub known : is_kind k ≡ true
  pub free : not_taken k ≡ false
  pub ends : head.end ≡ e
  pub onward : at < e

pub record_taken : (τ : Terms) (s : List ℕ) (rows : List Row) (at e k : ℕ) (r : Rec) (id count class : ℕ) (ts : List SlotType) → Good τ (env_of τ.book s rows) k r id count class ts
    → Stand s (enc r) at e → Taken τ s rows at e k r id count class ts
record_taken τ s rows at e k r id count class ts g w =
    let x = record_read τ s rows at e k r id count class ts g w in
    let q = good_kind τ g in
    let n : x.head.end ≡ e = told_end x.told ∙ sym (stand_size w) in
    let m : EndsIn at (length s) (Ok x.head) = subst (EndsIn at (length s)) x.taken (heading_ends τ s rows k at x.told.inside) in
    record { head = x.head; fields = x.taken; told = x.told; known = q.0; free = q.1; ends = n; onward = subst (λ (p : ℕ). at < p) n m.0 }

-- ---- the kinds whose record fills one slot and is no object

abbrev pub fills_one : ℕ → Bool
fills_one k = eqb k 8 || (eqb k 9 || eqb k 10)

-- what the machine asks of a kind
pub record Plain (k : ℕ) : Type 0 where
  pub no_object : is_object k ≡ false
  pub no_run : (eqb k 13 || eqb k 14) ≡ false
  pub no_library : eqb k 12 ≡ false
  pub no_end : eqb k 11 ≡ false

pub fills_plain : (k : ℕ) → fills_one k ≡ true → Plain k
fills_plain k e = by_kind (eqb k 8) (eqb k 9) (eqb k 10) refl refl refl e
  where
    is : (n : ℕ) → Plain n → eqb k n ≡ true → Plain k
    is n p e = rw (eqb-true k n e) p

    by_kind : (a b c : Bool) → eqb k 8 ≡ a → eqb k 9 ≡ b → eqb k 10 ≡ c → (a || (b || c)) ≡ true → Plain k
    by_kind true b c x y z e = is 8 (record { no_object = refl; no_run = refl; no_library = refl; no_end = refl }) x
    by_kind false true c x y z e = is 9 (record { no_object = refl; no_run = refl; no_library = refl; no_end = refl }) y
    by_kind false false true x y z e = is 10 (record { no_object = refl; no_run = refl; no_library = refl; no_end = refl }) z
    by_kind false false false x y z e = absurd (let z : ◌≡◌ {A = ℕ} 0 1 = cc in omega arith)

abbrev pub is_run : ℕ → Bool
is_run k = eqb k 13 || eqb k 14

run_no_object : (k : ℕ) → is_run k ≡ true → is_object k ≡ false
run_no_object k e = by_kind (eqb k 13) (eqb k 14) refl refl e
  where
    by_kind : (a b : Bool) → eqb k 13 ≡ a → eqb k 14 ≡ b → (a || b) ≡ true → is_object k ≡ false
    by_kind true b x y e = rw (eqb-true k 13 x)
    by_kind false true x y e = rw (eqb-true k 14 y)
    by_kind false false x y e = absurd (let z : ◌≡◌ {A = ℕ} 0 1 = cc in omega arith)

-- ---- the step

module _ (τ : Terms) (s : List ℕ) (room at : ℕ) (rows : List Row) (o : Open) where
  adds : (r : Row) (o' : Open) (e : ℕ) → length rows < room → r.end ≡ e
      → add room (state_at at rows o) r o' ≡ go (state_at e (rows ++ (r ∷ [])) o')
  unfolding add
  adds r o' e h q = rw (lt-ltb (length rows) room h) (ap (λ (p : ℕ). go (state_at p (rows ++ (r ∷ [])) o')) q)

  -- a member value
  pub value_goes : (c : PrimitiveCode) (v : Prefixed) (e : ℕ) → o.cur.typed.slot ≡ S.Primitive c → Value τ c v → Stand s (enc (value c v)) at e → length rows < room
      → step τ s room (state_at at rows o) ≡ go (state_at e (rows ++ (row_in (state_at at rows o) 32 (value_head c e) ∷ [])) (filled o 1 (moved τ.book s o.cur.typed)))
  unfolding step value_step
  value_goes c v e slot g w h =
      ap (by_slot τ s room (state_at at rows o)) slot ∙ ap (on_value τ.book s room (state_at at rows o) c) (member_read τ s c v at e g w)
      ∙ adds (row_in (state_at at rows o) 32 (value_head c e)) (filled o 1 (moved τ.book s o.cur.typed)) e h refl

  module _ (e k : ℕ) (r : Rec) (id count class : ℕ) (ts : List SlotType) (w : Taken τ s rows at e k r id count class ts) where
    record_acts : (v : Where) → allowed v k ≡ true → record_step τ s room (state_at at rows o) v ≡ act τ.book s room (state_at at rows o) k (Ok w.head)
    unfolding record_step
    record_acts v a =
        let q : kind_at s v at ≡ Ok k = kind_there s v at w.told.inside ∙ (ap (kind_of v) w.told.kind_byte ∙ kind_taken k v w.known w.free a) in
        ap (on_kind τ s room (state_at at rows o)) q ∙ ap (act τ.book s room (state_at at rows o) k) w.fields

    slot_acts : (t : SlotType) → is_primitive t ≡ false → allowed (where_in o.below (where_of t)) k ≡ true
        → by_slot τ s room (state_at at rows o) t ≡ act τ.book s room (state_at at rows o) k (Ok w.head)
    slot_acts (S.Primitive c) n a = absurd (let z : ◌≡◌ {A = ℕ} 0 1 = cc in omega arith)
    slot_acts S.Text n a = record_acts _ a
    slot_acts S.Object n a = record_acts _ a
    slot_acts S.SystemClass n a = record_acts _ a
    slot_acts S.Class n a = record_acts _ a
    slot_acts S.ObjectArray n a = record_acts _ a
    slot_acts S.StringArray n a = record_acts _ a
    slot_acts (S.PrimitiveArray c) n a = record_acts _ a

    step_acts : Allows o k → step τ s room (state_at at rows o) ≡ act τ.book s room (state_at at rows o) k (Ok w.head)
    unfolding step
    step_acts a = slot_acts o.cur.typed.slot a.by_record a.fits

    -- an object without slots fills its own slot
    pub hollow_goes : Allows o k → is_object k ≡ true → length rows < room → ts ≡ []
        → step τ s room (state_at at rows o) ≡ go (state_at e (rows ++ (row_in (state_at at rows o) k w.head ∷ [])) (filled o 1 (moved τ.book s o.cur.typed)))
    unfolding act object
    hollow_goes a i h n =
        let z : w.head.slots ≡ 0 = told_slots w.told ∙ ap length n in
        step_acts a ∙ rw (i, eq-eqb w.head.slots 0 z) (adds (row_in (state_at at rows o) k w.head) (filled o 1 (moved τ.book s o.cur.typed)) e h w.ends)

    -- an object with slots is open
    pub object_goes : Allows o k → is_object k ≡ true → length rows < room → (ts ≡ [] → ⊥) → length o.below < 64
        → step τ s room (state_at at rows o)
        ≡ go (state_at e (rows ++ (row_in (state_at at rows o) k w.head ∷ [])) (opened o (length rows + 1) w.head (moved τ.book s o.cur.typed)))
    unfolding act object
    object_goes a i h n d =
        step_acts a
        ∙ rw (i, ne_eqb w.head.slots 0 (λ z. n (none ts (sym (told_slots w.told) ∙ z))), lt-ltb (length o.below) 64 d)
        (adds (row_in (state_at at rows o) k w.head) (opened o (length rows + 1) w.head (moved τ.book s o.cur.typed)) e h w.ends)
      where
        none : (ts : List SlotType) → length ts ≡ 0 → ts ≡ []
        none [] z = refl
        none (t ∷ ts) z = absurd (omega arith)

    act_fills : Plain k → length rows < room → act τ.book s room (state_at at rows o) k (Ok w.head)
        ≡ go (state_at e (rows ++ (row_in (state_at at rows o) k w.head ∷ [])) (filled o 1 (moved τ.book s o.cur.typed)))
    unfolding act
    act_fills p h =
        rw (p.no_object, p.no_run, p.no_library, p.no_end)
        (adds (row_in (state_at at rows o) k w.head) (filled o 1 (moved τ.book s o.cur.typed)) e h w.ends)

    -- a typed primitive, a reference or a null
    pub fills_goes : Allows o k → fills_one k ≡ true → length rows < room
        → step τ s room (state_at at rows o) ≡ go (state_at e (rows ++ (row_in (state_at at rows o) k w.head ∷ [])) (filled o 1 (moved τ.book s o.cur.typed)))
    fills_goes a f h = step_acts a ∙ act_fills (fills_plain k f) h

    -- a null run, over slots that are passed
    pub run_goes : Allows o k → is_run k ≡ true → length rows < room → count ≤ o.cur.left → (t : Typed) → passed_of τ.book s o.cur.typed count ≡ Some t
        → step τ s room (state_at at rows o) ≡ go (state_at e (rows ++ (row_in (state_at at rows o) k w.head ∷ [])) (filled o count t))
    unfolding act null_run
    run_goes a f h l t p =
        let c : w.head.count ≡ count = w.told.count_is in
        let q : passed_of τ.book s o.cur.typed w.head.count ≡ Some t = ap (passed_of τ.book s o.cur.typed) c ∙ p in
        step_acts a
        ∙ rw (run_no_object k f, f, le-ltb o.cur.left w.head.count (omega arith), q)
        (adds (row_in (state_at at rows o) k w.head) (filled o w.head.count t) e h w.ends
        ∙ ap (λ (n : ℕ). go (state_at e (rows ++ (row_in (state_at at rows o) k w.head ∷ [])) (filled o n t))) c)

    -- a library fills no slot
    pub library_goes : Allows o k → k ≡ 12 → length rows < room
        → step τ s room (state_at at rows o) ≡ go (state_at e (rows ++ (row_apart (state_at at rows o) k w.head ∷ [])) o)
    unfolding act
    library_goes a f h = step_acts a ∙ by_kind k f
      where
        by_kind : (k : ℕ) → k ≡ 12 → act τ.book s room (state_at at rows o) k (Ok w.head) ≡ go (state_at e (rows ++ (row_apart (state_at at rows o) k w.head ∷ [])) o)
        by_kind k f = rw f (adds (row_apart (state_at at rows o) 12 w.head) o e h w.ends)

    -- the end record
    pub end_goes : Allows o k → k ≡ 11 → length rows < room
        → step τ s room (state_at at rows o) ≡ ended (rows ++ (row_in (state_at at rows o) k w.head ∷ [])) e
    unfolding act ending
    end_goes a f h = step_acts a ∙ by_kind k f
      where
        by_kind : (k : ℕ) → k ≡ 11 → act τ.book s room (state_at at rows o) k (Ok w.head) ≡ ended (rows ++ (row_in (state_at at rows o) k w.head ∷ [])) e
        by_kind k f =
            rw (f, lt-ltb (length rows) room h) (ap (λ (p : ℕ). ended (rows ++ (row_in (state_at at rows o) 11 w.head ∷ [])) p) w.ends)

-- at the top level no slot is filled
pub top_filled : (β s : List ℕ) → filled start.stack 1 (moved β s start.stack.cur.typed) ≡ start.stack
unfolding filled close
top_filled β s = rw (moved_alike β s (alike S.Object 0) refl)

-- the header stands first
pub header_goes : (τ : Terms) (s : List ℕ) (room e : ℕ) (r : Rec) (id count class : ℕ) (ts : List SlotType) (w : Taken τ s [] 0 e 0 r id count class ts) → 0 < room
    → record_step τ s room start W.Start ≡ go (state_at e (row_in start 0 w.head ∷ []) start.stack)
unfolding allowed
header_goes τ s room e r id count class ts w h =
    record_acts τ s room 0 [] start.stack e 0 r id count class ts w W.Start refl
    ∙ (act_fills τ s room 0 [] start.stack e 0 r id count class ts w (record { no_object = refl; no_run = refl; no_library = refl; no_end = refl }) h
    ∙ ap (λ (o : Open). go (state_at e (row_in start 0 w.head ∷ []) o)) (top_filled τ.book s))
