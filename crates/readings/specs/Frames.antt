-- The open objects and the types of their slots, in the words of the grammar (01, What may stand where): what may stand next, and the slots that are
-- left after it.
use Prim.Native.Nat.{ℕ, zero, suc, ◌+◌, ◌-◌, ◌≤◌, ◌<◌}
use Rattle.std.specs.Prelude.{◌≡◌, Bool, true, false, ◌||◌, List, ◌∷◌, take, eqb, Option, Some}
use Rattle.std.proofs.Math.Path.{refl, ap}
use Rattle.std.proofs.Common.{sym, ◌∙◌, eqb-true, eq-eqb, ne_eqb}
use native.Mathlib.Omega.{arith}
use Rattle.std.proofs.Math.ListN.{length, drop}
use Rattle.std.proofs.lemmas.Bool.{eqb-false}
use Rattle.format.specs.Terms.{Terms}
use Rattle.format.specs.declared.SlotType.{SlotType}
use Rattle.format.specs.declared.SlotType.TheVariants as S
use Rattle.format.specs.declared.Typed.{Typed}
use Rattle.format.specs.declared.Where.{Where}
use Rattle.format.specs.declared.Where.TheVariants as W
use Rattle.format.specs.declared.Head.{Head}
use Rattle.format.specs.declared.Frame.{Frame}
use Rattle.format.specs.Types.{moved, is_primitive, passed, passed_of}
use Rattle.format.specs.Rows.{is_object}
use Rattle.format.specs.Records.{in_slot, is_class_kind, allowed}
use Rattle.format.specs.Contents.{Rec}
use Rattle.format.specs.Grammar.{Entry, takes_objects, takes_strings, Array, of_objects, of_strings, of_primitives, of_any, of_values, takes_records, all_take}
use Rattle.format.specs.Machine.{Open, close, filled_by, filled, opened, start}
use Rattle.format.proofs.Own.{takes_exactly}
use Rattle.slots.specs.Slots.{moved_alike, passed_alike, passed_walk}
use Rattle.laws.specs.Tests.{or_right, both_of}
use Rattle.places.specs.Env.{slots_from}
use Rattle.places.specs.Recs.{length_slots}
use Rattle.readings.specs.Steps.{where_of, Allows}

-- ---- frames

abbrev pub open_at : Frame → List Frame → Open
open_at f gs = record { cur = f; below = gs }

module _ (f g : Frame) (gs : List Frame) where
  pub still_open : 0 < f.left → close f (g ∷ gs) ≡ open_at f (g ∷ gs)
  unfolding close
  still_open h = rw (ne_eqb f.left 0 (λ z. omega arith))

  pub shut : f.left ≡ 0 → close f (g ∷ gs) ≡ close g gs
  unfolding close
  shut h = rw (eq-eqb f.left 0 h)

pub filled_is : (o : Open) (n : ℕ) (t : Typed) → filled o n t ≡ close (filled_by o.cur n t) o.below
unfolding filled
filled_is o n t = refl

-- the number of the next slot, after n more
pub number_on : (f : Frame) (slot n : ℕ) → n ≤ f.left → f.count ≡ slot + f.left → f.count ≡ slot + n + (f.left - n)
number_on f slot n h e = omega arith

-- the frame of an object that is open
abbrev pub frame_of : ℕ → Head → Frame
frame_of row h = record { owner = row; count = h.slots; left = h.slots; typed = h.first }

-- the slots that a frame has left
module _ (β s : List ℕ) (f : Frame) where
  pub left_slots : (ts : List SlotType) → slots_from β s f.typed f.left ≡ ts → f.left ≡ length ts
  left_slots ts e = sym (length_slots β s f.typed f.left) ∙ ap length e

  first_slot : (t : SlotType) (ts : List SlotType) → slots_from β s f.typed f.left ≡ t ∷ ts
      → (f.typed.slot ≡ t) × (slots_from β s (moved β s f.typed) (f.left - 1) ≡ ts)
  unfolding slots_from
  first_slot t ts e = by_left f.left e
    where
      by_left : (n : ℕ) → slots_from β s f.typed n ≡ t ∷ ts → (f.typed.slot ≡ t) × (slots_from β s (moved β s f.typed) (n - 1) ≡ ts)
      by_left zero e = absurd (let z : 0 ≡ suc (length ts) = ap length e in omega arith)
      by_left (suc n) e =
          let z : suc n - 1 ≡ n = omega arith in
          let q : slots_from β s (moved β s f.typed) n ≡ ts = cc in
          (cc, ap (slots_from β s (moved β s f.typed)) z ∙ q)

-- ---- slots that a null run passes

module _ (β s : List ℕ) where
  -- what passes n of the m slots whose first has type t
  abbrev Passes : Typed → ℕ → ℕ → Option Typed → Type 0
  Passes t n m p = (u : Typed) × (p ≡ Some u) × (slots_from β s u (m - n) ≡ drop n (slots_from β s t m))

  alike_drop : (t : Typed) (n m : ℕ) → n ≤ m → moved β s t ≡ t → slots_from β s t (m - n) ≡ drop n (slots_from β s t m)
  unfolding slots_from
  alike_drop t zero m h e = let z : m - 0 ≡ m = omega arith in rw z
  alike_drop t (suc n) zero h e = absurd (omega arith)
  alike_drop t (suc n) (suc m) h e =
      let z : suc m - suc n ≡ m - n = omega arith in
      rw z (alike_drop t n m (omega arith) e ∙ ap (λ (u : Typed). drop n (slots_from β s u m)) (sym e))

  split_some : (t : SlotType) (ts : List SlotType) → all_take (t ∷ ts) ≡ true → (is_primitive t ≡ false) × (all_take ts ≡ true)
  split_some t ts e =
      let w = both_of (takes_records t) (all_take ts) e in
      ((takes_exactly t).1 w.0, w.1)

  walk_passes : (t : Typed) (n m : ℕ) → n ≤ m → all_take (take n (slots_from β s t m)) ≡ true → Passes t n m (passed β s t n)
  unfolding slots_from passed
  walk_passes t zero m h e = let z : m - 0 ≡ m = omega arith in (t, refl, rw z)
  walk_passes t (suc n) zero h e = absurd (omega arith)
  walk_passes t (suc n) (suc m) h e =
      let z : suc m - suc n ≡ m - n = omega arith in
      let q = split_some t.slot (take n (slots_from β s (moved β s t) m)) e in
      let w = walk_passes (moved β s t) n m (omega arith) q.1 in
      (w.0, rw q.0 w.1, ap (slots_from β s w.0) z ∙ w.2)

  run_passes : (t : Typed) (n m : ℕ) → n ≤ m → all_take (take n (slots_from β s t m)) ≡ true → Passes t n m (passed_of β s t n)
  run_passes t n m h e = by_test (eqb t.types 0) refl
    where
      by_test : (b : Bool) → eqb t.types 0 ≡ b → Passes t n m (passed_of β s t n)
      by_test true q =
          let z : t.types ≡ 0 = eqb-true t.types 0 q in
          (t, passed_alike β s t n z, alike_drop t n m h (moved_alike β s t z))
      by_test false q = rw (passed_walk β s t n (eqb-false t.types 0 q)) (walk_passes t n m h e)

-- ---- the slots of a frame

module _ (β s : List ℕ) where
  abbrev pub spent : Frame → Frame
  spent f = filled_by f 1 (moved β s f.typed)

  -- the next slot of a frame has type t, and slots of types ts follow it
  pub record Nearest (f : Frame) (t : SlotType) (ts : List SlotType) : Type 0 where
    pub slot_is : f.typed.slot ≡ t
    pub some : 0 < f.left
    pub rest : slots_from β s (moved β s f.typed) (f.left - 1) ≡ ts

  pub next_slot : (f : Frame) (t : SlotType) (ts : List SlotType) → slots_from β s f.typed f.left ≡ t ∷ ts → Nearest f t ts
  next_slot f t ts e =
      let a = first_slot β s f t ts e in
      let l : f.left ≡ suc (length ts) = left_slots β s f (t ∷ ts) e in
      record { slot_is = a.0; some = omega arith; rest = a.1 }

  -- n slots of a frame are passed, and slots of types us are left
  pub record Passing (f : Frame) (n : ℕ) (us : List SlotType) : Type 0 where
    pub type : Typed
    pub fits : n ≤ f.left
    pub over : passed_of β s f.typed n ≡ Some type
    pub rest : slots_from β s type (f.left - n) ≡ us

  pub run_law : (f : Frame) (n : ℕ) (ts us : List SlotType) → slots_from β s f.typed f.left ≡ ts → n ≤ length ts → all_take (take n ts) ≡ true → us ≡ drop n ts → Passing f n us
  run_law f n ts us e h p q =
      let l : f.left ≡ length ts = left_slots β s f ts e in
      let w = run_passes β s f.typed n f.left (omega arith) (ap (λ (x : List SlotType). all_take (take n x)) e ∙ p) in
      record { type = w.0; fits = omega arith; over = w.1; rest = w.2 ∙ (ap (drop n) e ∙ sym q) }

  pub opened_is : (o : Open) (row : ℕ) (h : Head) (u : Typed) (t : SlotType) (ts : List SlotType) → slots_from β s h.first h.slots ≡ t ∷ ts
      → close (frame_of row h) (filled_by o.cur 1 u ∷ o.below) ≡ opened o row h u
  unfolding opened
  opened_is o row h u t ts e =
      let l : h.slots ≡ suc (length ts) = left_slots β s (frame_of row h) (t ∷ ts) e in
      still_open (frame_of row h) (filled_by o.cur 1 u) o.below (omega arith)

-- ---- what a slot's type takes

object_slot : (k : ℕ) → in_slot k ≡ true → allowed W.ObjectSlot k ≡ true
unfolding allowed
object_slot k e =
    or_right (is_class_kind k) (eqb k 6 || (eqb k 8 || in_slot k)) (or_right (eqb k 6) (eqb k 8 || in_slot k) (or_right (eqb k 8) (in_slot k) e))

-- references, nulls and libraries
in_slot_rule : (t : SlotType) (k : ℕ) → takes_records t ≡ true → in_slot k ≡ true → allowed (where_of t) k ≡ true
unfolding allowed
in_slot_rule (S.Primitive c) k n e = e
in_slot_rule S.Text k n e = or_right (eqb k 6) (in_slot k) e
in_slot_rule S.Object k n e = object_slot k e
in_slot_rule S.SystemClass k n e = object_slot k e
in_slot_rule S.Class k n e = object_slot k e
in_slot_rule S.ObjectArray k n e = e
in_slot_rule S.StringArray k n e = e
in_slot_rule (S.PrimitiveArray c) k n e = e

-- objects of classes, strings and typed primitives
takes_objects_lem : (t : SlotType) → takes_objects t ≡ true → (is_primitive t ≡ false) × (where_of t ≡ W.ObjectSlot)
takes_objects_lem (S.Primitive c) e = absurd (let z : ◌≡◌ {A = ℕ} 0 1 = cc in omega arith)
takes_objects_lem S.Text e = absurd (let z : ◌≡◌ {A = ℕ} 0 1 = cc in omega arith)
takes_objects_lem S.Object e = (refl, refl)
takes_objects_lem S.SystemClass e = (refl, refl)
takes_objects_lem S.Class e = (refl, refl)
takes_objects_lem S.ObjectArray e = absurd (let z : ◌≡◌ {A = ℕ} 0 1 = cc in omega arith)
takes_objects_lem S.StringArray e = absurd (let z : ◌≡◌ {A = ℕ} 0 1 = cc in omega arith)
takes_objects_lem (S.PrimitiveArray c) e = absurd (let z : ◌≡◌ {A = ℕ} 0 1 = cc in omega arith)

pub takes_strings_lem : (t : SlotType) → takes_strings t ≡ true → (is_primitive t ≡ false) × (allowed (where_of t) 6 ≡ true)
unfolding allowed
takes_strings_lem (S.Primitive c) e = absurd (let z : ◌≡◌ {A = ℕ} 0 1 = cc in omega arith)
takes_strings_lem S.Text e = (refl, refl)
takes_strings_lem S.Object e = (refl, refl)
takes_strings_lem S.SystemClass e = (refl, refl)
takes_strings_lem S.Class e = (refl, refl)
takes_strings_lem S.ObjectArray e = absurd (let z : ◌≡◌ {A = ℕ} 0 1 = cc in omega arith)
takes_strings_lem S.StringArray e = absurd (let z : ◌≡◌ {A = ℕ} 0 1 = cc in omega arith)
takes_strings_lem (S.PrimitiveArray c) e = absurd (let z : ◌≡◌ {A = ℕ} 0 1 = cc in omega arith)

-- classes stand in objects' slots and at the top level
pub class_slot : (k : ℕ) → is_class_kind k ≡ true → allowed W.ObjectSlot k ≡ true
unfolding allowed
class_slot k e = ap (λ (b : Bool). b || (eqb k 6 || (eqb k 8 || in_slot k))) e

pub class_top : (k : ℕ) → is_class_kind k ≡ true → allowed W.Top k ≡ true
unfolding allowed
class_top k e = ap (λ (b : Bool). b || (eqb k 6 || (eqb k 7 || (eqb k 11 || (eqb k 12 || (eqb k 15 || (eqb k 16 || eqb k 17))))))) e

-- kinds that an object's slot takes
abbrev pub OfObjects : ℕ → Type 0
OfObjects k = allowed W.ObjectSlot k ≡ true

module _ (f g : Frame) (gs : List Frame) (t : SlotType) (k : ℕ) (e : f.typed.slot ≡ t) where
  pub allows : is_primitive t ≡ false → allowed (where_of t) k ≡ true → Allows (open_at f (g ∷ gs)) k
  allows n a = record { by_record = ap is_primitive e ∙ n; fits = ap (λ (u : SlotType). allowed (where_of u) k) e ∙ a }

  pub allows_any : takes_records t ≡ true → in_slot k ≡ true → Allows (open_at f (g ∷ gs)) k
  allows_any n a = allows ((takes_exactly t).1 n) (in_slot_rule t k n a)

  pub allows_object : takes_objects t ≡ true → OfObjects k → Allows (open_at f (g ∷ gs)) k
  allows_object n a =
      let w = takes_objects_lem t n in
      allows w.0 (ap (λ (u : Where). allowed u k) w.1 ∙ a)

pub typed_primitive_slot : OfObjects 8
unfolding allowed
typed_primitive_slot = refl

-- ---- the top level

-- an array is an object that stands at the top level
pub array_kinds : (τ : Terms) {es : List Entry} {k i n : ℕ} {r : Rec} {ts : List SlotType} → Array τ es r k i n ts → (is_object k ≡ true) × (allowed W.Top k ≡ true)
unfolding allowed
array_kinds τ (of_objects a) = (refl, refl)
array_kinds τ (of_strings a) = (refl, refl)
array_kinds τ (of_primitives a b) = (refl, refl)
array_kinds τ (of_any a b c d e) = (refl, refl)
array_kinds τ (of_values a b c) = (refl, refl)

pub allows_top : (k : ℕ) → allowed W.Top k ≡ true → Allows start.stack k
allows_top k a = record { by_record = refl; fits = a }

pub top_kinds : (allowed W.Top 6 ≡ true) × (allowed W.Top 11 ≡ true) × (allowed W.Top 12 ≡ true)
unfolding allowed
top_kinds = (refl, refl, refl)
