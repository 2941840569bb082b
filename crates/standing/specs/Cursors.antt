-- An open object's cursor stands where its class says: the type of the slot to fill is that of the class's member of this number. So a member value
-- was read by the code of the slot that it fills.
use Prim.Native.Nat.{ℕ, zero, suc, ◌+◌, ◌-◌, ◌≤◌, ◌<◌}
use Rattle.std.specs.Prelude.{◌≡◌, Bool, ◌||◌, take, ltb, leb, Option, Some, None, Result, Ok, Err}
use Rattle.format.specs.declared.Refusal.{Refusal}
use Rattle.std.proofs.Math.Path.{refl, sym, ap}
use Rattle.std.proofs.Common.{subst, ◌∙◌}
use Rattle.std.proofs.Math.Bool.{true, false}
use mathlib.Core.List.{List, [], ◌∷◌, ◌++◌}
use native.Mathlib.Omega.{arith}
use Rattle.std.proofs.Math.ListN.{length, get_or, get_or-append}
use Rattle.std.proofs.Math.Seq.{get_or-append_seam}
use Rattle.std.proofs.Math.Dec.{eqb}
use borrow.Author.Tests.{ltb-false, eqb-true, eqb-false, eq-eqb, ne_eqb, le-ltb}
use Rattle.format.specs.Terms.{Terms}
use Rattle.format.specs.declared.PrimitiveCode.{PrimitiveCode}
use Rattle.format.specs.declared.SlotType.{SlotType}
use Rattle.format.specs.declared.SlotType.TheVariants as S
use Rattle.format.specs.declared.Typed.{Typed}
use Rattle.format.specs.declared.Where.{Where}
use Rattle.format.specs.declared.Where.TheVariants as W
use Rattle.format.specs.declared.Head.{Head}
use Rattle.format.specs.declared.Row.{Row}
use Rattle.format.specs.declared.Frame.{Frame}
use Rattle.format.specs.Bytes.{pick}
use Rattle.format.specs.Numbers.{u32_at, negative}
use Rattle.format.specs.Values.{value_at, items_at, times}
use Rattle.format.specs.Types.{code_number, primitive_of, coded, code_at, type_byte_at, name_at, typed_at, is_primitive, moved, passed, passed_by, passed_of}
use Rattle.format.specs.Entries.{bad_entry}
use Rattle.format.specs.Rows.{blank, is_object, is_class, class_row, object_row, find_from, is_lost}
use Rattle.format.specs.Records.{good_id, good_rank, on_slots, info_known, kind_at, class_at, first_type, string_record_at, slot_array_at, with_items, primitive_array_at, lengths_at, items_of, item_type_at, rank_at, binary_array_at, heading_at}
use Rattle.format.specs.Machine.{Open, State, Next, go, ended, refuse, close, filled_by, filled, opened, row_in, row_apart, add, object, run_over, null_run, ending, act, on_kind, record_step, value_head, on_value, value_step, by_slot, step, Outcome, accepted, refused, finish, onward, run, start, begin, stream_of, raw_of}
use Rattle.fields.specs.Judged.{picked}
use Rattle.kinds.specs.Kinds.{kind_byte}
use Rattle.headings.specs.Headings.{by_id_heading, system_heading, class_heading, string_heading, array_heading, primitives_heading, objects_heading}
use Rattle.laws.specs.Classes.{kind_typed}
use Rattle.class_info.specs.Stages.{first_typed}
use Rattle.class_info.specs.Ends.{number_moves}
use Rattle.class_info.specs.Moves.{names_there, types_there}
use Rattle.lookups.specs.Find.{class_at_holds}
use Rattle.standing.specs.Standing.{Known, Recorded, as_record, Stood, allowed_known, taken_low}
use Rattle.standing.specs.Standing as N
use Rattle.standing.specs.Fields.{Class, Of, of_number_lem, of_field, of_fields, class_said, class_by_id_said, class_places, system_row, class_row_holds}
use Rattle.standing.specs.Arrays.{texts_heading}
use Rattle.standing.specs.Steps.{Gathered, NextGathered, each_more, length_more, step_gathered}
use Rattle.standing.specs.Accepted.{start_gathered, header_gathered}

-- ---- types one after the other

-- the type k slots on
unfoldable pub moved_by : List ℕ → List ℕ → ℕ → Typed → Typed
moved_by β s zero t = t
moved_by β s (suc k) t = moved_by β s k (moved β s t)

-- the type of the first member of a class whose type bytes are there
pub first_of : (β s : List ℕ) (c : Row) → is_class c.kind ≡ true → c.link + c.count ≤ length s → first_type β s c ≡ typed_at s c.link (c.link + c.count)
first_of β s c k h =
    first_typed β s c (kind_typed c.kind k)
    ∙ ap (λ (b : Bool). typed_at s c.link (pick b (length s) (c.link + c.count))) (le-ltb (length s) (c.link + c.count) h)

-- slots that are all alike, and take records
abbrev pub Even : Typed → Type 0
Even t = (t.types ≡ 0) × (is_primitive t.slot ≡ false)

module _ (β s : List ℕ) where
  moved_more : (a b : ℕ) (t : Typed) → moved_by β s b (moved_by β s a t) ≡ moved_by β s (a + b) t
  unfolding moved_by
  moved_more zero b t = let z : b ≡ 0 + b = omega arith in ap (λ (n : ℕ). moved_by β s n t) z
  moved_more (suc a) b t =
      let z : suc (a + b) ≡ suc a + b = omega arith in
      moved_more a b (moved β s t) ∙ ap (λ (n : ℕ). moved_by β s n t) z

  moved_one : (t : Typed) → moved β s t ≡ moved_by β s 1 t
  unfolding moved_by
  moved_one t = refl

  even_moved : (t : Typed) → t.types ≡ 0 → moved β s t ≡ t
  unfolding moved
  even_moved t e = rw e

  even_by : (k : ℕ) (t : Typed) → t.types ≡ 0 → moved_by β s k t ≡ t
  unfolding moved_by
  even_by zero t e = refl
  even_by (suc k) t e = ap (moved_by β s k) (even_moved t e) ∙ even_by k t e

  over_same : {t u : Typed} → Some t ≡ Some u → t ≡ u
  over_same e = cc

  crossed : {A : Type 0} {u : Typed} → None ≡ Some u → A
  crossed e = absurd (let z : ◌≡◌ {A = ℕ} 0 1 = cc in omega arith)

  passed_by_lem : (k : ℕ) (t u : Typed) → passed β s t k ≡ Some u → u ≡ moved_by β s k t
  unfolding passed moved_by
  passed_by_lem zero t u e = sym (over_same e)
  passed_by_lem (suc k) t u e = go (is_primitive t.slot) (passed_by_lem k (moved β s t) u) e
    where
      go : (b : Bool) → (passed β s (moved β s t) k ≡ Some u → u ≡ moved_by β s k (moved β s t)) → pick b None (passed β s (moved β s t) k) ≡ Some u
          → u ≡ moved_by β s k (moved β s t)
      go true next e = crossed e
      go false next e = next e

  over_by : (k : ℕ) (t u : Typed) → passed_of β s t k ≡ Some u → u ≡ moved_by β s k t
  unfolding passed_of
  over_by k t u = go (eqb t.types 0) refl
    where
      go : (b : Bool) → eqb t.types 0 ≡ b → passed_by b β s t k ≡ Some u → u ≡ moved_by β s k t
      go true q e = sym (over_same e) ∙ sym (even_by k t (eqb-true t.types 0 q))
      go false q e = passed_by_lem k t u e

-- ---- the cursor of an open object

-- the class of the object in row owner - 1 stands in row j
pub record OfClass (rows : List Row) (owner j : ℕ) : Type 0 where
  pub owner_in_holds : owner - 1 < length rows
  pub row : pick (eqb (get_or rows (owner - 1) blank).kind 1) ((get_or rows (owner - 1) blank).link - 1) (owner - 1) ≡ j
  pub inside : j < length rows
  pub class : is_class (get_or rows j blank).kind ≡ true

pub data Cursor (β s : List ℕ) (rows : List Row) (f : Frame) : Type 0 where
  even : Even f.typed → Cursor β s rows f
  in_class : (j : ℕ) → OfClass rows f.owner j → f.count ≡ (get_or rows j blank).count → f.left ≤ f.count
      → f.typed ≡ moved_by β s (f.count - f.left) (first_type β s (get_or rows j blank)) → Cursor β s rows f

-- open objects, innermost first; the last frame stands for the top level
abbrev pub Below : List ℕ → List ℕ → List Row → Frame → List Frame → Type 0
Below β s rows f [] = Even f.typed
Below β s rows f (g ∷ gs) = Cursor β s rows f × Below β s rows g gs

-- and the innermost has a slot left
abbrev pub Stacked : List ℕ → List ℕ → List Row → Frame → List Frame → Type 0
Stacked β s rows f [] = Even f.typed
Stacked β s rows f (g ∷ gs) = Cursor β s rows f × (0 < f.left) × Below β s rows g gs

abbrev pub Stack : List ℕ → List ℕ → List Row → Open → Type 0
Stack β s rows o = Stacked β s rows o.cur o.below

-- ---- with one row more

module _ (β s : List ℕ) (rows : List Row) (r : Row) where
  abbrev more : List Row
  more = rows ++ (r ∷ [])

  of_more : (owner j : ℕ) → OfClass rows owner j → OfClass more owner j
  of_more owner j w =
      let n = length_more rows r in
      let a = w.owner_in_holds in
      let b = w.inside in
      let e : get_or more (owner - 1) blank ≡ get_or rows (owner - 1) blank = get_or-append rows (r ∷ []) blank (owner - 1) a in
      let f : get_or more j blank ≡ get_or rows j blank = get_or-append rows (r ∷ []) blank j b in
      record {
        owner_in_holds = omega arith;
        row = ap (λ (x : Row). pick (eqb x.kind 1) (x.link - 1) (owner - 1)) e ∙ w.row;
        inside = omega arith;
        class = ap (λ (x : Row). is_class x.kind) f ∙ w.class;
      }

  cursor_more : (f : Frame) → Cursor β s rows f → Cursor β s more f
  cursor_more f (even e) = even e
  cursor_more f (in_class j w c l t) =
      let e : get_or more j blank ≡ get_or rows j blank = get_or-append rows (r ∷ []) blank j w.inside in
      in_class j (of_more f.owner j w) (c ∙ ap (λ (x : Row). x.count) (sym e)) l
      (t ∙ ap (λ (x : Row). moved_by β s (f.count - f.left) (first_type β s x)) (sym e))

  below_more : (f : Frame) (gs : List Frame) → Below β s rows f gs → Below β s more f gs
  below_more f [] w = w
  below_more f (g ∷ gs) w = (cursor_more f w.0, below_more g gs w.1)

  stacked_more : (f : Frame) (gs : List Frame) → Stacked β s rows f gs → Stacked β s more f gs
  stacked_more f [] w = w
  stacked_more f (g ∷ gs) w = (cursor_more f w.0, w.1, below_more g gs w.2)

-- ---- slots are filled

module _ (β s : List ℕ) (rows : List Row) where
  close_stacked : (f : Frame) (gs : List Frame) → Below β s rows f gs → Stack β s rows (close f gs)
  unfolding close
  close_stacked f [] w = w
  close_stacked f (g ∷ gs) w =
      picked (Stack β s rows) (eqb f.left 0) (λ t. close_stacked g gs w.1)
      (λ t. let n = eqb-false f.left 0 t in (w.0, omega (arith, n), w.1))

  module _ (f : Frame) (k : ℕ) (t : Typed) (e : t ≡ moved_by β s k f.typed) where
    even_filled : Even f.typed → Even t
    even_filled w = subst Even (sym (e ∙ even_by β s k f.typed w.0)) w

    fill_cursor : Cursor β s rows f → k ≤ f.left → Cursor β s rows (filled_by f k t)
    fill_cursor (even w) h = even (even_filled w)
    fill_cursor (in_class j w c l x) h =
        let n : f.count - f.left + k ≡ f.count - (f.left - k) = omega arith in
        in_class j w c (omega arith)
        (e
        ∙ (ap (moved_by β s k) x
        ∙ (moved_more β s (f.count - f.left) k (first_type β s (get_or rows j blank))
        ∙ ap (λ (m : ℕ). moved_by β s m (first_type β s (get_or rows j blank))) n)))

    fill_below : (gs : List Frame) → (0 < f.left → k ≤ f.left) → Stacked β s rows f gs → Below β s rows (filled_by f k t) gs
    fill_below [] h w = even_filled w
    fill_below (g ∷ gs) h w = (fill_cursor w.0 (h w.1), w.2)

  fill_stack : (o : Open) (k : ℕ) (t : Typed) → t ≡ moved_by β s k o.cur.typed → (0 < o.cur.left → k ≤ o.cur.left) → Stack β s rows o → Stack β s rows (filled o k t)
  unfolding filled
  fill_stack o k t e h w = close_stacked (filled_by o.cur k t) o.below (fill_below o.cur k t e o.below h w)

-- ---- what the fields of an object say of its slots

pub data Starts (β s : List ℕ) (rows : List Row) (k : ℕ) (h : Head) : Type 0 where
  alike_slots : Even h.first → Starts β s rows k h
  own_class_rule : is_class k ≡ true → h.slots ≡ h.count → h.link + h.count ≤ length s → h.first ≡ typed_at s h.link (h.link + h.count) → Starts β s rows k h
  by_class : k ≡ 1 → h.link - 1 < length rows → is_class (get_or rows (h.link - 1) blank).kind ≡ true → h.slots ≡ (get_or rows (h.link - 1) blank).count
      → h.first ≡ first_type β s (get_or rows (h.link - 1) blank) → Starts β s rows k h

module _ (τ : Terms) (s : List ℕ) (rows : List Row) (at : ℕ) where
  abbrev EvenHead : Head → Type 0
  EvenHead h = Even h.first

  string_even : Of EvenHead (string_record_at τ.setting s rows at)
  unfolding string_record_at
  string_even =
      of_number_lem EvenHead _ (u32_at s (at + 1)) (λ id p a.
      picked (Of EvenHead) (good_id rows id) (λ b. of_field EvenHead _ (name_at τ.setting s p) (λ e c. (refl, refl))) (λ b. tt))

  slots_even : (slot : SlotType) → is_primitive slot ≡ false → Of EvenHead (slot_array_at s rows slot at)
  unfolding slot_array_at
  slots_even slot q =
      of_number_lem EvenHead _ (u32_at s (at + 1)) (λ id p a.
      picked (Of EvenHead) (good_id rows id) (λ b.
      of_number_lem EvenHead _ (u32_at s p) (λ n e c. picked (Of EvenHead) (negative n) (λ d. tt) (λ d. (refl, q))))
      (λ b. tt))

  items_even : (code : PrimitiveCode) (id n p : ℕ) → Of EvenHead (with_items τ.setting s code id n p)
  items_even code id n p = of_field EvenHead _ (items_at τ.setting s code n p) (λ e c. (refl, refl))

  primitives_even : Of EvenHead (primitive_array_at τ.setting s rows at)
  unfolding primitive_array_at
  primitives_even =
      of_number_lem EvenHead _ (u32_at s (at + 1)) (λ id p a.
      picked (Of EvenHead) (good_id rows id) (λ b.
      of_number_lem EvenHead _ (u32_at s p) (λ n q c.
      picked (Of EvenHead) (negative n) (λ d. tt) (λ d.
      of_field EvenHead (with_items τ.setting s (coded (primitive_of (get_or s q 0))) id n) (code_at s q) (λ x f. items_even (coded (primitive_of (get_or s q 0))) id n x))))
      (λ b. tt))

  of_slot : (slot : SlotType) (id n infos p : ℕ) → Of EvenHead (items_of τ.setting s id n infos p slot)
  of_slot (S.Primitive c) id n infos p = items_even c id n p
  of_slot S.Text id n infos p = (refl, refl)
  of_slot S.Object id n infos p = (refl, refl)
  of_slot S.SystemClass id n infos p = (refl, refl)
  of_slot S.Class id n infos p = (refl, refl)
  of_slot S.ObjectArray id n infos p = (refl, refl)
  of_slot S.StringArray id n infos p = (refl, refl)
  of_slot (S.PrimitiveArray c) id n infos p = (refl, refl)

  on_slots_lem : (k : ℕ → ℕ → Result Head Refusal) (r : Result (ℕ × ℕ) Refusal) → ((n e : ℕ) → Of EvenHead (k n e)) → Of EvenHead (on_slots k r)
  on_slots_lem k (Ok (n, e)) f = f n e
  on_slots_lem k (Err x) f = tt

  type_even : (id n types : ℕ) → Of EvenHead (item_type_at τ.setting s rows id n types)
  unfolding item_type_at
  type_even id n types =
      of_field EvenHead _ (type_byte_at s types) (λ infos a.
      of_field EvenHead _ (info_known τ.setting s rows (get_or s types 0) infos) (λ e b. of_slot (typed_at s types infos).slot id n infos e))

  rank_even : (id type p : ℕ) → Of EvenHead (rank_at τ.setting s rows id type p)
  unfolding rank_at
  rank_even id type p =
      of_number_lem EvenHead _ (u32_at s p) (λ rank q a.
      picked (Of EvenHead) (good_rank type rank) (λ b. on_slots_lem (item_type_at τ.setting s rows id) (lengths_at s rank 1 q) (λ n e. type_even id n e)) (λ b. tt))

  array_even : Of EvenHead (binary_array_at τ.setting s rows at)
  unfolding binary_array_at
  array_even =
      of_number_lem EvenHead _ (u32_at s (at + 1)) (λ id p a.
      picked (Of EvenHead) (good_id rows id) (λ b.
      picked (Of EvenHead) (ltb p (length s)) (λ c.
      picked (Of EvenHead) (leb (get_or s p 0) 2) (λ d. rank_even id (get_or s p 0) (p + 1))
      (λ d. picked (Of EvenHead) (leb (get_or s p 0) 5) (λ f. tt) (λ f. tt)))
      (λ c. tt))
      (λ b. tt))

-- ---- classes in rows

-- a class's type bytes are there, behind a byte or more
pub record TypesIn (τ : Terms) (s : List ℕ) (r : Row) : Type 0 where
  pub some : 0 < r.link
  pub inside : r.link + r.count ≤ length s
  pub name_end : ℕ
  pub named : name_at τ.setting s (r.offset + 5) ≡ Ok name_end
  pub names : times (name_at τ.setting s) r.count (name_end + 4) ≡ Ok r.link

-- the type bytes of a class whose fields are good are there
types_inside : (τ : Terms) (s : List ℕ) (rows : List Row) (own : Bool) (at : ℕ) (h : Head) → Class τ s rows own at h → h.link + h.count ≤ length s
types_inside τ s rows own at h c =
    let places = class_places τ s rows own at h c in
    let a = number_moves s c.counts h.count c.names c.count_at in
    let b = names_there τ.setting s h.count c.names h.link a.1 c.names_at in
    let d = types_there s h.count h.link c.infos b.1 c.types_at_holds in
    let i = places.2 in
    omega (arith, d.1)

module _ (τ : Terms) {s : List ℕ} {before : List Row} {r : Row} where
  class_types : (own : Bool) (x : Recorded τ s before r) → Class τ s before own r.offset x.head → TypesIn τ s r
  class_types own x c =
      let h = x.head in
      let places = class_places τ s before own r.offset h c in
      let a = number_moves s c.counts h.count c.names c.count_at in
      let b = names_there τ.setting s h.count c.names h.link a.1 c.names_at in
      let d = types_inside τ s before own r.offset h c in
      let l = x.same_link in
      let n = x.same_count in
      let m : h.count ≡ r.count = sym n in
      record {
        some = omega (arith, b.0, a.0);
        inside = omega arith;
        name_end = c.counts;
        named = subst (λ (p : ℕ). name_at τ.setting s p ≡ Ok c.counts) places.0 c.name_at_holds;
        names =
            subst (λ (p : ℕ). times (name_at τ.setting s) r.count p ≡ Ok r.link) places.1
            (subst (λ (k : ℕ). times (name_at τ.setting s) k c.names ≡ Ok r.link) m (c.names_at ∙ ap Ok (sym l)));
      }

  pub types_in : Stood τ s before r → is_class r.kind ≡ true → TypesIn τ s r
  types_in w t = go (eqb r.kind 4) refl t
    where
      go : (b : Bool) → eqb r.kind 4 ≡ b → (b || eqb r.kind 5) ≡ true → TypesIn τ s r
      go true e t =
          let k = eqb-true r.kind 4 e in
          let x = as_record τ w (λ q. omega arith) in
          class_types false x (system_row τ x k)
      go false e t =
          let k = eqb-true r.kind 5 t in
          let x = as_record τ w (λ q. omega arith) in
          class_types true x (class_row_holds τ x k)

-- ---- the first slot of an object

no_object : {A : Type 0} (k n : ℕ) → k ≡ n → is_object n ≡ false → is_object k ≡ true → A
no_object k n e f t = absurd (let q : true ≡ false = sym t ∙ (ap is_object e ∙ f) in let z : ◌≡◌ {A = ℕ} 0 1 = cc in omega arith)

module _ (τ : Terms) (s : List ℕ) (rows : List Row) (each : (i : ℕ) → i < length rows → Stood τ s (take i rows) (get_or rows i blank)) (k at : ℕ) (h : Head) (e : heading_at τ s rows k at ≡ Ok h) where
  even_of : (x : Result Head Refusal) → heading_at τ s rows k at ≡ x → Of (EvenHead τ s rows at) x → Starts τ.book s rows k h
  even_of x q w = alike_slots (of_fields (EvenHead τ s rows at) x h (sym q ∙ e) w)

  class_of : (own : Bool) → is_class k ≡ true → heading_at τ s rows k at ≡ class_at τ.setting s rows own at → Starts τ.book s rows k h
  class_of own c q =
      let w = class_said τ s rows at own h (sym q ∙ e) in
      own_class_rule c w.slots_are (types_inside τ s rows own at h w) (w.first_is ∙ ap (typed_at s h.link) (class_places τ s rows own at h w).2)

  by_id_of : k ≡ 1 → Starts τ.book s rows k h
  by_id_of q =
      let w = class_by_id_said τ s rows at h (sym (by_id_heading τ s rows k at q) ∙ e) in
      let f = class_at_holds w.class rows (omega (arith, w.finds, w.some)) in
      let z : class_row w.class rows - 1 ≡ h.link - 1 = ap (λ (n : ℕ). n - 1) (sym w.finds) in
      let i : h.link - 1 < length rows = omega (arith, f.inside) in
      let c : is_class (get_or rows (h.link - 1) blank).kind ≡ true = subst (λ (j : ℕ). is_class (get_or rows j blank).kind ≡ true) z f.kind in
      by_class q i c (w.slots_are ∙ w.same_count) w.first_is

  pub starts : Known k → is_object k ≡ true → Starts τ.book s rows k h
  starts (N.header q) o = no_object k 0 q refl o
  starts (N.class_by_id_rule q) o = by_id_of q
  starts (N.system_class_rule q) o = class_of false (ap is_class q) (system_heading τ s rows k at q)
  starts (N.class q) o = class_of true (ap is_class q) (class_heading τ s rows k at q)
  starts (N.string q) o = even_of (string_record_at τ.setting s rows at) (string_heading τ s rows k at q) (string_even τ s rows at)
  starts (N.binary_array q) o = even_of (binary_array_at τ.setting s rows at) (array_heading τ s rows k at q) (array_even τ s rows at)
  starts (N.typed_primitive_rule q) o = no_object k 8 q refl o
  starts (N.reference q) o = no_object k 9 q refl o
  starts (N.null q) o = no_object k 10 q refl o
  starts (N.ending q) o = no_object k 11 q refl o
  starts (N.library q) o = no_object k 12 q refl o
  starts (N.nulls q) o = no_object k 13 q refl o
  starts (N.long_nulls q) o = no_object k 14 q refl o
  starts (N.primitive_array_rule q) o = even_of (primitive_array_at τ.setting s rows at) (primitives_heading τ s rows k at q) (primitives_even τ s rows at)
  starts (N.object_array_rule q) o = even_of (slot_array_at s rows S.Object at) (objects_heading τ s rows k at q) (slots_even τ s rows at S.Object refl)
  starts (N.string_array_rule q) o = even_of (slot_array_at s rows S.Text at) (texts_heading τ s rows k at q) (slots_even τ s rows at S.Text refl)
  starts (N.value q) o = no_object k 32 q refl o

-- an object that is opened has its cursor at its first slot
module _ (β s : List ℕ) (st : State) (kind : ℕ) (h : Head) where
  abbrev rows₁ : List Row
  rows₁ = st.rows ++ (row_in st kind h ∷ [])

  abbrev frame₁ : Frame
  frame₁ = record { owner = length st.rows + 1; count = h.slots; left = h.slots; typed = h.first }

  own_row : get_or rows₁ (length st.rows) blank ≡ row_in st kind h
  own_row = get_or-append_seam st.rows (row_in st kind h) [] blank

  owner_row : get_or rows₁ (length st.rows + 1 - 1) blank ≡ row_in st kind h
  owner_row = let z : length st.rows + 1 - 1 ≡ length st.rows = omega arith in ap (λ (i : ℕ). get_or rows₁ i blank) z ∙ own_row

  not_by_id : is_class kind ≡ true → eqb kind 1 ≡ false
  not_by_id c = ne_eqb kind 1 (λ e. let q : true ≡ false = sym c ∙ ap is_class e in let z : ◌≡◌ {A = ℕ} 0 1 = cc in omega arith)

  first_cursor : Starts β s st.rows kind h → Cursor β s rows₁ frame₁
  unfolding moved_by
  first_cursor (alike_slots e) = even e
  first_cursor (own_class_rule c n i f) =
      let l = length_more st.rows (row_in st kind h) in
      let z : h.slots - h.slots ≡ 0 = omega arith in
      let o : length st.rows + 1 - 1 ≡ length st.rows = omega arith in
      in_class (length st.rows)
      (record {
        owner_in_holds = omega arith;
        row =
            ap (λ (x : Row). pick (eqb x.kind 1) (x.link - 1) (length st.rows + 1 - 1)) owner_row
            ∙ (ap (λ (b : Bool). pick b (h.link - 1) (length st.rows + 1 - 1)) (not_by_id c) ∙ o);
        inside = omega arith;
        class = ap (λ (x : Row). is_class x.kind) own_row ∙ c;
      })
      (n ∙ ap (λ (x : Row). x.count) (sym own_row)) (omega arith)
      (f
      ∙ (sym (first_of β s (row_in st kind h) c i)
      ∙ (ap (first_type β s) (sym own_row) ∙ ap (λ (m : ℕ). moved_by β s m (first_type β s (get_or rows₁ (length st.rows) blank))) (sym z))))
  first_cursor (by_class k i c n f) =
      let l = length_more st.rows (row_in st kind h) in
      let z : h.slots - h.slots ≡ 0 = omega arith in
      let j : ℕ = h.link - 1 in
      let e : get_or rows₁ j blank ≡ get_or st.rows j blank = get_or-append st.rows (row_in st kind h ∷ []) blank j i in
      in_class j
      (record {
        owner_in_holds = omega arith;
        row =
            ap (λ (x : Row). pick (eqb x.kind 1) (x.link - 1) (length st.rows + 1 - 1)) owner_row
            ∙ ap (λ (b : Bool). pick b (h.link - 1) (length st.rows + 1 - 1)) (eq-eqb kind 1 k);
        inside = omega arith;
        class = ap (λ (x : Row). is_class x.kind) e ∙ c;
      })
      (n ∙ ap (λ (x : Row). x.count) (sym e)) (omega arith)
      (f ∙ (ap (first_type β s) (sym e) ∙ ap (λ (m : ℕ). moved_by β s m (first_type β s (get_or rows₁ j blank))) (sym z)))

-- ---- member values

-- the row of a member value, after these rows: its code is that of the slot that it fills
pub record FromSlot (τ : Terms) (s : List ℕ) (before : List Row) (r : Row) : Type 0 where
  pub code : PrimitiveCode
  pub reads : value_at τ.setting s code r.offset ≡ Ok r.end
  pub link_is : r.link ≡ code_number code
  pub class_row_holds : ℕ
  pub of_class_holds : OfClass before r.owner class_row_holds
  pub slot_in_holds : r.slot < (get_or before class_row_holds blank).count
  pub typed : (moved_by τ.book s r.slot (first_type τ.book s (get_or before class_row_holds blank))).slot ≡ S.Primitive code

abbrev pub Slotwise : Terms → List ℕ → List Row → Type 0
Slotwise τ s rows = (i : ℕ) → i < length rows → (get_or rows i blank).kind ≡ 32 → FromSlot τ s (take i rows) (get_or rows i blank)

-- ---- between two steps

pub record Cursors (τ : Terms) (s : List ℕ) (st : State) : Type 0 where
  pub each : Slotwise τ s st.rows
  pub stack : Stack τ.book s st.rows st.stack

abbrev pub NextCursors : Terms → List ℕ → Next → Type 0
NextCursors τ s (go st) = Cursors τ s st
NextCursors τ s (ended rows at) = Slotwise τ s rows
NextCursors τ s (refuse r place) = Unit {0}

not_value : {A : Type 0} (test : ℕ → Bool) (k : ℕ) → test k ≡ true → test 32 ≡ false → k ≡ 32 → A
not_value test k t f e = absurd (let q : true ≡ false = sym t ∙ (ap test e ∙ f) in let z : ◌≡◌ {A = ℕ} 0 1 = cc in omega arith)

module _ (τ : Terms) (s : List ℕ) (room : ℕ) (st : State) (w : Gathered τ s st) (v : Cursors τ s st) where
  each_row : (r : Row) → (r.kind ≡ 32 → FromSlot τ s st.rows r) → Slotwise τ s (st.rows ++ (r ∷ []))
  each_row r x = each_more st.rows r (λ before row. row.kind ≡ 32 → FromSlot τ s before row) v.each x

  add_cursors : (r : Row) (o : Open) → (r.kind ≡ 32 → FromSlot τ s st.rows r) → Stack τ.book s (st.rows ++ (r ∷ [])) o → NextCursors τ s (add room st r o)
  unfolding add
  add_cursors r o x y =
      picked (NextCursors τ s) (ltb (length st.rows) room) (λ t. record { each = each_row r x; stack = y }) (λ t. tt)

  stack_more : (r : Row) → Stack τ.book s (st.rows ++ (r ∷ [])) st.stack
  stack_more r = stacked_more τ.book s st.rows r st.stack.cur st.stack.below v.stack

  fill_cursors : (r : Row) (k : ℕ) (t : Typed) → (r.kind ≡ 32 → FromSlot τ s st.rows r) → t ≡ moved_by τ.book s k st.stack.cur.typed
      → (0 < st.stack.cur.left → k ≤ st.stack.cur.left) → NextCursors τ s (add room st r (filled st.stack k t))
  fill_cursors r k t x e h = add_cursors r (filled st.stack k t) x (fill_stack τ.book s (st.rows ++ (r ∷ [])) st.stack k t e h (stack_more r))

  next_type : moved τ.book s st.stack.cur.typed ≡ moved_by τ.book s 1 st.stack.cur.typed
  next_type = moved_one τ.book s st.stack.cur.typed

  module _ (kind : ℕ) (h : Head) where
    one_cursors : (kind ≡ 32 → ⊥) → NextCursors τ s (add room st (row_in st kind h) (filled st.stack 1 (moved τ.book s st.stack.cur.typed)))
    one_cursors n = fill_cursors (row_in st kind h) 1 _ (λ q. absurd (n q)) next_type (λ l. omega arith)

    open_cursors : Starts τ.book s st.rows kind h → (h.slots ≡ 0 → ⊥)
        → Stack τ.book s (rows₁ τ.book s st kind h) (opened st.stack (length st.rows + 1) h (moved τ.book s st.stack.cur.typed))
    unfolding opened
    open_cursors x n =
        let r = row_in st kind h in
        (first_cursor τ.book s st kind h x, omega (arith, n), fill_below τ.book s (rows₁ τ.book s st kind h) st.stack.cur 1 _ next_type st.stack.below (λ l. omega arith) (stack_more r))

    object_cursors : is_object kind ≡ true → Starts τ.book s st.rows kind h → NextCursors τ s (object room st kind h (moved τ.book s st.stack.cur.typed))
    unfolding object
    object_cursors i x =
        picked (NextCursors τ s) (eqb h.slots 0) (λ z. one_cursors (not_value is_object kind i refl))
        (λ z. picked (NextCursors τ s) (ltb (length st.stack.below) 64)
        (λ d. add_cursors (row_in st kind h) _ (not_value is_object kind i refl) (open_cursors x (eqb-false h.slots 0 z)))
        (λ d. tt))

    run_cursors : (kind ≡ 32 → ⊥) → NextCursors τ s (null_run τ.book s room st kind h)
    unfolding null_run
    run_cursors n =
        picked (NextCursors τ s) (ltb st.stack.cur.left h.count) (λ t. tt)
        (λ t. over (ltb-false st.stack.cur.left h.count t) (passed_of τ.book s st.stack.cur.typed h.count) refl)
      where
        over : h.count ≤ st.stack.cur.left → (p : Option Typed) → passed_of τ.book s st.stack.cur.typed h.count ≡ p → NextCursors τ s (run_over room st kind h p)
        over l (Some t) q = fill_cursors (row_in st kind h) h.count t (λ e. absurd (n e)) (over_by τ.book s h.count st.stack.cur.typed t q) (λ x. l)
        over l None q = tt

    end_cursors : NextCursors τ s (ending room st h)
    unfolding ending
    end_cursors = picked (NextCursors τ s) (ltb (length st.rows) room) (λ t. each_row (row_in st 11 h) (λ q. absurd (omega arith))) (λ t. tt)

    good_cursors : (kind ≡ 32 → ⊥) → (is_object kind ≡ true → Starts τ.book s st.rows kind h) → NextCursors τ s (act τ.book s room st kind (Ok h))
    unfolding act
    good_cursors n x =
        picked (NextCursors τ s) (is_object kind) (λ t. object_cursors t (x t))
        (λ t. picked (NextCursors τ s) (eqb kind 13 || eqb kind 14) (λ u. run_cursors n)
        (λ u. picked (NextCursors τ s) (eqb kind 12) (λ a. add_cursors (row_apart st kind h) st.stack (λ q. absurd (n q)) (stack_more (row_apart st kind h)))
        (λ a. picked (NextCursors τ s) (eqb kind 11) (λ b. end_cursors) (λ b. one_cursors n))))

  stood : (i : ℕ) → i < length st.rows → Stood τ s (take i st.rows) (get_or st.rows i blank)
  stood i h = (w.each i h).0.said

  module _ (place : Where) where
    act_cursors : (kind : ℕ) → kind_at s place st.at ≡ Ok kind → (x : Result Head Refusal) → heading_at τ s st.rows kind st.at ≡ x → NextCursors τ s (act τ.book s room st kind x)
    unfolding act
    act_cursors kind q (Ok h) e =
        let b = kind_byte s place st.at kind q in
        let l = taken_low kind b.known b.free in
        good_cursors kind h (λ z. omega arith) (starts τ s st.rows stood kind st.at h e (allowed_known kind place b.fits))
    act_cursors kind q (Err f) e = tt

    kind_cursors : (k : Result ℕ Refusal) → kind_at s place st.at ≡ k → NextCursors τ s (on_kind τ s room st k)
    kind_cursors (Ok k) q = act_cursors k q (heading_at τ s st.rows k st.at) refl
    kind_cursors (Err f) q = tt

    pub record_cursors : NextCursors τ s (record_step τ s room st place)
    unfolding record_step
    record_cursors = kind_cursors (kind_at s place st.at) refl

  -- a member value
  module _ (c : PrimitiveCode) (q : st.stack.cur.typed.slot ≡ S.Primitive c) where
    not_even : {A : Type 0} → Even st.stack.cur.typed → A
    not_even x = absurd (let e : true ≡ false = ap is_primitive (sym q) ∙ x.1 in let z : ◌≡◌ {A = ℕ} 0 1 = cc in omega arith)

    from_slot : (end : ℕ) → value_at τ.setting s c st.at ≡ Ok end → FromSlot τ s st.rows (row_in st 32 (value_head c end))
    from_slot end e = go st.stack.below v.stack
      where
        at_cursor : Cursor τ.book s st.rows st.stack.cur → 0 < st.stack.cur.left → FromSlot τ s st.rows (row_in st 32 (value_head c end))
        at_cursor (even x) l = not_even x
        at_cursor (in_class j x n m t) l = record {
          code = c;
          reads = e;
          link_is = refl;
          class_row_holds = j;
          of_class_holds = x;
          slot_in_holds = omega arith;
          typed = ap (λ (t : Typed). t.slot) (sym t) ∙ q;
        }

        go : (gs : List Frame) → Stacked τ.book s st.rows st.stack.cur gs → FromSlot τ s st.rows (row_in st 32 (value_head c end))
        go [] x = not_even x
        go (g ∷ gs) x = at_cursor x.0 x.1

    value_cursors : (x : Result ℕ Refusal) → value_at τ.setting s c st.at ≡ x → NextCursors τ s (on_value τ.book s room st c x)
    value_cursors (Ok end) e = fill_cursors (row_in st 32 (value_head c end)) 1 _ (λ z. from_slot end e) next_type (λ l. omega arith)
    value_cursors (Err f) e = tt

  slot_cursors : (t : SlotType) → st.stack.cur.typed.slot ≡ t → NextCursors τ s (by_slot τ s room st t)
  unfolding value_step
  slot_cursors (S.Primitive c) q = value_cursors c q (value_at τ.setting s c st.at) refl
  slot_cursors S.Text q = record_cursors _
  slot_cursors S.Object q = record_cursors _
  slot_cursors S.SystemClass q = record_cursors _
  slot_cursors S.Class q = record_cursors _
  slot_cursors S.ObjectArray q = record_cursors _
  slot_cursors S.StringArray q = record_cursors _
  slot_cursors (S.PrimitiveArray c) q = record_cursors _

  pub step_cursors : NextCursors τ s (step τ s room st)
  unfolding step
  step_cursors = slot_cursors st.stack.cur.typed.slot refl

-- ---- the whole stream

abbrev SlotwiseOf : Terms → List ℕ → Outcome → Type 0
SlotwiseOf τ s (accepted rows) = Slotwise τ s rows
SlotwiseOf τ s (refused r place) = Unit {0}

module _ (τ : Terms) (s : List ℕ) (room : ℕ) where
  finish_slotwise : (rows : List Row) (at : ℕ) → Slotwise τ s rows → SlotwiseOf τ s (finish s rows at)
  unfolding finish
  finish_slotwise rows at w =
      picked (SlotwiseOf τ s) (ltb at (length s)) (λ t. tt)
      (λ t. picked (SlotwiseOf τ s) (eqb (object_row (get_or rows 0 blank).id rows) 0) (λ u. tt)
      (λ u. picked (SlotwiseOf τ s) (eqb (find_from (is_lost rows) 0 rows) 0) (λ x. w) (λ x. tt)))

  next_slotwise : (f : State → Outcome) → ((st : State) → Gathered τ s st → 0 < length st.rows → Cursors τ s st → SlotwiseOf τ s (f st))
      → (x : Next) → NextGathered τ s x → NextCursors τ s x → SlotwiseOf τ s (onward s f x)
  next_slotwise f g (go st) w v = g st w.0 w.1 v
  next_slotwise f g (ended rows end) w v = finish_slotwise rows end v
  next_slotwise f g (refuse r place) w v = tt

  run_slotwise : (k : ℕ) (st : State) → Gathered τ s st → 0 < length st.rows → Cursors τ s st → SlotwiseOf τ s (run τ k s room st)
  unfolding run
  run_slotwise zero st w n v = tt
  run_slotwise (suc k) st w n v =
      next_slotwise (run τ k s room) (run_slotwise k) (step τ s room st) (step_gathered τ s room st w n) (step_cursors τ s room st w v)

  begin_slotwise : (x : Next) → NextGathered τ s x → NextCursors τ s x → SlotwiseOf τ s (begin τ s room x)
  begin_slotwise (go st) w v = run_slotwise (length s) st w.0 w.1 v
  begin_slotwise (ended rows end) w v = finish_slotwise rows end v
  begin_slotwise (refuse r place) w v = tt

  raw_slotwise : SlotwiseOf τ s (raw_of τ s room)
  unfolding raw_of stream_of
  raw_slotwise =
      let g = start_gathered τ s in
      picked (SlotwiseOf τ s) (ltb 16777216 (length s)) (λ t. tt)
      (λ t. picked (SlotwiseOf τ s) (eqb (bad_entry τ.book) 0)
      (λ b. begin_slotwise (record_step τ s room start W.Start) (header_gathered τ s room)
      (record_cursors τ s room start g (record { each = λ i h. absurd (omega arith); stack = (refl, refl) }) W.Start))
      (λ b. tt))

  -- each row of a member value says which slot it fills, and by which code it was read
  pub value_slots : (raw : List Row) → raw_of τ s room ≡ accepted raw → Slotwise τ s raw
  value_slots raw e = subst (SlotwiseOf τ s) e raw_slotwise
