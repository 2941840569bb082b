-- What holds of the rows between two steps. A step adds one row, and keeps it.
use Rattle.std.specs.Prelude.{ℕ, suc, ◌+◌, ◌-◌, ◌<◌, ◌≡◌, Bool, true, false, ◌||◌, get_or, take, ltb, Option, Some, None, Result, Ok, Err}
use Rattle.format.specs.declared.Refusal.{Refusal}
use Rattle.std.proofs.Math.Path.{refl, sym, ap, subst}
use Rattle.std.proofs.Common.{◌∙◌, length-append, ltb-true, ltb-false, eqb-true}
use mathlib.Core.List.{List, [], ◌∷◌, ◌++◌}
use native.Mathlib.Omega.{arith}
use Rattle.std.proofs.Math.ListN.{length, get_or-append}
use Rattle.std.proofs.lemmas.List.{take-append-le}
use Rattle.std.proofs.Math.Seq.{take-append_seam, get_or-append_seam}
use Rattle.std.proofs.Math.Dec.{eqb}
use Rattle.std.proofs.lemmas.Bool.{eqb-false}
use Rattle.format.specs.Terms.{Terms}
use Rattle.format.specs.declared.PrimitiveCode.{PrimitiveCode}
use Rattle.format.specs.declared.SlotType.{SlotType}
use Rattle.format.specs.declared.SlotType.TheVariants as S
use Rattle.format.specs.declared.Typed.{Typed}
use Rattle.format.specs.declared.Where.{Where}
use Rattle.format.specs.declared.Where.TheVariants as W
use Rattle.format.specs.declared.Head.{Head}
use Rattle.format.specs.declared.Row.{Row}
use Rattle.format.specs.declared.Frame.{Frame}
use Rattle.format.specs.Values.{value_at}
use Rattle.format.specs.Types.{moved, passed_of}
use Rattle.format.specs.Rows.{blank, is_object}
use Rattle.format.specs.Records.{allowed, kind_at, heading_at}
use Rattle.format.specs.Machine.{Open, State, Next, go, ended, refuse, close, filled_by, filled, opened, row_in, row_apart, add, object, run_over, null_run, ending, act, on_kind, record_step, value_head, on_value, value_step, where_in, by_slot, step}
use Rattle.fields.specs.Judged.{picked}
use Rattle.kinds.specs.Kinds.{kind_within, kind_byte}
use Rattle.standing.specs.Standing.{Known, value, Stood, a_record, a_value_rule, Owned, apart, within, allowed_known, taken_low}

-- ---- a row after others

-- where the last row ends
unfoldable pub end_of : List Row → ℕ
end_of rows = (get_or rows (length rows - 1) blank).end

-- a row that follows these
pub record Placed (τ : Terms) (s : List ℕ) (before : List Row) (r : Row) : Type 0 where
  pub said : Stood τ s before r
  pub known : Known r.kind
  pub header_first : r.kind ≡ 0 → length before ≡ 0
  pub headed : length before ≡ 0 → r.kind ≡ 0
  pub begins : r.offset ≡ end_of before
  pub owned : Owned before (length before) r.owner
  pub library_apart : r.kind ≡ 12 → r.slot ≡ 0

-- each row follows those before it, and none is the end record
abbrev pub Going : Terms → List ℕ → List Row → Type 0
Going τ s rows = (i : ℕ) → i < length rows → Placed τ s (take i rows) (get_or rows i blank) × ((get_or rows i blank).kind ≡ 11 → ⊥)

module _ (rows : List Row) (r : Row) where
  pub length_more : length (rows ++ (r ∷ [])) ≡ suc (length rows)
  length_more = length-append rows (r ∷ []) ∙ omega arith

  -- what holds of each row and those before it, with one more
  pub each_more : (P : List Row → Row → Type 0) → ((i : ℕ) → i < length rows → P (take i rows) (get_or rows i blank)) → P rows r
      → (i : ℕ) → i < length (rows ++ (r ∷ [])) → P (take i (rows ++ (r ∷ []))) (get_or (rows ++ (r ∷ [])) i blank)
  each_more P f x i h = by_place (ltb i (length rows)) refl
    where
      by_place : (t : Bool) → ltb i (length rows) ≡ t → P (take i (rows ++ (r ∷ []))) (get_or (rows ++ (r ∷ [])) i blank)
      by_place true t =
          let l : i < length rows = ltb-true i (length rows) t in
          rw (take-append-le i rows (r ∷ []) (omega arith), get_or-append rows (r ∷ []) blank i l) (f i l)
      by_place false t =
          let l = ltb-false i (length rows) t in
          let n = length_more in
          let e : i ≡ length rows = omega arith in
          rw (e, take-append_seam rows (r ∷ []), get_or-append_seam rows r [] blank) x

  pub end_more : end_of (rows ++ (r ∷ [])) ≡ r.end
  unfolding end_of
  end_more =
      let n = length_more in
      let e : length (rows ++ (r ∷ [])) - 1 ≡ length rows = omega arith in
      ap (λ (n : ℕ). (get_or (rows ++ (r ∷ [])) n blank).end) e ∙ ap (λ (x : Row). x.end) (get_or-append_seam rows r [] blank)

  pub owned_more : (o : ℕ) → Owned rows (length rows) o → Owned (rows ++ (r ∷ [])) (length (rows ++ (r ∷ []))) o
  owned_more o (apart e) = apart e
  owned_more o (within a b k) =
      let n = length_more in
      within a (omega arith) (rw (get_or-append rows (r ∷ []) blank (o - 1) (omega arith)) k)

-- ---- open objects

-- the owner of every open object has a row
abbrev pub Owners : List Row → List Frame → Type 0
Owners rows [] = Unit {0}
Owners rows (f ∷ fs) = Owned rows (length rows) f.owner × Owners rows fs

abbrev pub OpenOwners : List Row → Open → Type 0
OpenOwners rows o = Owned rows (length rows) o.cur.owner × Owners rows o.below

owners_more : (rows : List Row) (r : Row) (fs : List Frame) → Owners rows fs → Owners (rows ++ (r ∷ [])) fs
owners_more rows r [] w = tt
owners_more rows r (f ∷ fs) w = (owned_more rows r f.owner w.0, owners_more rows r fs w.1)

open_more : (rows : List Row) (r : Row) (o : Open) → OpenOwners rows o → OpenOwners (rows ++ (r ∷ [])) o
open_more rows r o w = (owned_more rows r o.cur.owner w.0, owners_more rows r o.below w.1)

close_owners : (rows : List Row) (f : Frame) (gs : List Frame) → Owned rows (length rows) f.owner → Owners rows gs → OpenOwners rows (close f gs)
unfolding close
close_owners rows f [] a b = (a, b)
close_owners rows f (g ∷ gs) a b =
    picked (OpenOwners rows) (eqb f.left 0) (λ t. close_owners rows g gs b.0 b.1) (λ t. (a, b))

-- ---- between two steps

pub record Gathered (τ : Terms) (s : List ℕ) (st : State) : Type 0 where
  pub each : Going τ s st.rows
  pub place : end_of st.rows ≡ st.at
  pub owners : OpenOwners st.rows st.stack

-- the rows with the end record
pub record Whole (τ : Terms) (s : List ℕ) (rows : List Row) (at : ℕ) : Type 0 where
  pub front : List Row
  pub last : Row
  pub parts : rows ≡ front ++ (last ∷ [])
  pub each : Going τ s front
  pub placed : Placed τ s front last
  pub kind : last.kind ≡ 11
  pub end : last.end ≡ at

abbrev pub NextGathered : Terms → List ℕ → Next → Type 0
NextGathered τ s (go st) = Gathered τ s st × (0 < length st.rows)
NextGathered τ s (ended rows at) = Whole τ s rows at
NextGathered τ s (refuse r place) = Unit {0}

-- ---- the parts of a step

-- a kind that passes a test is none that does not
not_kind : (test : ℕ → Bool) (n : ℕ) → test n ≡ false → (k : ℕ) → test k ≡ true → k ≡ n → ⊥
not_kind test n f k t e =
    let q : true ≡ false = sym t ∙ (ap test e ∙ f) in
    let z : ◌≡◌ {A = ℕ} 0 1 = cc in
    omega arith

-- the row of the record in the next slot, with this owner and slot
abbrev row_owned : State → ℕ → Head → ℕ → ℕ → Row
row_owned st kind h owner slot =
    record { kind = kind; offset = st.at; end = h.end; id = h.id; owner = owner; slot = slot; link = h.link; count = h.count }

module _ (τ : Terms) (s : List ℕ) (room : ℕ) (st : State) (w : Gathered τ s st) where
  add_gathered : (r : Row) (o : Open) → Placed τ s st.rows r → (r.kind ≡ 11 → ⊥) → OpenOwners (st.rows ++ (r ∷ [])) o → NextGathered τ s (add room st r o)
  unfolding add
  add_gathered r o p n x =
      let l = length_more st.rows r in
      picked (NextGathered τ s) (ltb (length st.rows) room)
      (λ t. (
        record {
          each = each_more st.rows r (λ before row. Placed τ s before row × (row.kind ≡ 11 → ⊥)) w.each (p, n);
          place = end_more st.rows r;
          owners = x;
        },
        omega arith,
      ))
      (λ t. tt)

  -- k slots of the innermost object are filled
  fill_gathered : (r : Row) (k : ℕ) (t : Typed) → Placed τ s st.rows r → (r.kind ≡ 11 → ⊥) → NextGathered τ s (add room st r (filled st.stack k t))
  unfolding filled
  fill_gathered r k t p n =
      let x = open_more st.rows r st.stack w.owners in
      add_gathered r (filled st.stack k t) p n (close_owners (st.rows ++ (r ∷ [])) (filled_by st.stack.cur k t) st.stack.below x.0 x.1)

  module _ (kind : ℕ) (h : Head) (a : (o l : ℕ) → Owned st.rows (length st.rows) o → (kind ≡ 12 → l ≡ 0) → Placed τ s st.rows (row_owned st kind h o l)) where
    own : (kind ≡ 12 → ⊥) → Placed τ s st.rows (row_in st kind h)
    own x = a st.stack.cur.owner (st.stack.cur.count - st.stack.cur.left) w.owners.0 (λ e. absurd (x e))

    slots_gathered : (k : ℕ) (t : Typed) → (kind ≡ 11 → ⊥) → (kind ≡ 12 → ⊥) → NextGathered τ s (add room st (row_in st kind h) (filled st.stack k t))
    slots_gathered k t n x = fill_gathered (row_in st kind h) k t (own x) n

    open_owners : is_object kind ≡ true → (t : Typed) → OpenOwners (st.rows ++ (row_in st kind h ∷ [])) (opened st.stack (length st.rows + 1) h t)
    unfolding opened
    open_owners i t =
        let r = row_in st kind h in
        let l = length_more st.rows r in
        let z : length st.rows + 1 - 1 ≡ length st.rows = omega arith in
        (within (omega arith) (omega arith) (rw (z, get_or-append_seam st.rows r [] blank) i), open_more st.rows r st.stack w.owners)

    object_gathered : is_object kind ≡ true → (t : Typed) → NextGathered τ s (object room st kind h t)
    unfolding object
    object_gathered i t =
        picked (NextGathered τ s) (eqb h.slots 0) (λ z. slots_gathered 1 t (not_kind is_object 11 refl kind i) (not_kind is_object 12 refl kind i))
        (λ z. picked (NextGathered τ s) (ltb (length st.stack.below) 64)
        (λ d. add_gathered (row_in st kind h) (opened st.stack (length st.rows + 1) h t) (own (not_kind is_object 12 refl kind i)) (not_kind is_object 11 refl kind i) (open_owners i t))
        (λ d. tt))

    over_gathered : (p : Option Typed) → (kind ≡ 11 → ⊥) → (kind ≡ 12 → ⊥) → NextGathered τ s (run_over room st kind h p)
    over_gathered (Some t) n x = slots_gathered h.count t n x
    over_gathered None n x = tt

    run_gathered : (kind ≡ 11 → ⊥) → (kind ≡ 12 → ⊥) → NextGathered τ s (null_run τ.book s room st kind h)
    unfolding null_run
    run_gathered n x =
        picked (NextGathered τ s) (ltb st.stack.cur.left h.count) (λ t. tt)
        (λ t. over_gathered (passed_of τ.book s st.stack.cur.typed h.count) n x)

    apart_gathered : (kind ≡ 11 → ⊥) → NextGathered τ s (add room st (row_apart st kind h) st.stack)
    apart_gathered n =
        let r = row_apart st kind h in
        add_gathered r st.stack (a 0 0 (apart refl) (λ e. refl)) n (open_more st.rows r st.stack w.owners)

    end_gathered : kind ≡ 11 → NextGathered τ s (ending room st h)
    unfolding ending
    end_gathered e =
        picked (NextGathered τ s) (ltb (length st.rows) room)
        (λ t. record {
          front = st.rows;
          last = row_in st 11 h;
          parts = refl;
          each = w.each;
          placed = subst (λ (k : ℕ). Placed τ s st.rows (row_in st k h)) e (own (λ q. omega arith));
          kind = refl;
          end = refl;
        })
        (λ t. tt)

    -- fields that are good
    good_gathered : NextGathered τ s (act τ.book s room st kind (Ok h))
    unfolding act
    good_gathered =
        picked (NextGathered τ s) (is_object kind) (λ t. object_gathered t (moved τ.book s st.stack.cur.typed))
        (λ t. picked (NextGathered τ s) (eqb kind 13 || eqb kind 14) (λ u. run_gathered (not_kind (λ k. eqb k 13 || eqb k 14) 11 refl kind u) (not_kind (λ k. eqb k 13 || eqb k 14) 12 refl kind u))
        (λ u. picked (NextGathered τ s) (eqb kind 12) (λ v. apart_gathered (not_kind (λ k. eqb k 12) 11 refl kind v))
        (λ v. picked (NextGathered τ s) (eqb kind 11) (λ x. end_gathered (eqb-true kind 11 x))
        (λ x. slots_gathered 1 (moved τ.book s st.stack.cur.typed) (eqb-false kind 11 x) (eqb-false kind 12 v)))))

  -- a kind that is the header's exactly where no row stands before it
  module _ (v : Where) (z : (k : ℕ) → allowed v k ≡ true → (k ≡ 0 → length st.rows ≡ 0) × (length st.rows ≡ 0 → k ≡ 0)) where
    act_gathered : (kind : ℕ) → kind_at s v st.at ≡ Ok kind → (x : Result Head Refusal) → heading_at τ s st.rows kind st.at ≡ x
        → NextGathered τ s (act τ.book s room st kind x)
    unfolding act
    act_gathered kind q (Ok h) e = good_gathered kind h (λ o l x y.
        let b = kind_byte s v st.at kind q in
        let f = z kind b.fits in
        record {
          said = a_record (record {
            head = h;
            inside = kind_within s v st.at kind q;
            byte = sym b.byte;
            low = taken_low kind b.known b.free;
            fields = e;
            same_end = refl;
            same_id = refl;
            same_link = refl;
            same_count = refl;
          });
          known = allowed_known kind v b.fits;
          header_first = f.0;
          headed = f.1;
          begins = sym w.place;
          owned = x;
          library_apart = y;
        })
    act_gathered kind q (Err f) e = tt

    kind_gathered : (k : Result ℕ Refusal) → kind_at s v st.at ≡ k → NextGathered τ s (on_kind τ s room st k)
    kind_gathered (Ok k) q = act_gathered k q (heading_at τ s st.rows k st.at) refl
    kind_gathered (Err f) q = tt

    pub record_gathered : NextGathered τ s (record_step τ s room st v)
    unfolding record_step
    record_gathered = kind_gathered (kind_at s v st.at) refl

  -- after the header
  module _ (some : 0 < length st.rows) where
    value_gathered : (c : PrimitiveCode) (v : Result ℕ Refusal) → value_at τ.setting s c st.at ≡ v → NextGathered τ s (on_value τ.book s room st c v)
    value_gathered c (Ok end) e =
        slots_gathered 32 (value_head c end) (λ o l x y. record {
          said = a_value_rule (record { code = c; kind = refl; reads = e; no_id = refl; link_is = refl; no_count = refl });
          known = value refl;
          header_first = λ q. absurd (omega arith);
          headed = λ q. absurd (omega arith);
          begins = sym w.place;
          owned = x;
          library_apart = y;
        }) 1 (moved τ.book s st.stack.cur.typed) (λ q. omega arith) (λ q. omega arith)
    value_gathered c (Err f) e = tt

    slot_record : (v : Where) → (allowed v 0 ≡ false) → NextGathered τ s (record_step τ s room st v)
    slot_record v f = record_gathered v (λ k t. (λ e. absurd (not_kind (allowed v) 0 f k t e), λ q. absurd (omega arith)))

    in_slot_rule : (fs : List Frame) (v : Where) → allowed v 0 ≡ false → NextGathered τ s (record_step τ s room st (where_in fs v))
    unfolding allowed
    in_slot_rule [] v f = slot_record W.Top refl
    in_slot_rule (g ∷ fs) v f = slot_record v f

    slot_gathered : (t : SlotType) → NextGathered τ s (by_slot τ s room st t)
    unfolding value_step allowed
    slot_gathered (S.Primitive c) = value_gathered c (value_at τ.setting s c st.at) refl
    slot_gathered S.Text = in_slot_rule st.stack.below W.StringSlot refl
    slot_gathered S.Object = in_slot_rule st.stack.below W.ObjectSlot refl
    slot_gathered S.SystemClass = in_slot_rule st.stack.below W.ObjectSlot refl
    slot_gathered S.Class = in_slot_rule st.stack.below W.ObjectSlot refl
    slot_gathered S.ObjectArray = in_slot_rule st.stack.below W.ArraySlot refl
    slot_gathered S.StringArray = in_slot_rule st.stack.below W.ArraySlot refl
    slot_gathered (S.PrimitiveArray c) = in_slot_rule st.stack.below W.ArraySlot refl

    pub step_gathered : NextGathered τ s (step τ s room st)
    unfolding step
    step_gathered = slot_gathered st.stack.cur.typed.slot
