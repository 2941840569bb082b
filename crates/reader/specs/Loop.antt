-- The loop over the steps is `run`: what is left to run gives what the whole gives.
use Rattle.std.specs.Prelude.{ℕ, zero, suc, pred, ◌+◌, ◌/◌, ◌≤◌, ◌<◌, ◌≡◌, refl, List, length, Err, Result, Ok}
use Rattle.format.specs.declared.Refused.{Refused}
use Rattle.std.proofs.Common.{sym, ap, subst, ◌∙◌, arith, le-ltb}
use Rattle.std.proofs.lemmas.Bool.{lt-leb}
use Rattle.format.specs.Terms.{Terms}
use Rattle.format.specs.Prefix.{later_least}
use Rattle.format.specs.declared.Refusal.{Refusal}
use Rattle.format.specs.declared.Refusal.TheVariants as R
use Rattle.format.specs.declared.PrimitiveCode.{PrimitiveCode}
use Rattle.format.specs.declared.PrimitiveCode.TheVariants as C
use Rattle.format.specs.declared.SlotType.{SlotType}
use Rattle.format.specs.declared.SlotType.TheVariants as S
use Rattle.format.specs.declared.Where.{Where}
use Rattle.format.specs.declared.Where.TheVariants as W
use Rattle.format.specs.declared.Reader.{Reader}
use Rattle.format.specs.Values.{bytes_at, boolean_at, char_at, decimal_at, date_time_at, value_at}
use Rattle.format.specs.Rows.{rows_of, room_of}
use Rattle.format.specs.Records.{kind_at}
use Rattle.format.specs.Machine.{State, Next, go, ended, refuse, record_step, value_step, by_slot, step, finish, onward, run, Outcome, refused}
use Rattle.prefix.specs.Laws.{short}
use Rattle.num.specs.Read.{u64_short}
use Rattle.table.specs.Rows.{length_rows_of}
use Rattle.frames.specs.Laws.{length_saved}
use Rattle.adding.specs.declared.Progress.{Progress}
use Rattle.adding.specs.declared.Progress.TheVariants as Q
use Rattle.adding.specs.Held.{state_of, after, Held}
use Rattle.reader.specs.Fine.{Fine, NextFine, step_fine}

-- ---- past the end a step is cut short, which is what no fuel says

value_past : (τ : Terms) (s : List ℕ) (p : ℕ) → length s ≤ p → (c : PrimitiveCode) → value_at τ.setting s c p ≡ Err R.CutShort
unfolding value_at bytes_at boolean_at char_at decimal_at date_time_at
value_past τ s p h C.Boolean = rw (le-ltb p (length s) h)
value_past τ s p h C.Byte = rw (lt-leb (p + 1) (length s) (omega arith))
value_past τ s p h C.Char = rw (le-ltb p (length s) h)
value_past τ s p h C.Decimal = rw (short 0 (later_least τ.setting) s p 4 h)
value_past τ s p h C.Double = rw (lt-leb (p + 8) (length s) (omega arith))
value_past τ s p h C.Int16 = rw (lt-leb (p + 2) (length s) (omega arith))
value_past τ s p h C.Int32 = rw (lt-leb (p + 4) (length s) (omega arith))
value_past τ s p h C.Int64 = rw (lt-leb (p + 8) (length s) (omega arith))
value_past τ s p h C.SByte = rw (lt-leb (p + 1) (length s) (omega arith))
value_past τ s p h C.Single = rw (lt-leb (p + 4) (length s) (omega arith))
value_past τ s p h C.TimeSpan = rw (lt-leb (p + 8) (length s) (omega arith))
value_past τ s p h C.DateTime = rw (u64_short s p (omega arith))
value_past τ s p h C.UInt16 = rw (lt-leb (p + 2) (length s) (omega arith))
value_past τ s p h C.UInt32 = rw (lt-leb (p + 4) (length s) (omega arith))
value_past τ s p h C.UInt64 = rw (lt-leb (p + 8) (length s) (omega arith))

module _ (τ : Terms) (s : List ℕ) (room : ℕ) (st : State) (h : length s ≤ st.at) where
  record_past : (w : Where) → record_step τ s room st w ≡ refuse R.CutShort st.at
  unfolding record_step kind_at
  record_past w = rw (le-ltb st.at (length s) h)

  slot_past : (t : SlotType) → by_slot τ s room st t ≡ refuse R.CutShort st.at
  unfolding value_step
  slot_past (S.Primitive c) = rw (value_past τ s st.at h c)
  slot_past S.Text = record_past _
  slot_past S.Object = record_past _
  slot_past S.SystemClass = record_past _
  slot_past S.Class = record_past _
  slot_past S.ObjectArray = record_past _
  slot_past S.StringArray = record_past _
  slot_past (S.PrimitiveArray c) = record_past _

  step_past : step τ s room st ≡ refuse R.CutShort st.at
  unfolding step
  step_past = slot_past st.stack.cur.typed.slot

run_open : (τ : Terms) (k : ℕ) (s : List ℕ) (room : ℕ) (st : State) → length s ≤ st.at + k → run τ k s room st ≡ onward s (run τ (pred k) s room) (step τ s room st)
unfolding run
run_open τ zero s room st h = rw (step_past τ s room st (omega arith))
run_open τ (suc k) s room st h = refl

-- ---- the state that the code holds

-- what holds of the state bounds what the code holds
pub held : (s t f : List ℕ) (room : ℕ) (m : Reader) → length s ≤ 16777216 → Fine s room (state_of t f m) → Held room m
held s t f room m l w =
    let n : length (rows_of m.rows t) ≡ m.rows = length_rows_of m.rows t in
    let d = length_saved f m.depth in
    let a = w.inside in
    let b = w.counted in
    let c = w.roomy in
    let e = w.shallow in
    record { inside = omega arith; counted = omega arith; roomy = omega arith; shallow = omega arith }

-- the loop's invariant, against the run of the whole from st₀ on
pub record Runs (τ : Terms) (s : List ℕ) (room : ℕ) (whole : Outcome) (t f : List ℕ) (m : Reader) : Type 0 where
  pub framed : length f ≡ 384
  pub fine : Fine s room (state_of t f m)
  pub fuel : ℕ
  pub enough : length s ≤ m.at + fuel
  pub same : run τ fuel s room (state_of t f m) ≡ whole

module _ (τ : Terms) {s t f : List ℕ} {room : ℕ} {whole : Outcome} {m : Reader} (i : Runs τ s room whole t f m) (u g : List ℕ) (q : Result Progress Refused) (e : after u g q ≡ step τ s room (state_of t f m)) where
  -- what a step's answer says of the whole run
  told : whole ≡ onward s (run τ (pred i.fuel) s room) (after u g q)
  told = sym i.same ∙ run_open τ i.fuel s room (state_of t f m) i.enough ∙ ap (onward s (run τ (pred i.fuel) s room)) (sym e)

  after_fine : NextFine s room m.at (after u g q)
  after_fine = subst (λ (x : Next). NextFine s room m.at x) (sym e) (step_fine τ s room (state_of t f m) i.fine)

  went : (n : Reader) → q ≡ Ok (Q.Go n) → NextFine s room m.at (go (state_of u g n))
  went n k = subst (λ (x : Result Progress Refused). NextFine s room m.at (after u g x)) k after_fine

  pub moves_on : (n : Reader) → q ≡ Ok (Q.Go n) → (m.at < n.at) × (n.at ≤ length s)
  moves_on n k = let w = went n k in (w.1, w.0.inside)

  pub gone : (n : Reader) → q ≡ Ok (Q.Go n) → length g ≡ 384 → Runs τ s room whole u g n
  gone n k l =
      let w = went n k in
      let a = w.1 in
      let b = i.enough in
      record {
        framed = l;
        fine = w.0;
        fuel = pred i.fuel;
        enough = omega arith;
        same = sym (told ∙ ap (λ (x : Result Progress Refused). onward s (run τ (pred i.fuel) s room) (after u g x)) k);
      }

  pub ends : (n p : ℕ) → q ≡ Ok (Q.Ended n p) → finish s (rows_of n u) p ≡ whole
  ends n p k = sym (told ∙ ap (λ (x : Result Progress Refused). onward s (run τ (pred i.fuel) s room) (after u g x)) k)

  pub ends_roomy : (n p : ℕ) → q ≡ Ok (Q.Ended n p) → (n ≤ room) × (n ≤ length s)
  ends_roomy n p k =
      let w : NextFine s room m.at (ended (rows_of n u) p) = subst (λ (x : Result Progress Refused). NextFine s room m.at (after u g x)) k after_fine in
      let l : length (rows_of n u) ≡ n = length_rows_of n u in
      let a = w.0 in
      let b = w.1 in
      (omega arith, omega arith)

  pub refuses : (r : Refusal) (p : ℕ) → q ≡ Err (record { refusal = r; place = p }) → refused r p ≡ whole
  refuses r p k = sym (told ∙ ap (λ (x : Result Progress Refused). onward s (run τ (pred i.fuel) s room) (after u g x)) k)

-- a table keeps its length, and so its room
pub same_room : (τ : Terms) (t t₀ s : List ℕ) (st : State) (x : Next) → length t ≡ length t₀ → x ≡ step τ s (room_of t) st → x ≡ step τ s (room_of t₀) st
same_room τ t t₀ s st x l e = e ∙ ap (λ (n : ℕ). step τ s (n / 8) st) l

pub held_room : (t t₀ : List ℕ) (m : Reader) → length t ≡ length t₀ → Held (room_of t₀) m → Held (room_of t) m
held_room t t₀ m l h = subst (λ (n : ℕ). Held (n / 8) m) (sym l) h
