-- The laws of a step: each way that the code ends, in its own terms.
use Rattle.std.specs.Prelude.{ℕ, ◌+◌, ◌-◌, ◌≤◌, ◌<◌, ◌≡◌, refl, true, false, List, [], ◌∷◌, ◌++◌, Option, Some, None, Result, Ok, Err}
use Rattle.format.specs.declared.Refused.{Refused}
use Rattle.std.proofs.Common.{sym, subst, ◌∙◌, arith}
use Rattle.std.proofs.Math.Path.{ap}
use Rattle.std.proofs.Math.ListN.{length}
use borrow.Author.Tests.{lt-ltb, le-ltb, eq-eqb, ne_eqb}
use Rattle.format.specs.Terms.{Terms}
use Rattle.format.specs.declared.Refusal.{Refusal}
use Rattle.format.specs.declared.Refusal.TheVariants as R
use Rattle.format.specs.declared.PrimitiveCode.{PrimitiveCode}
use Rattle.format.specs.declared.Typed.{Typed}
use Rattle.format.specs.declared.Head.{Head}
use Rattle.format.specs.declared.Row.{Row}
use Rattle.format.specs.declared.Reader.{Reader}
use Rattle.format.specs.Values.{value_at}
use Rattle.format.specs.Types.{moved, passed_of}
use Rattle.format.specs.Rows.{rows_of, is_object}
use Rattle.format.specs.Machine.{Open, State, Next, refuse, row_in, row_apart, filled, opened, add, object, null_run, ending, act, value_step, value_head}
use Rattle.table.specs.Rows.{length_rows_of}
use Rattle.frames.specs.Frames.{open_of, saved}
use Rattle.frames.specs.Laws.{length_saved}
use Rattle.items.specs.Keeps.{value_moves}
use Rattle.adding.specs.declared.Progress.{Progress}
use Rattle.adding.specs.declared.Progress.TheVariants as Q
use Rattle.adding.specs.Held.{state_of, after, Short}

-- ---- two parts of the definition by their own names

unfoldable pub slots_taken : ℕ → State → ℕ → Head → ℕ → Typed → Next
slots_taken room st kind h k t = add room st (row_in st kind h) (filled st.stack k t)

unfoldable pub library_taken : ℕ → State → ℕ → Head → Next
library_taken room st kind h = add room st (row_apart st kind h) st.stack

-- ---- a row more

pub row_of_lem : (t f : List ℕ) (m : Reader) (kind : ℕ) (h : Head) (slot : ℕ) → slot ≡ m.top.count - m.top.left
    → ◌≡◌ {A = Row}
    (record { kind = kind; offset = m.at; end = h.end; id = h.id; owner = m.top.owner; slot = slot; link = h.link; count = h.count })
    (row_in (state_of t f m) kind h)
row_of_lem t f m kind h slot e = rw e

module _ (room : ℕ) (t u f g : List ℕ) (m next : Reader) (r : Row) where
  pub add_room : m.rows < room → rows_of (m.rows + 1) u ≡ rows_of m.rows t ++ (r ∷ [])
      → after u g (Ok (Q.Go (record { at = r.end; rows = m.rows + 1; depth = next.depth; top = next.top }))) ≡ add room (state_of t f m) r (open_of g next)
  unfolding add
  add_room h e =
      let l : length (rows_of m.rows t) ≡ m.rows = length_rows_of m.rows t in
      rw (l, lt-ltb m.rows room h, e)

  pub add_full : room ≤ m.rows → after t g (Err (record { refusal = R.NoRoom; place = m.at })) ≡ add room (state_of t f m) r (open_of g next)
  unfolding add
  add_full h =
      let l : length (rows_of m.rows t) ≡ m.rows = length_rows_of m.rows t in
      rw (l, le-ltb m.rows room h)

module _ (room : ℕ) (t u f : List ℕ) (m : Reader) (h : Head) where
  pub end_room : m.rows < room → (r : Row) → r ≡ row_in (state_of t f m) 11 h → rows_of (m.rows + 1) u ≡ rows_of m.rows t ++ (r ∷ [])
      → after u f (Ok (Q.Ended (m.rows + 1) h.end)) ≡ ending room (state_of t f m) h
  unfolding ending
  end_room w r q e =
      let l : length (rows_of m.rows t) ≡ m.rows = length_rows_of m.rows t in
      rw (l, lt-ltb m.rows room w, ← q, e)

  pub end_full : room ≤ m.rows → after t f (Err (record { refusal = R.NoRoom; place = m.at })) ≡ ending room (state_of t f m) h
  unfolding ending
  end_full w =
      let l : length (rows_of m.rows t) ≡ m.rows = length_rows_of m.rows t in
      rw (l, le-ltb m.rows room w)

-- ---- an object

module _ (room : ℕ) (t u f g : List ℕ) (m next : Reader) (q : Result Progress Refused) (r : Row) (kind : ℕ) (h : Head) (ty : Typed) where
  pub took_slots : (k : ℕ) → r ≡ row_in (state_of t f m) kind h → open_of f next ≡ filled (open_of f m) k ty
      → after u f q ≡ add room (state_of t f m) r (open_of f next) → after u f q ≡ slots_taken room (state_of t f m) kind h k ty
  unfolding slots_taken
  took_slots k e o a = a ∙ ap (λ (x : Row). add room (state_of t f m) x (open_of f next)) e ∙ ap (λ (x : Open). add room (state_of t f m) (row_in (state_of t f m) kind h) x) o

  pub took_hollow : h.slots ≡ 0 → r ≡ row_in (state_of t f m) kind h → open_of f next ≡ filled (open_of f m) 1 ty
      → after u f q ≡ add room (state_of t f m) r (open_of f next) → after u f q ≡ object room (state_of t f m) kind h ty
  unfolding object slots_taken
  took_hollow z e o a = rw (eq-eqb h.slots 0 z) (took_slots 1 e o a)

  pub took_open : (h.slots ≡ 0 → ⊥) → m.depth < 64 → r ≡ row_in (state_of t f m) kind h
      → open_of g next ≡ opened (open_of f m) (m.rows + 1) h ty
      → after u g q ≡ add room (state_of t f m) r (open_of g next) → after u g q ≡ object room (state_of t f m) kind h ty
  unfolding object
  took_open z d e o a =
      let l : length (rows_of m.rows t) ≡ m.rows = length_rows_of m.rows t in
      let b : length (saved f m.depth) ≡ m.depth = length_saved f m.depth in
      rw (ne_eqb h.slots 0 z, b, lt-ltb m.depth 64 d, l)
      (a ∙ ap (λ (x : Row). add room (state_of t f m) x (open_of g next)) e ∙ ap (λ (x : Open). add room (state_of t f m) (row_in (state_of t f m) kind h) x) o)

module _ (room : ℕ) (t f : List ℕ) (m : Reader) (kind : ℕ) (h : Head) where
  pub too_deep : (ty : Typed) → (h.slots ≡ 0 → ⊥) → 64 ≤ m.depth → refuse R.TooDeep m.at ≡ object room (state_of t f m) kind h ty
  unfolding object
  too_deep ty z d =
      let b : length (saved f m.depth) ≡ m.depth = length_saved f m.depth in
      rw (ne_eqb h.slots 0 z, b, le-ltb m.depth 64 d)

  pub took_library : (u : List ℕ) (q : Result Progress Refused) (r : Row) → r ≡ row_apart (state_of t f m) kind h
      → after u f q ≡ add room (state_of t f m) r (open_of f m) → after u f q ≡ library_taken room (state_of t f m) kind h
  unfolding library_taken
  took_library u q r e a = a ∙ ap (λ (x : Row). add room (state_of t f m) x (open_of f m)) e

-- ---- a null run

module _ (β s : List ℕ) (room : ℕ) (st : State) (kind : ℕ) (h : Head) where
  pub run_long : st.stack.cur.left < h.count → refuse R.BadCount st.at ≡ null_run β s room st kind h
  unfolding null_run
  run_long w = rw (lt-ltb st.stack.cur.left h.count w)

  module _ (w : h.count ≤ st.stack.cur.left) (p : Option Typed) (e : p ≡ passed_of β s st.stack.cur.typed h.count) where
    pub run_over_lem : (ty : Typed) → p ≡ Some ty → slots_taken room st kind h h.count ty ≡ null_run β s room st kind h
    unfolding null_run slots_taken
    run_over_lem ty q = rw (le-ltb st.stack.cur.left h.count w, ← e, q)

    pub run_crossed : p ≡ None → refuse R.BadCount st.at ≡ null_run β s room st kind h
    unfolding null_run
    run_crossed q = rw (le-ltb st.stack.cur.left h.count w, ← e, q)

-- ---- by kind

module _ (β s : List ℕ) (room : ℕ) (st : State) (h : Head) where
  pub act_13 : (kind : ℕ) → kind ≡ 13 → null_run β s room st kind h ≡ act β s room st kind (Ok h)
  unfolding act
  act_13 kind e = rw e

  pub act_14 : (kind : ℕ) → kind ≡ 14 → null_run β s room st kind h ≡ act β s room st kind (Ok h)
  unfolding act
  act_14 kind e = rw e

  pub act_12 : (kind : ℕ) → kind ≡ 12 → library_taken room st kind h ≡ act β s room st kind (Ok h)
  unfolding act library_taken
  act_12 kind e = rw e

  pub act_11 : (kind : ℕ) → kind ≡ 11 → ending room st h ≡ act β s room st kind (Ok h)
  unfolding act
  act_11 kind e = rw e

  module _ (kind : ℕ) (ty : Typed) (e : ty ≡ moved β s st.stack.cur.typed) where
    pub act_object : is_object kind ≡ true → object room st kind h ty ≡ act β s room st kind (Ok h)
    unfolding act
    act_object o = rw (o, e)

    pub act_plain : is_object kind ≡ false → (kind ≡ 13 → ⊥) → (kind ≡ 14 → ⊥) → (kind ≡ 12 → ⊥) → (kind ≡ 11 → ⊥)
        → slots_taken room st kind h 1 ty ≡ act β s room st kind (Ok h)
    unfolding act slots_taken
    act_plain o a b c d = rw (o, ne_eqb kind 13 a, ne_eqb kind 14 b, ne_eqb kind 12 c, ne_eqb kind 11 d, e)

pub act_bad : (β s : List ℕ) (room : ℕ) (st : State) (kind : ℕ) (f : Refusal) → refuse f st.at ≡ act β s room st kind (Err f)
unfolding act
act_bad β s room st kind f = refl

-- a heading by what it is known to be
pub act_as : (β s : List ℕ) (room : ℕ) (st : State) (kind : ℕ) (x y : Result Head Refusal) → x ≡ y → act β s room st kind y ≡ act β s room st kind x
act_as β s room st kind x y e = ap (λ (z : Result Head Refusal). act β s room st kind z) (sym e)

pub short_of : (x : Result Head Refusal) (h : Head) → x ≡ Ok h → Short x → h.end ≤ 16777216
short_of x h e k = subst (λ (z : Result Head Refusal). Short z) e k

-- ---- a member value

module _ (τ : Terms) (s : List ℕ) (room : ℕ) (st : State) (code : PrimitiveCode) (v : Result ℕ Refusal) (e : v ≡ value_at τ.setting s code st.at) where
  pub value_end_lem : (end : ℕ) (ty : Typed) → v ≡ Ok end → ty ≡ moved τ.book s st.stack.cur.typed
      → slots_taken room st 32 (value_head code end) 1 ty ≡ value_step τ s room st code
  unfolding value_step slots_taken
  value_end_lem end ty q w = rw (← e, q, w)

  pub value_took : (end : ℕ) (ty : Typed) (h : Head) → v ≡ Ok end → h ≡ value_head code end → ty ≡ moved τ.book s st.stack.cur.typed
      → slots_taken room st 32 h 1 ty ≡ value_step τ s room st code
  value_took end ty h q g w = ap (λ (x : Head). slots_taken room st 32 x 1 ty) g ∙ value_end_lem end ty q w

  pub value_short : (end : ℕ) (h : Head) → v ≡ Ok end → h ≡ value_head code end → length s ≤ 16777216 → h.end ≤ 16777216
  value_short end h q g l =
      let w = value_moves τ.setting s code st.at end (sym e ∙ q) in
      let z : h.end ≡ end = ap (λ (x : Head). x.end) g in
      omega arith

  pub value_bad : (f : Refusal) → v ≡ Err f → refuse f st.at ≡ value_step τ s room st code
  unfolding value_step
  value_bad f q = rw (← e, q)
