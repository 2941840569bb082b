-- Reading (01, What may stand where; The table; Replies): a machine that takes one record or member value a step, left to right.
use Rattle.std.specs.Prelude.{ℕ, zero, suc, ◌+◌, ◌-◌, ◌*◌, ◌||◌, List, [], ◌∷◌, ◌++◌, length, get_or, replicate, ltb, eqb, Option, Some, None, Result, Ok, Err}
use Rattle.format.specs.declared.Refused.{Refused}
use Rattle.format.specs.Terms.{Terms}
use Rattle.format.specs.declared.Refusal.{Refusal}
use Rattle.format.specs.declared.Refusal.TheVariants as R
use Rattle.format.specs.declared.PrimitiveCode.{PrimitiveCode}
use Rattle.format.specs.declared.SlotType.{SlotType}
use Rattle.format.specs.declared.SlotType.TheVariants as S
use Rattle.format.specs.declared.Typed.{Typed}
use Rattle.format.specs.declared.Where.{Where}
use Rattle.format.specs.declared.Where.TheVariants as W
use Rattle.format.specs.declared.Head.{Head}
use Rattle.format.specs.declared.Row.{Row}
use Rattle.format.specs.declared.Frame.{Frame}
use Rattle.format.specs.Bytes.{pick}
use Rattle.format.specs.Values.{value_at}
use Rattle.format.specs.Types.{alike, code_number, moved, passed_of}
use Rattle.format.specs.Entries.{bad_entry}
use Rattle.format.specs.Rows.{blank, is_object, object_row, find_from, is_lost, linked, words}
use Rattle.format.specs.Records.{kind_at, heading_at}

-- ---- what was read before

-- the object being filled, and those around it, innermost first; the last one stands for the top level
pub record Open : Type 0 where
  pub cur : Frame
  pub below : List Frame

pub record State : Type 0 where
  pub at : ℕ
  pub rows : List Row
  pub stack : Open

pub data Outcome : Type 0 where
  accepted : List Row → Outcome
  refused : Refusal → ℕ → Outcome

-- after a step: on, at the end record with the place after it, or refused
pub data Next : Type 0 where
  go : State → Next
  ended : List Row → ℕ → Next
  refuse : Refusal → ℕ → Next

-- ---- open objects

-- objects that are full are closed
unfoldable pub close : Frame → List Frame → Open
close f [] = record { cur = f; below = [] }
close f (g ∷ gs) = pick (eqb f.left 0) (close g gs) (record { cur = f; below = g ∷ gs })

-- a frame with k slots filled, the next of this type
abbrev pub filled_by : Frame → ℕ → Typed → Frame
filled_by f k t = record { owner = f.owner; count = f.count; left = f.left - k; typed = t }

-- k slots of the innermost object are filled
unfoldable pub filled : Open → ℕ → Typed → Open
filled o k t = close (filled_by o.cur k t) o.below

-- an object is opened in the next slot; row is the number of its row plus 1
unfoldable pub opened : Open → ℕ → Head → Typed → Open
opened o row h t =
    record {
      cur = record { owner = row; count = h.slots; left = h.slots; typed = h.first };
      below = filled_by o.cur 1 t ∷ o.below;
    }

-- ---- rows

-- the row of a record or value that stands in the next slot
abbrev pub row_in : State → ℕ → Head → Row
row_in st kind h =
    record {
      kind = kind;
      offset = st.at;
      end = h.end;
      id = h.id;
      owner = st.stack.cur.owner;
      slot = st.stack.cur.count - st.stack.cur.left;
      link = h.link;
      count = h.count;
    }

-- a library's row has no owner and no slot
abbrev pub row_apart : State → ℕ → Head → Row
row_apart st kind h =
    record { kind = kind; offset = st.at; end = h.end; id = h.id; owner = 0; slot = 0; link = h.link; count = h.count }

-- one row more, if the table has room for it
unfoldable pub add : ℕ → State → Row → Open → Next
add room st r o =
    pick (ltb (length st.rows) room)
    (go (record { at = r.end; rows = st.rows ++ (r ∷ []); stack = o }))
    (refuse R.NoRoom st.at)

-- ---- a step, after the fields of the record are good

-- an object: opened where it has slots to fill, else it fills its own slot
unfoldable pub object : ℕ → State → ℕ → Head → Typed → Next
object room st kind h t =
    pick (eqb h.slots 0) (add room st (row_in st kind h) (filled st.stack 1 t))
    (pick (ltb (length st.stack.below) 64)
    (add room st (row_in st kind h) (opened st.stack (length st.rows + 1) h t))
    (refuse R.TooDeep st.at))

-- a null run: within the object's slots, and over no primitive member
abbrev pub run_over : ℕ → State → ℕ → Head → Option Typed → Next
run_over room st kind h (Some t) = add room st (row_in st kind h) (filled st.stack h.count t)
run_over room st kind h None = refuse R.BadCount st.at

unfoldable pub null_run : (β s : List ℕ) → ℕ → State → ℕ → Head → Next
null_run β s room st kind h =
    pick (ltb st.stack.cur.left h.count) (refuse R.BadCount st.at)
    (run_over room st kind h (passed_of β s st.stack.cur.typed h.count))

-- the end record
unfoldable pub ending : ℕ → State → Head → Next
ending room st h = pick (ltb (length st.rows) room) (ended (st.rows ++ (row_in st 11 h ∷ [])) h.end) (refuse R.NoRoom st.at)

unfoldable pub act : (β s : List ℕ) → ℕ → State → ℕ → Result Head Refusal → Next
act β s room st kind (Err f) = refuse f st.at
act β s room st kind (Ok h) =
    pick (is_object kind) (object room st kind h (moved β s st.stack.cur.typed))
    (pick (eqb kind 13 || eqb kind 14) (null_run β s room st kind h)
    (pick (eqb kind 12) (add room st (row_apart st kind h) st.stack)
    (pick (eqb kind 11) (ending room st h)
    (add room st (row_in st kind h) (filled st.stack 1 (moved β s st.stack.cur.typed))))))

-- ---- a step: a member value at once, else a kind byte and its record

abbrev pub on_kind : Terms → List ℕ → ℕ → State → Result ℕ Refusal → Next
on_kind τ s room st (Ok k) = act τ.book s room st k (heading_at τ s st.rows k st.at)
on_kind τ s room st (Err f) = refuse f st.at

unfoldable pub record_step : Terms → List ℕ → ℕ → State → Where → Next
record_step τ s room st w = on_kind τ s room st (kind_at s w st.at)

-- a member value has a row of kind 32; until links are put in, its link is the number of the code by which it was read
abbrev pub value_head : PrimitiveCode → ℕ → Head
value_head c end = record { id = 0; end = end; count = 0; slots = 0; first = alike S.Object 0; link = code_number c }

abbrev pub on_value : (β s : List ℕ) → ℕ → State → PrimitiveCode → Result ℕ Refusal → Next
on_value β s room st c (Ok end) =
    add room st (row_in st 32 (value_head c end)) (filled st.stack 1 (moved β s st.stack.cur.typed))
on_value β s room st c (Err f) = refuse f st.at

unfoldable pub value_step : Terms → List ℕ → ℕ → State → PrimitiveCode → Next
value_step τ s room st c = on_value τ.book s room st c (value_at τ.setting s c st.at)

-- the top level has no object around it
abbrev pub where_in : List Frame → Where → Where
where_in [] w = W.Top
where_in (f ∷ fs) w = w

abbrev pub by_slot : Terms → List ℕ → ℕ → State → SlotType → Next
by_slot τ s room st (S.Primitive c) = value_step τ s room st c
by_slot τ s room st S.Text = record_step τ s room st (where_in st.stack.below W.StringSlot)
by_slot τ s room st S.Object = record_step τ s room st (where_in st.stack.below W.ObjectSlot)
by_slot τ s room st S.SystemClass = record_step τ s room st (where_in st.stack.below W.ObjectSlot)
by_slot τ s room st S.Class = record_step τ s room st (where_in st.stack.below W.ObjectSlot)
by_slot τ s room st S.ObjectArray = record_step τ s room st (where_in st.stack.below W.ArraySlot)
by_slot τ s room st S.StringArray = record_step τ s room st (where_in st.stack.below W.ArraySlot)
by_slot τ s room st (S.PrimitiveArray c) = record_step τ s room st (where_in st.stack.below W.ArraySlot)

unfoldable pub step : Terms → List ℕ → ℕ → State → Next
step τ s room st = by_slot τ s room st st.stack.cur.typed.slot

-- ---- after the end record: trailing bytes, the root, the references

abbrev pub targets : List Row → ℕ → Outcome
targets rows lost = pick (eqb lost 0) (accepted rows) (refused R.NoObject (get_or rows (lost - 1) blank).offset)

unfoldable pub finish : List ℕ → List Row → ℕ → Outcome
finish s rows at =
    pick (ltb at (length s)) (refused R.Trailing at)
    (pick (eqb (object_row (get_or rows 0 blank).id rows) 0) (refused R.NoRoot 0)
    (targets rows (find_from (is_lost rows) 0 rows)))

-- ---- the whole stream

abbrev pub onward : List ℕ → (State → Outcome) → Next → Outcome
onward s f (go st) = f st
onward s f (ended rows at) = finish s rows at
onward s f (refuse r place) = refused r place

-- at most k steps: each takes a byte or more, and past the end there is none
unfoldable pub run : Terms → ℕ → List ℕ → ℕ → State → Outcome
run τ zero s room st = refused R.CutShort st.at
run τ (suc k) s room st = onward s (run τ k s room) (step τ s room st)

abbrev pub top_level : Frame
top_level = record { owner = 0; count = 0; left = 0; typed = alike S.Object 0 }

abbrev pub start : State
start = record { at = 0; rows = []; stack = record { cur = top_level; below = [] } }

-- the header stands first
abbrev pub begin : Terms → List ℕ → ℕ → Next → Outcome
begin τ s room (go st) = run τ (length s) s room st
begin τ s room (ended rows at) = finish s rows at
begin τ s room (refuse r place) = refused r place

-- a stream within the limit, with a good book
unfoldable pub stream_of : Terms → List ℕ → ℕ → Outcome
stream_of τ s room = begin τ s room (record_step τ s room start W.Start)

-- the outcome of a stream with room for so many rows: the limit, the book, the stream. The rows are as they are read, their link words not final
unfoldable pub raw_of : Terms → List ℕ → ℕ → Outcome
raw_of τ s room =
    pick (ltb 16777216 (length s)) (refused R.TooLarge 0)
    (pick (eqb (bad_entry τ.book) 0) (stream_of τ s room) (refused R.BadBook (bad_entry τ.book - 1)))

-- links are put in at the end
abbrev pub with_links : Outcome → Outcome
with_links (accepted rows) = accepted (linked rows)
with_links (refused r place) = refused r place

-- what a right reader says of a stream, with room for so many rows
unfoldable pub read_of : Terms → List ℕ → ℕ → Outcome
read_of τ s room = with_links (raw_of τ s room)

-- ---- the answer, and every word of the table

unfoldable pub read_answer : Outcome → Result ℕ Refused
read_answer (accepted rows) = Ok (length rows)
read_answer (refused r place) = Err (record { refusal = r; place = place })

-- rows, then zeros; all zeros after a refusal
unfoldable pub table_words : ℕ → Outcome → List ℕ
table_words n (accepted rows) = words rows ++ replicate (n - 8 * length rows) 0
table_words n (refused r place) = replicate n 0
