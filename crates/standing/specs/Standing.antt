-- What each row that a reading gathers says of the stream and of the rows before it, and what all rows of a stream that is taken say
-- together, before their links are put in.
use Rattle.std.specs.Prelude.{ℕ, suc, ◌-◌, ◌≤◌, ◌<◌, ◌≡◌, refl, Bool, true, false, ◌||◌, List, length, get_or, take, leb, eqb, Ok}
use Rattle.std.proofs.Common.{arith, leb-true, eqb-true}
use Rattle.format.specs.Terms.{Terms}
use Rattle.format.specs.declared.PrimitiveCode.{PrimitiveCode}
use Rattle.format.specs.declared.Where.{Where}
use Rattle.format.specs.declared.Where.TheVariants as W
use Rattle.format.specs.declared.Head.{Head}
use Rattle.format.specs.declared.Row.{Row}
use Rattle.format.specs.Types.{code_number}
use Rattle.format.specs.Values.{value_at}
use Rattle.format.specs.Rows.{blank, is_object}
use Rattle.format.specs.Records.{is_kind, not_taken, in_slot, is_class_kind, allowed, heading_at}
use Rattle.items.specs.Keeps.{value_moves}
use Rattle.ends.specs.Headings.{heading_moves}

-- ---- one row

-- the kinds that a row may have; 32 is a member value
pub data Known (k : ℕ) : Type 0 where
  header : k ≡ 0 → Known k
  class_by_id_rule : k ≡ 1 → Known k
  system_class_rule : k ≡ 4 → Known k
  class : k ≡ 5 → Known k
  string : k ≡ 6 → Known k
  binary_array : k ≡ 7 → Known k
  typed_primitive_rule : k ≡ 8 → Known k
  reference : k ≡ 9 → Known k
  null : k ≡ 10 → Known k
  ending : k ≡ 11 → Known k
  library : k ≡ 12 → Known k
  nulls : k ≡ 13 → Known k
  long_nulls : k ≡ 14 → Known k
  primitive_array_rule : k ≡ 15 → Known k
  object_array_rule : k ≡ 16 → Known k
  string_array_rule : k ≡ 17 → Known k
  value : k ≡ 32 → Known k

-- the row of a record: its kind byte and its fields stand at its offset
pub record Recorded (τ : Terms) (s : List ℕ) (before : List Row) (r : Row) : Type 0 where
  pub head : Head
  pub inside : r.offset < length s
  pub byte : get_or s r.offset 0 ≡ r.kind
  pub low : r.kind ≤ 17
  pub fields : heading_at τ s before r.kind r.offset ≡ Ok head
  pub same_end : r.end ≡ head.end
  pub same_id : r.id ≡ head.id
  pub same_link : r.link ≡ head.link
  pub same_count : r.count ≡ head.count

-- the row of a member value
pub record Valued (τ : Terms) (s : List ℕ) (r : Row) : Type 0 where
  pub code : PrimitiveCode
  pub kind : r.kind ≡ 32
  pub reads : value_at τ.setting s code r.offset ≡ Ok r.end
  pub no_id : r.id ≡ 0
  pub link_is : r.link ≡ code_number code
  pub no_count : r.count ≡ 0

pub data Stood (τ : Terms) (s : List ℕ) (before : List Row) (r : Row) : Type 0 where
  a_record : Recorded τ s before r → Stood τ s before r
  a_value_rule : Valued τ s r → Stood τ s before r

-- no owner, or the number of an object's row plus 1, among the first i
pub data Owned (rows : List Row) (i owner : ℕ) : Type 0 where
  apart : owner ≡ 0 → Owned rows i owner
  within : 0 < owner → owner - 1 < i → is_object (get_or rows (owner - 1) blank).kind ≡ true → Owned rows i owner

-- ---- all rows

pub record Standing (τ : Terms) (s : List ℕ) (rows : List Row) : Type 0 where
  pub each : (i : ℕ) → i < length rows → Stood τ s (take i rows) (get_or rows i blank)
  pub kinds : (i : ℕ) → i < length rows → Known (get_or rows i blank).kind
  -- the header is the first row and no other
  pub headed : (get_or rows 0 blank).kind ≡ 0
  pub header_first : (i : ℕ) → i < length rows → (get_or rows i blank).kind ≡ 0 → i ≡ 0
  -- the end record is the last row and no other
  pub closed : (get_or rows (length rows - 1) blank).kind ≡ 11
  pub end_last : (i : ℕ) → i < length rows → (get_or rows i blank).kind ≡ 11 → suc i ≡ length rows
  -- rows follow one another, from the first byte to the last
  pub begins : (get_or rows 0 blank).offset ≡ 0
  pub next : (i : ℕ) → suc i < length rows → (get_or rows (suc i) blank).offset ≡ (get_or rows i blank).end
  pub ends : (get_or rows (length rows - 1) blank).end ≡ length s
  pub owners : (i : ℕ) → i < length rows → Owned rows i (get_or rows i blank).owner
  -- a library fills no slot
  pub libraries : (i : ℕ) → i < length rows → (get_or rows i blank).kind ≡ 12 → (get_or rows i blank).slot ≡ 0
  pub some : 0 < length rows
  pub counted : length rows ≤ length s
  pub fits : length s ≤ 16777216

-- ---- what a row says

module _ (τ : Terms) {s : List ℕ} {before : List Row} {r : Row} where
  pub as_record : Stood τ s before r → (r.kind ≡ 32 → ⊥) → Recorded τ s before r
  as_record (a_record x) n = x
  as_record (a_value_rule x) n = absurd (n x.kind)

  pub as_value : Stood τ s before r → r.kind ≡ 32 → Valued τ s r
  as_value (a_record x) e = let l = x.low in absurd (omega arith)
  as_value (a_value_rule x) e = x

  -- a row takes a byte or more, within the stream
  pub stood_moves : Stood τ s before r → (r.offset < r.end) × (r.end ≤ length s)
  stood_moves (a_record x) =
      let m = heading_moves τ s before r.kind r.offset x.head x.inside x.fields in
      let e = x.same_end in
      (omega arith, omega arith)
  stood_moves (a_value_rule x) = value_moves τ.setting s x.code r.offset r.end x.reads

module _ (τ : Terms) {s : List ℕ} {rows : List Row} (w : Standing τ s rows) (i : ℕ) (h : i < length rows) where
  pub record_at : ((get_or rows i blank).kind ≡ 32 → ⊥) → Recorded τ s (take i rows) (get_or rows i blank)
  record_at n = as_record τ (w.each i h) n

  pub value_at_lem : (get_or rows i blank).kind ≡ 32 → Valued τ s (get_or rows i blank)
  value_at_lem e = as_value τ (w.each i h) e

  pub row_moves : ((get_or rows i blank).offset < (get_or rows i blank).end) × ((get_or rows i blank).end ≤ length s)
  row_moves = stood_moves τ (w.each i h)

-- ---- a kind that may stand at a place is known

either : {P : Type 0} (a b : Bool) → (a || b) ≡ true → (a ≡ true → P) → (b ≡ true → P) → P
either true b e f g = f refl
either false b e f g = g e

module _ (k : ℕ) where
  is : {P : Type 0} (n : ℕ) → (k ≡ n → P) → eqb k n ≡ true → P
  is n f t = f (eqb-true k n t)

  or : {P : Type 0} (n : ℕ) (b : Bool) → (k ≡ n → P) → (b ≡ true → P) → (eqb k n || b) ≡ true → P
  or n b f g t = either (eqb k n) b t (is n f) g

  class_known : is_class_kind k ≡ true → Known k
  class_known = or 1 _ class_by_id_rule (or 4 _ system_class_rule (is 5 class))

  slot_known : in_slot k ≡ true → Known k
  slot_known = or 9 _ reference (or 10 _ null (or 12 _ library (or 13 _ nulls (is 14 long_nulls))))

  pub allowed_known : (w : Where) → allowed w k ≡ true → Known k
  unfolding allowed
  allowed_known W.Start t = is 0 header t
  allowed_known W.Top t =
      either (is_class_kind k) _ t class_known
      (or 6 _ string (or 7 _ binary_array (or 11 _ ending (or 12 _ library (or 15 _ primitive_array_rule (or 16 _ object_array_rule (is 17 string_array_rule)))))))
  allowed_known W.StringSlot t = or 6 _ string slot_known t
  allowed_known W.ObjectSlot t = either (is_class_kind k) _ t class_known (or 6 _ string (or 8 _ typed_primitive_rule slot_known))
  allowed_known W.ArraySlot t = slot_known t

  -- a kind that is taken is one of the first eighteen
  pub taken_low : is_kind k ≡ true → not_taken k ≡ false → k ≤ 17
  taken_low t f =
      either (leb k 17) _ t (λ l. leb-true k 17 l)
      (or 21 _ (λ e. absurd (no (rw e at f))) (is 22 (λ e. absurd (no (rw e at f)))))
    where
      no : true ≡ false → ⊥
      no q = let z : ◌≡◌ {A = ℕ} 0 1 = cc in omega arith
