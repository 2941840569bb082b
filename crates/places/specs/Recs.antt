-- A record as the grammar has it (01, Records), of any kind, and what its fields say of it at a place: the same statement for every kind.
use Rattle.std.specs.Prelude.{ℕ, zero, suc, ◌+◌, ◌<◌, ◌≡◌, refl, true, false, List, [], ◌∷◌, ◌++◌, length, get_or, replicate, Ok}
use Rattle.std.proofs.Common.{sym, ap, ◌∙◌}
use Rattle.format.specs.Terms.{Terms}
use Rattle.format.specs.declared.PrimitiveCode.{PrimitiveCode}
use Rattle.format.specs.declared.SlotType.{SlotType}
use Rattle.format.specs.declared.SlotType.TheVariants as S
use Rattle.format.specs.declared.Typed.{Typed}
use Rattle.format.specs.declared.Head.{Head}
use Rattle.format.specs.declared.Row.{Row}
use Rattle.format.specs.Bytes.{pick}
use Rattle.format.specs.Types.{typed_at, alike, moved}
use Rattle.format.specs.Rows.{is_class}
use Rattle.format.specs.Records.{is_kind, not_taken, first_type, heading_at}
use Rattle.format.specs.Contents.{Prefixed, Member, Rec, header, class_by_id, system_class, library_class, string, array, typed_primitive, reference, null, nulls, many_nulls, end, library, primitive_array, object_array, string_array, value, enc}
use Rattle.format.specs.Grammar.{Positive, Entry, a_class, another, a_library, known, classed, class_of, ClassId, ObjectId, LibraryId, Name, Value, ClassInfo, types_of, size, Array, of_objects, of_strings, of_primitives, of_any, of_values}
use Rattle.slots.specs.Slots.{moved_alike}
use Rattle.places.specs.Env.{slots_from, class_slots, entry_of, env_of, env_more}
use Rattle.places.specs.Stand.{Stand, stand_size}

-- a record that the grammar takes where this is known: its kind, its number (ObjectId, LibraryId, IdRef or RootId) or 0, its count, the row of
-- the class that it names or 0, and the types of its slots
pub data Good (τ : Terms) (es : List Entry) : (kind : ℕ) → Rec → (id count class : ℕ) → List SlotType → Type 0 where
  is_header : {root h : ℕ} → root < 4294967296 → h < 4294967296 → Good τ es 0 (header root h) root 0 0 []
  is_class_by_id : {i k row : ℕ} {ts : List SlotType} → ClassId i es → k < 4294967296 → class_of k es ≡ classed row ts
      → Good τ es 1 (class_by_id i k) i (length ts) row ts
  is_system_class : {i : ℕ} {n : Prefixed} {ms : List (Member Prefixed ℕ)} → ClassId i es → ClassInfo τ es n ms
      → Good τ es 4 (system_class i n ms) i (length ms) 0 (types_of ms)
  is_library_class : {i l : ℕ} {n : Prefixed} {ms : List (Member Prefixed ℕ)} → ClassId i es → ClassInfo τ es n ms → LibraryId l es
      → Good τ es 5 (library_class i n ms l) i (length ms) 0 (types_of ms)
  is_string : {i : ℕ} {t : Prefixed} → ObjectId i es → Name τ t → Good τ es 6 (string i t) i 0 0 []
  is_typed_primitive : {c : PrimitiveCode} {v : Prefixed} → Value τ c v → Good τ es 8 (typed_primitive c v) 0 0 0 []
  is_reference : {i : ℕ} → Positive i → Good τ es 9 (reference i) i 0 0 []
  is_null_rule : Good τ es 10 null 0 1 0 []
  is_end : Good τ es 11 end 0 0 0 []
  is_library_rule : {i : ℕ} {n : Prefixed} → Positive i → known i es ≡ false → Name τ n → Good τ es 12 (library i n) i 0 0 []
  is_nulls_rule : {k : ℕ} → k < 256 → Good τ es 13 (nulls k) 0 k 0 []
  is_many_nulls : {k : ℕ} → Positive k → Good τ es 14 (many_nulls k) 0 k 0 []
  is_array : {k i n : ℕ} {r : Rec} {ts : List SlotType} → ObjectId i es → Array τ es r k i n ts → Good τ es k r i n 0 ts

-- its kind is known and not refused by name
array_kind : (τ : Terms) {es : List Entry} {k i n : ℕ} {r : Rec} {ts : List SlotType} → Array τ es r k i n ts → (is_kind k ≡ true) × (not_taken k ≡ false)
array_kind τ (of_objects a) = (refl, refl)
array_kind τ (of_strings a) = (refl, refl)
array_kind τ (of_primitives a b) = (refl, refl)
array_kind τ (of_any a b c d e) = (refl, refl)
array_kind τ (of_values a b c) = (refl, refl)

pub good_kind : (τ : Terms) {es : List Entry} {k id count class : ℕ} {r : Rec} {ts : List SlotType} → Good τ es k r id count class ts → (is_kind k ≡ true) × (not_taken k ≡ false)
good_kind τ (is_header a b) = (refl, refl)
good_kind τ (is_class_by_id a b c) = (refl, refl)
good_kind τ (is_system_class a b) = (refl, refl)
good_kind τ (is_library_class a b c) = (refl, refl)
good_kind τ (is_string a b) = (refl, refl)
good_kind τ (is_typed_primitive a) = (refl, refl)
good_kind τ (is_reference a) = (refl, refl)
good_kind τ is_null_rule = (refl, refl)
good_kind τ is_end = (refl, refl)
good_kind τ (is_library_rule a b c) = (refl, refl)
good_kind τ (is_nulls_rule a) = (refl, refl)
good_kind τ (is_many_nulls a) = (refl, refl)
good_kind τ (is_array a b) = array_kind τ b

-- what a record makes known; row is the number of its row plus 1
abbrev pub entry_for : ℕ → Rec → List Entry
entry_for row (header r h) = []
entry_for row (class_by_id i k) = another i ∷ []
entry_for row (system_class i n ms) = a_class i row (types_of ms) ∷ []
entry_for row (library_class i n ms l) = a_class i row (types_of ms) ∷ []
entry_for row (string i t) = another i ∷ []
entry_for row (array i t ns d vs) = another i ∷ []
entry_for row (typed_primitive c v) = []
entry_for row (reference i) = []
entry_for row null = []
entry_for row (nulls k) = []
entry_for row (many_nulls k) = []
entry_for row end = []
entry_for row (library i n) = a_library i ∷ []
entry_for row (primitive_array i n c vs) = another i ∷ []
entry_for row (object_array i n) = another i ∷ []
entry_for row (string_array i n) = another i ∷ []
entry_for row (value c v) = []

-- the row, before linking, of a record with these fields
abbrev pub row_with : ℕ → Head → (offset after owner slot : ℕ) → Row
row_with kind h offset after owner slot =
    record { kind = kind; offset = offset; end = after; id = h.id; owner = owner; slot = slot; link = h.link; count = h.count }

-- The fields h that are read at a place are those of the record r that stands there. Before linking, the link of a class is the place of its
-- type bytes; of any other record it is the row of the class that it names, or 0.
pub record Told (β s : List ℕ) (k at : ℕ) (h : Head) (r : Rec) (id count class : ℕ) (ts : List SlotType) : Type 0 where
  pub stands : Stand s (enc r) at h.end
  pub inside : at < length s
  pub kind_byte : get_or s at 0 ≡ k
  pub id_is : h.id ≡ id
  pub count_is : h.count ≡ count
  pub link_is : pick (is_class k) 0 h.link ≡ class
  pub slots_are : slots_from β s h.first h.slots ≡ ts
  pub entry_is : (row offset next owner slot : ℕ) → entry_of β s row (row_with k h offset next owner slot) ≡ entry_for row r

-- a record of which good fields tell
pub record Back (τ : Terms) (s : List ℕ) (rows : List Row) (k at : ℕ) (h : Head) : Type 0 where
  pub rec : Rec
  pub id : ℕ
  pub count : ℕ
  pub class : ℕ
  pub types : List SlotType
  pub good : Good τ (env_of τ.book s rows) k rec id count class types
  pub told : Told τ.book s k at h rec id count class types

-- the fields that tell of a good record
pub record There (τ : Terms) (s : List ℕ) (rows : List Row) (k at : ℕ) (r : Rec) (id count class : ℕ) (ts : List SlotType) : Type 0 where
  pub head : Head
  pub taken : heading_at τ s rows k at ≡ Ok head
  pub told : Told τ.book s k at head r id count class ts

-- ---- slots

pub length_slots : (β s : List ℕ) (t : Typed) (n : ℕ) → length (slots_from β s t n) ≡ n
unfolding slots_from
length_slots β s t zero = refl
length_slots β s t (suc n) = ap suc (length_slots β s (moved β s t) n)

pub alike_slots : (β s : List ℕ) (t : SlotType) (infos n : ℕ) → slots_from β s (alike t infos) n ≡ replicate n t
unfolding slots_from
alike_slots β s t infos zero = refl
alike_slots β s t infos (suc n) = rw (moved_alike β s (alike t infos) refl) (ap (λ (ts : List SlotType). t ∷ ts) (alike_slots β s t infos n))

pub told_slots : {β s : List ℕ} {k at id count class : ℕ} {h : Head} {r : Rec} {ts : List SlotType} → Told β s k at h r id count class ts → h.slots ≡ length ts
told_slots {β} {s} {h = h} t = sym (length_slots β s h.first h.slots) ∙ ap length t.slots_are

-- ---- what is known after a record

pub told_env : {β s : List ℕ} {k at id count class : ℕ} {h : Head} {r : Rec} {ts : List SlotType} → Told β s k at h r id count class ts
    → (rows : List Row) (offset next owner slot : ℕ)
    → env_of β s (rows ++ (row_with k h offset next owner slot ∷ [])) ≡ env_of β s rows ++ entry_for (suc (length rows)) r
told_env {β} {s} {k = k} {h = h} t rows offset next owner slot =
    env_more β s rows (row_with k h offset next owner slot)
    ∙ ap (λ (es : List Entry). env_of β s rows ++ es) (t.entry_is (suc (length rows)) offset next owner slot)

-- ---- where a record ends

pub told_end : {β s : List ℕ} {k at id count class : ℕ} {h : Head} {r : Rec} {ts : List SlotType} → Told β s k at h r id count class ts → h.end ≡ at + size r
told_end t = stand_size t.stands

-- ---- records without slots

-- the fields of one
abbrev pub plain_head : ℕ → ℕ → ℕ → Head
plain_head id after count = record { id = id; end = after; count = count; slots = 0; first = alike S.Object 0; link = 0 }

pub plain_told : (β s : List ℕ) (k at : ℕ) (r : Rec) (id after count : ℕ) → Stand s (enc r) at after → at < length s → get_or s at 0 ≡ k
    → is_class k ≡ false → ((row offset next owner slot : ℕ) → entry_of β s row (row_with k (plain_head id after count) offset next owner slot) ≡ entry_for row r)
    → Told β s k at (plain_head id after count) r id count 0 []
unfolding slots_from
plain_told β s k at r id after count w i b c f =
    record { stands = w; inside = i; kind_byte = b; id_is = refl; count_is = refl; link_is = rw c; slots_are = refl; entry_is = f }

-- ---- classes

module _ (β s : List ℕ) where
  -- the fields of a class's record
  abbrev pub class_head : ℕ → ℕ → ℕ → ℕ → ℕ → Head
  class_head id n types infos after = record { id = id; end = after; count = n; slots = n; first = typed_at s types infos; link = types }

  pub class_head_told : (k at : ℕ) (r : Rec) (id n types infos after : ℕ) (ms : List (Member Prefixed ℕ)) → Stand s (enc r) at after → at < length s → get_or s at 0 ≡ k
      → is_class k ≡ true → length ms ≡ n → slots_from β s (typed_at s types infos) n ≡ types_of ms
      → ((row offset next owner slot : ℕ) → entry_of β s row (row_with k (class_head id n types infos after) offset next owner slot) ≡ entry_for row r)
      → Told β s k at (class_head id n types infos after) r id (length ms) 0 (types_of ms)
  class_head_told k at r id n types infos after ms w i b c l z f =
      record { stands = w; inside = i; kind_byte = b; id_is = refl; count_is = sym l; link_is = rw c; slots_are = z; entry_is = f }

  -- the fields of an object of the class in this row
  abbrev pub by_id_head : ℕ → ℕ → ℕ → Row → Head
  by_id_head id after row c =
      record { id = id; end = after; count = c.count; slots = c.count; first = first_type β s c; link = row }

  pub by_id_told : (at id k after row : ℕ) (c : Row) → Stand s (enc (class_by_id id k)) at after → at < length s → get_or s at 0 ≡ 1
      → Told β s 1 at (by_id_head id after row c) (class_by_id id k) id (length (class_slots β s c)) row (class_slots β s c)
  by_id_told at id k after row c w i b =
      record {
        stands = w;
        inside = i;
        kind_byte = b;
        id_is = refl;
        count_is = sym (length_slots β s (first_type β s c) c.count);
        link_is = refl;
        slots_are = refl;
        entry_is = λ row offset next owner slot. refl;
      }

  -- ---- arrays of slots

  -- the fields of one
  abbrev pub slotted_head : ℕ → ℕ → ℕ → SlotType → ℕ → Head
  slotted_head id after n t infos = record { id = id; end = after; count = n; slots = n; first = alike t infos; link = 0 }

  pub slotted_told : (k at : ℕ) (r : Rec) (id after n : ℕ) (t : SlotType) (infos : ℕ) → Stand s (enc r) at after → at < length s → get_or s at 0 ≡ k
      → is_class k ≡ false → ((row offset next owner slot : ℕ) → entry_of β s row (row_with k (slotted_head id after n t infos) offset next owner slot) ≡ entry_for row r)
      → Told β s k at (slotted_head id after n t infos) r id n 0 (replicate n t)
  slotted_told k at r id after n t infos w i b c f =
      record {
        stands = w;
        inside = i;
        kind_byte = b;
        id_is = refl;
        count_is = refl;
        link_is = rw c;
        slots_are = alike_slots β s t infos n;
        entry_is = f;
      }
