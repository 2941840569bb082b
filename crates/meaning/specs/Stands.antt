-- What stands where a row of an accepted stream says it does, kind by kind: the facts about the stream that the copy rests on.
use Rattle.std.specs.Prelude.{ℕ, suc, ◌+◌, ◌-◌, ◌*◌, ◌≤◌, ◌<◌, ◌≡◌, true, false, List, length, get_or, Some, Ok}
use Rattle.std.proofs.Common.{ap}
use Rattle.format.specs.Terms.{Terms}
use Rattle.format.specs.declared.Row.{Row}
use Rattle.format.specs.Numbers.{u32_at}
use Rattle.format.specs.Text.{string_at}
use Rattle.format.specs.Values.{value_at, times, items_at}
use Rattle.format.specs.Types.{code_at, type_byte_at, name_at}
use Rattle.format.specs.Rows.{blank, is_object, is_class, is_untyped}
use Rattle.format.specs.Records.{info_known, infos_at, own_library_at}
use Rattle.format.specs.Says.{code_from, typed_from, class_from, is_nulls}
use Rattle.laws.specs.Classes.{class_typed}

-- a link to the row of an object
pub record Target (rows : List Row) (link : ℕ) : Type 0 where
  pub row : ℕ
  pub link_is : link ≡ suc row
  pub inside : row < length rows
  pub object : is_object (get_or rows row blank).kind ≡ true

-- a string that ends at e
pub record StringStands (τ : Terms) (s : List ℕ) (p e : ℕ) : Type 0 where
  pub from : ℕ
  pub text : string_at τ.setting s p ≡ Ok (record { from = from; to = e })

-- after the details: nothing, or the class's own library
pub data OwnStands (s : List ℕ) (rows : List Row) (r : Row) (p : ℕ) : Type 0 where
  of_system : r.kind ≡ 4 → p ≡ r.end → OwnStands s rows r p
  of_library_rule : r.kind ≡ 5 → own_library_at s rows p ≡ Ok r.end → OwnStands s rows r p

-- name, member count, names, type bytes, details, own library
pub record ClassStands (τ : Terms) (s : List ℕ) (rows : List Row) (r : Row) : Type 0 where
  pub name_end : ℕ
  pub named : name_at τ.setting s (r.offset + 5) ≡ Ok name_end
  pub counted : u32_at s name_end ≡ Some (r.count, name_end + 4)
  pub types : ℕ
  pub names : times (name_at τ.setting s) r.count (name_end + 4) ≡ Ok types
  pub type_bytes : times (type_byte_at s) r.count types ≡ Ok (types + r.count)
  pub infos_end : ℕ
  pub infos : infos_at τ.setting s rows r.count types (types + r.count) ≡ Ok infos_end
  pub own : OwnStands s rows r infos_end
  pub inside : r.end ≤ length s

-- a class that stands has its types
pub class_stands : (τ : Terms) (s : List ℕ) (rows : List Row) (r : Row) → ClassStands τ s rows r → (β : List ℕ) → class_from β s rows r ≡ typed_from s rows r
class_stands τ s rows r c β = class_typed β s rows r (typed c.own)
  where
    typed : {p : ℕ} → OwnStands s rows r p → is_untyped r.kind ≡ false
    typed (of_system k e) = ap is_untyped k
    typed (of_library_rule k e) = ap is_untyped k

-- array type, rank, lengths, item type with its detail, items where they are primitive
pub record ArrayStands (τ : Terms) (s : List ℕ) (rows : List Row) (r : Row) : Type 0 where
  pub rank : ℕ
  pub ranked : u32_at s (r.offset + 6) ≡ Some (rank, r.offset + 10)
  pub typed : type_byte_at s (r.offset + 10 + 4 * rank) ≡ Ok (r.offset + 10 + 4 * rank + 1)
  pub info_end : ℕ
  pub info : info_known τ.setting s rows (get_or s (r.offset + 10 + 4 * rank) 0) (r.offset + 10 + 4 * rank + 1) ≡ Ok info_end
  pub items : info_end ≤ r.end
  pub items_at_holds : get_or s (r.offset + 10 + 4 * rank) 0 ≡ 0 → items_at τ.setting s (code_from s (r.offset + 10 + 4 * rank + 1)) r.count info_end ≡ Ok r.end
  pub no_items : (get_or s (r.offset + 10 + 4 * rank) 0 ≡ 0 → ⊥) → r.end ≡ info_end
  pub inside : r.end ≤ length s

-- the owner of a row: none, or the row of an object
pub data Owner (rows : List Row) (owner : ℕ) : Type 0 where
  no_owner : owner ≡ 0 → Owner rows owner
  owned : Target rows owner → Owner rows owner

-- row i
pub data RowStands (τ : Terms) (s : List ℕ) (rows : List Row) (i : ℕ) (r : Row) : Type 0 where
  the_header : i ≡ 0 → r.kind ≡ 0 → Target rows r.link → RowStands τ s rows i r
  by_id : r.kind ≡ 1 → (class : ℕ) → r.link ≡ suc class → class < i → is_class (get_or rows class blank).kind ≡ true → RowStands τ s rows i r
  a_class_rule : is_class r.kind ≡ true → ClassStands τ s rows r → RowStands τ s rows i r
  a_string_rule : r.kind ≡ 6 → StringStands τ s (r.offset + 5) r.end → RowStands τ s rows i r
  an_array_rule : r.kind ≡ 7 → ArrayStands τ s rows r → RowStands τ s rows i r
  a_primitive_rule : r.kind ≡ 8 → code_at s (r.offset + 1) ≡ Ok (r.offset + 2)
      → value_at τ.setting s (code_from s (r.offset + 1)) (r.offset + 2) ≡ Ok r.end → r.end ≤ length s → RowStands τ s rows i r
  a_reference_rule : r.kind ≡ 9 → Target rows r.link → RowStands τ s rows i r
  nulls : is_nulls r.kind ≡ true → r.count < 2147483648 → RowStands τ s rows i r
  the_end : r.kind ≡ 11 → suc i ≡ length rows → r.end ≡ r.offset + 1 → RowStands τ s rows i r
  a_library_rule : r.kind ≡ 12 → StringStands τ s (r.offset + 5) r.end → RowStands τ s rows i r
  primitives : r.kind ≡ 15 → u32_at s (r.offset + 5) ≡ Some (r.count, r.offset + 9) → code_at s (r.offset + 9) ≡ Ok (r.offset + 10)
      → items_at τ.setting s (code_from s (r.offset + 9)) r.count (r.offset + 10) ≡ Ok r.end → r.end ≤ length s → RowStands τ s rows i r
  objects : r.kind ≡ 16 → u32_at s (r.offset + 5) ≡ Some (r.count, r.offset + 9) → r.end ≡ r.offset + 9 → RowStands τ s rows i r
  texts : r.kind ≡ 17 → u32_at s (r.offset + 5) ≡ Some (r.count, r.offset + 9) → r.end ≡ r.offset + 9 → RowStands τ s rows i r
  a_value_rule : r.kind ≡ 32 → r.offset < r.end → r.end ≤ length s → RowStands τ s rows i r

-- the rows of an accepted stream, links and all
pub record Stands (τ : Terms) (s : List ℕ) (rows : List Row) : Type 0 where
  pub bytes : (i : ℕ) → get_or s i 0 < 256
  pub small : length s ≤ 16777216
  pub few : length rows ≤ 16777216
  pub some : 0 < length rows
  pub first : (get_or rows 0 blank).kind ≡ 0
  pub last : (get_or rows (length rows - 1) blank).kind ≡ 11
  pub each : (i : ℕ) → i < length rows → RowStands τ s rows i (get_or rows i blank)
  pub owners : (i : ℕ) → i < length rows → Owner rows (get_or rows i blank).owner
  -- a record's own kind byte
  pub kind_byte : (i : ℕ) → i < length rows → ((get_or rows i blank).kind ≡ 32 → ⊥) → get_or s (get_or rows i blank).offset 0 ≡ (get_or rows i blank).kind
  pub forward : (i : ℕ) → i < length rows → (get_or rows i blank).offset < (get_or rows i blank).end
  pub next : (i : ℕ) → suc i < length rows → (get_or rows (suc i) blank).offset ≡ (get_or rows i blank).end
  pub inside : (i : ℕ) → i < length rows → (get_or rows i blank).end ≤ length s
