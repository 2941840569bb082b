-- The words that the passes of tidying leave in rows, each row by itself; the fields that name libraries; and the first rows of equal libraries
-- and classes, by what they say. The laws about them stand in the other files.
use Rattle.std.specs.Prelude.{ℕ, zero, suc, ◌+◌, ◌-◌, ◌<◌, ◌≡◌, true, false, ◌&&◌, List, [], ◌∷◌, ◌++◌, length, get_or, eqb, Ok}
use Rattle.format.specs.Terms.{Terms}
use Rattle.format.specs.declared.PrimitiveCode.{PrimitiveCode}
use Rattle.format.specs.declared.Row.{Row}
use Rattle.format.specs.Bytes.{pick, same_bytes}
use Rattle.format.specs.Values.{value_at, times}
use Rattle.format.specs.Types.{code_number, name_at}
use Rattle.format.specs.Rows.{blank, is_object, is_class, find_from, with_link}
use Rattle.format.specs.Types.{after_info}
use Rattle.format.specs.Contents.{Class}
use Rattle.format.specs.Says.{text_from, number_from, library_name, class_from, value_code, order_of}
use Rattle.format.specs.Tidy.{same_class}
use Rattle.marks.specs.Marks.{with_id, with_slot, with_count, first_library, infos_place, item_type, first_class, is_first}

-- ---- rows after a pass

-- the link of a class's row is the place of its type bytes: after its name, its member count and its members' names
pub record TypesThere (τ : Terms) (s : List ℕ) (r : Row) : Type 0 where
  pub name_end : ℕ
  pub named : name_at τ.setting s (r.offset + 5) ≡ Ok name_end
  pub names : times (name_at τ.setting s) r.count (name_end + 4) ≡ Ok r.link

-- the link of a member value's row is the number of its code, by which it was read and which its slot has
pub record ValueThere (τ : Terms) (s : List ℕ) (rows : List Row) (r : Row) : Type 0 where
  pub code : PrimitiveCode
  pub link_is : r.link ≡ code_number code
  pub reads : value_at τ.setting s code r.offset ≡ Ok r.end
  pub said : value_code τ.book s rows r ≡ code

-- after numbering, and after the first library and the types' place were put in
pub record Placed (τ : Terms) (s : List ℕ) (rows ps : List Row) : Type 0 where
  pub size : length ps ≡ length rows
  pub class : (i : ℕ) → i < length rows → is_class (get_or rows i blank).kind ≡ true
      → get_or ps i blank ≡ with_slot (with_id (get_or rows i blank) (order_of rows (suc i))) (get_or rows i blank).link
  pub types : (i : ℕ) → i < length rows → is_class (get_or rows i blank).kind ≡ true → TypesThere τ s (get_or rows i blank)
  pub values : (i : ℕ) → i < length rows → (get_or rows i blank).kind ≡ 32 → ValueThere τ s rows (get_or rows i blank)
  pub library : (i : ℕ) → i < length rows → (get_or rows i blank).kind ≡ 12
      → get_or ps i blank ≡ with_count (get_or rows i blank) (first_library s rows (get_or rows i blank))
  pub object : (i : ℕ) → i < length rows → is_object (get_or rows i blank).kind ≡ true → is_class (get_or rows i blank).kind ≡ false
      → get_or ps i blank ≡ with_id (get_or rows i blank) (order_of rows (suc i))
  pub other : (i : ℕ) → i < length rows → is_object (get_or rows i blank).kind ≡ false → eqb (get_or rows i blank).kind 12 ≡ false
      → get_or ps i blank ≡ get_or rows i blank

-- after the first row of each class was put in
pub record Firsts (s : List ℕ) (rows ps fs : List Row) : Type 0 where
  pub size : length fs ≡ length ps
  pub class : (i : ℕ) → i < length ps → is_class (get_or ps i blank).kind ≡ true → get_or fs i blank ≡ with_link (get_or ps i blank) (first_class s ps (get_or ps i blank))
  pub other : (i : ℕ) → i < length ps → is_class (get_or ps i blank).kind ≡ false → get_or fs i blank ≡ get_or ps i blank

-- ---- the fields that name libraries, by their places, in the order in which records need them

unfoldable pub info_fields : List ℕ → ℕ → ℕ → ℕ → List ℕ
info_fields s zero types p = []
info_fields s (suc n) types p =
    let type = get_or s types 0 in
    let e = after_info s type p in
    pick (eqb type 4) ((e - 4) ∷ []) [] ++ info_fields s n (types + 1) e

unfoldable pub class_fields : List ℕ → Row → List ℕ
class_fields s r = info_fields s r.count r.slot (infos_place r) ++ pick (eqb r.kind 5) ((r.end - 4) ∷ []) []

unfoldable pub array_fields : List ℕ → Row → List ℕ
array_fields s r =
    let p = item_type s r in
    let type = get_or s p 0 in
    pick (eqb type 4) ((after_info s type (p + 1) - 4) ∷ []) []

unfoldable pub row_fields : List ℕ → ℕ → Row → List ℕ
row_fields s i r = pick (is_first i r) (class_fields s r) (pick (eqb r.kind 7) (array_fields s r) [])

unfoldable pub fields_from : List ℕ → ℕ → List Row → List ℕ
fields_from s i [] = []
fields_from s i (r ∷ rs) = row_fields s i r ++ fields_from s (i + 1) rs

-- every one of a list
pub data All (P : ℕ → Type 0) : List ℕ → Type 0 where
  none : All P []
  both : {x : ℕ} {xs : List ℕ} → P x → All P xs → All P (x ∷ xs)

-- ---- names

-- the name of the library whose number stands at a place
unfoldable pub name_at_field : List ℕ → List Row → ℕ → List ℕ
name_at_field s rows p = library_name s rows (number_from s p)

unfoldable pub names_of : List ℕ → List Row → List ℕ → List (List ℕ)
names_of s rows [] = []
names_of s rows (p ∷ ps) = name_at_field s rows p ∷ names_of s rows ps

-- the first library with a name, and the first row of a class: a row's number plus 1
unfoldable pub library_first : List ℕ → List Row → List ℕ → ℕ
library_first s rows name = find_from (λ (r : Row). eqb r.kind 12 && same_bytes name (text_from s (r.offset + 5))) 0 rows

unfoldable pub class_first : List ℕ → List ℕ → List Row → Class → ℕ
class_first β s rows c = find_from (λ (r : Row). is_class r.kind && same_class c (class_from β s rows r)) 0 rows
