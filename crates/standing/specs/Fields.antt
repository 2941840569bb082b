-- What good fields of a record say, and those of class records field by field: kinds 4 and 5, and kind 1.
use Rattle.std.specs.Prelude.{ℕ, ◌+◌, ◌-◌, ◌≤◌, ◌<◌, ◌≡◌, refl, Bool, true, false, List, length, get_or, eqb, Option, Some, None, Result, Ok, Err}
use Rattle.format.specs.declared.Refusal.{Refusal}
use Rattle.std.proofs.Common.{sym, subst, ◌∙◌, arith}
use borrow.Author.Tests.{eqb-false}
use Rattle.format.specs.Terms.{Terms}
use Rattle.format.specs.declared.Head.{Head}
use Rattle.format.specs.declared.Row.{Row}
use Rattle.format.specs.Numbers.{u32_at, negative}
use Rattle.format.specs.Values.{times}
use Rattle.format.specs.Types.{type_byte_at, name_at, typed_at}
use Rattle.format.specs.Rows.{blank, class_row}
use Rattle.format.specs.Records.{on_number, on_field, good_class_id, infos_at, after_infos, members_at, class_at, first_type, class_by_id_at, heading_at}
use Rattle.fields.specs.Judged.{picked}
use Rattle.types.specs.Keeps.{name_moves, types_end}
use Rattle.class_info.specs.Ends.{number_moves}
use Rattle.class_info.specs.Moves.{names_there, types_there, infos_moves, own_library_moves}
use Rattle.headings.specs.Headings.{by_id_heading, system_heading, class_heading}
use Rattle.standing.specs.Standing.{Recorded}

-- kinds 4 and 5: where each field ends
pub record Class (τ : Terms) (s : List ℕ) (rows : List Row) (own : Bool) (at : ℕ) (h : Head) : Type 0 where
  pub name : ℕ
  pub counts : ℕ
  pub names : ℕ
  pub infos : ℕ
  pub after : ℕ
  pub id_at : u32_at s (at + 1) ≡ Some (h.id, name)
  pub free : good_class_id rows h.id ≡ true
  pub name_at_holds : name_at τ.setting s name ≡ Ok counts
  pub count_at : u32_at s counts ≡ Some (h.count, names)
  pub count_good : negative h.count ≡ false
  pub names_at : times (name_at τ.setting s) h.count names ≡ Ok h.link
  pub types_at_holds : times (type_byte_at s) h.count h.link ≡ Ok infos
  pub infos_at_holds : infos_at τ.setting s rows h.count h.link infos ≡ Ok after
  pub after_at : after_infos own s rows after ≡ Ok h.end
  pub slots_are : h.slots ≡ h.count
  pub first_is : h.first ≡ typed_at s h.link infos

-- kind 1: the class is found among the rows before it
pub record ClassById (β s : List ℕ) (rows : List Row) (at : ℕ) (h : Head) : Type 0 where
  pub metadata : ℕ
  pub class : ℕ
  pub id_at : u32_at s (at + 1) ≡ Some (h.id, metadata)
  pub free : good_class_id rows h.id ≡ true
  pub class_at_holds : u32_at s metadata ≡ Some (class, h.end)
  pub finds : h.link ≡ class_row class rows
  pub some : 0 < h.link
  pub same_count : h.count ≡ (get_or rows (h.link - 1) blank).count
  pub slots_are : h.slots ≡ h.count
  pub first_is : h.first ≡ first_type β s (get_or rows (h.link - 1) blank)

-- what holds of good fields, through numbers, fields and choices
abbrev pub Of : (Head → Type 0) → Result Head Refusal → Type 0
Of P (Ok h) = P h
Of P (Err f) = Unit {0}

module _ (P : Head → Type 0) where
  pub of_number_lem : (k : ℕ → ℕ → Result Head Refusal) (r : Option (ℕ × ℕ)) → ((v e : ℕ) → r ≡ Some (v, e) → Of P (k v e)) → Of P (on_number k r)
  of_number_lem k (Some (v, e)) f = f v e refl
  of_number_lem k None f = tt

  pub of_field : (k : ℕ → Result Head Refusal) (r : Result ℕ Refusal) → ((e : ℕ) → r ≡ Ok e → Of P (k e)) → Of P (on_field k r)
  of_field k (Ok e) f = f e refl
  of_field k (Err x) f = tt

  pub of_fields : (x : Result Head Refusal) (h : Head) → x ≡ Ok h → Of P x → P h
  of_fields x h e w = subst (λ (x : Result Head Refusal). Of P x) e w

module _ (τ : Terms) (s : List ℕ) (rows : List Row) (at : ℕ) where
  module _ (own : Bool) where
    of_class_holds : Of (Class τ s rows own at) (class_at τ.setting s rows own at)
    unfolding class_at members_at
    of_class_holds =
        let P = Class τ s rows own at in
        of_number_lem P _ (u32_at s (at + 1)) (λ id name a.
        picked (Of P) (good_class_id rows id) (λ b.
        of_field P _ (name_at τ.setting s name) (λ counts c.
        of_number_lem P _ (u32_at s counts) (λ n names d.
        picked (Of P) (negative n) (λ e. tt) (λ e.
        of_field P _ (times (name_at τ.setting s) n names) (λ types f.
        of_field P _ (times (type_byte_at s) n types) (λ infos g.
        of_field P _ (infos_at τ.setting s rows n types infos) (λ after i.
        of_field P _ (after_infos own s rows after) (λ end j.
        record {
          name = name;
          counts = counts;
          names = names;
          infos = infos;
          after = after;
          id_at = a;
          free = b;
          name_at_holds = c;
          count_at = d;
          count_good = e;
          names_at = f;
          types_at_holds = g;
          infos_at_holds = i;
          after_at = j;
          slots_are = refl;
          first_is = refl;
        }))))))))
        (λ b. tt))

    pub class_said : (h : Head) → class_at τ.setting s rows own at ≡ Ok h → Class τ s rows own at h
    class_said h e = of_fields (Class τ s rows own at) _ h e of_class_holds

  of_class_by_id : Of (ClassById τ.book s rows at) (class_by_id_at τ.book s rows at)
  unfolding class_by_id_at
  of_class_by_id =
      let P = ClassById τ.book s rows at in
      of_number_lem P _ (u32_at s (at + 1)) (λ id metadata a.
      picked (Of P) (good_class_id rows id) (λ b.
      of_number_lem P _ (u32_at s metadata) (λ class end c.
      picked (Of P) (eqb (class_row class rows) 0) (λ d. tt) (λ d.
      let n = eqb-false (class_row class rows) 0 d in
      record {
        metadata = metadata;
        class = class;
        id_at = a;
        free = b;
        class_at_holds = c;
        finds = refl;
        some = omega (arith, n);
        same_count = refl;
        slots_are = refl;
        first_is = refl;
      })))
      (λ b. tt))

  pub class_by_id_said : (h : Head) → class_by_id_at τ.book s rows at ≡ Ok h → ClassById τ.book s rows at h
  class_by_id_said h e = of_fields (ClassById τ.book s rows at) _ h e of_class_by_id

-- ---- rows

module _ (τ : Terms) {s : List ℕ} {before : List Row} {r : Row} (w : Recorded τ s before r) where
  -- what good fields of the row's kind say of its count and its end
  pub row_said : (P : ℕ → ℕ → Type 0) (x : Result Head Refusal) → heading_at τ s before r.kind r.offset ≡ x → Of (λ h. P h.count h.end) x
      → P r.count r.end
  row_said P x e v =
      let h = w.head in
      subst (λ (n : ℕ). P n r.end) (sym w.same_count)
      (subst (P h.count) (sym w.same_end) (of_fields (λ h. P h.count h.end) x h (sym e ∙ w.fields) v))

  pub by_id_row : r.kind ≡ 1 → ClassById τ.book s before r.offset w.head
  by_id_row k = class_by_id_said τ s before r.offset w.head (sym (by_id_heading τ s before r.kind r.offset k) ∙ w.fields)

  pub system_row : r.kind ≡ 4 → Class τ s before false r.offset w.head
  system_row k = class_said τ s before r.offset false w.head (sym (system_heading τ s before r.kind r.offset k) ∙ w.fields)

  pub class_row_holds : r.kind ≡ 5 → Class τ s before true r.offset w.head
  class_row_holds k = class_said τ s before r.offset true w.head (sym (class_heading τ s before r.kind r.offset k) ∙ w.fields)

-- the name stands after the ObjectId, the members after their count, the details after a type byte for each member
pub class_places : (τ : Terms) (s : List ℕ) (rows : List Row) (own : Bool) (at : ℕ) (h : Head) (w : Class τ s rows own at h)
    → (w.name ≡ at + 5) × (w.names ≡ w.counts + 4) × (w.infos ≡ h.link + h.count)
class_places τ s rows own at h w =
    let a = number_moves s (at + 1) h.id w.name w.id_at in
    let b = number_moves s w.counts h.count w.names w.count_at in
    (omega arith, b.0, types_end s h.count h.link w.infos w.types_at_holds)

-- a class record of n members has a byte for each member's type, and ten more
pub class_room : (τ : Terms) (s : List ℕ) (rows : List Row) (own : Bool) (at : ℕ) (h : Head) → Class τ s rows own at h → at + 10 + h.count ≤ h.end
class_room τ s rows own at h w =
    let a = number_moves s (at + 1) h.id w.name w.id_at in
    let b = name_moves τ.setting s w.name w.counts w.name_at_holds in
    let c = number_moves s w.counts h.count w.names w.count_at in
    let d = names_there τ.setting s h.count w.names h.link c.1 w.names_at in
    let e = types_there s h.count h.link w.infos d.1 w.types_at_holds in
    let f = infos_moves τ.setting s rows h.count h.link w.infos w.after e.1 w.infos_at_holds in
    let g = after_moves own w.after_at in
    omega arith
  where
    after_moves : (own : Bool) → after_infos own s rows w.after ≡ Ok h.end → w.after ≤ h.end
    after_moves true q = let m = own_library_moves s rows w.after h.end q in omega arith
    after_moves false q = let z : w.after ≡ h.end = cc in omega arith
