-- What good fields of a class record tell of (01, Records, kinds 1, 4 and 5): the record that stands at the place is one that the grammar
-- takes, its contents read from the stream.
use Rattle.std.specs.Prelude.{ℕ, ◌+◌, ◌-◌, ◌<◌, ◌≡◌, Bool, get_or, eqb, Ok}
use Rattle.std.proofs.Math.Path.{refl, ap}
use Rattle.std.proofs.Math.Bool.{true, false}
use mathlib.Core.List.{List, [], ◌∷◌}
use Rattle.std.proofs.Math.ListN.{length}
use Rattle.format.specs.Terms.{Terms}
use Rattle.format.specs.declared.SlotType.{SlotType}
use Rattle.format.specs.declared.Head.{Head}
use Rattle.format.specs.declared.Row.{Row}
use Rattle.format.specs.Numbers.{u32_at, negative}
use Rattle.format.specs.Values.{times}
use Rattle.format.specs.Types.{type_byte_at, name_at}
use Rattle.format.specs.Rows.{blank, class_row}
use Rattle.format.specs.Records.{good_class_id, infos_at, after_infos, members_at, class_at, first_type, class_by_id_at}
use Rattle.format.specs.Contents.{Prefixed, Member, class_bytes, class_by_id, system_class, library_class, enc}
use Rattle.format.specs.Says.{number_from}
use Rattle.format.specs.Grammar.{a_class, types_of}
use Rattle.num.specs.Le.{Bytes}
use Rattle.class_info.specs.Stages.{named_class_at}
use Rattle.places.specs.Env.{types_at, class_slots, class_found, class_id}
use Rattle.places.specs.Stand.{Stand, stand_is, stand_then}
use Rattle.places.specs.Fields.{number_back, prefixed_at}
use Rattle.places.specs.Details.{library_back}
use Rattle.places.specs.Members.{members_in}
use Rattle.places.specs.Classes.{ClassAt, class_back}
use Rattle.places.specs.Recs.{is_class_by_id, is_system_class, is_library_class, Back, class_head, class_head_told, by_id_told}
use Rattle.places.specs.Tells.{Said, said_number, said_field, said_if}

module _ (τ : Terms) (s : List ℕ) (rows : List Row) (at : ℕ) (byte : Bytes s) (i : at < length s) where
  -- the fields after the ObjectId of a class record, of either kind
  class_said : (P : Head → Type 0) (own : Bool) (id p : ℕ)
      → ((e n types infos x : ℕ) (ms : List (Member Prefixed ℕ)) → ClassAt τ s rows (prefixed_at s p) ms p x n types infos
      → after_infos own s rows x ≡ Ok e → P (class_head τ.book s id n types infos e))
      → Said P (named_class_at τ.setting s rows own id p)
  unfolding named_class_at members_at
  class_said P own id p f =
      said_field P _ (name_at τ.setting s p) (λ q a.
      said_number P _ (u32_at s q) (λ n r b.
      said_if P (negative n) _ _ (λ t. tt) (λ c.
      said_field P _ (times (name_at τ.setting s) n r) (λ types d.
      said_field P _ (times (type_byte_at s) n types) (λ infos g.
      said_field P _ (infos_at τ.setting s rows n types infos) (λ x h.
      said_field P _ (after_infos own s rows x) (λ e k.
      f e n types infos x (members_in s n r types infos) (class_back τ s rows p q n r types infos x byte a b c d g h) k)))))))

  pub system_class_back : get_or s at 0 ≡ 4 → Said (Back τ s rows 4 at) (class_at τ.setting s rows false at)
  unfolding class_at named_class_at enc first_type types_at
  system_class_back g =
      said_number (Back τ s rows 4 at) _ (u32_at s (at + 1)) (λ id p q.
      let a = number_back s (at + 1) id p byte q in
      said_if (Back τ s rows 4 at) (good_class_id rows id) _ _ (λ t.
      class_said (Back τ s rows 4 at) false id p (λ e n types infos x ms c k.
      let z : x ≡ e = cc in
      let w : Stand s (class_bytes (prefixed_at s p) ms) p e = rw (← z) c.stands in
      record {
        rec = system_class id (prefixed_at s p) ms;
        id = id;
        count = length ms;
        class = 0;
        types = types_of ms;
        good = is_system_class (class_id τ.book s rows id t a.bits) c.info;
        told = class_head_told τ.book s 4 at (system_class id (prefixed_at s p) ms) id n types infos e ms (stand_then (stand_is 4 i g) (stand_then a.stands w)) i g refl
            c.counted c.slots (λ row offset next owner slot. ap (λ (ts : List SlotType). a_class id row ts ∷ []) c.known);
      }))
      (λ t. tt))

  pub library_class_back : get_or s at 0 ≡ 5 → Said (Back τ s rows 5 at) (class_at τ.setting s rows true at)
  unfolding class_at named_class_at enc first_type types_at
  library_class_back g =
      said_number (Back τ s rows 5 at) _ (u32_at s (at + 1)) (λ id p q.
      let a = number_back s (at + 1) id p byte q in
      said_if (Back τ s rows 5 at) (good_class_id rows id) _ _ (λ t.
      class_said (Back τ s rows 5 at) true id p (λ e n types infos x ms c k.
      let l = library_back τ.book s rows x e byte k in
      record {
        rec = library_class id (prefixed_at s p) ms (number_from s x);
        id = id;
        count = length ms;
        class = 0;
        types = types_of ms;
        good = is_library_class (class_id τ.book s rows id t a.bits) c.info l.0;
        told = class_head_told τ.book s 5 at (library_class id (prefixed_at s p) ms (number_from s x)) id n types infos e ms
            (stand_then (stand_is 5 i g) (stand_then a.stands (stand_then c.stands l.1))) i g refl
            c.counted c.slots (λ row offset next owner slot. ap (λ (ts : List SlotType). a_class id row ts ∷ []) c.known);
      }))
      (λ t. tt))

  pub class_by_id_back : get_or s at 0 ≡ 1 → Said (Back τ s rows 1 at) (class_by_id_at τ.book s rows at)
  unfolding class_by_id_at enc
  class_by_id_back g =
      said_number (Back τ s rows 1 at) _ (u32_at s (at + 1)) (λ id p q.
      let a = number_back s (at + 1) id p byte q in
      said_if (Back τ s rows 1 at) (good_class_id rows id) _ _ (λ t.
      said_number (Back τ s rows 1 at) _ (u32_at s p) (λ k e r.
      let b = number_back s p k e byte r in
      said_if (Back τ s rows 1 at) (eqb (class_row k rows) 0) _ _ (λ u. tt) (λ u.
      record {
        rec = class_by_id id k;
        id = id;
        count = length (class_slots τ.book s (get_or rows (class_row k rows - 1) blank));
        class = class_row k rows;
        types = class_slots τ.book s (get_or rows (class_row k rows - 1) blank);
        good = is_class_by_id (class_id τ.book s rows id t a.bits) b.bits (class_found τ.book s rows k u);
        told = by_id_told τ.book s at id k e (class_row k rows) (get_or rows (class_row k rows - 1) blank)
            (stand_then (stand_is 1 i g) (stand_then a.stands b.stands)) i g;
      })))
      (λ t. tt))
