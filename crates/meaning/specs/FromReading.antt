-- The rows of an accepted stream stand in it: what each record's fields say where the row says they do, with the links in the rows.
use Rattle.std.specs.Prelude.{ℕ, suc, ◌+◌, ◌-◌, ◌≤◌, ◌<◌, ◌≡◌, refl, Bool, true, false, List, length, get_or, take, Some, Ok}
use Rattle.std.proofs.Common.{sym, ap, subst, ◌∙◌, arith}
use Rattle.format.specs.Terms.{Terms}
use Rattle.format.specs.declared.Row.{Row}
use Rattle.format.specs.Values.{value_at, times}
use Rattle.format.specs.Types.{type_byte_at, name_at}
use Rattle.format.specs.Rows.{blank, is_class, with_link, link_of, bound_link, bound}
use Rattle.format.specs.Records.{infos_at, after_infos}
use Rattle.format.specs.Says.{is_nulls}
use Rattle.format.specs.Machine.{accepted, raw_of, read_of}
use Rattle.types.specs.Keeps.{name_told}
use Rattle.standing.specs.Standing.{Known, Recorded, Owned, apart, within, record_at, row_moves}
use Rattle.standing.specs.Standing as K
use Rattle.standing.specs.Accepted.{Raw, raw_stands, accepted_stands}
use Rattle.standing.specs.Fields.{Class, class_places, system_row, class_row_holds}
use Rattle.standing.specs.Plain.{string_row, library_row_lem, typed_row, end_row, null_row, nulls_row, long_nulls_row}
use Rattle.standing.specs.Arrays.{array_row, primitives_row, objects_row, strings_row}
use Rattle.standing.specs.Linked.{relinked, linked_is, bound_is, length_all, row_at, same_kind, same_offset, same_end, same_owner, same_slot, to_class_linked, ToObject, reference_link, root_link, owned_linked, Links, by_link, by_bound, bound_own}
use Rattle.standing.specs.Known.{Later, first_later, own_later, info_later, infos_later}
use Rattle.standing.specs.Codes.{value_code_lem}
use Rattle.standing.specs.Members.{members_in, members_fit, members_linked}
use Rattle.laws.specs.Kinds.{class_kind}
use Rattle.meaning.specs.Marked.{TypesThere, ValueThere}
use Rattle.meaning.specs.Stands.{Target, StringStands, OwnStands, of_system, of_library_rule, ClassStands, ArrayStands, Owner, no_owner, owned, RowStands, the_header, by_id, a_class_rule, a_string_rule, an_array_rule, a_primitive_rule, a_reference_rule, nulls, the_end, a_library_rule, primitives, objects, texts, a_value_rule, Stands}

-- ---- links and owners

target : (rows : List Row) (id link : ℕ) → ToObject rows id link → Target rows link
target rows id link w =
    let a = w.some in
    record { row = link - 1; link_is = omega arith; inside = w.found.inside; object = w.found.kind }

owner_is : (rows : List Row) (i o : ℕ) → i ≤ length rows → Owned rows i o → Owner rows o
owner_is rows i o h (apart e) = no_owner e
owner_is rows i o h (within a b k) = owned (record { row = o - 1; link_is = omega arith; inside = omega arith; object = k })

-- ---- records

string_stands : (τ : Terms) (s : List ℕ) (p e : ℕ) → name_at τ.setting s p ≡ Ok e → StringStands τ s p e
string_stands τ s p e q =
    let w = name_told τ.setting s p e q in
    record { from = w.0; text = w.1 }

-- a record among the rows, with a link
module _ (τ : Terms) {s : List ℕ} {before rows : List Row} {r : Row} (later : Later before rows) (w : Recorded τ s before r) (inside : r.end ≤ length s) (link : ℕ) where
  class_stands : (own : Bool) → Class τ s before own r.offset w.head
      → ((p : ℕ) → after_infos own s before p ≡ Ok r.end → OwnStands s rows (with_link r link) p)
      → ClassStands τ s rows (with_link r link)
  class_stands own c after =
      let h = w.head in
      let n : h.count ≡ r.count = sym w.same_count in
      let places = class_places τ s before own r.offset h c in
      let f : c.infos ≡ h.link + r.count = places.2 ∙ ap (λ (k : ℕ). h.link + k) n in
      record {
        name_end = c.counts;
        named = subst (λ (p : ℕ). name_at τ.setting s p ≡ Ok c.counts) places.0 c.name_at_holds;
        counted = c.count_at ∙ (ap (λ (k : ℕ). Some (k, c.names)) n ∙ ap (λ (x : ℕ). Some (r.count, x)) places.1);
        types = h.link;
        names =
            subst (λ (p : ℕ). times (name_at τ.setting s) r.count p ≡ Ok h.link) places.1
            (subst (λ (k : ℕ). times (name_at τ.setting s) k c.names ≡ Ok h.link) n c.names_at);
        type_bytes = subst (λ (k : ℕ). times (type_byte_at s) k h.link ≡ Ok c.infos) n c.types_at_holds ∙ ap Ok f;
        infos_end = c.after;
        infos =
            infos_later τ s later r.count h.link (h.link + r.count) c.after
            (subst (λ (p : ℕ). infos_at τ.setting s before r.count h.link p ≡ Ok c.after) f
            (subst (λ (k : ℕ). infos_at τ.setting s before k h.link c.infos ≡ Ok c.after) n c.infos_at_holds));
        own = after c.after (c.after_at ∙ ap Ok (sym w.same_end));
        inside = inside;
      }

  system_stands : r.kind ≡ 4 → ClassStands τ s rows (with_link r link)
  system_stands k = class_stands false (system_row τ w k) (λ p q. of_system k cc)

  library_class_stands : r.kind ≡ 5 → ClassStands τ s rows (with_link r link)
  library_class_stands k = class_stands true (class_row_holds τ w k) (λ p q. of_library_rule k (own_later s later p r.end q))

  array_stands : r.kind ≡ 7 → ArrayStands τ s rows (with_link r link)
  array_stands k =
      let a = array_row τ w k in
      record {
        rank = a.rank;
        ranked = a.rank_at_holds;
        typed = a.type_at;
        info_end = a.info_end;
        info = info_later τ s later _ _ a.info_end a.info_at_holds;
        items = a.items;
        items_at_holds = a.items_at_holds;
        no_items = a.no_items;
        inside = inside;
      }

-- ---- the rows of an accepted stream

module _ (τ : Terms) {s : List ℕ} {room : ℕ} {raw : List Row} (bytes : (i : ℕ) → get_or s i 0 < 256) (t : Raw τ s room raw) (f : Row → ℕ) (L : Links raw f) where
  abbrev all : List Row
  all = relinked f raw

  size : length all ≡ length raw
  size = length_all f raw

  root_target : Target all (get_or all 0 blank).link
  root_target = target all _ _ (root_link τ t f (L.root _ t.stands.headed))

  module _ (i : ℕ) (h : i < length raw) where
    abbrev row : Row
    row = get_or raw i blank

    moves : (row.offset < row.end) × (row.end ≤ length s)
    moves = row_moves τ t.stands i h

    known : Later (take i raw) all
    known = first_later f i raw

    recorded : (n : ℕ) → n < 32 → row.kind ≡ n → Recorded τ s (take i raw) row
    recorded n l k = record_at τ t.stands i h (λ e. omega arith)

    with_link_lem : RowStands τ s all i (with_link row (f row)) → RowStands τ s all i (get_or all i blank)
    with_link_lem x = subst (λ (r : Row). RowStands τ s all i r) (sym (row_at f raw i h)) x

    by_kind : Known row.kind → RowStands τ s all i (get_or all i blank)
    by_kind (K.header k) =
        let z : 0 ≡ i = sym (t.stands.header_first i h k) in
        the_header (sym z) (same_kind f raw i ∙ k) (subst (λ (j : ℕ). Target all (get_or all j blank).link) z root_target)
    by_kind (K.class_by_id_rule k) =
        let c = to_class_linked τ t.stands i h k f (L.own _ k) in
        let a = c.some in
        by_id (same_kind f raw i ∙ k) ((get_or all i blank).link - 1) (omega arith) c.before c.class
    by_kind (K.system_class_rule k) = with_link_lem (a_class_rule (ap is_class k) (system_stands τ known (recorded 4 (omega arith) k) moves.1 _ k))
    by_kind (K.class k) = with_link_lem (a_class_rule (ap is_class k) (library_class_stands τ known (recorded 5 (omega arith) k) moves.1 _ k))
    by_kind (K.string k) = with_link_lem (a_string_rule k (string_stands τ s _ _ (string_row τ (recorded 6 (omega arith) k) k)))
    by_kind (K.binary_array k) = with_link_lem (an_array_rule k (array_stands τ known (recorded 7 (omega arith) k) moves.1 _ k))
    by_kind (K.typed_primitive_rule k) =
        let w = typed_row τ (recorded 8 (omega arith) k) k in
        with_link_lem (a_primitive_rule k w.0 w.2 moves.1)
    by_kind (K.reference k) = a_reference_rule (same_kind f raw i ∙ k) (target all _ _ (reference_link τ t f i h k (L.reference _ k)))
    by_kind (K.null k) = with_link_lem (nulls (ap is_nulls k) (null_row τ (recorded 10 (omega arith) k) k))
    by_kind (K.ending k) =
        let e : suc i ≡ length all = t.stands.end_last i h k ∙ sym size in
        with_link_lem (the_end k e (end_row τ (recorded 11 (omega arith) k) k))
    by_kind (K.library k) = with_link_lem (a_library_rule k (string_stands τ s _ _ (library_row_lem τ (recorded 12 (omega arith) k) k)))
    by_kind (K.nulls k) = with_link_lem (nulls (ap is_nulls k) (nulls_row τ (recorded 13 (omega arith) k) (bytes (row.offset + 1)) k))
    by_kind (K.long_nulls k) = with_link_lem (nulls (ap is_nulls k) (long_nulls_row τ (recorded 14 (omega arith) k) k))
    by_kind (K.primitive_array_rule k) =
        let w = primitives_row τ (recorded 15 (omega arith) k) k in
        with_link_lem (primitives k w.count_at w.code_at_holds w.items_at_holds moves.1)
    by_kind (K.object_array_rule k) =
        let w = objects_row τ (recorded 16 (omega arith) k) k in
        with_link_lem (objects k w.count_at w.ends)
    by_kind (K.string_array_rule k) =
        let w = strings_row τ (recorded 17 (omega arith) k) k in
        with_link_lem (texts k w.count_at w.ends)
    by_kind (K.value k) = with_link_lem (a_value_rule k moves.0 moves.1)

    kind_byte : ((get_or all i blank).kind ≡ 32 → ⊥) → get_or s (get_or all i blank).offset 0 ≡ (get_or all i blank).kind
    kind_byte n =
        ap (λ (p : ℕ). get_or s p 0) (same_offset f raw i)
        ∙ ((record_at τ t.stands i h (λ e. n (same_kind f raw i ∙ e))).byte ∙ sym (same_kind f raw i))

    forward : (get_or all i blank).offset < (get_or all i blank).end
    forward =
        let a = same_offset f raw i in
        let b = same_end f raw i in
        omega (arith, moves.0)

    inside : (get_or all i blank).end ≤ length s
    inside =
        let b = same_end f raw i in
        omega (arith, moves.1)

    owner : Owner all (get_or all i blank).owner
    owner =
        let l = size in
        owner_is all i _ (omega arith)
        (subst (λ (o : ℕ). Owned all i o) (sym (same_owner f raw i)) (owned_linked f raw i _ (t.stands.owners i h)))

  all_stand : Stands τ s all
  all_stand =
      let l = size in
      let w = t.stands in
      let c = w.counted in
      let g = w.fits in
      let n = w.some in
      let within : (i : ℕ) → i < length all → i < length raw = λ i h. omega arith in
      record {
        bytes = bytes;
        small = g;
        few = omega arith;
        some = omega arith;
        first = same_kind f raw 0 ∙ w.headed;
        last =
            same_kind f raw (length all - 1)
            ∙ subst (λ (n : ℕ). (get_or raw (n - 1) blank).kind ≡ 11) (sym l) w.closed;
        each = λ i h. by_kind i (within i h) (w.kinds i (within i h));
        owners = λ i h. owner i (within i h);
        kind_byte = λ i h. kind_byte i (within i h);
        forward = λ i h. forward i (within i h);
        next = λ i h. same_offset f raw (suc i) ∙ (w.next i (within (suc i) h) ∙ sym (same_end f raw i));
        inside = λ i h. inside i (within i h);
      }

-- the rows of a reading, with their links
pub stands : (τ : Terms) (s : List ℕ) → ((i : ℕ) → get_or s i 0 < 256) → (room : ℕ) (rows : List Row) → read_of τ s room ≡ accepted rows → Stands τ s rows
stands τ s bytes room rows e =
    let t = accepted_stands τ s room rows e in
    let raw = t.raw in
    subst (λ (rows : List Row). Stands τ s rows) (sym (t.same ∙ linked_is raw)) (all_stand τ bytes (raw_stands τ s room raw t.reads) (link_of raw) (by_link raw))

-- ---- the rows that tidying begins with

module _ (τ : Terms) (s : List ℕ) (room : ℕ) (raw : List Row) (e : raw_of τ s room ≡ accepted raw) where
  t : Raw τ s room raw
  t = raw_stands τ s room raw e

  pub bound_stand : ((i : ℕ) → get_or s i 0 < 256) → Stands τ s (bound raw)
  bound_stand bytes = subst (λ (rows : List Row). Stands τ s rows) (sym (bound_is raw)) (all_stand τ bytes t (bound_link raw) (by_bound raw))

  -- a class's row keeps the place of its type bytes
  types_raw : (i : ℕ) → i < length raw → is_class (get_or raw i blank).kind ≡ true → TypesThere τ s (with_link (get_or raw i blank) (bound_link raw (get_or raw i blank)))
  types_raw i h k =
      class_kind (get_or raw i blank).kind k (λ (n : ℕ). (get_or raw i blank).kind ≡ n → TypesThere τ s (with_link r (bound_link raw r)))
      (λ q. there false (λ z. omega arith) (λ z. omega arith) (λ z. omega arith) (λ x. system_row τ x q))
      (λ q. there true (λ z. omega arith) (λ z. omega arith) (λ z. omega arith) (λ x. class_row_holds τ x q))
      refl
    where
      r : Row
      r = get_or raw i blank

      there : (own : Bool) → (r.kind ≡ 32 → ⊥) → (r.kind ≡ 9 → ⊥) → (r.kind ≡ 0 → ⊥) → ((x : Recorded τ s (take i raw) r) → Class τ s (take i raw) own r.offset x.head)
          → TypesThere τ s (with_link r (bound_link raw r))
      there own a b c class =
          let x = record_at τ t.stands i h a in
          let w = class x in
          let places = class_places τ s (take i raw) own r.offset x.head w in
          let n : x.head.count ≡ r.count = sym x.same_count in
          let l : x.head.link ≡ bound_link raw r = sym x.same_link ∙ sym (bound_own raw r b c) in
          record {
            name_end = w.counts;
            named = subst (λ (p : ℕ). name_at τ.setting s p ≡ Ok w.counts) places.0 w.name_at_holds;
            names =
                subst (λ (p : ℕ). times (name_at τ.setting s) r.count p ≡ Ok (bound_link raw r)) places.1
                (subst (λ (k : ℕ). times (name_at τ.setting s) k w.names ≡ Ok (bound_link raw r)) n (w.names_at ∙ ap Ok l));
          }

  pub bound_types : (i : ℕ) → i < length (bound raw) → is_class (get_or (bound raw) i blank).kind ≡ true → TypesThere τ s (get_or (bound raw) i blank)
  bound_types =
      subst (λ (rows : List Row). (i : ℕ) → i < length rows → is_class (get_or rows i blank).kind ≡ true → TypesThere τ s (get_or rows i blank)) (sym (bound_is raw))
      (λ i h k.
      let l = length_all (bound_link raw) raw in
      let g : i < length raw = omega arith in
      subst (TypesThere τ s) (sym (row_at (bound_link raw) raw i g)) (types_raw i g (ap is_class (sym (same_kind (bound_link raw) raw i)) ∙ k)))

  -- the members of all classes are no more than the stream has bytes
  pub members_small : members_in (bound raw) ≤ length s
  members_small =
      let a = members_fit τ t.stands in
      let b : members_in (bound raw) ≡ members_in raw = ap members_in (bound_is raw) ∙ members_linked (bound_link raw) raw in
      omega arith

  -- a library fills no slot
  pub library_slots : (i : ℕ) → i < length (bound raw) → (get_or (bound raw) i blank).kind ≡ 12 → (get_or (bound raw) i blank).slot ≡ 0
  library_slots =
      subst (λ (rows : List Row). (i : ℕ) → i < length rows → (get_or rows i blank).kind ≡ 12 → (get_or rows i blank).slot ≡ 0) (sym (bound_is raw))
      (λ i h k.
      let l = length_all (bound_link raw) raw in
      same_slot (bound_link raw) raw i ∙ t.stands.libraries i (omega arith) (sym (same_kind (bound_link raw) raw i) ∙ k))

  -- a member value's row keeps the number of its code
  abbrev all_bound : List Row
  all_bound = relinked (bound_link raw) raw

  value_raw : (i : ℕ) → i < length raw → (get_or raw i blank).kind ≡ 32 → ValueThere τ s all_bound (get_or all_bound i blank)
  value_raw i h k =
      let w = value_code_lem τ s room raw e i h k in
      let r = get_or raw i blank in
      let at = row_at (bound_link raw) raw i h in
      let l : bound_link raw r ≡ r.link = bound_own raw r (λ z. omega arith) (λ z. omega arith) in
      record {
        code = w.code;
        link_is = ap (λ (x : Row). x.link) at ∙ (l ∙ w.link_is);
        reads = ap (λ (x : Row). value_at τ.setting s w.code x.offset) at ∙ (w.reads ∙ ap Ok (sym (ap (λ (x : Row). x.end) at)));
        said = w.said_by_holds (bound_link raw) (by_bound raw);
      }

  pub bound_values : (i : ℕ) → i < length (bound raw) → (get_or (bound raw) i blank).kind ≡ 32 → ValueThere τ s (bound raw) (get_or (bound raw) i blank)
  bound_values =
      subst (λ (rows : List Row). (i : ℕ) → i < length rows → (get_or rows i blank).kind ≡ 32 → ValueThere τ s rows (get_or rows i blank)) (sym (bound_is raw))
      (λ i h k.
      let l = length_all (bound_link raw) raw in
      value_raw i (omega arith) (sym (same_kind (bound_link raw) raw i) ∙ k))
