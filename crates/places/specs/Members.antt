-- The members of a class at their places (01, Records): all names, then all type bytes, then the details. Members that the grammar takes are
-- those that end, read at a place they are those written there, and the types that an open object sees are those of the members.
use Prim.Native.Nat.{ℕ, zero, suc, ◌+◌, ◌≤◌, ◌<◌}
use Rattle.std.specs.Prelude.{◌≡◌, Ok}
use Rattle.std.proofs.Math.Path.{refl, ap, subst}
use Rattle.std.proofs.Common.{sym, arith}
use mathlib.Core.List.{List, [], ◌∷◌}
use Rattle.std.proofs.Math.ListN.{length, get_or}
use borrow.Author.Tests.{lt-ltb}
use Rattle.format.specs.Terms.{Terms}
use Rattle.format.specs.declared.SlotType.{SlotType}
use Rattle.format.specs.declared.Row.{Row}
use Rattle.format.specs.Values.{times}
use Rattle.format.specs.Types.{type_byte_at, name_at, typed_at, after_text, after_info}
use Rattle.format.specs.Records.{info_known, infos_at}
use Rattle.format.specs.Contents.{Prefixed, bytes_in, Member, type_byte, info_bytes, slot_for, names_bytes, types_bytes, infos_bytes}
use Rattle.format.specs.Grammar.{Entry, Members, no_more, member, types_of}
use Rattle.fields.specs.Sequence.{through}
use Rattle.num.specs.Le.{Bytes}
use Rattle.codes.specs.Ends.{type_end}
use Rattle.types.specs.Keeps.{type_told, name_moves}
use Rattle.spans.specs.Judged.{info_after}
use Rattle.slots.specs.Slots.{moved_on}
use Rattle.class_info.specs.Moves.{info_plain, info_known_moves}
use Rattle.places.specs.Env.{env_of, slots_from}
use Rattle.places.specs.Stand.{Stand, stand_size, stand_none, stand_byte, stand_then, stand_split, stand_inside, stand_here, stand_after}
use Rattle.places.specs.Fields.{prefixed_at, name_there, name_in_lem, name_after, name_back}
use Rattle.places.specs.Details.{detail_in, detail_there, detail_in_lem, detail_byte, detail_slot, detail_back, byte_small}

-- n members whose names, type bytes and details stand at these places
unfoldable pub members_in : List ℕ → ℕ → ℕ → ℕ → ℕ → List (Member Prefixed ℕ)
members_in s zero names types infos = []
members_in s (suc n) names types infos =
    record { name = prefixed_at s names; type = detail_in s (get_or s types 0) infos }
    ∷ members_in s n (after_text s names) (types + 1) (after_info s (get_or s types 0) infos)

pub length_members : (s : List ℕ) (n names types infos : ℕ) → length (members_in s n names types infos) ≡ n
unfolding members_in
length_members s zero names types infos = refl
length_members s (suc n) names types infos = ap suc (length_members s n (after_text s names) (types + 1) (after_info s (get_or s types 0) infos))

-- good members that stand at these places, and the places after them
pub record MembersAt (τ : Terms) (es : List Entry) (s : List ℕ) (ms : List (Member Prefixed ℕ)) (names types infos a b c : ℕ) : Type 0 where
  pub good : Members τ es ms
  pub names_stand : Stand s (names_bytes ms) names a
  pub types_stand : Stand s (types_bytes ms) types b
  pub infos_stand : Stand s (infos_bytes ms) infos c

module _ (τ : Terms) (s : List ℕ) (rows : List Row) where
  -- ---- what ends is written so

  pub members_back : (n names types infos a b c : ℕ) → Bytes s → names ≤ length s → types ≤ length s → infos ≤ length s
      → times (name_at τ.setting s) n names ≡ Ok a → times (type_byte_at s) n types ≡ Ok b → infos_at τ.setting s rows n types infos ≡ Ok c
      → MembersAt τ (env_of τ.book s rows) s (members_in s n names types infos) names types infos a b c
  unfolding times infos_at members_in
  members_back zero names types infos a b c byte h i j q r u =
      let x : names ≡ a = cc in
      let y : types ≡ b = cc in
      let z : infos ≡ c = cc in
      rw (← x, ← y, ← z) (record { good = no_more; names_stand = stand_none h; types_stand = stand_none i; infos_stand = stand_none j })
  members_back (suc n) names types infos a b c byte h i j q r u =
      let x = through (times (name_at τ.setting s) n) (name_at τ.setting s names) a q in
      let y = through (times (type_byte_at s) n) (type_byte_at s types) b r in
      let z = through (infos_at τ.setting s rows n (types + 1)) (info_known τ.setting s rows (get_or s types 0) infos) c u in
      let t = type_told s types y.0 y.1 in
      let v = name_moves τ.setting s names x.0 x.1 in
      let w = info_known_moves τ.setting s rows (get_or s types 0) infos z.0 j z.1 in
      step x.0 z.0 x.1 z.1 t.0 t.1
      (members_back n x.0 (types + 1) z.0 a b c byte v.1 (omega arith) w.1 x.2 (rw t.2 at y.2) z.2)
    where
      step : (m k : ℕ) → name_at τ.setting s names ≡ Ok m → info_known τ.setting s rows (get_or s types 0) infos ≡ Ok k → get_or s types 0 ≤ 7 → types < length s
          → MembersAt τ (env_of τ.book s rows) s (members_in s n m (types + 1) k) m (types + 1) k a b c
          → MembersAt τ (env_of τ.book s rows) s (members_in s (suc n) names types infos) names types infos a b c
      step m k q u g l more =
          let x = name_back τ s names m byte q in
          let d = detail_back τ s infos rows k (get_or s types 0) g byte j u in
          let f : type_byte (detail_in s (get_or s types 0) infos) ≡ get_or s types 0 = detail_byte τ s infos (get_or s types 0) g in
          let here : Member Prefixed ℕ = record { name = prefixed_at s names; type = detail_in s (get_or s types 0) infos } in
          let y = info_after τ.setting s (get_or s types 0) infos k (info_plain τ.setting s rows (get_or s types 0) infos k u) in
          subst (λ (v : ℕ). MembersAt τ (env_of τ.book s rows) s (here ∷ members_in s n v (types + 1) (after_info s (get_or s types 0) infos)) names types infos a b c) (sym x.2)
          (subst (λ (v : ℕ). MembersAt τ (env_of τ.book s rows) s (here ∷ members_in s n m (types + 1) v) names types infos a b c) (sym y)
          (record {
            good = member x.0 d.good more.good;
            names_stand = stand_then x.1 more.names_stand;
            types_stand = rw f (stand_then (stand_byte l) more.types_stand);
            infos_stand = stand_then d.stands more.infos_stand;
          }))

  -- ---- what is written is read

  -- where good members end, and that they are those read at these places
  pub record MembersEnd (ms : List (Member Prefixed ℕ)) (names types infos a b c : ℕ) : Type 0 where
    pub names_end : times (name_at τ.setting s) (length ms) names ≡ Ok a
    pub types_end : times (type_byte_at s) (length ms) types ≡ Ok b
    pub infos_end : infos_at τ.setting s rows (length ms) types infos ≡ Ok c
    pub same : members_in s (length ms) names types infos ≡ ms

  pub members_there : (ms : List (Member Prefixed ℕ)) (names types infos a b c : ℕ) → Members τ (env_of τ.book s rows) ms
      → Stand s (names_bytes ms) names a → Stand s (types_bytes ms) types b → Stand s (infos_bytes ms) infos c
      → MembersEnd ms names types infos a b c
  unfolding times infos_at members_in
  members_there ms names types infos a b c no_more x y z =
      let i = stand_size x in
      let j = stand_size y in
      let k = stand_size z in
      record { names_end = ap Ok (omega arith); types_end = ap Ok (omega arith); infos_end = ap Ok (omega arith); same = refl }
  members_there ms names types infos a b c (member {m = m} {ms = rest} g d more) x y z =
      let u = stand_split (bytes_in m.name) (names_bytes rest) x in
      let w = stand_split (info_bytes m.type) (infos_bytes rest) z in
      step u.0 w.0 u.1 w.1 (members_there rest u.0 (types + 1) w.0 a b c more u.2 (stand_after y) w.2)
    where
      step : (i k : ℕ) → Stand s (bytes_in m.name) names i → Stand s (info_bytes m.type) infos k
          → MembersEnd rest i (types + 1) k a b c → MembersEnd (m ∷ rest) names types infos a b c
      step i k u w ends =
          let f : get_or s types 0 ≡ type_byte m.type = stand_here y in
          let n = name_there τ s m.name names i g u in
          let q = detail_there τ s rows infos k m.type d w in
          let a = info_after τ.setting s (type_byte m.type) infos k (info_plain τ.setting s rows (type_byte m.type) infos k q) in
          let t : type_byte_at s types ≡ Ok (types + 1) = type_end s types (stand_inside y) (rw f (byte_small m.type)) in
          record {
            names_end = rw n ends.names_end;
            types_end = rw t ends.types_end;
            infos_end = rw (f, q) ends.infos_end;
            same = rw (f, name_in_lem τ s m.name names i g u, detail_in_lem τ s rows infos k m.type d w, name_after τ s m.name names i g u, a, ends.same);
          }

  -- ---- the types of an object's slots

  pub slots_are : (n names types infos b c : ℕ) → 0 < types → 0 < infos → infos ≤ length s → times (type_byte_at s) n types ≡ Ok b
      → infos_at τ.setting s rows n types infos ≡ Ok c
      → slots_from τ.book s (typed_at s types infos) n ≡ types_of (members_in s n names types infos)
  unfolding times infos_at members_in slots_from typed_at
  slots_are zero names types infos b c h o j q r = refl
  slots_are (suc n) names types infos b c h o j q r =
      let y = through (times (type_byte_at s) n) (type_byte_at s types) b q in
      let z = through (infos_at τ.setting s rows n (types + 1)) (info_known τ.setting s rows (get_or s types 0) infos) c r in
      let t = type_told s types y.0 y.1 in
      let w = info_known_moves τ.setting s rows (get_or s types 0) infos z.0 j z.1 in
      step z.0 z.1 t.0 t.1 (slots_are n (after_text s names) (types + 1) z.0 b c (omega arith) (omega arith) w.1 (rw t.2 at y.2) z.2)
    where
      step : (k : ℕ) → info_known τ.setting s rows (get_or s types 0) infos ≡ Ok k → get_or s types 0 ≤ 7 → types < length s
          → slots_from τ.book s (typed_at s (types + 1) k) n ≡ types_of (members_in s n (after_text s names) (types + 1) k)
          → slots_from τ.book s (typed_at s types infos) (suc n) ≡ types_of (members_in s (suc n) names types infos)
      step k u g l more =
          let i = info_after τ.setting s (get_or s types 0) infos k (info_plain τ.setting s rows (get_or s types 0) infos k u) in
          rw (moved_on τ.book s (typed_at s types infos) (λ z. omega arith) (λ z. omega arith), lt-ltb types (length s) l, i, detail_slot τ s infos (get_or s types 0) g)
          (ap (λ (ts : List SlotType). slot_for (detail_in s (get_or s types 0) infos) ∷ ts) more)
