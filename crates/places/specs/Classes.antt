-- A class's name and members at a place (01, Records, kinds 4 and 5): those that the grammar takes are those that end.
use Rattle.std.specs.Prelude.{ℕ, ◌+◌, ◌≤◌, ◌<◌, ◌≡◌, refl, false, List, ◌++◌, length, Some, Ok}
use Rattle.std.proofs.Common.{ap, ◌∙◌, arith}
use borrow.Author.Tests.{le-ltb}
use Rattle.format.specs.Terms.{Terms}
use Rattle.format.specs.declared.Row.{Row}
use Rattle.format.specs.Numbers.{le_bytes, u32_at, negative}
use Rattle.format.specs.Values.{times}
use Rattle.format.specs.Types.{type_byte_at, name_at, typed_at}
use Rattle.format.specs.Records.{infos_at}
use Rattle.format.specs.Contents.{Prefixed, bytes_in, Member, names_bytes, types_bytes, infos_bytes, class_bytes}
use Rattle.format.specs.Grammar.{ClassInfo, types_of}
use Rattle.num.specs.Le.{Bytes}
use Rattle.types.specs.Keeps.{name_moves}
use Rattle.class_info.specs.Moves.{names_there, types_there}
use Rattle.places.specs.Env.{env_of, slots_from, types_at}
use Rattle.places.specs.Stand.{Stand, stand_then, stand_split}
use Rattle.places.specs.Fields.{number_there, number_back, not_negative, below_negative, prefixed_at, name_there, name_back}
use Rattle.places.specs.Members.{members_in, length_members, members_back, members_there, slots_are}

module _ (τ : Terms) (s : List ℕ) (rows : List Row) where
  -- a good class from p to e; its n type bytes stand at types and its details at infos
  pub record ClassAt (name : Prefixed) (ms : List (Member Prefixed ℕ)) (p e n types infos : ℕ) : Type 0 where
    pub info : ClassInfo τ (env_of τ.book s rows) name ms
    pub stands : Stand s (class_bytes name ms) p e
    pub counted : length ms ≡ n
    pub slots : slots_from τ.book s (typed_at s types infos) n ≡ types_of ms
    pub known : types_at τ.book s types n ≡ types_of ms

  -- the details follow the type bytes
  types_known : (types infos n : ℕ) → infos ≡ types + n → infos ≤ length s → types_at τ.book s types n ≡ slots_from τ.book s (typed_at s types infos) n
  unfolding types_at
  types_known types infos n e h = rw (← e, le-ltb (length s) infos h)

  pub class_back : (p q n r types infos e : ℕ) → Bytes s → name_at τ.setting s p ≡ Ok q → u32_at s q ≡ Some (n, r) → negative n ≡ false
      → times (name_at τ.setting s) n r ≡ Ok types → times (type_byte_at s) n types ≡ Ok infos → infos_at τ.setting s rows n types infos ≡ Ok e
      → ClassAt (prefixed_at s p) (members_in s n r types infos) p e n types infos
  class_back p q n r types infos e byte a b c d f g =
      let x = name_back τ s p q byte a in
      let m = name_moves τ.setting s p q a in
      let y = number_back s q n r byte b in
      let i : r ≤ length s = y.stands.room in
      let u = names_there τ.setting s n r types i d in
      let v = types_there s n types infos u.1 f in
      let k = members_back τ s rows n r types infos types infos e byte i u.1 v.1 d f g in
      let l = length_members s n r types infos in
      let count : Stand s (le_bytes 4 (length (members_in s n r types infos))) q r = rw l y.stands in
      let z = slots_are τ s rows n r types infos infos e (omega (arith, y.next)) (omega (arith, y.next)) v.1 f g in
      record {
        info = record { named = x.0; counted = rw l (below_negative n c); members = k.good };
        stands = stand_then x.1 (stand_then count (stand_then k.names_stand (stand_then k.types_stand k.infos_stand)));
        counted = l;
        slots = z;
        known = types_known types infos n v.0 v.1 ∙ z;
      }

  -- where the fields of a good class stand
  pub record ClassEnds (name : Prefixed) (ms : List (Member Prefixed ℕ)) (p e : ℕ) : Type 0 where
    pub count_at : ℕ
    pub names_at : ℕ
    pub types_at_holds : ℕ
    pub infos_at_holds : ℕ
    pub name_end : name_at τ.setting s p ≡ Ok count_at
    pub count_is : u32_at s count_at ≡ Some (length ms, names_at)
    pub fits : negative (length ms) ≡ false
    pub names_end : times (name_at τ.setting s) (length ms) names_at ≡ Ok types_at_holds
    pub types_end : times (type_byte_at s) (length ms) types_at_holds ≡ Ok infos_at_holds
    pub infos_end : infos_at τ.setting s rows (length ms) types_at_holds infos_at_holds ≡ Ok e
    pub infos_are : infos_at_holds ≡ types_at_holds + length ms
    pub same : members_in s (length ms) names_at types_at_holds infos_at_holds ≡ ms
    pub class_at_holds : ClassAt name ms p e (length ms) types_at_holds infos_at_holds

  pub class_there : (name : Prefixed) (ms : List (Member Prefixed ℕ)) (p e : ℕ) → ClassInfo τ (env_of τ.book s rows) name ms → Stand s (class_bytes name ms) p e → ClassEnds name ms p e
  class_there name ms p e g w =
      let a = stand_split (bytes_in name) (le_bytes 4 (length ms) ++ (names_bytes ms ++ (types_bytes ms ++ infos_bytes ms))) w in
      let b = stand_split (le_bytes 4 (length ms)) (names_bytes ms ++ (types_bytes ms ++ infos_bytes ms)) a.2 in
      let c = stand_split (names_bytes ms) (types_bytes ms ++ infos_bytes ms) b.2 in
      let d = stand_split (types_bytes ms) (infos_bytes ms) c.2 in
      go a.0 b.0 c.0 d.0 a.1 b.1 c.1 d.1 d.2
    where
      go : (q r types infos : ℕ) → Stand s (bytes_in name) p q → Stand s (le_bytes 4 (length ms)) q r → Stand s (names_bytes ms) r types
          → Stand s (types_bytes ms) types infos → Stand s (infos_bytes ms) infos e → ClassEnds name ms p e
      go q r types infos a b c d f =
          let l = g.counted in
          let n = name_there τ s name p q g.named a in
          let m = name_moves τ.setting s p q n in
          let k = members_there τ s rows ms r types infos types infos e g.members c d f in
          let u = types_there s (length ms) types infos c.room k.types_end in
          let h : 0 < types = omega (arith, b.onward, c.onward) in
          let z = slots_are τ s rows (length ms) r types infos infos e h (omega arith) u.1 k.types_end k.infos_end ∙ ap types_of k.same in
          record {
            count_at = q;
            names_at = r;
            types_at_holds = types;
            infos_at_holds = infos;
            name_end = n;
            count_is = number_there s (length ms) q r (omega arith) b;
            fits = not_negative (length ms) l;
            names_end = k.names_end;
            types_end = k.types_end;
            infos_end = k.infos_end;
            infos_are = u.0;
            same = k.same;
            class_at_holds = record { info = g; stands = w; counted = refl; slots = z; known = types_known types infos (length ms) u.0 u.1 ∙ z };
          }
