-- The code by which a member value was read is that of the member of its class whose slot it fills.
use Prim.Native.Nat.{ℕ, zero, suc, ◌+◌, ◌-◌, ◌≤◌, ◌<◌}
use Rattle.std.specs.Prelude.{◌≡◌, Bool, true, false, List, take, eqb, Ok}
use Rattle.std.proofs.Math.Path.{refl, ap, ap₂}
use Rattle.std.proofs.Common.{sym, subst, ◌∙◌, arith}
use Rattle.std.proofs.Math.ListN.{length, get_or}
use Rattle.std.proofs.Math.Seq.{length-take-le, get_or-take}
use borrow.Author.Tests.{lt-ltb, eqb-true, ne_eqb}
use Rattle.format.specs.Terms.{Terms}
use Rattle.format.specs.declared.PrimitiveCode.{PrimitiveCode}
use Rattle.format.specs.declared.SlotType.{SlotType}
use Rattle.format.specs.declared.SlotType.TheVariants as S
use Rattle.format.specs.declared.Row.{Row}
use Rattle.format.specs.Bytes.{pick}
use Rattle.format.specs.Values.{value_at}
use Rattle.format.specs.Types.{code_number, coded, primitive_of, slot_of, typed_at, is_primitive, moved, after_text, after_info}
use Rattle.format.specs.Rows.{blank, is_class, with_link, link_of, linked}
use Rattle.format.specs.Contents.{Member, Class}
use Rattle.format.specs.Records.{first_type}
use Rattle.format.specs.Machine.{accepted, raw_of}
use Rattle.format.specs.Says.{detail_from, members_from, typed_from, class_from, class_row_of, code_of, code_in, value_code}
use Rattle.laws.specs.Classes.{kind_typed, class_typed, class_blind}
use Rattle.spans.specs.Spans.{info_place}
use Rattle.spans.specs.Judged.{name_after, names_after}
use Rattle.standing.specs.Accepted.{raw_stands}
use Rattle.standing.specs.Linked.{relinked, linked_is, row_at, same_owner, same_slot, same_at, Links, by_link}
use Rattle.standing.specs.Cursors.{moved_by, first_of, TypesIn, types_in, OfClass, FromSlot, value_slots}

-- ---- one type

-- only a type byte 0 makes a primitive slot, and its detail is the code
slot_code_lem : (type code : ℕ) (c : PrimitiveCode) → slot_of type code ≡ S.Primitive c → (eqb type 0 ≡ true) × (coded (primitive_of code) ≡ c)
unfolding slot_of
slot_code_lem type code c = go (eqb type 0) (eqb type 1) (eqb type 2) (eqb type 3) (eqb type 4) (eqb type 5) (eqb type 6)
  where
    not : {A : Type 0} (t : SlotType) → is_primitive t ≡ false → t ≡ S.Primitive c → A
    not t f e = absurd (let q : false ≡ true = sym f ∙ ap is_primitive e in let z : ◌≡◌ {A = ℕ} 0 1 = cc in omega arith)

    go : (a b d e f g h : Bool)
        → pick a (S.Primitive (coded (primitive_of code))) (pick b S.Text (pick d S.Object (pick e S.SystemClass (pick f S.Class (pick g S.ObjectArray (pick h S.StringArray (S.PrimitiveArray (coded (primitive_of code)))))))))
        ≡ S.Primitive c → (a ≡ true) × (coded (primitive_of code) ≡ c)
    go true b d e f g h q = (refl, cc)
    go false true d e f g h q = not S.Text refl q
    go false false true e f g h q = not S.Object refl q
    go false false false true f g h q = not S.SystemClass refl q
    go false false false false true g h q = not S.Class refl q
    go false false false false false true h q = not S.ObjectArray refl q
    go false false false false false false true q = not S.StringArray refl q
    go false false false false false false false q = not (S.PrimitiveArray (coded (primitive_of code))) refl q

module _ (τ : Terms) (s : List ℕ) (rows : List Row) where
  detail_code : (type at : ℕ) (c : PrimitiveCode) → slot_of type (get_or s at 0) ≡ S.Primitive c → code_of (detail_from s rows type at) ≡ c
  unfolding detail_from
  detail_code type at c e = let w = slot_code_lem type (get_or s at 0) c e in rw w.0 w.1

  typed_next : (types infos : ℕ) → 0 < types → 0 < infos → types < length s → moved τ.book s (typed_at s types infos) ≡ typed_at s (types + 1) (after_info s (get_or s types 0) infos)
  unfolding moved typed_at
  typed_next types infos n m l = rw (ne_eqb types 0 (λ e. omega arith), ne_eqb infos 0 (λ e. omega arith), lt-ltb types (length s) l)

  first_slot : (types infos : ℕ) → (typed_at s types infos).slot ≡ slot_of (get_or s types 0) (get_or s infos 0)
  unfolding typed_at
  first_slot types infos = refl

  -- the member of number k, of n that stand at their places
  member_code_lem : (k n names types infos : ℕ) (c : PrimitiveCode) → k < n → 0 < types → 0 < infos → types + n ≤ length s
      → (moved_by τ.book s k (typed_at s types infos)).slot ≡ S.Primitive c → code_in (members_from s rows n names types infos) k ≡ c
  unfolding moved_by members_from code_in
  member_code_lem k zero names types infos c h n i l e = absurd (omega arith)
  member_code_lem zero (suc m) names types infos c h n i l e = detail_code (get_or s types 0) infos c (sym (first_slot types infos) ∙ e)
  member_code_lem (suc k) (suc m) names types infos c h n i l e =
      let r = info_place s (get_or s types 0) infos (infos + length s) (omega arith) (omega arith) in
      member_code_lem k m (after_text s names) (types + 1) (after_info s (get_or s types 0) infos) c (omega arith) (omega arith) (omega arith) (omega arith)
      (ap (λ t. (moved_by τ.book s k t).slot) (sym (typed_next types infos n i (omega arith))) ∙ e)

  -- the members of a class are at the places that its row as read says
  class_members : (r : Row) → is_class r.kind ≡ true → TypesIn τ s r → (class_from τ.book s rows r).members
      ≡ members_from s rows r.count (after_text s (r.offset + 5) + 4) r.link (r.link + r.count)
  unfolding typed_from
  class_members r y w = ap (λ (c : Class). c.members) (class_typed τ.book s rows r (kind_typed r.kind y)) ∙ typed_members
    where
      typed_members : (typed_from s rows r).members ≡ members_from s rows r.count (after_text s (r.offset + 5) + 4) r.link (r.link + r.count)
      typed_members =
          rw (name_after τ.setting s (r.offset + 5) w.name_end w.named, names_after τ.setting s r.count (w.name_end + 4) r.link w.names)

  -- a class does not see a link
  members_blind : (f : Row → ℕ) (raw : List Row) (j k : ℕ) → code_in (class_from τ.book s rows (get_or (relinked f raw) j blank)).members k ≡ code_in (class_from τ.book s rows (get_or raw j blank)).members k
  members_blind f raw j k =
      same_at f raw (λ (r : Row). code_in (class_from τ.book s rows r).members k) (λ r l. ap (λ (c : Class). code_in c.members k) (class_blind τ.book s rows r l)) j

  class_code : (r : Row) (k : ℕ) (c : PrimitiveCode) → is_class r.kind ≡ true → TypesIn τ s r → k < r.count → (moved_by τ.book s k (first_type τ.book s r)).slot ≡ S.Primitive c
      → code_in (class_from τ.book s rows r).members k ≡ c
  class_code r k c y w h e =
      ap (λ (ms : List (Member (List ℕ) (List ℕ))). code_in ms k) (class_members r y w)
      ∙ member_code_lem k r.count (after_text s (r.offset + 5) + 4) r.link (r.link + r.count) c h w.some (omega (arith, w.some)) w.inside
      (ap (λ t. (moved_by τ.book s k t).slot) (sym (first_of τ.book s r y w.inside)) ∙ e)

-- ---- the rows of an accepted stream

-- the code of the member value in row i
pub record ValueCode (τ : Terms) (s : List ℕ) (raw : List Row) (i : ℕ) : Type 0 where
  pub code : PrimitiveCode
  pub reads : value_at τ.setting s code (get_or raw i blank).offset ≡ Ok (get_or raw i blank).end
  pub link_is : (get_or raw i blank).link ≡ code_number code
  pub said : value_code τ.book s (linked raw) (get_or (linked raw) i blank) ≡ code
  -- the same by rows with any links
  pub said_by_holds : (f : Row → ℕ) → Links raw f → value_code τ.book s (relinked f raw) (get_or (relinked f raw) i blank) ≡ code

-- the class of an object, by rows with their links
module _ (f : Row → ℕ) (raw : List Row) (L : Links raw f) (owner j : ℕ) (w : OfClass raw owner j) where
  abbrev all : List Row
  all = relinked f raw

  class_row_of_lem : class_row_of all (get_or all (owner - 1) blank) ≡ get_or all j blank
  class_row_of_lem =
      let o = get_or raw (owner - 1) blank in
      ap (λ (x : Row). class_row_of all x) (row_at f raw (owner - 1) w.owner_in_holds) ∙ go (eqb o.kind 1) refl w.row
    where
      go : (b : Bool) → eqb (get_or raw (owner - 1) blank).kind 1 ≡ b → pick b ((get_or raw (owner - 1) blank).link - 1) (owner - 1) ≡ j
          → pick b (get_or all (f (get_or raw (owner - 1) blank) - 1) blank) (with_link (get_or raw (owner - 1) blank) (f (get_or raw (owner - 1) blank))) ≡ get_or all j blank
      go true q e =
          let l = L.own (get_or raw (owner - 1) blank) (eqb-true (get_or raw (owner - 1) blank).kind 1 q) in
          ap (λ (n : ℕ). get_or all (n - 1) blank) l ∙ ap (λ (n : ℕ). get_or all n blank) e
      go false q e = sym (row_at f raw (owner - 1) w.owner_in_holds) ∙ ap (λ (n : ℕ). get_or all n blank) e

-- more rows do not change what the class of an object is
of_all : (raw : List Row) (i owner j : ℕ) → i < length raw → OfClass (take i raw) owner j → OfClass raw owner j
of_all raw i owner j h w =
    let n = length-take-le i raw (omega arith) in
    let a = w.owner_in_holds in
    let b = w.inside in
    let e : get_or (take i raw) (owner - 1) blank ≡ get_or raw (owner - 1) blank = get_or-take i raw (owner - 1) blank (omega arith) in
    let f : get_or (take i raw) j blank ≡ get_or raw j blank = get_or-take i raw j blank (omega arith) in
    record {
      owner_in_holds = omega arith;
      row = ap (λ (x : Row). pick (eqb x.kind 1) (x.link - 1) (owner - 1)) (sym e) ∙ w.row;
      inside = omega arith;
      class = ap (λ (x : Row). is_class x.kind) (sym f) ∙ w.class;
    }

module _ (τ : Terms) (s : List ℕ) (room : ℕ) (raw : List Row) (e : raw_of τ s room ≡ accepted raw) (i : ℕ) (h : i < length raw) (k : (get_or raw i blank).kind ≡ 32) where
  filled_slot : FromSlot τ s (take i raw) (get_or raw i blank)
  filled_slot = value_slots τ s room raw e i h k

  -- by rows with any links
  said_code : (f : Row → ℕ) → Links raw f → value_code τ.book s (relinked f raw) (get_or (relinked f raw) i blank) ≡ filled_slot.code
  unfolding value_code
  said_code f L =
      let w = filled_slot in
      let r = get_or raw i blank in
      let j = w.class_row_holds in
      let all = relinked f raw in
      let n = length-take-le i raw (omega arith) in
      let o = of_all raw i r.owner j h w.of_class_holds in
      let c : get_or (take i raw) j blank ≡ get_or raw j blank = get_or-take i raw j blank (omega (arith, w.of_class_holds.inside)) in
      let t = types_in τ ((raw_stands τ s room raw e).stands.each j o.inside) o.class in
      ap₂ (λ (a b : ℕ). code_in (class_from τ.book s all (class_row_of all (get_or all (a - 1) blank))).members b) (same_owner f raw i) (same_slot f raw i)
      ∙ (ap (λ (x : Row). code_in (class_from τ.book s all x).members r.slot) (class_row_of_lem f raw L r.owner j o)
      ∙ (members_blind τ s all f raw j r.slot
      ∙ class_code τ s all (get_or raw j blank) r.slot w.code o.class t (subst (λ (x : Row). r.slot < x.count) c w.slot_in_holds)
      (ap (λ (x : Row). (moved_by τ.book s r.slot (first_type τ.book s x)).slot) (sym c) ∙ w.typed)))

  pub value_code_lem : ValueCode τ s raw i
  value_code_lem =
      let w = filled_slot in
      record {
        code = w.code;
        reads = w.reads;
        link_is = w.link_is;
        said = ap (λ (rows : List Row). value_code τ.book s rows (get_or rows i blank)) (linked_is raw) ∙ said_code (link_of raw) (by_link raw);
        said_by_holds = said_code;
      }
