-- Equal classes: two class rows pass the test of the marks where they say one class, and the first row that passes it is the first row of
-- the class.
use Prim.Native.Nat.{ℕ, suc, ◌+◌, ◌-◌, ◌≤◌, ◌<◌}
use Rattle.std.specs.Prelude.{◌≡◌, refl, true, false, ◌&&◌, List, length, get_or, eqb, Ok}
use Rattle.std.proofs.Math.Path.{sym, ap}
use Rattle.std.proofs.Common.{subst, ◌∙◌, eq-eqb, eqb-true, ne_eqb}
use Rattle.std.proofs.Math.Bool.{Bool}
use native.Mathlib.Omega.{arith}
use Rattle.format.specs.Terms.{Terms}
use Rattle.format.specs.declared.Row.{Row}
use Rattle.format.specs.Bytes.{pick, same_bytes}
use Rattle.format.specs.Types.{name_at}
use Rattle.format.specs.Values.{times}
use Rattle.format.specs.Rows.{blank, is_class, find_from}
use Rattle.format.specs.Records.{own_library_at}
use Rattle.format.specs.Contents.{the_system, the_library, Class}
use Rattle.format.specs.Says.{text_from, origin_from, members_from, typed_from, class_from, order_of}
use Rattle.format.specs.Tidy.{same_class}
use Rattle.same.specs.Laws.{same_eq}
use Rattle.lookups.specs.Find.{find_hit}
use Rattle.laws.specs.Tests.{bool_ext, both_of, both_true, apart, pick_of, pick_true, true_same, class_of, class_eq, true_class, class_refl}
use Rattle.laws.specs.Classes.{origin_system, origin_library}
use Rattle.laws.specs.Firsts.{find_alike, find_some}
use Rattle.spans.specs.Judged.{name_after, names_after}
use Rattle.marks.specs.Marks.{with_id, with_slot, library_at, names_place, same_text, same_members_at, same_own, same_details, same_class_row, first_class}
use Rattle.meaning.specs.Stands.{OwnStands, of_system, of_library_rule, ClassStands, class_stands, Stands}
use Rattle.meaning.specs.Marked.{Placed, name_at_field, class_first}
use Rattle.meaning.specs.Alike.{same_texts_lem}
use Rattle.meaning.specs.Bytes.{name_stands}
use Rattle.meaning.specs.Names.{class_at_holds, class_places, own_names, placed_class, placed_kind, same_library}
use Rattle.meaning.specs.Members.{members_count, Infos, members_of_lem, members_same}

-- ---- where a class comes from

abbrev own_test : List ℕ → List Row → Row → Row → Bool
own_test s ps a b = pick (eqb a.kind 5) (eqb (library_at s ps (a.end - 4)) (library_at s ps (b.end - 4))) true

module _ (τ : Terms) (s : List ℕ) (rows ps : List Row) (st : Stands τ s rows) (pl : Placed τ s rows ps) where
  from_library : (r : Row) → r.kind ≡ 5 → origin_from s rows r ≡ the_library (name_at_field s rows (r.end - 4))
  unfolding name_at_field
  from_library r k = origin_library s rows r k

  test_system : (a b : Row) → a.kind ≡ 4 → own_test s ps a b ≡ true
  test_system a b k = ap (λ (x : ℕ). pick (eqb x 5) (eqb (library_at s ps (a.end - 4)) (library_at s ps (b.end - 4))) true) k

  test_library : (a b : Row) (p q : ℕ) → a.kind ≡ 5 → own_library_at s rows p ≡ Ok a.end → own_library_at s rows q ≡ Ok b.end
      → own_test s ps a b ≡ same_bytes (name_at_field s rows (a.end - 4)) (name_at_field s rows (b.end - 4))
  test_library a b p q k v w =
      ap (λ (x : ℕ). pick (eqb x 5) (eqb (library_at s ps (a.end - 4)) (library_at s ps (b.end - 4))) true) k
      ∙ same_library τ s rows ps st pl (a.end - 4) (b.end - 4) (own_names τ s rows p a.end v).0 (own_names τ s rows q b.end w).0

  own_of : (a b : Row) (p q : ℕ) → OwnStands s rows a p → OwnStands s rows b q → b.kind ≡ a.kind → own_test s ps a b ≡ true
      → origin_from s rows a ≡ origin_from s rows b
  own_of a b p q (of_system k e) (of_system l f) c t = origin_system s rows a k ∙ sym (origin_system s rows b l)
  own_of a b p q (of_system k e) (of_library_rule l f) c t = absurd (omega arith)
  own_of a b p q (of_library_rule k e) (of_system l f) c t = absurd (omega arith)
  own_of a b p q (of_library_rule k e) (of_library_rule l f) c t =
      from_library a k
      ∙ (ap the_library (same_eq (name_at_field s rows (a.end - 4)) (name_at_field s rows (b.end - 4)) (sym (test_library a b p q k e f) ∙ t))
      ∙ sym (from_library b l))

  own_same : (a b : Row) (p q : ℕ) → OwnStands s rows a p → OwnStands s rows b q → origin_from s rows a ≡ origin_from s rows b
      → (b.kind ≡ a.kind) × (own_test s ps a b ≡ true)
  own_same a b p q (of_system k e) (of_system l f) t = (l ∙ sym k, test_system a b k)
  own_same a b p q (of_system k e) (of_library_rule l f) t =
      let x : the_system ≡ the_library (name_at_field s rows (b.end - 4)) = sym (origin_system s rows a k) ∙ (t ∙ from_library b l) in
      absurd (let z : ◌≡◌ {A = ℕ} 0 1 = cc in omega arith)
  own_same a b p q (of_library_rule k e) (of_system l f) t =
      let x : the_library (name_at_field s rows (a.end - 4)) ≡ the_system = sym (from_library a k) ∙ (t ∙ origin_system s rows b l) in
      absurd (let z : ◌≡◌ {A = ℕ} 0 1 = cc in omega arith)
  own_same a b p q (of_library_rule k e) (of_library_rule l f) t =
      let m = name_at_field s rows (a.end - 4) in
      let n = name_at_field s rows (b.end - 4) in
      let x : the_library m ≡ the_library n = sym (from_library a k) ∙ (t ∙ from_library b l) in
      (l ∙ sym k, test_library a b p q k e f ∙ true_same m n cc)

-- ---- classes

-- the class of a row, its fields where they stand
abbrev pub said : (τ : Terms) (s : List ℕ) (rows : List Row) (r : Row) → ClassStands τ s rows r → Class
said τ s rows r c =
    record {
      name = text_from s (r.offset + 5);
      from = origin_from s rows r;
      members = members_from s rows r.count (c.name_end + 4) c.types (c.types + r.count);
    }

pub class_from_lem : (τ : Terms) (s : List ℕ) (rows : List Row) (r : Row) (c : ClassStands τ s rows r) → class_from τ.book s rows r ≡ said τ s rows r c
unfolding typed_from
class_from_lem τ s rows r c =
    class_stands τ s rows r c τ.book
    ∙ rw (name_after τ.setting s (r.offset + 5) c.name_end c.named, names_after τ.setting s r.count (c.name_end + 4) c.types c.names)

-- the row that class row i leads to: the first row of its class
pub record ClassFirst (β s : List ℕ) (rows ps : List Row) (i : ℕ) : Type 0 where
  pub row : ℕ
  pub same : first_class s ps (get_or ps i blank) ≡ class_first β s rows (class_from β s rows (get_or rows i blank))
  pub first : class_first β s rows (class_from β s rows (get_or rows i blank)) ≡ suc row
  pub before : row ≤ i
  pub kind : is_class (get_or rows row blank).kind ≡ true
  pub class : class_from β s rows (get_or rows row blank) ≡ class_from β s rows (get_or rows i blank)

module _ (τ : Terms) (s : List ℕ) (rows ps : List Row) (st : Stands τ s rows) (pl : Placed τ s rows ps) where
  module _ (r q : Row) (a : ClassStands τ s rows r) (b : ClassStands τ s rows q) where
    class_infos : (x : Row) (c : ClassStands τ s rows x) → Infos τ s rows x.count c.types (c.types + x.count)
    class_infos x c =
        let l = class_places τ s rows x c in
        record {
          types_end = c.types + x.count;
          typed = c.type_bytes;
          infos_end = c.infos_end;
          infos = c.infos;
          begins = omega (arith, l.1);
          inside = l.1;
        }

    -- b's details, counted by a
    other_infos : r.count ≡ q.count → Infos τ s rows r.count b.types (b.types + q.count)
    other_infos e = subst (λ (n : ℕ). Infos τ s rows n b.types (b.types + q.count)) (sym e) (class_infos q b)

    -- the names of a row's members
    names_place_lem : (x : Row) (c : ClassStands τ s rows x) → names_place s x ≡ c.name_end + 4
    names_place_lem x c = ap (λ (n : ℕ). n + 4) (name_after τ.setting s (x.offset + 5) c.name_end c.named)

    other_names : r.count ≡ q.count → times (name_at τ.setting s) r.count (b.name_end + 4) ≡ Ok b.types
    other_names e = subst (λ (n : ℕ). times (name_at τ.setting s) n (b.name_end + 4) ≡ Ok b.types) (sym e) b.names

    abbrev name_test : Bool
    name_test = same_text s (r.offset + 5) (q.offset + 5)

    abbrev members_test : Bool
    members_test =
        same_members_at s ps r.count (names_place s r) a.types (a.types + r.count) (names_place s q) b.types (b.types + q.count)

    abbrev row_test : Bool
    row_test =
        pick (eqb q.kind r.kind)
        (pick (eqb q.count r.count) (pick name_test (pick members_test (own_test s ps r q) false) false) false)
        false

    name_test_lem : name_test ≡ same_bytes (text_from s (r.offset + 5)) (text_from s (q.offset + 5))
    name_test_lem =
        same_texts_lem τ s (r.offset + 5) a.name_end (q.offset + 5) b.name_end
        (name_stands τ s (r.offset + 5) a.name_end a.named) (name_stands τ s (q.offset + 5) b.name_end b.named)

    said_of : row_test ≡ true → said τ s rows r a ≡ said τ s rows q b
    said_of t =
        let own = own_test s ps r q in
        let x = pick_of (eqb q.kind r.kind) (pick (eqb q.count r.count) (pick name_test (pick members_test own false) false) false) t in
        let w = pick_of (eqb q.count r.count) (pick name_test (pick members_test own false) false) x.1 in
        let v = pick_of name_test (pick members_test own false) w.1 in
        let u = pick_of members_test own v.1 in
        let count : r.count ≡ q.count = sym (eqb-true q.count r.count w.0) in
        let m = members_of_lem τ s rows ps st pl r.count (a.name_end + 4) a.types (a.types + r.count) (b.name_end + 4) b.types (b.types + q.count)
        a.types b.types a.names (other_names count) (class_infos r a) (other_infos count)
        (rw (names_place_lem r a, names_place_lem q b) at u.0) in
        class_of (said τ s rows r a) (said τ s rows q b)
        (same_eq (text_from s (r.offset + 5)) (text_from s (q.offset + 5)) (sym name_test_lem ∙ v.0))
        (own_of τ s rows ps st pl r q a.infos_end b.infos_end a.own b.own (eqb-true q.kind r.kind x.0) u.1)
        (m ∙ ap (λ (n : ℕ). members_from s rows n (b.name_end + 4) b.types (b.types + q.count)) count)

    said_same : said τ s rows r a ≡ said τ s rows q b → row_test ≡ true
    said_same e =
        let name : text_from s (r.offset + 5) ≡ text_from s (q.offset + 5) = ap (λ (c : Class). c.name) e in
        let from : origin_from s rows r ≡ origin_from s rows q = ap (λ (c : Class). c.from) e in
        let members : members_from s rows r.count (a.name_end + 4) a.types (a.types + r.count)
        ≡ members_from s rows q.count (b.name_end + 4) b.types (b.types + q.count) = ap (λ (c : Class). c.members) e in
        let count : r.count ≡ q.count
        = sym (members_count s rows r.count (a.name_end + 4) a.types (a.types + r.count))
        ∙ (ap length members ∙ members_count s rows q.count (b.name_end + 4) b.types (b.types + q.count)) in
        let m = members ∙ ap (λ (n : ℕ). members_from s rows n (b.name_end + 4) b.types (b.types + q.count)) (sym count) in
        let o = own_same τ s rows ps st pl r q a.infos_end b.infos_end a.own b.own from in
        let own = own_test s ps r q in
        let there : members_test ≡ true = rw (names_place_lem r a, names_place_lem q b)
        (members_same τ s rows ps st pl r.count (a.name_end + 4) a.types (a.types + r.count) (b.name_end + 4) b.types (b.types + q.count)
        a.types b.types a.names (other_names count) (class_infos r a) (other_infos count) m) in
        pick_true (eqb q.kind r.kind) (pick (eqb q.count r.count) (pick name_test (pick members_test own false) false) false)
        (eq-eqb q.kind r.kind o.0)
        (pick_true (eqb q.count r.count) (pick name_test (pick members_test own false) false) (eq-eqb q.count r.count (sym count))
        (pick_true name_test (pick members_test own false) (name_test_lem ∙ true_same (text_from s (r.offset + 5)) (text_from s (q.offset + 5)) name)
        (pick_true members_test own there o.1)))

    same_said : (m n : ℕ) → same_class_row s ps (with_slot (with_id r m) a.types) (with_slot (with_id q n) b.types) ≡ same_class (said τ s rows r a) (said τ s rows q b)
    unfolding same_class_row same_own
    same_said m n =
        bool_ext row_test (same_class (said τ s rows r a) (said τ s rows q b))
        (λ t. true_class (said τ s rows r a) (said τ s rows q b) (said_of t))
        (λ t. said_same (class_eq (said τ s rows r a) (said τ s rows q b) t))

  pub same_class_lem : (i j : ℕ) → i < length rows → j < length rows → is_class (get_or rows i blank).kind ≡ true → is_class (get_or rows j blank).kind ≡ true
      → same_class_row s ps (get_or ps i blank) (get_or ps j blank) ≡ same_class (class_from τ.book s rows (get_or rows i blank)) (class_from τ.book s rows (get_or rows j blank))
  same_class_lem i j h g k l =
      let r = get_or rows i blank in
      let q = get_or rows j blank in
      let a = class_at_holds τ s rows st i h k in
      let b = class_at_holds τ s rows st j g l in
      rw (placed_class τ s rows ps st pl i h k, placed_class τ s rows ps st pl j g l, class_from_lem τ s rows r a, class_from_lem τ s rows q b)
      (same_said r q a b (order_of rows (suc i)) (order_of rows (suc j)))

  -- ---- the first row of a class

  other_class : (a b : Row) → is_class a.kind ≡ true → is_class b.kind ≡ false → same_class_row s ps a b ≡ false
  unfolding same_class_row
  other_class a b k l =
      ap (λ (t : Bool). pick t (pick (eqb b.count a.count) (pick (same_text s (a.offset + 5) (b.offset + 5)) (same_details s ps a b) false) false) false)
      (ne_eqb b.kind a.kind (λ e. apart (sym l ∙ (ap is_class e ∙ k))))

  -- scans over the rows by a class's bytes and by what it says
  class_scan : (i : ℕ) → i < length rows → is_class (get_or rows i blank).kind ≡ true
      → first_class s ps (get_or ps i blank) ≡ class_first τ.book s rows (class_from τ.book s rows (get_or rows i blank))
  unfolding first_class class_first
  class_scan i h k =
      find_alike (same_class_row s ps (get_or ps i blank)) (λ (r : Row). is_class r.kind && same_class c (class_from τ.book s rows r)) 0 ps rows pl.size
      (λ j g. go j (omega (arith, pl.size)) (is_class (get_or rows j blank).kind) refl)
    where
      c : Class
      c = class_from τ.book s rows (get_or rows i blank)

      go : (j : ℕ) → j < length rows → (b : Bool) → is_class (get_or rows j blank).kind ≡ b
          → same_class_row s ps (get_or ps i blank) (get_or ps j blank) ≡ is_class (get_or rows j blank).kind && same_class c (class_from τ.book s rows (get_or rows j blank))
      go j g true e = same_class_lem i j h g k e ∙ sym (ap (λ (b : Bool). b && same_class c (class_from τ.book s rows (get_or rows j blank))) e)
      go j g false e =
          other_class (get_or ps i blank) (get_or ps j blank)
          (ap is_class (placed_kind τ s rows ps st pl i h) ∙ k)
          (ap is_class (placed_kind τ s rows ps st pl j g) ∙ e)
          ∙ sym (ap (λ (b : Bool). b && same_class c (class_from τ.book s rows (get_or rows j blank))) e)

  pub class_first_lem : (i : ℕ) → i < length rows → is_class (get_or rows i blank).kind ≡ true → ClassFirst τ.book s rows ps i
  unfolding class_first
  class_first_lem i h k =
      let c = class_from τ.book s rows (get_or rows i blank) in
      let test : Row → Bool = λ (r : Row). is_class r.kind && same_class c (class_from τ.book s rows r) in
      let x = find_some test 0 rows i h (both_true (is_class (get_or rows i blank).kind) (same_class c c) k (class_refl c)) in
      let e : find_from test 0 rows ≡ suc x.0 = x.1 ∙ omega arith in
      let y = find_hit test rows x.0 e in
      let z = both_of (is_class (get_or rows x.0 blank).kind) (same_class c (class_from τ.book s rows (get_or rows x.0 blank))) y.1 in
      record {
        row = x.0;
        same = class_scan i h k;
        first = e;
        before = x.2;
        kind = z.0;
        class = sym (class_eq c (class_from τ.book s rows (get_or rows x.0 blank)) z.1);
      }
