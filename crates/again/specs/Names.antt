-- What the records of the tidy copy make known, as its rows tell it: libraries by the names that were written, and classes by the classes.
use Prim.Native.Nat.{ℕ, suc, ◌+◌, ◌-◌}
use Rattle.std.specs.Prelude.{◌≡◌, refl, Bool, true, false, List, [], ◌∷◌, ◌++◌, get_or, take, drop, eqb}
use Rattle.std.proofs.Common.{sym, ap, subst, ◌∙◌, append-nil, eqb-true}
use native.Mathlib.Omega.{arith}
use Rattle.format.specs.Terms.{Terms}
use Rattle.format.specs.declared.SlotType.{SlotType}
use Rattle.format.specs.declared.Row.{Row}
use Rattle.format.specs.Bytes.{pick}
use Rattle.format.specs.Rows.{blank, find_from}
use Rattle.format.specs.Contents.{Prefixed, Detail, primitive, text, object, system, class, objects, texts, primitives, Member, Rec, system_class, library_class, enc, the_system, the_library, From, Class}
use Rattle.format.specs.Grammar.{Entry, a_class, another, a_library, known, classed, class_of, GoodDetail, Members, no_more, member, of_objects, of_strings, of_primitives, of_any, of_values}
use Rattle.format.specs.Says.{an_array, an_object, node, text_from, library_name, class_from}
use Rattle.format.specs.Tidy.{Progress}
use Rattle.laws.specs.Tests.{apart}
use Rattle.format.specs.Meant.{named, named_all, class_of_all}
use Rattle.saying.specs.Numbers.{name_in, class_in}
use Rattle.saying.specs.Order.{item_there}
use Rattle.saying.specs.Good.{slots_of}
use Rattle.saying.specs.There.{slots_same, kind_of, RowOf, GoodRec, system_class_from, library_class_from, library_said}
use Rattle.saying.specs.Known.{unknown_both, of_library, fresh_more, library_row_lem, other_library}
use Rattle.saying.specs.Shown.{said_at}
use Rattle.saying.specs.Counts.{made_known}
use Rattle.saying.specs.Legal.{Takes, class_by_id_rule, system_class_rule, library_class_rule, a_string_rule, an_array_rule, a_primitive_rule, a_reference_rule, a_null_rule, some_nulls, many_nulls_rule, a_library_rule, a_value_rule}
use Rattle.saying.specs.Row.{own_contents}
use Rattle.again.specs.Rows.{number_of}
use Rattle.again.specs.Own.{Own}

-- ---- what is said by names that agree where libraries are known

module _ (τ : Terms) (one other : ℕ → List ℕ) (es : List Entry) (agree : (l : ℕ) → known l es ≡ true → one l ≡ other l) where
  detail_same : (d : Detail Prefixed ℕ) → GoodDetail τ es d → named one d ≡ named other d
  detail_same (primitive c) g = refl
  detail_same text g = refl
  detail_same object g = refl
  detail_same (system n) g = refl
  detail_same (class n l) g = ap (class n.text) (agree l g.1.there)
  detail_same objects g = refl
  detail_same texts g = refl
  detail_same (primitives c) g = refl

  members_same : {ms : List (Member Prefixed ℕ)} → Members τ es ms → named_all one ms ≡ named_all other ms
  members_same no_more = refl
  members_same (member {m = m} {ms = ms} n g gs) =
      ap (λ (d : Detail (List ℕ) (List ℕ)). record { name = m.name.text; type = d } ∷ named_all one ms) (detail_same m.type g)
      ∙ ap (λ (x : List (Member (List ℕ) (List ℕ))). record { name = m.name.text; type = named other m.type } ∷ x) (members_same gs)

  class_same : (n : List ℕ) {ms : List (Member Prefixed ℕ)} (x y : From) → Members τ es ms → x ≡ y → class_of_all one n x ms ≡ class_of_all other n y ms
  class_same n {ms} x y gs e =
      ap (λ (f : From). class_of_all one n f ms) e ∙ ap (λ (l : List (Member (List ℕ) (List ℕ))). record { name = n; from = y; members = l }) (members_same gs)

  pub said_same : {total : ℕ} {r : Rec} {ts : List SlotType} (of : ℕ → Class) (order : ℕ → ℕ) (o n : ℕ) → Takes τ total es r ts
      → said_at one of order o n r ≡ said_at other of order o n r
  said_same of order o n (class_by_id_rule a b c) = refl
  said_same of order o n (system_class_rule {n = x} a b c) = ap (λ (d : Class). node (an_object d) o n ∷ []) (class_same x.text the_system the_system b.members refl)
  said_same of order o n (library_class_rule {l = l} {n = x} a b c d) =
      ap (λ (d : Class). node (an_object d) o n ∷ []) (class_same x.text (the_library (one l)) (the_library (other l)) b.members (ap the_library (agree l c.there)))
  said_same of order o n (a_string_rule a b) = refl
  said_same of order o n (an_array_rule a (of_objects b)) = refl
  said_same of order o n (an_array_rule a (of_strings b)) = refl
  said_same of order o n (an_array_rule a (of_primitives b c)) = refl
  said_same of order o n (an_array_rule a (of_any {type = type} {ns = ns} {d = x} b c g e f)) =
      ap (λ (d : Detail (List ℕ) (List ℕ)). node (an_array type ns d []) o n ∷ []) (detail_same x g)
  said_same of order o n (an_array_rule a (of_values b c d)) = refl
  said_same of order o n (a_primitive_rule a) = refl
  said_same of order o n (a_reference_rule a b) = refl
  said_same of order o n a_null_rule = refl
  said_same of order o n (some_nulls a b) = refl
  said_same of order o n (many_nulls_rule a) = refl
  said_same of order o n (a_library_rule a b c) = refl
  said_same of order o n (a_value_rule a) = refl

-- ---- what is known

module _ (τ : Terms) (β s : List ℕ) (table : List Row) (v : Progress) where
  -- the class of this number, with slots of these types, is told by this row
  abbrev pub ClassIs : ℕ → ℕ → List SlotType → Type 0
  ClassIs i row ts = (class_from β s table (get_or table (row - 1) blank) ≡ class_in v i) × (slots_of (class_in v i).members ≡ ts)

  -- a class by its row, a library by its number
  abbrev Right : Entry → Type 0
  Right (a_class i row ts) = ClassIs i row ts
  Right (another i) = Unit {0}
  Right (a_library i) = library_name s table i ≡ name_in v i

  abbrev pub AllRight : List Entry → Type 0
  AllRight [] = Unit {0}
  AllRight (e ∷ es) = Right e × AllRight es

  right_more : (es : List Entry) (e : Entry) → AllRight es → Right e → AllRight (es ++ (e ∷ []))
  right_more [] e h g = (g, tt)
  right_more (d ∷ es) e h g = (h.0, right_more es e h.1 g)

  pub name_right : (es : List Entry) → AllRight es → (l : ℕ) → known l es ≡ true → library_name s table l ≡ name_in v l
  name_right [] h l e = apart e
  name_right (a_class i r ts ∷ es) h l e = name_right es h.1 l e
  name_right (another i ∷ es) h l e = name_right es h.1 l e
  name_right (a_library i ∷ es) h l e = go (eqb i l) refl e (name_right es h.1 l)
    where
      go : (t : Bool) → eqb i l ≡ t → pick t true (known l es) ≡ true → (known l es ≡ true → library_name s table l ≡ name_in v l) → library_name s table l ≡ name_in v l
      go true q e again = subst (λ (k : ℕ). library_name s table k ≡ name_in v k) (eqb-true i l q) h.0
      go false q e again = again e

  pub class_right : (es : List Entry) → AllRight es → (k row : ℕ) (ts : List SlotType) → class_of k es ≡ classed row ts → ClassIs k row ts
  class_right [] h k row ts e = absurd (let z : ◌≡◌ {A = ℕ} 0 1 = cc in omega arith)
  class_right (a_class i r us ∷ es) h k row ts e = go (eqb i k) refl e (class_right es h.1 k row ts)
    where
      go : (t : Bool) → eqb i k ≡ t → pick t (classed r us) (class_of k es) ≡ classed row ts
          → (class_of k es ≡ classed row ts → ClassIs k row ts) → ClassIs k row ts
      go true q e again =
          let a : r ≡ row = cc in
          let b : us ≡ ts = cc in
          subst (λ (x : ℕ). ClassIs k x ts) a (subst (ClassIs k r) b (subst (λ (j : ℕ). ClassIs j r us) (eqb-true i k q) h.0))
      go false q e again = again e
  class_right (another i ∷ es) h k row ts e = class_right es h.1 k row ts e
  class_right (a_library i ∷ es) h k row ts e = class_right es h.1 k row ts e

  -- after so many rows; a library that is not known is in none of them
  pub record Knows (row : ℕ) (es : List Entry) : Type 0 where
    pub right : AllRight es
    pub fresh : (i : ℕ) → known i es ≡ false → find_from (of_library τ s table i) 0 (take row table) ≡ 0

  module _ (is : List Row) (w : Row) (row : ℕ) (e : drop row table ≡ w ∷ is) (es : List Entry) (h : Knows row es) where
    knows_same : eqb w.kind 12 ≡ false → Knows (suc row) (es ++ [])
    knows_same n =
        subst (Knows (suc row)) (sym (append-nil es)) (record { right = h.right; fresh = λ i q. fresh_more τ s table is w row e i (rw n) (h.fresh i q) })

    knows_entry : (x : Entry) → Right x → ((i : ℕ) → known i (x ∷ []) ≡ false → of_library τ s table i w ≡ false) → Knows (suc row) (es ++ (x ∷ []))
    knows_entry x q n =
        record {
          right = right_more es x h.right q;
          fresh = λ i f.
              let b = unknown_both i es (x ∷ []) f in
              fresh_more τ s table is w row e i (n i b.1) (h.fresh i b.0);
        }

    knows_another : (i : ℕ) → eqb w.kind 12 ≡ false → Knows (suc row) (es ++ (another i ∷ []))
    knows_another i n = knows_entry (another i) tt (λ j q. rw n)

    knows_class : (i : ℕ) (ts : List SlotType) (c : Class) → eqb w.kind 12 ≡ false → class_from β s table w ≡ c → c ≡ class_in v i
        → slots_of c.members ≡ ts → Knows (suc row) (es ++ (a_class i (suc row) ts ∷ []))
    knows_class i ts c n q f g =
        let z : suc row - 1 ≡ row = omega arith in
        let y : get_or table (suc row - 1) blank ≡ w = ap (λ (j : ℕ). get_or table j blank) z ∙ item_there table is w row e blank in
        knows_entry (a_class i (suc row) ts) (ap (class_from β s table) y ∙ (q ∙ f), ap (λ (d : Class). slots_of d.members) (sym f) ∙ g) (λ j q. rw n)

    knows_library : (i : ℕ) → w.kind ≡ 12 → w.id ≡ i → known i es ≡ false → text_from s (w.offset + 5) ≡ name_in v i → Knows (suc row) (es ++ (a_library i ∷ []))
    unfolding library_name
    knows_library i k q n f =
        let z : suc row - 1 ≡ row = omega arith in
        knows_entry (a_library i) (rw (library_row_lem τ s table is w row e i k q (h.fresh i n), z, item_there table is w row e blank) f)
        (λ j g. other_library τ s table is w row e j i k q g)

    -- after one record more
    module _ (q : List ℕ) (at : ℕ) where
      agrees : (l : ℕ) → known l es ≡ true → library_name s table l ≡ name_in v l
      agrees = name_right es h.right

      no_library : {r : Rec} → RowOf r at w → eqb (kind_of r) 12 ≡ false → eqb w.kind 12 ≡ false
      no_library f n = ap (λ (k : ℕ). eqb k 12) f.kind_is ∙ n

      pub knows_more : {total : ℕ} {r : Rec} {ts : List SlotType} → Takes τ total es r ts → Own v r → drop at s ≡ enc r ++ q → RowOf r at w → w.id ≡ number_of r
          → Knows (suc row) (es ++ made_known (suc row) r)
      knows_more (class_by_id_rule {i = i} a b c) o d f n = knows_another i (no_library f refl)
      knows_more {total} (system_class_rule {i = i} {n = x} {ms = ms} a b c) o d f n =
          let g : GoodRec τ (system_class i x ms) = own_contents τ {total = total} (system_class_rule a b c) in
          knows_class i _ _ (no_library f refl) (system_class_from τ β s table w at q i x ms g.0 g.1 d f)
          (class_same τ (library_name s table) (name_in v) es agrees x.text the_system the_system b.members refl ∙ o) (slots_same (library_name s table) ms)
      knows_more {total} (library_class_rule {i = i} {l = l} {n = x} {ms = ms} a b c e) o d f n =
          let g : GoodRec τ (library_class i x ms l) = own_contents τ {total = total} (library_class_rule a b c e) in
          knows_class i _ _ (no_library f refl) (library_class_from τ β s table w at q i x ms g.0 g.1 l g.2 d f)
          (class_same τ (library_name s table) (name_in v) es agrees x.text (the_library (library_name s table l)) (the_library (name_in v l)) b.members (ap the_library (agrees l c.there)) ∙ o)
          (slots_same (library_name s table) ms)
      knows_more (a_string_rule {i = i} a b) o d f n = knows_another i (no_library f refl)
      knows_more (an_array_rule a (of_objects {i = i} b)) o d f n = knows_another i (no_library f refl)
      knows_more (an_array_rule a (of_strings {i = i} b)) o d f n = knows_another i (no_library f refl)
      knows_more (an_array_rule a (of_primitives {i = i} b c)) o d f n = knows_another i (no_library f refl)
      knows_more (an_array_rule a (of_any {i = i} b c g x y)) o d f n = knows_another i (no_library f refl)
      knows_more (an_array_rule a (of_values {i = i} b c g)) o d f n = knows_another i (no_library f refl)
      knows_more (a_primitive_rule a) o d f n = knows_same (no_library f refl)
      knows_more (a_reference_rule a b) o d f n = knows_same (no_library f refl)
      knows_more a_null_rule o d f n = knows_same (no_library f refl)
      knows_more (some_nulls a b) o d f n = knows_same (no_library f refl)
      knows_more (many_nulls_rule a) o d f n = knows_same (no_library f refl)
      knows_more (a_library_rule {i = i} {x = x} a b c) o d f n =
          knows_library i f.kind_is n b (library_said τ s table w at q i x c d f.offset_is ∙ sym o)
      knows_more (a_value_rule a) o d f n = knows_same (no_library f refl)
