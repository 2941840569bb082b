-- Members: names, and types with their details, pass the test of the marks where they are equal.
use Prim.Native.Nat.{ℕ, zero, suc, ◌+◌, ◌-◌, ◌≤◌, ◌<◌}
use Rattle.std.specs.Prelude.{◌≡◌, true, false, List, [], ◌∷◌, length, Option, Ok, Result}
use Rattle.format.specs.declared.Refusal.{Refusal}
use Rattle.format.specs.declared.PrimitiveCode.{PrimitiveCode}
use Rattle.std.proofs.Math.Path.{refl, sym, ap, ap₂, subst}
use Rattle.std.proofs.Common.{◌∙◌, arith}
use Rattle.std.proofs.Math.ListN.{get_or}
use Rattle.std.proofs.Math.Dec.{eqb}
use borrow.Author.Tests.{eq-eqb, eqb-true}
use Rattle.format.specs.Terms.{Terms}
use Rattle.format.specs.declared.Row.{Row}
use Rattle.format.specs.Bytes.{pick, same_bytes}
use Rattle.format.specs.Types.{code_number, coded, primitive_of, code_at, type_byte_at, name_at, info_at, after_text, after_info}
use Rattle.format.specs.Values.{times}
use Rattle.format.specs.Records.{info_known, infos_at}
use Rattle.format.specs.Contents.{Detail, primitive, text, object, system, class, objects, texts, primitives, Member, type_byte}
use Rattle.format.specs.Says.{text_from, number_from, code_from, library_name, detail_from, members_from}
use Rattle.fields.specs.Parts.{part_cons}
use Rattle.fields.specs.Sequence.{through}
use Rattle.codes.specs.Codes.{number_primitive}
use Rattle.types.specs.Keeps.{code_told, type_told, name_told}
use Rattle.spans.specs.Judged.{name_after}
use Rattle.class_info.specs.Moves.{info_plain, info_known_moves}
use Rattle.same.specs.Laws.{SameParts, same_eq}
use Rattle.laws.specs.Tests.{pick_of, pick_true, true_same}
use Rattle.laws.specs.Fields.{by_type}
use Rattle.marks.specs.Marks.{library_at, same_between, same_text, same_info, same_members_at}
use Rattle.meaning.specs.Stands.{Stands}
use Rattle.meaning.specs.Marked.{Placed, name_at_field}
use Rattle.meaning.specs.Alike.{between_of, true_between, same_texts_lem}
use Rattle.meaning.specs.Bytes.{info_place, type_is}
use Rattle.meaning.specs.Names.{class_info, same_library}

-- ---- how many members

pub members_count : (s : List ℕ) (rows : List Row) (n names types p : ℕ) → length (members_from s rows n names types p) ≡ n
unfolding members_from
members_count s rows zero names types p = refl
members_count s rows (suc n) names types p = ap suc (members_count s rows n (after_text s names) (types + 1) (after_info s (get_or s types 0) p))

-- ---- single bytes and names

module _ (τ : Terms) (s : List ℕ) where
  parts_none : (p q : ℕ) → p ≤ length s → q ≤ length s → SameParts s p q 0
  parts_none p q h g = record { first = omega arith; second = omega arith; equal = refl }

  byte_same : (p q : ℕ) → p < length s → q < length s → get_or s p 0 ≡ get_or s q 0 → SameParts s p q 1
  byte_same p q h g e =
      record { first = omega arith; second = omega arith; equal = part_cons s p 0 h ∙ (ap (λ (b : ℕ). b ∷ []) e ∙ sym (part_cons s q 0 g)) }

  byte_of : (p q : ℕ) → SameParts s p q 1 → get_or s p 0 ≡ get_or s q 0
  byte_of p q w =
      let a = part_cons s p 0 (omega (arith, w.first)) in
      let b = part_cons s q 0 (omega (arith, w.second)) in
      let e = w.equal in
      cc

  name_same : (p q m k : ℕ) → name_at τ.setting s p ≡ Ok m → name_at τ.setting s q ≡ Ok k → same_text s p q ≡ same_bytes (text_from s p) (text_from s q)
  name_same p q m k a b =
      let c = name_told τ.setting s p m a in
      let d = name_told τ.setting s q k b in
      same_texts_lem τ s p m q k (record { from = c.0; text = c.1 }) (record { from = d.0; text = d.1 })

  -- two codes
  code_number_lem : (p e : ℕ) → code_at s p ≡ Ok e → code_number (code_from s p) ≡ get_or s p 0
  code_number_lem p e h =
      let w = code_told s p e h in
      ap (λ (c : Option PrimitiveCode). code_number (coded c)) w.1 ∙ number_primitive (get_or s p 0) w.0 w.1

  code_same : (p q m k : ℕ) → code_at s p ≡ Ok m → code_at s q ≡ Ok k
      → (same_between s p m q k ≡ true → code_from s p ≡ code_from s q) × (code_from s p ≡ code_from s q → same_between s p m q k ≡ true)
  code_same p q m k a b =
      let c = code_told s p m a in
      let d = code_told s q k b in
      let e : m - p ≡ 1 = omega (arith, c.3) in (
        (λ t. ap (λ (b : ℕ). coded (primitive_of b)) (byte_of p q (rw e at (between_of s p m q k t).1))),
        (λ t.
            let g : get_or s p 0 ≡ get_or s q 0 = sym (code_number_lem p m a) ∙ (ap code_number t ∙ code_number_lem q k b) in
            true_between s p m q k (omega (arith, c.3, d.3)) (rw e (byte_same p q c.2 d.2 g))),
      )

-- ---- details

-- the test of two details of type t is a test for equality
abbrev Fair : Terms → List ℕ → List Row → List Row → ℕ → Type 0
Fair τ s rows ps t =
    (a x b y : ℕ) → a ≤ length s → b ≤ length s → info_known τ.setting s rows t a ≡ Ok x → info_known τ.setting s rows t b ≡ Ok y
    → (same_info s ps t a x b y ≡ true → detail_from s rows t a ≡ detail_from s rows t b)
    × (detail_from s rows t a ≡ detail_from s rows t b → same_info s ps t a x b y ≡ true)

module _ (τ : Terms) (s : List ℕ) (rows ps : List Row) (st : Stands τ s rows) (pl : Placed τ s rows ps) where
  no_detail : (a x b y : ℕ) → a ≤ length s → b ≤ length s → ◌≡◌ {A = Result ℕ Refusal} (Ok a) (Ok x) → ◌≡◌ {A = Result ℕ Refusal} (Ok b) (Ok y) → same_between s a x b y ≡ true
  no_detail a x b y h g p q =
      let c : a ≡ x = cc in
      let d : b ≡ y = cc in
      let e : x - a ≡ 0 = omega arith in
      true_between s a x b y (omega arith) (rw e (parts_none τ s a b h g))

  fair_class : Fair τ s rows ps 4
  unfolding same_info detail_from name_at_field
  fair_class a x b y h g p q =
      let u = class_info τ s rows a x p in
      let v = class_info τ s rows b y q in
      let i : u.1 ≡ x - 4 = omega (arith, u.3) in
      let j : v.1 ≡ y - 4 = omega (arith, v.3) in
      let m : name_at τ.setting s a ≡ Ok (x - 4) = rw i at u.2 in
      let n : name_at τ.setting s b ≡ Ok (y - 4) = rw j at v.2 in
      let names = name_same τ s a b (x - 4) (y - 4) m n in
      let libraries = same_library τ s rows ps st pl (x - 4) (y - 4) u.0 v.0 in
      let k = name_at_field s rows (x - 4) in
      let l = name_at_field s rows (y - 4) in
      let c : detail_from s rows 4 a ≡ class (text_from s a) k = ap (λ (z : ℕ). class (text_from s a) (library_name s rows (number_from s z))) (name_after τ.setting s a (x - 4) m) in
      let d : detail_from s rows 4 b ≡ class (text_from s b) l = ap (λ (z : ℕ). class (text_from s b) (library_name s rows (number_from s z))) (name_after τ.setting s b (y - 4) n) in
      let test = same_text s a b in
      let firsts = eqb (library_at s ps (x - 4)) (library_at s ps (y - 4)) in (
        (λ t.
            let w = pick_of test firsts t in
            let e = same_eq (text_from s a) (text_from s b) (sym names ∙ w.0) in
            let f = same_eq k l (sym libraries ∙ w.1) in
            c ∙ (rw (e, f) (sym d))),
        (λ t.
            let z : class (text_from s a) k ≡ class (text_from s b) l = sym c ∙ (t ∙ d) in
            let e : text_from s a ≡ text_from s b = cc in
            let f : k ≡ l = cc in
            pick_true test firsts (names ∙ true_same (text_from s a) (text_from s b) e) (libraries ∙ true_same k l f)),
      )

  fair_primitive : Fair τ s rows ps 0
  unfolding same_info detail_from info_at
  fair_primitive a x b y h g p q =
      let w = code_same τ s a b x y (info_plain τ.setting s rows 0 a x p) (info_plain τ.setting s rows 0 b y q) in
      ((λ t. ap primitive (w.0 t)), (λ t. w.1 cc))

  fair_primitives : Fair τ s rows ps 7
  unfolding same_info detail_from info_at
  fair_primitives a x b y h g p q =
      let w = code_same τ s a b x y (info_plain τ.setting s rows 7 a x p) (info_plain τ.setting s rows 7 b y q) in
      ((λ t. ap primitives (w.0 t)), (λ t. w.1 cc))

  fair_system : Fair τ s rows ps 3
  unfolding same_info detail_from info_at
  fair_system a x b y h g p q =
      let w = name_same τ s a b x y (info_plain τ.setting s rows 3 a x p) (info_plain τ.setting s rows 3 b y q) in
      ((λ t. ap system (same_eq (text_from s a) (text_from s b) (sym w ∙ t))), (λ t. w ∙ true_same (text_from s a) (text_from s b) cc))

  -- a type without a detail
  fair_none : (d : Detail (List ℕ) (List ℕ)) (t : ℕ) → ((p : ℕ) → info_at τ.setting s t p ≡ Ok p) → ((p : ℕ) → detail_from s rows t p ≡ d)
      → ((a x b y : ℕ) → same_info s ps t a x b y ≡ same_between s a x b y) → Fair τ s rows ps t
  fair_none d t i f k a x b y h g p q = (
    (λ e. f a ∙ sym (f b)),
    (λ e. k a x b y ∙ no_detail a x b y h g (sym (i a) ∙ info_plain τ.setting s rows t a x p) (sym (i b) ∙ info_plain τ.setting s rows t b y q)),
  )

  fair : (t : ℕ) → t ≤ 7 → Fair τ s rows ps t
  unfolding same_info detail_from info_at
  fair t h =
      by_type (Fair τ s rows ps)
      fair_primitive
      (fair_none text 1 (λ p. refl) (λ p. refl) (λ a x b y. refl))
      (fair_none object 2 (λ p. refl) (λ p. refl) (λ a x b y. refl))
      fair_system
      fair_class
      (fair_none objects 5 (λ p. refl) (λ p. refl) (λ a x b y. refl))
      (fair_none texts 6 (λ p. refl) (λ p. refl) (λ a x b y. refl))
      fair_primitives
      t h

-- n type bytes from t on, and their details from p on
pub record Infos (τ : Terms) (s : List ℕ) (rows : List Row) (n t p : ℕ) : Type 0 where
  pub types_end : ℕ
  pub typed : times (type_byte_at s) n t ≡ Ok types_end
  pub infos_end : ℕ
  pub infos : infos_at τ.setting s rows n t p ≡ Ok infos_end
  pub begins : t ≤ length s
  pub inside : p ≤ length s

-- the first of them, and the others
record Info (τ : Terms) (s : List ℕ) (rows : List Row) (n t p : ℕ) : Type 0 where
  type : get_or s t 0 ≤ 7
  there : t < length s
  info_end : ℕ
  info : info_known τ.setting s rows (get_or s t 0) p ≡ Ok info_end
  others : Infos τ s rows n (t + 1) info_end

next_info : (τ : Terms) (s : List ℕ) (rows : List Row) (n t p : ℕ) → Infos τ s rows (suc n) t p → Info τ s rows n t p
unfolding times infos_at
next_info τ s rows n t p w =
    let u = through (times (type_byte_at s) n) (type_byte_at s t) w.types_end w.typed in
    let v = through (infos_at τ.setting s rows n (t + 1)) (info_known τ.setting s rows (get_or s t 0) p) w.infos_end w.infos in
    let x = type_told s t u.0 u.1 in
    record {
      type = x.0;
      there = x.1;
      info_end = v.0;
      info = v.1;
      others =
          record {
            types_end = w.types_end;
            typed = rw x.2 at u.2;
            infos_end = w.infos_end;
            infos = v.2;
            begins = omega (arith, x.1);
            inside = (info_known_moves τ.setting s rows (get_or s t 0) p v.0 w.inside v.1).1;
          };
    }

-- ---- members

joined : {n m : List ℕ} {d e : Detail (List ℕ) (List ℕ)} {ms ns : List (Member (List ℕ) (List ℕ))} → n ≡ m → d ≡ e → ms ≡ ns
    → ◌≡◌ {A = List (Member (List ℕ) (List ℕ))} (record { name = n; type = d } ∷ ms) (record { name = m; type = e } ∷ ns)
joined p q r = rw (p, q, r)

apart_at : {x y : Member (List ℕ) (List ℕ)} {ms ns : List (Member (List ℕ) (List ℕ))} → x ∷ ms ≡ y ∷ ns → (x ≡ y) × (ms ≡ ns)
apart_at e = (cc, cc)

-- n members of two classes: names from a and b on, type bytes from t and u on, details from p and q on
module _ (τ : Terms) (s : List ℕ) (rows ps : List Row) (st : Stands τ s rows) (pl : Placed τ s rows ps) where
  pub members_of_lem : (n a t p b u q e f : ℕ) → times (name_at τ.setting s) n a ≡ Ok e → times (name_at τ.setting s) n b ≡ Ok f → Infos τ s rows n t p → Infos τ s rows n u q
      → same_members_at s ps n a t p b u q ≡ true → members_from s rows n a t p ≡ members_from s rows n b u q
  unfolding times same_members_at members_from
  members_of_lem zero a t p b u q e f g h v w z = refl
  members_of_lem (suc n) a t p b u q e f g h v w z =
      let x = next_info τ s rows n t p v in
      let y = next_info τ s rows n u q w in
      let i = through (times (name_at τ.setting s) n) (name_at τ.setting s a) e g in
      let j = through (times (name_at τ.setting s) n) (name_at τ.setting s b) f h in
      let type = get_or s t 0 in
      let m = x.info_end in
      let k = y.info_end in
      let same = same_info s ps type p (after_info s type p) q (after_info s type q) in
      let rest = same_members_at s ps n (after_text s a) (t + 1) (after_info s type p) (after_text s b) (u + 1) (after_info s type q) in
      let one = pick_of (same_text s a b) (pick (eqb type (get_or s u 0)) (pick same rest false) false) z in
      let two = pick_of (eqb type (get_or s u 0)) (pick same rest false) one.1 in
      let three = pick_of same rest two.1 in
      let c : type ≡ get_or s u 0 = eqb-true type (get_or s u 0) two.0 in
      let known : info_known τ.setting s rows type q ≡ Ok k = subst (λ (z : ℕ). info_known τ.setting s rows z q ≡ Ok k) (sym c) y.info in
      let o = info_place τ s rows type p m x.info in
      let r = info_place τ s rows type q k known in
      let d = name_after τ.setting s a i.0 i.1 in
      let l = name_after τ.setting s b j.0 j.1 in
      let detail = (fair τ s rows ps st pl type x.type p m q k v.inside w.inside x.info known).0 (rw (o, r) at three.0) in
      let name = same_eq (text_from s a) (text_from s b) (sym (name_same τ s a b i.0 j.0 i.1 j.1) ∙ one.0) in
      let more = members_of_lem n i.0 (t + 1) m j.0 (u + 1) k e f i.2 j.2 x.others y.others (rw (d, l, o, r) at three.1) in
      joined name (detail ∙ ap (λ (z : ℕ). detail_from s rows z q) c)
      (ap₂ (λ (x y : ℕ). members_from s rows n x (t + 1) y) d o
      ∙ (more ∙ sym (ap₂ (λ (x y : ℕ). members_from s rows n x (u + 1) y) l (info_place τ s rows (get_or s u 0) q k y.info))))

  pub members_same : (n a t p b u q e f : ℕ) → times (name_at τ.setting s) n a ≡ Ok e → times (name_at τ.setting s) n b ≡ Ok f → Infos τ s rows n t p → Infos τ s rows n u q
      → members_from s rows n a t p ≡ members_from s rows n b u q → same_members_at s ps n a t p b u q ≡ true
  unfolding times same_members_at members_from
  members_same zero a t p b u q e f g h v w z = refl
  members_same (suc n) a t p b u q e f g h v w z =
      let x = next_info τ s rows n t p v in
      let y = next_info τ s rows n u q w in
      let i = through (times (name_at τ.setting s) n) (name_at τ.setting s a) e g in
      let j = through (times (name_at τ.setting s) n) (name_at τ.setting s b) f h in
      let type = get_or s t 0 in
      let m = x.info_end in
      let k = y.info_end in
      let both = apart_at z in
      let name : text_from s a ≡ text_from s b = ap (λ (x : Member (List ℕ) (List ℕ)). x.name) both.0 in
      let detail : detail_from s rows type p ≡ detail_from s rows (get_or s u 0) q = ap (λ (x : Member (List ℕ) (List ℕ)). x.type) both.0 in
      let c : type ≡ get_or s u 0 = sym (type_is s rows type p x.type) ∙ (ap type_byte detail ∙ type_is s rows (get_or s u 0) q y.type) in
      let known : info_known τ.setting s rows type q ≡ Ok k = subst (λ (z : ℕ). info_known τ.setting s rows z q ≡ Ok k) (sym c) y.info in
      let o = info_place τ s rows type p m x.info in
      let r = info_place τ s rows type q k known in
      let d = name_after τ.setting s a i.0 i.1 in
      let l = name_after τ.setting s b j.0 j.1 in
      let same = same_info s ps type p (after_info s type p) q (after_info s type q) in
      let rest = same_members_at s ps n (after_text s a) (t + 1) (after_info s type p) (after_text s b) (u + 1) (after_info s type q) in
      let more : members_from s rows n i.0 (t + 1) m ≡ members_from s rows n j.0 (u + 1) k
      = sym (ap₂ (λ (x y : ℕ). members_from s rows n x (t + 1) y) d o)
      ∙ (both.1 ∙ ap₂ (λ (x y : ℕ). members_from s rows n x (u + 1) y) l (info_place τ s rows (get_or s u 0) q k y.info)) in
      pick_true (same_text s a b) (pick (eqb type (get_or s u 0)) (pick same rest false) false)
      (name_same τ s a b i.0 j.0 i.1 j.1 ∙ true_same (text_from s a) (text_from s b) name)
      (pick_true (eqb type (get_or s u 0)) (pick same rest false) (eq-eqb type (get_or s u 0) c)
      (pick_true same rest
      (rw (o, r)
      ((fair τ s rows ps st pl type x.type p m q k v.inside w.inside x.info known).1 (detail ∙ ap (λ (z : ℕ). detail_from s rows z q) (sym c))))
      (rw (d, l, o, r) (members_same n i.0 (t + 1) m j.0 (u + 1) k e f i.2 j.2 x.others y.others more))))
