-- Answers of tests, and that the tests by which the tidy copy finds a name or a class that was written before are tests for equality.
use Rattle.std.specs.Prelude.{ℕ, ◌≡◌, refl, Bool, true, false, ◌&&◌, ◌||◌, List, [], ◌∷◌, get_or, eqb}
use Rattle.std.proofs.Common.{sym, ap, ◌∙◌, arith, eq-eqb, eqb-true}
use Rattle.format.specs.declared.PrimitiveCode.{PrimitiveCode}
use Rattle.format.specs.Bytes.{pick, same_bytes}
use Rattle.format.specs.Types.{code_number, coded, primitive_of}
use Rattle.format.specs.Contents.{Detail, primitive, text, object, system, class, objects, texts, primitives, Member, type_byte, From, the_system, the_library, Class, same_from}
use Rattle.format.specs.Tidy.{detail_name, detail_library, same_detail, same_members, same_class}
pub use Rattle.fields.specs.Tests.{bool_ext, both_of}
use Rattle.codes.specs.Codes.{primitive_number}
use Rattle.same.specs.Laws.{same_eq, same_refl}

-- ---- answers of tests

pub both_true : (p q : Bool) → p ≡ true → q ≡ true → p && q ≡ true
both_true p q e f = rw (e, f)

pub apart : {A : Type 0} → false ≡ true → A
apart e = absurd (let z : ◌≡◌ {A = ℕ} 0 1 = cc in omega arith)

pub differ : {X : Type 0} → true ≡ false → X
differ e = apart (sym e)

pub either : {X : Type 0} (t : Bool) → (t ≡ true → X) → (t ≡ false → X) → X
either true f g = f refl
either false f g = g refl

pub neither : (p q : Bool) → (p || q) ≡ false → (p ≡ false) × (q ≡ false)
neither true q e = differ e
neither false q e = (refl, e)

pub or_right : (p q : Bool) → q ≡ true → (p || q) ≡ true
or_right true q e = refl
or_right false q e = e

-- a pick that is true and whose second choice is not
pub pick_of : (p q : Bool) → pick p q false ≡ true → (p ≡ true) × (q ≡ true)
pick_of true q e = (refl, e)
pick_of false q e = apart e

pub pick_true : (p q : Bool) → p ≡ true → q ≡ true → pick p q false ≡ true
pick_true p q e f = rw (e, f)

-- ---- names and classes

pub true_same : (x y : List ℕ) → x ≡ y → same_bytes x y ≡ true
true_same x y e = rw e (same_refl y)

-- a type by its byte, its name or code, and its library
unfoldable detail_of : ℕ → List ℕ → List ℕ → Detail (List ℕ) (List ℕ)
detail_of t n l =
    pick (eqb t 0) (primitive (coded (primitive_of (get_or n 0 0))))
    (pick (eqb t 1) text
    (pick (eqb t 2) object
    (pick (eqb t 3) (system n)
    (pick (eqb t 4) (class n l)
    (pick (eqb t 5) objects
    (pick (eqb t 6) texts
    (primitives (coded (primitive_of (get_or n 0 0))))))))))

code_again : (c : PrimitiveCode) → coded (primitive_of (code_number c)) ≡ c
code_again c = ap coded (primitive_number c)

detail_again : (d : Detail (List ℕ) (List ℕ)) → detail_of (type_byte d) (detail_name d) (detail_library d) ≡ d
unfolding detail_of
detail_again (primitive c) = ap primitive (code_again c)
detail_again text = refl
detail_again object = refl
detail_again (system n) = refl
detail_again (class n l) = refl
detail_again objects = refl
detail_again texts = refl
detail_again (primitives c) = ap primitives (code_again c)

pub detail_eq : (d e : Detail (List ℕ) (List ℕ)) → same_detail d e ≡ true → d ≡ e
unfolding same_detail
detail_eq d e q =
    let names = same_bytes (detail_name d) (detail_name e) in
    let libraries = same_bytes (detail_library d) (detail_library e) in
    let w = both_of (eqb (type_byte d) (type_byte e)) (names && libraries) q in
    let v = both_of names libraries w.1 in
    let x = eqb-true (type_byte d) (type_byte e) w.0 in
    let y = same_eq (detail_name d) (detail_name e) v.0 in
    let z = same_eq (detail_library d) (detail_library e) v.1 in
    sym (detail_again d) ∙ (rw (x, y, z) (detail_again e))

pub detail_refl : (d : Detail (List ℕ) (List ℕ)) → same_detail d d ≡ true
unfolding same_detail
detail_refl d = rw (eq-eqb (type_byte d) (type_byte d) refl, same_refl (detail_name d), same_refl (detail_library d))

member_of : (m n : Member (List ℕ) (List ℕ)) → m.name ≡ n.name → m.type ≡ n.type → m ≡ n
member_of m n e f = ap (λ (x : List ℕ). record { name = x; type = m.type }) e ∙ ap (λ (d : Detail (List ℕ) (List ℕ)). record { name = n.name; type = d }) f

pub members_eq : (ms ns : List (Member (List ℕ) (List ℕ))) → same_members ms ns ≡ true → ms ≡ ns
unfolding same_members
members_eq [] [] q = refl
members_eq [] (n ∷ ns) q = apart q
members_eq (m ∷ ms) [] q = apart q
members_eq (m ∷ ms) (n ∷ ns) q =
    let first = same_bytes m.name n.name && same_detail m.type n.type in
    let w = both_of first (same_members ms ns) q in
    let v = both_of (same_bytes m.name n.name) (same_detail m.type n.type) w.0 in
    let x = member_of m n (same_eq m.name n.name v.0) (detail_eq m.type n.type v.1) in
    let y = members_eq ms ns w.1 in
    cc

pub members_refl : (ms : List (Member (List ℕ) (List ℕ))) → same_members ms ms ≡ true
unfolding same_members
members_refl [] = refl
members_refl (m ∷ ms) = rw (same_refl m.name, detail_refl m.type, members_refl ms)

pub from_eq : (x y : From) → same_from x y ≡ true → x ≡ y
from_eq the_system the_system q = refl
from_eq the_system (the_library n) q = apart q
from_eq (the_library m) the_system q = apart q
from_eq (the_library m) (the_library n) q = ap the_library (same_eq m n q)

pub from_refl : (x : From) → same_from x x ≡ true
from_refl the_system = refl
from_refl (the_library n) = same_refl n

pub class_of : (c d : Class) → c.name ≡ d.name → c.from ≡ d.from → c.members ≡ d.members → c ≡ d
class_of c d e f g =
    ap (λ (x : List ℕ). record { name = x; from = c.from; members = c.members }) e
    ∙ (ap (λ (x : From). record { name = d.name; from = x; members = c.members }) f
    ∙ ap (λ (x : List (Member (List ℕ) (List ℕ))). record { name = d.name; from = d.from; members = x }) g)

pub class_eq : (c d : Class) → same_class c d ≡ true → c ≡ d
unfolding same_class
class_eq c d q =
    let froms = same_from c.from d.from in
    let members = same_members c.members d.members in
    let w = both_of (same_bytes c.name d.name) (froms && members) q in
    let v = both_of froms members w.1 in
    class_of c d (same_eq c.name d.name w.0) (from_eq c.from d.from v.0) (members_eq c.members d.members v.1)

pub class_refl : (c : Class) → same_class c c ≡ true
unfolding same_class
class_refl c = rw (same_refl c.name, from_refl c.from, members_refl c.members)

pub true_class : (c d : Class) → c ≡ d → same_class c d ≡ true
true_class c d e = rw e (class_refl d)
