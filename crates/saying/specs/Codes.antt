-- The code of a member value (01, The table): its row names its object and the slot that it fills, and the class of that object has the code. While
-- the slots of an object are filled, the codes of those that are left are the codes of its class's members from the next slot on.
use Rattle.std.specs.Prelude.{ℕ, zero, suc, ◌+◌, ◌-◌, ◌≡◌, refl, true, List, [], ◌∷◌, get_or, drop, replicate}
use Rattle.std.proofs.Common.{sym, ap, subst, ◌∙◌, arith}
use Rattle.format.specs.Terms.{Terms}
use Rattle.format.specs.declared.PrimitiveCode.{PrimitiveCode}
use Rattle.format.specs.declared.SlotType.{SlotType}
use Rattle.format.specs.declared.SlotType.TheVariants as S
use Rattle.format.specs.declared.Row.{Row}
use Rattle.format.specs.Rows.{blank}
use Rattle.format.specs.Contents.{Detail, primitive, text, object, system, class, objects, texts, primitives, Member, slot_for, Rec, Class}
use Rattle.format.specs.Grammar.{takes_records, Entry, Array, of_objects, of_strings, of_primitives, of_any, of_values}
use Rattle.format.specs.Says.{class_from, class_row_of, code_of, code_in, value_code}
use Rattle.laws.specs.Tests.{apart}
use Rattle.saying.specs.Good.{slots_of}
use Rattle.saying.specs.Order.{item_there}

-- ---- codes and types of slots

-- a slot for a primitive value has its code
abbrev pub CodeIs : SlotType → PrimitiveCode → Type 0
CodeIs (S.Primitive c) b = b ≡ c
CodeIs S.Text b = Unit {0}
CodeIs S.Object b = Unit {0}
CodeIs S.SystemClass b = Unit {0}
CodeIs S.Class b = Unit {0}
CodeIs S.ObjectArray b = Unit {0}
CodeIs S.StringArray b = Unit {0}
CodeIs (S.PrimitiveArray c) b = Unit {0}

-- slots of these types, from this number on, have these codes
abbrev pub CodesAre : (ℕ → PrimitiveCode) → ℕ → List SlotType → Type 0
CodesAre code slot [] = Unit {0}
CodesAre code slot (t ∷ ts) = CodeIs t (code slot) × CodesAre code (slot + 1) ts

-- after some of them
pub codes_drop : (code : ℕ → PrimitiveCode) (k slot : ℕ) (ts : List SlotType) → CodesAre code slot ts → CodesAre code (slot + k) (drop k ts)
codes_drop code zero slot ts h = let z : slot ≡ slot + 0 = omega arith in subst (λ (n : ℕ). CodesAre code n ts) z h
codes_drop code (suc k) slot [] h = tt
codes_drop code (suc k) slot (t ∷ ts) h =
    let z : slot + 1 + k ≡ slot + suc k = omega arith in
    subst (λ (n : ℕ). CodesAre code n (drop k ts)) z (codes_drop code k (slot + 1) ts h.1)

-- the items of an array that take records have none
no_code : (t : SlotType) (b : PrimitiveCode) → takes_records t ≡ true → CodeIs t b
no_code (S.Primitive c) b e = apart e
no_code S.Text b e = tt
no_code S.Object b e = tt
no_code S.SystemClass b e = tt
no_code S.Class b e = tt
no_code S.ObjectArray b e = tt
no_code S.StringArray b e = tt
no_code (S.PrimitiveArray c) b e = tt

pub codes_alike : (code : ℕ → PrimitiveCode) (n slot : ℕ) (t : SlotType) → takes_records t ≡ true → CodesAre code slot (replicate n t)
codes_alike code zero slot t e = tt
codes_alike code (suc n) slot t e = (no_code t (code slot) e, codes_alike code n (slot + 1) t e)

-- the members of a class have the codes of their types
code_for : {N L : Type 0} (d : Detail N L) (b : PrimitiveCode) → b ≡ code_of d → CodeIs (slot_for d) b
code_for (primitive c) b e = e
code_for text b e = tt
code_for object b e = tt
code_for (system n) b e = tt
code_for (class n l) b e = tt
code_for objects b e = tt
code_for texts b e = tt
code_for (primitives c) b e = tt

codes_from : (code : ℕ → PrimitiveCode) (slot : ℕ) (ms : List (Member (List ℕ) (List ℕ))) → ((k : ℕ) → code (slot + k) ≡ code_in ms k) → CodesAre code slot (slots_of ms)
unfolding code_in
codes_from code slot [] h = tt
codes_from code slot (m ∷ ms) h =
    let z : slot ≡ slot + 0 = omega arith in (
      code_for m.type (code slot) (ap code z ∙ h 0),
      codes_from code (slot + 1) ms (λ k. let y : slot + 1 + k ≡ slot + suc k = omega arith in ap code y ∙ h (suc k)),
    )

pub codes_members : (ms : List (Member (List ℕ) (List ℕ))) → CodesAre (code_in ms) 0 (slots_of ms)
codes_members ms = codes_from (code_in ms) 0 ms (λ k. ap (code_in ms) (omega arith))

-- ---- by the row of the object

module _ (τ : Terms) (β s : List ℕ) (rows : List Row) where
  -- the class of the object in the row before this number
  abbrev pub owner_class : ℕ → Class
  owner_class own = class_from β s rows (class_row_of rows (get_or rows (own - 1) blank))

  -- the slots of the object in the row before this number that are left have the codes of its class
  abbrev pub Codes : ℕ → ℕ → List SlotType → Type 0
  Codes own slot ts = CodesAre (code_in (owner_class own).members) slot ts

  pub value_code_lem : (w : Row) (c : PrimitiveCode) → code_in (owner_class w.owner).members w.slot ≡ c → value_code β s rows w ≡ c
  unfolding value_code
  value_code_lem w c e = e

  -- an object of this class
  pub class_codes : (own : ℕ) (c : Class) (ts : List SlotType) → owner_class own ≡ c → slots_of c.members ≡ ts → Codes own 0 ts
  class_codes own c ts e f =
      subst (λ (d : Class). CodesAre (code_in d.members) 0 ts) (sym e) (subst (CodesAre (code_in c.members) 0) f (codes_members c.members))

  -- after a run of nulls
  pub run_codes : (own slot n : ℕ) {us : List SlotType} (ts : List SlotType) → us ≡ drop n ts → Codes own slot ts → Codes own (slot + n) us
  run_codes own slot n ts e g = subst (Codes own (slot + n)) (sym e) (codes_drop (code_in (owner_class own).members) n slot ts g)

  -- the slots of an array's items take no values
  pub array_codes : {es : List Entry} {kind i n : ℕ} {r : Rec} {ts : List SlotType} (own : ℕ) → Array τ es r kind i n ts → Codes own 0 ts
  array_codes {n = n} own (of_objects h) = codes_alike (code_in (owner_class own).members) n 0 S.Object refl
  array_codes {n = n} own (of_strings h) = codes_alike (code_in (owner_class own).members) n 0 S.Text refl
  array_codes own (of_primitives h g) = tt
  array_codes {n = n} own (of_any {d = d} g e h f z) = subst (Codes own 0) (sym z) (codes_alike (code_in (owner_class own).members) n 0 (slot_for d) f)
  array_codes own (of_values g e h) = tt

  module _ (is : List Row) (w : Row) (row : ℕ) (e : drop row rows ≡ w ∷ is) where
    own_row : get_or rows (suc row - 1) blank ≡ w
    own_row = let z : suc row - 1 ≡ row = omega arith in ap (λ (k : ℕ). get_or rows k blank) z ∙ item_there rows is w row e blank

    pub row_class : owner_class (suc row) ≡ class_from β s rows (class_row_of rows w)
    row_class = ap (λ (r : Row). class_from β s rows (class_row_of rows r)) own_row
