-- What is known along the records of a reading: names of libraries and classes of objects are the same by the records and by the rows.
use Rattle.std.specs.Prelude.{ℕ, suc, ◌+◌, ◌-◌, ◌≡◌, Bool, length, get_or, take, drop, eqb}
use Rattle.std.proofs.Math.Path.{refl, ap}
use Rattle.std.proofs.Common.{sym, subst, ◌∙◌, arith, eqb-true, eq-eqb}
use Rattle.std.proofs.Math.Bool.{true, false}
use mathlib.Core.List.{List, [], ◌∷◌, ◌++◌}
use Rattle.format.specs.Terms.{Terms}
use Rattle.format.specs.declared.SlotType.{SlotType}
use Rattle.format.specs.declared.Row.{Row}
use Rattle.format.specs.Bytes.{pick}
use Rattle.format.specs.Rows.{blank, find_from}
use Rattle.format.specs.Contents.{Prefixed, Detail, primitive, text, object, system, class, objects, texts, primitives, Member, Rec, From, Class}
use Rattle.format.specs.Says.{text_from, library_name, class_from}
use Rattle.format.specs.Grammar.{Entry, a_class, another, a_library, used, known, classed, unknown, class_of, GoodDetail, Members, no_more, member, types_of}
use Rattle.format.specs.Meant.{named, named_all, class_of_all, found, library_of, libraries_of, own_class, classes_of, no_class}
use Rattle.saying.specs.Good.{slots_of}
use Rattle.saying.specs.Order.{item_there}
use Rattle.saying.specs.Known.{unknown_both, class_at, of_library, fresh_more, library_row_lem, other_library}

-- ---- lookups among entries

apart : {A : Type 0} → true ≡ false → A
apart e = absurd (let z : ◌≡◌ {A = ℕ} 0 1 = cc in omega arith)

known_either : {P : Type 0} (i : ℕ) (es fs : List Entry) → (known i es ≡ true → P) → (known i fs ≡ true → P) → known i (es ++ fs) ≡ true → P
known_either i [] fs a b e = b e
known_either i (a_class j r ts ∷ es) fs a b e = known_either i es fs a b e
known_either i (another j ∷ es) fs a b e = known_either i es fs a b e
known_either {P} i (a_library j ∷ es) fs a b e = go (eqb j i) a e (λ f. known_either i es fs f b)
  where
    go : (t : Bool) → (pick t true (known i es) ≡ true → P) → pick t true (known i (es ++ fs)) ≡ true → ((known i es ≡ true → P) → known i (es ++ fs) ≡ true → P) → P
    go true a e h = a refl
    go false a e h = h a e

-- an ObjectId that is not used after more entries was not used before, nor by them
unused_both : (i : ℕ) (es fs : List Entry) → used i (es ++ fs) ≡ false → (used i es ≡ false) × (used i fs ≡ false)
unused_both i [] fs e = (refl, e)
unused_both i (a_class j r ts ∷ es) fs e = go (eqb j i) e (unused_both i es fs)
  where
    go : (t : Bool) → pick t true (used i (es ++ fs)) ≡ false → (used i (es ++ fs) ≡ false → (used i es ≡ false) × (used i fs ≡ false))
        → (pick t true (used i es) ≡ false) × (used i fs ≡ false)
    go true e h = apart e
    go false e h = h e
unused_both i (another j ∷ es) fs e = go (eqb j i) e (unused_both i es fs)
  where
    go : (t : Bool) → pick t true (used i (es ++ fs)) ≡ false → (used i (es ++ fs) ≡ false → (used i es ≡ false) × (used i fs ≡ false))
        → (pick t true (used i es) ≡ false) × (used i fs ≡ false)
    go true e h = apart e
    go false e h = h e
unused_both i (a_library j ∷ es) fs e = unused_both i es fs e

class_either : {P : Type 0} (k r : ℕ) (ts : List SlotType) (es fs : List Entry) → (class_of k es ≡ classed r ts → P) → (class_of k fs ≡ classed r ts → P)
    → class_of k (es ++ fs) ≡ classed r ts → P
class_either k r ts [] fs a b e = b e
class_either {P} k r ts (a_class j q us ∷ es) fs a b e = go (eqb j k) a e (λ f. class_either k r ts es fs f b)
  where
    go : (t : Bool) → (pick t (classed q us) (class_of k es) ≡ classed r ts → P) → pick t (classed q us) (class_of k (es ++ fs)) ≡ classed r ts
        → ((class_of k es ≡ classed r ts → P) → class_of k (es ++ fs) ≡ classed r ts → P) → P
    go true a e h = a e
    go false a e h = h a e
class_either k r ts (another j ∷ es) fs a b e = class_either k r ts es fs a b e
class_either k r ts (a_library j ∷ es) fs a b e = class_either k r ts es fs a b e

-- ---- what is known by both

module _ (τ : Terms) (s : List ℕ) (table : List Row) (name : ℕ → List ℕ) (of : ℕ → Class) where
  -- the class of the object k, which has the row before r
  pub record Same (k r : ℕ) (ts : List SlotType) : Type 0 where
    pub class_is : class_at τ s table r ≡ of k
    pub slots_are : slots_of (of k).members ≡ ts

  -- after so many rows, with this known and these records left
  pub record Agrees (row : ℕ) (es : List Entry) (rs : List Rec) : Type 0 where
    pub fresh : (i : ℕ) → known i es ≡ false → find_from (of_library τ s table i) 0 (take row table) ≡ 0
    pub names : (l : ℕ) → known l es ≡ true → library_name s table l ≡ name l
    pub name_later : (i : ℕ) → known i es ≡ false → name i ≡ found [] i (libraries_of rs)
    pub classes : (k r : ℕ) (ts : List SlotType) → class_of k es ≡ classed r ts → Same k r ts
    pub class_later : (i : ℕ) → used i es ≡ false → of i ≡ found no_class i (classes_of name rs)

  module _ {r : Rec} {rs : List Rec} {es : List Entry} (is : List Row) (w : Row) (row : ℕ) (e : drop row table ≡ w ∷ is) (g : Agrees row es (r ∷ rs)) where
    -- a record that is no object and no library
    pub agrees_same : eqb w.kind 12 ≡ false → library_of r ≡ [] → own_class name r ≡ [] → Agrees (suc row) es rs
    unfolding libraries_of classes_of
    agrees_same n a b =
        record {
          fresh = λ i h. fresh_more τ s table is w row e i (rw n) (g.fresh i h);
          names = g.names;
          name_later = λ i h. g.name_later i h ∙ ap (λ (l : List (ℕ × List ℕ)). found [] i (l ++ libraries_of rs)) a;
          classes = g.classes;
          class_later = λ i h. g.class_later i h ∙ ap (λ (l : List (ℕ × Class)). found no_class i (l ++ classes_of name rs)) b;
        }

    agrees_entry : (x : Entry) → ((i : ℕ) → known i (x ∷ []) ≡ false → of_library τ s table i w ≡ false)
        → ((l : ℕ) → known l (x ∷ []) ≡ true → library_name s table l ≡ name l)
        → ((i : ℕ) → known i (x ∷ []) ≡ false → found [] i (library_of r ++ libraries_of rs) ≡ found [] i (libraries_of rs))
        → ((k c : ℕ) (ts : List SlotType) → class_of k (x ∷ []) ≡ classed c ts → Same k c ts)
        → ((i : ℕ) → used i (x ∷ []) ≡ false → found no_class i (own_class name r ++ classes_of name rs) ≡ found no_class i (classes_of name rs))
        → Agrees (suc row) (es ++ (x ∷ [])) rs
    unfolding libraries_of classes_of
    agrees_entry x a b c d f =
        record {
          fresh = λ i h.
              let u = unknown_both i es (x ∷ []) h in
              fresh_more τ s table is w row e i (a i u.1) (g.fresh i u.0);
          names = λ l h. known_either l es (x ∷ []) (g.names l) (b l) h;
          name_later = λ i h.
              let u = unknown_both i es (x ∷ []) h in
              g.name_later i u.0 ∙ c i u.1;
          classes = λ k q ts h. class_either k q ts es (x ∷ []) (g.classes k q ts) (d k q ts) h;
          class_later = λ i h.
              let u = unused_both i es (x ∷ []) h in
              g.class_later i u.0 ∙ f i u.1;
        }

    no_class_holds : {A : Type 0} {c : ℕ} {ts : List SlotType} → unknown ≡ classed c ts → A
    no_class_holds h = absurd (let z : ◌≡◌ {A = ℕ} 0 1 = cc in omega arith)

    -- an object that is no record of kind 4 or 5
    pub agrees_another : (j : ℕ) → eqb w.kind 12 ≡ false → library_of r ≡ [] → own_class name r ≡ [] → Agrees (suc row) (es ++ (another j ∷ [])) rs
    agrees_another j n a b =
        agrees_entry (another j) (λ i h. rw n) (λ l h. apart (sym h)) (λ i h. ap (λ (l : List (ℕ × List ℕ)). found [] i (l ++ libraries_of rs)) a)
        (λ k c ts h. no_class_holds h) (λ i h. ap (λ (l : List (ℕ × Class)). found no_class i (l ++ classes_of name rs)) b)

    -- a record of kind 4 or 5
    pub agrees_class : (j : ℕ) (us : List SlotType) (c : Class) → eqb w.kind 12 ≡ false → library_of r ≡ [] → own_class name r ≡ (j, c) ∷ []
        → used j es ≡ false → class_from τ.book s table w ≡ c → slots_of c.members ≡ us → Agrees (suc row) (es ++ (a_class j (suc row) us ∷ [])) rs
    unfolding found classes_of
    agrees_class j us c n a b f q l =
        agrees_entry (a_class j (suc row) us) (λ i h. rw n) (λ l h. apart (sym h)) (λ i h. ap (λ (l : List (ℕ × List ℕ)). found [] i (l ++ libraries_of rs)) a)
        (λ k m ts h. mine k m ts (eqb j k) refl h)
        (λ i h. ap (λ (l : List (ℕ × Class)). found no_class i (l ++ classes_of name rs)) b ∙ skipped i (eqb j i) h)
      where
        skipped : (i : ℕ) (t : Bool) → pick t true false ≡ false → pick t c (found no_class i (classes_of name rs)) ≡ found no_class i (classes_of name rs)
        skipped i true h = apart h
        skipped i false h = refl

        of_it : of j ≡ c
        of_it =
            g.class_later j f
            ∙ (ap (λ (l : List (ℕ × Class)). found no_class j (l ++ classes_of name rs)) b
            ∙ ap (λ (t : Bool). pick t c (found no_class j (classes_of name rs))) (eq-eqb j j refl))

        at_it : class_at τ s table (suc row) ≡ c
        at_it =
            let z : suc row - 1 ≡ row = omega arith in
            ap (λ (k : ℕ). class_from τ.book s table (get_or table k blank)) z ∙ (ap (class_from τ.book s table) (item_there table is w row e blank) ∙ q)

        it : Same j (suc row) us
        it = record { class_is = at_it ∙ sym of_it; slots_are = ap (λ (d : Class). slots_of d.members) of_it ∙ l }

        mine : (k m : ℕ) (ts : List SlotType) (t : Bool) → eqb j k ≡ t → pick t (classed (suc row) us) unknown ≡ classed m ts → Same k m ts
        mine k m ts true p h =
            let x : suc row ≡ m = cc in
            let y : us ≡ ts = cc in
            subst (λ (k : ℕ). Same k m ts) (eqb-true j k p) (subst (λ (v : List SlotType). Same j m v) y (subst (λ (n : ℕ). Same j n us) x it))
        mine k m ts false p h = no_class_holds h

    pub agrees_library : (j : ℕ) (n : List ℕ) → w.kind ≡ 12 → w.id ≡ j → known j es ≡ false → library_of r ≡ (j, n) ∷ [] → own_class name r ≡ []
        → text_from s (w.offset + 5) ≡ n → Agrees (suc row) (es ++ (a_library j ∷ [])) rs
    unfolding found libraries_of library_name
    agrees_library j n k q f a b t =
        agrees_entry (a_library j) (λ i h. other_library τ s table is w row e i j k q h) (λ l h. mine l (eqb j l) refl h)
        (λ i h. ap (λ (l : List (ℕ × List ℕ)). found [] i (l ++ libraries_of rs)) a ∙ skipped i (eqb j i) h) (λ k c ts h. no_class_holds h)
        (λ i h. ap (λ (l : List (ℕ × Class)). found no_class i (l ++ classes_of name rs)) b)
      where
        skipped : (i : ℕ) (t : Bool) → pick t true false ≡ false → pick t n (found [] i (libraries_of rs)) ≡ found [] i (libraries_of rs)
        skipped i true h = apart h
        skipped i false h = refl

        named_it : name j ≡ n
        named_it =
            g.name_later j f
            ∙ (ap (λ (l : List (ℕ × List ℕ)). found [] j (l ++ libraries_of rs)) a
            ∙ ap (λ (t : Bool). pick t n (found [] j (libraries_of rs))) (eq-eqb j j refl))

        at_it : library_name s table j ≡ n
        at_it =
            let z : suc row - 1 ≡ row = omega arith in
            rw (library_row_lem τ s table is w row e j k q (g.fresh j f), z, item_there table is w row e blank) t

        mine : (l : ℕ) (t : Bool) → eqb j l ≡ t → pick t true false ≡ true → library_name s table l ≡ name l
        mine l true p h = subst (λ (l : ℕ). library_name s table l ≡ name l) (eqb-true j l p) (at_it ∙ sym named_it)
        mine l false p h = apart (sym h)

  -- ---- the names that a record uses

  module _ {row : ℕ} {es : List Entry} {rs : List Rec} (g : Agrees row es rs) where
    pub detail_same : (d : Detail Prefixed ℕ) → GoodDetail τ es d → named (library_name s table) d ≡ named name d
    detail_same (primitive c) h = refl
    detail_same text h = refl
    detail_same object h = refl
    detail_same (system n) h = refl
    detail_same (class n l) h = ap (class n.text) (g.names l h.1.there)
    detail_same objects h = refl
    detail_same texts h = refl
    detail_same (primitives c) h = refl

    members_same : {ms : List (Member Prefixed ℕ)} → Members τ es ms → named_all (library_name s table) ms ≡ named_all name ms
    members_same no_more = refl
    members_same (member {m = m} n h hs) = rw (detail_same m.type h, members_same hs)

    pub class_same : (n : List ℕ) (from : From) (ms : List (Member Prefixed ℕ)) → Members τ es ms → class_of_all (library_name s table) n from ms ≡ class_of_all name n from ms
    class_same n from ms h = rw (members_same h)

pub length_typed : (ms : List (Member Prefixed ℕ)) → length ms ≡ length (types_of ms)
length_typed [] = refl
length_typed (m ∷ ms) = ap suc (length_typed ms)
