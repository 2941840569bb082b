-- What earlier records let later ones name: classes that are good with the types of their slots, and libraries by their names.
use Prim.Native.Nat.{ℕ, suc, ◌+◌, ◌-◌}
use Rattle.std.specs.Prelude.{◌≡◌, refl, Bool, ◌&&◌, get_or, take, drop, eqb}
use Rattle.std.proofs.Common.{sym, subst, ◌∙◌, take-append-drop, eqb-true, eq-eqb}
use Rattle.std.proofs.Math.Path.{ap}
use Rattle.std.proofs.Math.Bool.{true, false}
use mathlib.Core.List.{List, [], ◌∷◌, ◌++◌}
use native.Mathlib.Omega.{arith}
use Rattle.std.proofs.Math.ListN.{length}
use Rattle.std.proofs.Math.Seq.{length-take-le}
use Rattle.format.specs.Terms.{Terms}
use Rattle.format.specs.declared.SlotType.{SlotType}
use Rattle.format.specs.declared.Row.{Row}
use Rattle.format.specs.Bytes.{pick}
use Rattle.format.specs.Rows.{blank, find_from, library_row}
use Rattle.format.specs.Contents.{Prefixed, Detail, primitive, text, object, system, class, objects, texts, primitives, Member, From, Class}
use Rattle.format.specs.Says.{text_from, library_name, class_from}
use Rattle.format.specs.Grammar.{Characters, Entry, a_class, another, a_library, known, classed, class_of, GoodDetail, Members, no_more, member, ClassInfo}
use Rattle.format.specs.Meant.{named, named_all, class_of_all}
use Rattle.saying.specs.Good.{GoodType, GoodMembers, GoodFrom, GoodClass, slots_of}
use Rattle.saying.specs.Good as G
use Rattle.saying.specs.Order.{place_inside, item_there, taken_more}

-- ---- lookups among entries

-- a library that is not known after more entries was not known before, nor by them
pub unknown_both : (i : ℕ) (es fs : List Entry) → known i (es ++ fs) ≡ false → (known i es ≡ false) × (known i fs ≡ false)
unknown_both i [] fs e = (refl, e)
unknown_both i (a_class j r ts ∷ es) fs e = unknown_both i es fs e
unknown_both i (another j ∷ es) fs e = unknown_both i es fs e
unknown_both i (a_library j ∷ es) fs e = go (eqb j i) e (unknown_both i es fs)
  where
    go : (t : Bool) → pick t true (known i (es ++ fs)) ≡ false → (known i (es ++ fs) ≡ false → (known i es ≡ false) × (known i fs ≡ false))
        → (pick t true (known i es) ≡ false) × (known i fs ≡ false)
    go true e h = absurd (let z : ◌≡◌ {A = ℕ} 0 1 = cc in omega arith)
    go false e h = h e

module _ (τ : Terms) (s : List ℕ) (rows : List Row) where
  -- the class in the row before this number
  abbrev pub class_at : ℕ → Class
  class_at row = class_from τ.book s rows (get_or rows (row - 1) blank)

  pub record ClassAt (row : ℕ) (ts : List SlotType) : Type 0 where
    pub good : GoodClass (class_at row)
    pub slots : slots_of (class_at row).members ≡ ts

  abbrev GoodEntry : Entry → Type 0
  GoodEntry (a_class i row ts) = ClassAt row ts
  GoodEntry (another i) = Unit {0}
  GoodEntry (a_library i) = Characters (library_name s rows i)

  pub data GoodEntries : List Entry → Type 0 where
    no_entry : GoodEntries []
    an_entry : {e : Entry} {es : List Entry} → GoodEntry e → GoodEntries es → GoodEntries (e ∷ es)

  pub entries_more : {es : List Entry} (e : Entry) → GoodEntries es → GoodEntry e → GoodEntries (es ++ (e ∷ []))
  entries_more e no_entry g = an_entry g no_entry
  entries_more e (an_entry {e = d} h w) g = an_entry {e = d} h (entries_more e w g)

  pub library_known : (l : ℕ) (es : List Entry) → GoodEntries es → known l es ≡ true → Characters (library_name s rows l)
  library_known l [] w e = absurd (let z : ◌≡◌ {A = ℕ} 0 1 = cc in omega arith)
  library_known l (a_class i r ts ∷ es) (an_entry g w) e = library_known l es w e
  library_known l (another i ∷ es) (an_entry g w) e = library_known l es w e
  library_known l (a_library i ∷ es) (an_entry g w) e = go (eqb i l) refl e (library_known l es w)
    where
      go : (t : Bool) → eqb i l ≡ t → pick t true (known l es) ≡ true → (known l es ≡ true → Characters (library_name s rows l)) → Characters (library_name s rows l)
      go true q e h = subst (λ (k : ℕ). Characters (library_name s rows k)) (eqb-true i l q) g
      go false q e h = h e

  pub class_known : (k row : ℕ) (ts : List SlotType) (es : List Entry) → GoodEntries es → class_of k es ≡ classed row ts → ClassAt row ts
  class_known k row ts [] w e = absurd (let z : ◌≡◌ {A = ℕ} 0 1 = cc in omega arith)
  class_known k row ts (a_class i r us ∷ es) (an_entry g w) e = go (eqb i k) e (class_known k row ts es w)
    where
      go : (t : Bool) → pick t (classed r us) (class_of k es) ≡ classed row ts → (class_of k es ≡ classed row ts → ClassAt row ts) → ClassAt row ts
      go true e h =
          let a : r ≡ row = cc in
          let b : us ≡ ts = cc in
          subst (λ (x : ℕ). ClassAt x ts) a (subst (λ (x : List SlotType). ClassAt r x) b g)
      go false e h = h e
  class_known k row ts (another i ∷ es) (an_entry g w) e = class_known k row ts es w e
  class_known k row ts (a_library i ∷ es) (an_entry g w) e = class_known k row ts es w e

  -- ---- classes whose libraries are known are good

  module _ (es : List Entry) (w : GoodEntries es) where
    pub type_good : (d : Detail Prefixed ℕ) → GoodDetail τ es d → GoodType (named (library_name s rows) d)
    type_good (primitive c) g = tt
    type_good text g = tt
    type_good object g = tt
    type_good (system n) g = g.characters
    type_good (class n l) g = (g.0.characters, library_known l es w g.1.there)
    type_good objects g = tt
    type_good texts g = tt
    type_good (primitives c) g = tt

    members_good : {ms : List (Member Prefixed ℕ)} → Members τ es ms → GoodMembers (named_all (library_name s rows) ms)
    members_good no_more = G.no_more
    members_good (member {m = m} n g gs) = G.member n.characters (type_good m.type g) (members_good gs)

    pub class_good : (n : Prefixed) (from : From) (ms : List (Member Prefixed ℕ)) → ClassInfo τ es n ms → GoodFrom from
        → GoodClass (class_of_all (library_name s rows) n.text from ms)
    class_good n from ms g f =
        let l : length (named_all (library_name s rows) ms) ≡ length ms = length_named ms in
        let h = g.counted in
        record { named = g.named.characters; from = f; counted = omega arith; members = members_good g.members }
      where
        length_named : (ms : List (Member Prefixed ℕ)) → length (named_all (library_name s rows) ms) ≡ length ms
        length_named [] = refl
        length_named (m ∷ ms) = ap suc (length_named ms)

  -- ---- the rows of libraries

  abbrev pub of_library : ℕ → Row → Bool
  of_library i r = eqb r.kind 12 && eqb r.id i

  -- what is known after so many rows: a library that is not known is in none of them
  pub record Knows (row : ℕ) (es : List Entry) : Type 0 where
    pub good : GoodEntries es
    pub fresh : (i : ℕ) → known i es ≡ false → find_from (of_library i) 0 (take row rows) ≡ 0

  find_more : (p : Row → Bool) (k : ℕ) (xs ys : List Row) → find_from p k xs ≡ 0 → find_from p k (xs ++ ys) ≡ find_from p (k + length xs) ys
  unfolding find_from
  find_more p k [] ys e = ap (λ (n : ℕ). find_from p n ys) (omega arith)
  find_more p k (r ∷ xs) ys e = go (p r) e (find_more p (k + 1) xs ys)
    where
      go : (t : Bool) → pick t (k + 1) (find_from p (k + 1) xs) ≡ 0
          → (find_from p (k + 1) xs ≡ 0 → find_from p (k + 1) (xs ++ ys) ≡ find_from p (k + 1 + length xs) ys)
          → pick t (k + 1) (find_from p (k + 1) (xs ++ ys)) ≡ find_from p (k + suc (length xs)) ys
      go true e h = absurd (omega arith)
      go false e h = h e ∙ ap (λ (n : ℕ). find_from p n ys) (omega arith)

  module _ (is : List Row) (w : Row) (row : ℕ) (e : drop row rows ≡ w ∷ is) where
    pub fresh_more : (i : ℕ) → of_library i w ≡ false → find_from (of_library i) 0 (take row rows) ≡ 0 → find_from (of_library i) 0 (take (suc row) rows) ≡ 0
    unfolding find_from
    fresh_more i n h = rw (taken_more rows is w row e, find_more (of_library i) 0 (take row rows) (w ∷ []) h, n)

    -- one row more that is no library
    pub knows_same : {es : List Entry} → eqb w.kind 12 ≡ false → Knows row es → Knows (suc row) es
    knows_same n g = record { good = g.good; fresh = λ i h. fresh_more i (rw n) (g.fresh i h) }

    knows_entry : {es : List Entry} (x : Entry) → GoodEntry x → ((i : ℕ) → known i (x ∷ []) ≡ false → of_library i w ≡ false) → Knows row es
        → Knows (suc row) (es ++ (x ∷ []))
    knows_entry {es} x q n g =
        record {
          good = entries_more x g.good q;
          fresh = λ i h.
              let b = unknown_both i es (x ∷ []) h in
              fresh_more i (n i b.1) (g.fresh i b.0);
        }

    pub knows_another : {es : List Entry} (j : ℕ) → eqb w.kind 12 ≡ false → Knows row es → Knows (suc row) (es ++ (another j ∷ []))
    knows_another j n = knows_entry (another j) tt (λ i h. rw n)

    pub knows_class : {es : List Entry} (j r : ℕ) (ts : List SlotType) → eqb w.kind 12 ≡ false → ClassAt r ts → Knows row es
        → Knows (suc row) (es ++ (a_class j r ts ∷ []))
    knows_class j r ts n q = knows_entry (a_class j r ts) q (λ i h. rw n)

    -- a library's row is the first of its number
    pub library_row_lem : (j : ℕ) → w.kind ≡ 12 → w.id ≡ j → find_from (of_library j) 0 (take row rows) ≡ 0 → library_row j rows ≡ suc row
    unfolding library_row find_from
    library_row_lem j k q n =
        let p = of_library j in
        let l : length (take row rows) ≡ row = length-take-le row rows (omega (arith, place_inside rows is w row e)) in
        let a = find_more p 0 (take row rows) (drop row rows) n in
        let h : p w ≡ true = rw (k, q) (eq-eqb j j refl) in
        let b : find_from p (0 + length (take row rows)) (drop row rows) ≡ suc row = rw (e, h) (omega arith) in
        ap (find_from p 0) (sym (take-append-drop row rows)) ∙ (a ∙ b)

    -- the row of one library is no other's
    pub other_library : (i j : ℕ) → w.kind ≡ 12 → w.id ≡ j → known i (a_library j ∷ []) ≡ false → of_library i w ≡ false
    other_library i j k q f = rw (k, q) (go (eqb j i) f)
      where
        go : (t : Bool) → pick t true false ≡ false → t ≡ false
        go true e = absurd (let z : ◌≡◌ {A = ℕ} 0 1 = cc in omega arith)
        go false e = refl

    module _ {es : List Entry} (j : ℕ) (k : w.kind ≡ 12) (q : w.id ≡ j) (n : known j es ≡ false) (g : Knows row es) where
      pub knows_library : Characters (text_from s (w.offset + 5)) → Knows (suc row) (es ++ (a_library j ∷ []))
      unfolding library_name
      knows_library h =
          let z : suc row - 1 ≡ row = omega arith in
          knows_entry (a_library j) (rw (library_row_lem j k q (g.fresh j n), z, item_there rows is w row e blank) h) (λ i f. other_library i j k q f) g
