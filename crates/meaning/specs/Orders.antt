-- Objects and classes by number: what was written before each row. Objects count in the order of their rows; a class has the number of its
-- first object; libraries come in the order in which the rows before need them.
use Prim.Native.Nat.{ℕ, zero, suc, ◌+◌, ◌-◌, ◌≤◌, ◌<◌}
use Rattle.std.specs.Prelude.{◌≡◌, Bool, ◌&&◌, ◌||◌, get_or, take, drop, leb}
use Rattle.std.proofs.Math.Path.{refl, sym, ap}
use Rattle.std.proofs.Common.{subst, ◌∙◌, take-suc, take-add, eqb-true, eq-eqb, ne_eqb, le-leb, leb-true, leb-false}
use Rattle.std.proofs.Math.Bool.{true, false}
use mathlib.Core.List.{List, [], ◌∷◌, ◌++◌}
use native.Mathlib.Omega.{arith}
use Rattle.std.proofs.Math.ListN.{length}
use Rattle.std.proofs.Math.Dec.{eqb}
use Rattle.std.proofs.lemmas.Bool.{eqb-false, lt-leb}
use Rattle.format.specs.Terms.{Terms}
use Rattle.format.specs.declared.Row.{Row}
use Rattle.format.specs.Bytes.{pick}
use Rattle.format.specs.Rows.{blank, is_object, is_class, find_from}
use Rattle.format.specs.Contents.{Class}
use Rattle.format.specs.Says.{What, an_object, a_string, a_primitive, a_reference, a_primitive_array, an_object_array, a_string_array, a_value, node, text_from, code_from, detail_from, class_from, array_from, objects_in, order_of, what_from, spread, is_nulls, is_silent, nodes_of, content_from, items_from, value_code}
use Rattle.format.specs.Tidy.{same_class, number_in, Progress, nothing, all_entered, detail_needs, class_needs, after_object, counted, after_what}
use Rattle.lookups.specs.Find.{find_hit}
use Rattle.laws.specs.Tests.{both_of, differ, either, neither}
use Rattle.laws.specs.Kinds.{class_kind, class_is_object}
use Rattle.laws.specs.Orders.{objects_append, order_next}
use Rattle.marks.specs.Marks.{item_type}
use Rattle.meaning.specs.Stands.{RowStands, the_header, by_id, a_class_rule, a_string_rule, an_array_rule, a_primitive_rule, a_reference_rule, nulls, the_end, a_library_rule, primitives, objects, texts, a_value_rule, Stands}
use Rattle.meaning.specs.Marked.{class_first}

-- ---- orders of objects

module _ (rows : List Row) where
  pub order_object : (i : ℕ) → i < length rows → is_object (get_or rows i blank).kind ≡ true → order_of rows (suc i) ≡ suc (order_of rows i)
  order_object i h o =
      let e : order_of rows (suc i) ≡ order_of rows i + 1 = order_next rows i h ∙ ap (λ (t : Bool). order_of rows i + pick t 1 0) o in
      omega arith

  pub order_le : (i j : ℕ) → i ≤ j → order_of rows i ≤ order_of rows j
  unfolding order_of
  order_le i j h =
      let a : i + (j - i) ≡ j = omega arith in
      let e : objects_in (take j rows) ≡ objects_in (take i rows) + objects_in (take (j - i) (drop i rows)) =
      ap (λ (n : ℕ). objects_in (take n rows)) (sym a) ∙ (ap objects_in (take-add i (j - i) rows) ∙ objects_append (take i rows) (take (j - i) (drop i rows))) in
      omega arith

-- ---- nodes of a row

module _ (β s : List ℕ) (rows : List Row) (r : Row) where
  pub nodes_silent : is_silent r.kind ≡ true → nodes_of β s rows r ≡ []
  unfolding nodes_of
  nodes_silent e = rw e

  pub nodes_nulls : is_silent r.kind ≡ false → is_nulls r.kind ≡ true → nodes_of β s rows r ≡ spread r.count (order_of rows r.owner) r.slot
  unfolding nodes_of
  nodes_nulls e f = rw (e, f)

  pub nodes_one : is_silent r.kind ≡ false → is_nulls r.kind ≡ false → nodes_of β s rows r ≡ node (what_from β s rows r) (order_of rows r.owner) r.slot ∷ []
  unfolding nodes_of
  nodes_one e f = rw (e, f)

  -- what a row says if its kind is k
  abbrev pub what_as : ℕ → What
  what_as k =
      pick (eqb k 1) (an_object (class_from β s rows (get_or rows (r.link - 1) blank)))
      (pick (eqb k 4) (an_object (class_from β s rows r))
      (pick (eqb k 5) (an_object (class_from β s rows r))
      (pick (eqb k 6) (a_string (text_from s (r.offset + 5)))
      (pick (eqb k 7) (array_from s rows r)
      (pick (eqb k 8) (a_primitive (code_from s (r.offset + 1)) (content_from s (code_from s (r.offset + 1)) (r.offset + 2)))
      (pick (eqb k 9) (a_reference (order_of rows r.link))
      (pick (eqb k 15) (a_primitive_array r.count (code_from s (r.offset + 9)) (items_from s (code_from s (r.offset + 9)) r.count (r.offset + 10)))
      (pick (eqb k 16) (an_object_array r.count)
      (pick (eqb k 17) (a_string_array r.count)
      (a_value (value_code β s rows r) (content_from s (value_code β s rows r) r.offset)))))))))))

  pub what_as_lem : (k : ℕ) → r.kind ≡ k → what_from β s rows r ≡ what_as k
  unfolding what_from
  what_as_lem k e = ap what_as e

-- ---- what was written once these rows were

module _ (β s : List ℕ) (rows : List Row) where
  -- silent rows and nulls leave what was written
  unfoldable pub after_row : Progress → Row → Progress
  after_row w r = pick (is_silent r.kind) w (pick (is_nulls r.kind) w (after_what w (what_from β s rows r)))

  unfoldable pub after_rows : Progress → List Row → Progress
  after_rows w [] = w
  after_rows w (r ∷ rs) = after_rows (after_row w r) rs

  -- before row i
  unfoldable pub progress_to : ℕ → Progress
  progress_to i = after_rows nothing (take i rows)

  -- the three sorts of rows
  pub after_silent : (w : Progress) (r : Row) → is_silent r.kind ≡ true → after_row w r ≡ w
  unfolding after_row
  after_silent w r e = rw e

  pub after_run : (w : Progress) (r : Row) → is_silent r.kind ≡ false → is_nulls r.kind ≡ true → after_row w r ≡ w
  unfolding after_row
  after_run w r e f = rw (e, f)

  pub after_said : (w : Progress) (r : Row) → is_silent r.kind ≡ false → is_nulls r.kind ≡ false → after_row w r ≡ after_what w (what_from β s rows r)
  unfolding after_row
  after_said w r e f = rw (e, f)

  after_last : (w : Progress) (a : List Row) (r : Row) → after_rows w (a ++ (r ∷ [])) ≡ after_row (after_rows w a) r
  unfolding after_rows
  after_last w [] r = refl
  after_last w (x ∷ a) r = after_last (after_row w x) a r

  pub progress_none : progress_to 0 ≡ nothing
  unfolding progress_to after_rows
  progress_none = refl

  pub progress_next : (i : ℕ) → i < length rows → progress_to (suc i) ≡ after_row (progress_to i) (get_or rows i blank)
  unfolding progress_to
  progress_next i h = ap (after_rows nothing) (take-suc rows i blank h) ∙ after_last nothing (take i rows) (get_or rows i blank)

pub said_other : (k : ℕ) → is_silent k ≡ false → eqb k 12 ≡ false
said_other k e = either (eqb k 12) (λ a. differ (sym (ap is_silent (eqb-true k 12 a)) ∙ e)) (λ a. a)

-- ---- what a row adds

-- the libraries that the item type of a BinaryArray names
unfoldable pub item_needs : List ℕ → List Row → Row → List (List ℕ)
item_needs s rows r = detail_needs (detail_from s rows (get_or s (item_type s r) 0) (item_type s r + 1))

-- row i is the first of its class
abbrev pub is_new : List ℕ → List ℕ → List Row → ℕ → Row → Bool
is_new β s rows i r = pick (is_class r.kind) (eqb (class_first β s rows (class_from β s rows r)) (i + 1)) false

-- the libraries that row i needs
unfoldable pub row_needs : List ℕ → List ℕ → List Row → ℕ → Row → List (List ℕ)
row_needs β s rows i r = pick (is_new β s rows i r) (class_needs (class_from β s rows r)) (pick (eqb r.kind 7) (item_needs s rows r) [])

-- a row's kind, and what was written after it
pub data Adds (β s : List ℕ) (rows : List Row) (w : Progress) (r : Row) : Type 0 where
  of_class_row : r.kind ≡ 1 → after_row β s rows w r ≡ after_what w (an_object (class_from β s rows (get_or rows (r.link - 1) blank))) → Adds β s rows w r
  of_own_class : is_class r.kind ≡ true → after_row β s rows w r ≡ after_what w (an_object (class_from β s rows r)) → Adds β s rows w r
  of_items : r.kind ≡ 7
      → after_row β s rows w r ≡ record { count = suc w.count; classes = w.classes; libraries = all_entered (item_needs s rows r) w.libraries }
      → Adds β s rows w r
  of_no_class : is_object r.kind ≡ true → is_class r.kind ≡ false → eqb r.kind 7 ≡ false → after_row β s rows w r ≡ counted w → Adds β s rows w r
  no_object : is_object r.kind ≡ false → after_row β s rows w r ≡ w → Adds β s rows w r

module _ (β s : List ℕ) (rows : List Row) (w : Progress) (r : Row) where
  abbrev after_as : ℕ → Progress
  after_as k = pick (is_silent k) w (pick (is_nulls k) w (after_what w (what_as β s rows r k)))

  after_as_lem : (k : ℕ) → r.kind ≡ k → after_row β s rows w r ≡ after_as k
  unfolding after_row what_from
  after_as_lem k e = ap after_as e

  own_class_rule : (k : ℕ) → r.kind ≡ k → is_class k ≡ true → after_as k ≡ after_what w (an_object (class_from β s rows r)) → Adds β s rows w r
  own_class_rule k e f g = of_own_class (ap is_class e ∙ f) (after_as_lem k e ∙ g)

  no_class_holds : (k : ℕ) → r.kind ≡ k → is_object k ≡ true → is_class k ≡ false → eqb k 7 ≡ false → after_as k ≡ counted w → Adds β s rows w r
  no_class_holds k e a b c g = of_no_class (ap is_object e ∙ a) (ap is_class e ∙ b) (ap (λ (n : ℕ). eqb n 7) e ∙ c) (after_as_lem k e ∙ g)

  none_after : is_object r.kind ≡ false → after_row β s rows w r ≡ w
  unfolding after_row what_from after_what
  none_after e =
      let k = r.kind in
      let a = neither (eqb k 1) (eqb k 4 || (eqb k 5 || (eqb k 6 || (eqb k 7 || (eqb k 15 || (eqb k 16 || eqb k 17)))))) e in
      let b = neither (eqb k 4) (eqb k 5 || (eqb k 6 || (eqb k 7 || (eqb k 15 || (eqb k 16 || eqb k 17))))) a.1 in
      let c = neither (eqb k 5) (eqb k 6 || (eqb k 7 || (eqb k 15 || (eqb k 16 || eqb k 17)))) b.1 in
      let d = neither (eqb k 6) (eqb k 7 || (eqb k 15 || (eqb k 16 || eqb k 17))) c.1 in
      let f = neither (eqb k 7) (eqb k 15 || (eqb k 16 || eqb k 17)) d.1 in
      let g = neither (eqb k 15) (eqb k 16 || eqb k 17) f.1 in
      let h = neither (eqb k 16) (eqb k 17) g.1 in
      rw (a.0, b.0, c.0, d.0, f.0, g.0, h.0, h.1) (go (is_silent k) (is_nulls k) (eqb k 8) (eqb k 9))
    where
      go : (p q x y : Bool)
          → pick p w (pick q w (after_what w
          (pick x (a_primitive (code_from s (r.offset + 1)) (content_from s (code_from s (r.offset + 1)) (r.offset + 2)))
          (pick y (a_reference (order_of rows r.link)) (a_value (value_code β s rows r) (content_from s (value_code β s rows r) r.offset)))))) ≡ w
      go true q x y = refl
      go false true x y = refl
      go false false true y = refl
      go false false false true = refl
      go false false false false = refl

  pub adds : Adds β s rows w r
  unfolding after_what array_from item_needs item_type
  adds =
      let k = r.kind in
      either (eqb k 1) (λ e. of_class_row (eqb-true k 1 e) (after_as_lem 1 (eqb-true k 1 e)))
      (λ a. either (eqb k 4) (λ e. own_class_rule 4 (eqb-true k 4 e) refl refl)
      (λ b. either (eqb k 5) (λ e. own_class_rule 5 (eqb-true k 5 e) refl refl)
      (λ c. either (eqb k 6) (λ e. no_class_holds 6 (eqb-true k 6 e) refl refl refl refl)
      (λ d. either (eqb k 7) (λ e. of_items (eqb-true k 7 e) (after_as_lem 7 (eqb-true k 7 e)))
      (λ f. either (eqb k 15) (λ e. no_class_holds 15 (eqb-true k 15 e) refl refl refl refl)
      (λ g. either (eqb k 16) (λ e. no_class_holds 16 (eqb-true k 16 e) refl refl refl refl)
      (λ h. either (eqb k 17) (λ e. no_class_holds 17 (eqb-true k 17 e) refl refl refl refl)
      (λ i. let z : is_object k ≡ false = rw (a, b, c, d, f, g, h, i) in no_object z (none_after z)))))))))

-- ---- objects are counted

-- a known class enters nothing
pub object_old : (w : Progress) (c : Class) → 0 < number_in (same_class c) w.classes → after_what w (an_object c) ≡ counted w
unfolding after_what
object_old w c h = go (number_in (same_class c) w.classes) h
  where
    go : (n : ℕ) → 0 < n → after_object n w c ≡ counted w
    go zero h = absurd (omega arith)
    go (suc n) h = refl

pub object_new : (w : Progress) (c : Class) → number_in (same_class c) w.classes ≡ 0
    → after_what w (an_object c) ≡ record { count = suc w.count; classes = w.classes ++ ((suc w.count, c) ∷ []); libraries = all_entered (class_needs c) w.libraries }
unfolding after_what
object_new w c e = ap (λ (n : ℕ). after_object n w c) e

object_count : (w : Progress) (c : Class) → (after_what w (an_object c)).count ≡ suc w.count
unfolding after_what
object_count w c = go (number_in (same_class c) w.classes)
  where
    go : (n : ℕ) → (after_object n w c).count ≡ suc w.count
    go zero = refl
    go (suc n) = refl

module _ (β s : List ℕ) (rows : List Row) where
  row_count : (w : Progress) (r : Row) → (after_row β s rows w r).count ≡ w.count + pick (is_object r.kind) 1 0
  row_count w r = go (adds β s rows w r)
    where
      one : (v : Progress) → after_row β s rows w r ≡ v → v.count ≡ suc w.count → is_object r.kind ≡ true
          → (after_row β s rows w r).count ≡ w.count + pick (is_object r.kind) 1 0
      one v e f g =
          let a : w.count + pick (is_object r.kind) 1 0 ≡ w.count + 1 = ap (λ (t : Bool). w.count + pick t 1 0) g in
          ap (λ (x : Progress). x.count) e ∙ omega arith

      go : Adds β s rows w r → (after_row β s rows w r).count ≡ w.count + pick (is_object r.kind) 1 0
      go (of_class_row k e) = one _ e (object_count w (class_from β s rows (get_or rows (r.link - 1) blank))) (ap is_object k)
      go (of_own_class k e) = one _ e (object_count w (class_from β s rows r)) (class_is_object r.kind k)
      go (of_items k e) = one _ e refl (ap is_object k)
      go (of_no_class o c a e) = one _ e refl o
      go (no_object o e) =
          let a : w.count + pick (is_object r.kind) 1 0 ≡ w.count + 0 = ap (λ (t : Bool). w.count + pick t 1 0) o in
          ap (λ (x : Progress). x.count) e ∙ omega arith

  pub progress_count : (i : ℕ) → i ≤ length rows → (progress_to β s rows i).count ≡ order_of rows i
  unfolding order_of objects_in
  progress_count zero h = ap (λ (w : Progress). w.count) (progress_none β s rows)
  progress_count (suc i) h =
      let a : i < length rows = omega arith in
      let e : (progress_to β s rows i).count ≡ order_of rows i = progress_count i (omega arith) in
      let f : (progress_to β s rows (suc i)).count ≡ (progress_to β s rows i).count + pick (is_object (get_or rows i blank).kind) 1 0 =
      ap (λ (w : Progress). w.count) (progress_next β s rows i a) ∙ row_count (progress_to β s rows i) (get_or rows i blank) in
      let g : order_of rows (suc i) ≡ order_of rows i + pick (is_object (get_or rows i blank).kind) 1 0 = order_next rows i a in
      f ∙ (ap (λ (n : ℕ). n + pick (is_object (get_or rows i blank).kind) 1 0) e ∙ sym g)

-- ---- tables that only grow

-- every number is above 0, so that 0 says that nothing passes
pub data Numbered {K : Type 0} : List (ℕ × K) → Type 0 where
  no_entry : Numbered []
  an_entry : (e : ℕ × K) {es : List (ℕ × K)} → 0 < e.0 → Numbered es → Numbered (e ∷ es)

pub numbered_last : {K : Type 0} (n : ℕ) (k : K) {es : List (ℕ × K)} → Numbered es → Numbered (es ++ ((suc n, k) ∷ []))
numbered_last n k no_entry = an_entry (suc n, k) (omega arith) no_entry
numbered_last n k (an_entry e h es) = an_entry e h (numbered_last n k es)

pub number_last : {K : Type 0} (f : K → Bool) (n : ℕ) (k : K) (all : List (ℕ × K)) → Numbered all
    → number_in f (all ++ ((suc n, k) ∷ [])) ≡ pick (eqb (number_in f all) 0) (pick (f k) (suc n) 0) (number_in f all)
unfolding number_in
number_last f n k all no_entry = refl
number_last f n k all (an_entry e {es = es} h t) = go (f e.1) (number_last f n k es t)
  where
    go : (b : Bool) → number_in f (es ++ ((suc n, k) ∷ [])) ≡ pick (eqb (number_in f es) 0) (pick (f k) (suc n) 0) (number_in f es)
        → pick b e.0 (number_in f (es ++ ((suc n, k) ∷ []))) ≡ pick (eqb (pick b e.0 (number_in f es)) 0) (pick (f k) (suc n) 0) (pick b e.0 (number_in f es))
    go true ih = rw (ne_eqb e.0 0 (λ z. omega arith))
    go false ih = ih

-- ---- classes, each by its first row

-- a row that passes is not before the first that does
pub find_before : (p : Row → Bool) (k : ℕ) (rows : List Row) (j : ℕ) → j < length rows → p (get_or rows j blank) ≡ true
    → (0 < find_from p k rows) × (find_from p k rows ≤ k + suc j)
unfolding find_from
find_before p k [] j h e = absurd (omega arith)
find_before p k (r ∷ rows) j h e = go j h e (p r) refl (find_before p (k + 1) rows)
  where
    go : (j : ℕ) → j < suc (length rows) → p (get_or (r ∷ rows) j blank) ≡ true → (b : Bool) → p r ≡ b
        → ((i : ℕ) → i < length rows → p (get_or rows i blank) ≡ true → (0 < find_from p (k + 1) rows) × (find_from p (k + 1) rows ≤ k + 1 + suc i))
        → (0 < pick b (k + 1) (find_from p (k + 1) rows)) × (pick b (k + 1) (find_from p (k + 1) rows) ≤ k + suc j)
    go j h e true q ih = (omega arith, omega arith)
    go zero h e false q ih = differ (sym e ∙ q)
    go (suc j) h e false q ih = let x = ih j (omega arith) e in (x.0, omega (arith, x.1))

-- the class row of an object of kind 1
pub class_of_id : (τ : Terms) (s : List ℕ) (rows : List Row) (i : ℕ) (r : Row) → RowStands τ s rows i r → r.kind ≡ 1
    → (class : ℕ) × (r.link ≡ suc class) × (class < i) × (is_class (get_or rows class blank).kind ≡ true)
class_of_id τ s rows i r (the_header z k t) e = absurd (omega arith)
class_of_id τ s rows i r (by_id k class l h c) e = (class, l, h, c)
class_of_id τ s rows i r (a_class_rule c x) e = differ (sym c ∙ ap is_class e)
class_of_id τ s rows i r (a_string_rule k x) e = absurd (omega arith)
class_of_id τ s rows i r (an_array_rule k x) e = absurd (omega arith)
class_of_id τ s rows i r (a_primitive_rule k x y z) e = absurd (omega arith)
class_of_id τ s rows i r (a_reference_rule k x) e = absurd (omega arith)
class_of_id τ s rows i r (nulls n x) e = differ (sym n ∙ ap is_nulls e)
class_of_id τ s rows i r (the_end k x y) e = absurd (omega arith)
class_of_id τ s rows i r (a_library_rule k x) e = absurd (omega arith)
class_of_id τ s rows i r (primitives k x y z u) e = absurd (omega arith)
class_of_id τ s rows i r (objects k x y) e = absurd (omega arith)
class_of_id τ s rows i r (texts k x y) e = absurd (omega arith)
class_of_id τ s rows i r (a_value_rule k x y) e = absurd (omega arith)

module _ (τ : Terms) (s : List ℕ) (rows : List Row) where
  -- the class of row i
  abbrev pub class_at : ℕ → Class
  class_at i = class_from τ.book s rows (get_or rows i blank)

  -- the number of a class before row i: its first object's, or 0
  unfoldable pub class_number : ℕ → Class → ℕ
  class_number i c = pick (leb (class_first τ.book s rows c) i) (order_of rows (class_first τ.book s rows c)) 0

  pub number_known : (i : ℕ) (c : Class) → class_first τ.book s rows c ≤ i → class_number i c ≡ order_of rows (class_first τ.book s rows c)
  unfolding class_number
  number_known i c h = rw (le-leb (class_first τ.book s rows c) i h)

  pub number_later : (i : ℕ) (c : Class) → i < class_first τ.book s rows c → class_number i c ≡ 0
  unfolding class_number
  number_later i c h = rw (lt-leb (class_first τ.book s rows c) i h)

  pub first_row_lem : (c : Class) (i : ℕ) → class_first τ.book s rows c ≡ suc i
      → (i < length rows) × (is_class (get_or rows i blank).kind ≡ true) × (same_class c (class_at i) ≡ true)
  unfolding class_first
  first_row_lem c i e =
      let h = find_hit (λ (r : Row). is_class r.kind && same_class c (class_from τ.book s rows r)) rows i e in
      let b = both_of (is_class (get_or rows i blank).kind) (same_class c (class_at i)) h.1 in
      (h.0, b.0, b.1)

  -- a class that has a row has a number above 0
  pub first_order : (c : Class) → 0 < class_first τ.book s rows c → 0 < order_of rows (class_first τ.book s rows c)
  first_order c h =
      let i : ℕ = class_first τ.book s rows c - 1 in
      let e : class_first τ.book s rows c ≡ suc i = omega arith in
      let f = first_row_lem c i e in
      let g : order_of rows (suc i) ≡ suc (order_of rows i) = order_object rows i f.0 (class_is_object (get_or rows i blank).kind f.1) in
      subst (λ (n : ℕ). 0 < order_of rows n) (sym e) (omega arith)

  number_stays : (i : ℕ) (c : Class) → (class_first τ.book s rows c ≡ suc i → ⊥) → class_number (suc i) c ≡ class_number i c
  number_stays i c h =
      either (leb (class_first τ.book s rows c) i)
      (λ e. let a : class_first τ.book s rows c ≤ i = leb-true (class_first τ.book s rows c) i e in number_known (suc i) c (omega arith) ∙ sym (number_known i c a))
      (λ e.
      let a : i < class_first τ.book s rows c = leb-false (class_first τ.book s rows c) i e in
      let b : suc i < class_first τ.book s rows c = either (eqb (class_first τ.book s rows c) (suc i)) (λ q. absurd (h (eqb-true (class_first τ.book s rows c) (suc i) q)))
      (λ q. let z = eqb-false (class_first τ.book s rows c) (suc i) q in omega arith) in
      number_later (suc i) c b ∙ sym (number_later i c a))

  -- a table that has the classes of the rows before i
  pub record Known (i : ℕ) (es : List (ℕ × Class)) : Type 0 where
    pub above : Numbered es
    pub number : (c : Class) → number_in (same_class c) es ≡ class_number i c

  known_stays : (i : ℕ) (es : List (ℕ × Class)) → Known i es → ((c : Class) → class_first τ.book s rows c ≡ suc i → ⊥) → Known (suc i) es
  known_stays i es t h = record { above = t.above; number = λ c. t.number c ∙ sym (number_stays i c (h c)) }

  -- no class begins at a row of another kind
  no_class_here : (i : ℕ) → is_class (get_or rows i blank).kind ≡ false → (c : Class) → class_first τ.book s rows c ≡ suc i → ⊥
  no_class_here i e c q = differ (sym (first_row_lem c i q).1 ∙ e)

  known_none : Known 0 []
  unfolding number_in class_number order_of objects_in
  known_none = record { above = no_entry; number = λ c. none (class_first τ.book s rows c) }
    where
      none : (k : ℕ) → 0 ≡ pick (leb k 0) (objects_in (take k rows)) 0
      none zero = refl
      none (suc k) = rw (lt-leb (suc k) 0 (omega arith))

  module _ (same_refl : (c : Class) → same_class c c ≡ true) (same_true : (c d : Class) → same_class c d ≡ true → c ≡ d) where
    -- a class row is not before the first row of its class
    pub first_before : (i : ℕ) → i < length rows → is_class (get_or rows i blank).kind ≡ true
        → (0 < class_first τ.book s rows (class_at i)) × (class_first τ.book s rows (class_at i) ≤ suc i)
    unfolding class_first
    first_before i h e =
        let x = find_before (λ (r : Row). is_class r.kind && same_class (class_at i) (class_from τ.book s rows r)) 0 rows i h (rw (e, same_refl (class_at i))) in
        (x.0, omega (arith, x.1))

    -- the class whose first row it is
    first_here : (i : ℕ) (c : Class) → class_first τ.book s rows c ≡ suc i → c ≡ class_at i
    first_here i c e = same_true c (class_at i) (first_row_lem c i e).2

    known_class : (i : ℕ) (es : List (ℕ × Class)) → Known i es → (c : Class) → 0 < class_first τ.book s rows c → number_in (same_class c) es ≡ 0 → i < class_first τ.book s rows c
    known_class i es t c h e =
        either (leb (class_first τ.book s rows c) i)
        (λ q.
        let a : order_of rows (class_first τ.book s rows c) ≡ 0 = sym (number_known i c (leb-true (class_first τ.book s rows c) i q)) ∙ (sym (t.number c) ∙ e) in
        let b = first_order c h in
        absurd (omega arith))
        (λ q. leb-false (class_first τ.book s rows c) i q)

    known_new : (i : ℕ) (es : List (ℕ × Class)) (n : ℕ) → Known i es → i < length rows → is_class (get_or rows i blank).kind ≡ true
        → number_in (same_class (class_at i)) es ≡ 0 → n ≡ order_of rows i → Known (suc i) (es ++ ((suc n, class_at i) ∷ []))
    known_new i es n t h k z o =
        record {
          above = numbered_last n (class_at i) t.above;
          number = λ c. number_last (same_class c) n (class_at i) es t.above ∙ number c (same_class c (class_at i)) refl;
        }
      where
        keep : (m : ℕ) → pick (eqb m 0) 0 m ≡ m
        keep zero = refl
        keep (suc m) = rw (ne_eqb (suc m) 0 (λ e. omega arith))

        first : class_first τ.book s rows (class_at i) ≡ suc i
        first =
            let b = first_before i h k in
            let a = known_class i es t (class_at i) b.0 z in
            omega (arith, b.1)

        here : pick (eqb (number_in (same_class (class_at i)) es) 0) (pick (same_class (class_at i) (class_at i)) (suc n) 0) (number_in (same_class (class_at i)) es)
            ≡ class_number (suc i) (class_at i)
        here =
            let a : class_first τ.book s rows (class_at i) ≤ suc i = omega (arith, first) in
            let b : order_of rows (suc i) ≡ suc (order_of rows i) = order_object rows i h (class_is_object (get_or rows i blank).kind k) in
            let e : suc n ≡ class_number (suc i) (class_at i) = (ap suc o ∙ sym b) ∙ (ap (order_of rows) (sym first) ∙ sym (number_known (suc i) (class_at i) a)) in
            rw (z, same_refl (class_at i)) e

        number : (c : Class) (b : Bool) → same_class c (class_at i) ≡ b
            → pick (eqb (number_in (same_class c) es) 0) (pick (same_class c (class_at i)) (suc n) 0) (number_in (same_class c) es) ≡ class_number (suc i) c
        number c true q =
            subst (λ (d : Class). pick (eqb (number_in (same_class d) es) 0) (pick (same_class d (class_at i)) (suc n) 0) (number_in (same_class d) es) ≡ class_number (suc i) d)
            (sym (same_true c (class_at i) q)) here
        number c false q =
            rw q (keep (number_in (same_class c) es) ∙ (t.number c ∙ sym (number_stays i c (λ e. differ (sym (first_row_lem c i e).2 ∙ q)))))

    -- an object of kind 1 is of a class that is known before it
    pub id_known : (i : ℕ) (r : Row) → i < length rows → RowStands τ s rows i r → r.kind ≡ 1 → (es : List (ℕ × Class)) → Known i es
        → 0 < number_in (same_class (class_from τ.book s rows (get_or rows (r.link - 1) blank))) es
    id_known i r h x k es t =
        let y = class_of_id τ s rows i r x k in
        let j : ℕ = y.0 in
        let a : r.link - 1 ≡ j = omega (arith, y.1) in
        let l : j < i = y.2 in
        let b = first_before j (omega arith) y.3 in
        let f : class_first τ.book s rows (class_at j) ≤ i = omega (arith, b.1) in
        let o = first_order (class_at j) b.0 in
        let n : number_in (same_class (class_at j)) es ≡ order_of rows (class_first τ.book s rows (class_at j)) = t.number (class_at j) ∙ number_known i (class_at j) f in
        let p : 0 < number_in (same_class (class_at j)) es = omega arith in
        subst (λ (m : ℕ). 0 < number_in (same_class (class_at m)) es) (sym a) p

    -- where its class is known, row i is the first of none
    row_known : (i : ℕ) (es : List (ℕ × Class)) → Known i es → (0 < number_in (same_class (class_at i)) es) → (c : Class) → class_first τ.book s rows c ≡ suc i → ⊥
    row_known i es t h c e =
        let d = first_here i c e in
        let a : class_first τ.book s rows (class_at i) ≡ suc i = subst (λ (x : Class). class_first τ.book s rows x ≡ suc i) d e in
        let b : number_in (same_class (class_at i)) es ≡ 0 = t.number (class_at i) ∙ number_later i (class_at i) (omega arith) in
        omega arith

    module _ (st : Stands τ s rows) where
      -- the classes of the rows before i, each by the order of its first object
      pub known : (i : ℕ) → i ≤ length rows → Known i (progress_to τ.book s rows i).classes
      known zero h = subst (λ (w : Progress). Known 0 w.classes) (sym (progress_none τ.book s rows)) known_none
      known (suc i) h = go (known i (omega arith)) (adds τ.book s rows (progress_to τ.book s rows i) (get_or rows i blank))
        where
          w : Progress
          w = progress_to τ.book s rows i

          inside : i < length rows
          inside = omega arith

          into : (v : Progress) → after_row τ.book s rows w (get_or rows i blank) ≡ v → Known (suc i) v.classes → Known (suc i) (progress_to τ.book s rows (suc i)).classes
          into v e k = subst (λ (x : Progress). Known (suc i) x.classes) (sym (progress_next τ.book s rows i inside ∙ e)) k

          go : Known i w.classes → Adds τ.book s rows w (get_or rows i blank) → Known (suc i) (progress_to τ.book s rows (suc i)).classes
          go t (of_class_row k e) =
              let d : Class = class_from τ.book s rows (get_or rows ((get_or rows i blank).link - 1) blank) in
              let p = id_known i (get_or rows i blank) inside (st.each i inside) k w.classes t in
              into (counted w) (e ∙ object_old w d p) (known_stays i w.classes t (no_class_here i (ap is_class k)))
          go t (of_own_class k e) =
              either (eqb (number_in (same_class (class_at i)) w.classes) 0)
              (λ q.
              let z = eqb-true (number_in (same_class (class_at i)) w.classes) 0 q in
              into (record { count = suc w.count; classes = w.classes ++ ((suc w.count, class_at i) ∷ []); libraries = all_entered (class_needs (class_at i)) w.libraries })
              (e ∙ object_new w (class_at i) z) (known_new i w.classes w.count t inside k z (progress_count τ.book s rows i (omega arith))))
              (λ q.
              let z = eqb-false (number_in (same_class (class_at i)) w.classes) 0 q in
              let p : 0 < number_in (same_class (class_at i)) w.classes = omega arith in
              into (counted w) (e ∙ object_old w (class_at i) p) (known_stays i w.classes t (row_known i w.classes t p)))
          go t (of_items k e) = into _ e (known_stays i w.classes t (no_class_here i (ap is_class k)))
          go t (of_no_class o c a e) = into _ e (known_stays i w.classes t (no_class_here i c))
          go t (no_object o e) =
              into _ e (known_stays i w.classes t (no_class_here i (either (is_class (get_or rows i blank).kind) (λ c. differ (sym (class_is_object (get_or rows i blank).kind c) ∙ o)) (λ c. c))))

      -- the number of a class before row i
      pub class_known : (i : ℕ) → i ≤ length rows → (c : Class) → class_first τ.book s rows c ≤ i
          → number_in (same_class c) (progress_to τ.book s rows i).classes ≡ order_of rows (class_first τ.book s rows c)
      class_known i h c k = (known i h).number c ∙ number_known i c k

      pub class_later : (i : ℕ) → i ≤ length rows → (c : Class) → i < class_first τ.book s rows c → number_in (same_class c) (progress_to τ.book s rows i).classes ≡ 0
      class_later i h c k = (known i h).number c ∙ number_later i c k

      -- the libraries, each entered by the first row that needs it
      pub progress_libraries : (i : ℕ) → i < length rows
          → (progress_to τ.book s rows (suc i)).libraries ≡ all_entered (row_needs τ.book s rows i (get_or rows i blank)) (progress_to τ.book s rows i).libraries
      unfolding row_needs all_entered
      progress_libraries i h =
          ap (λ (v : Progress). v.libraries) (progress_next τ.book s rows i h) ∙ go (known i (omega arith)) (adds τ.book s rows (progress_to τ.book s rows i) (get_or rows i blank))
        where
          w : Progress
          w = progress_to τ.book s rows i

          r : Row
          r = get_or rows i blank

          none : is_class r.kind ≡ false → eqb r.kind 7 ≡ false → (v : Progress) → after_row τ.book s rows w r ≡ v → v.libraries ≡ w.libraries
              → (after_row τ.book s rows w r).libraries ≡ all_entered (row_needs τ.book s rows i r) w.libraries
          none c a v e f = rw (c, a) (ap (λ (x : Progress). x.libraries) e ∙ f)

          new : is_class r.kind ≡ true → after_row τ.book s rows w r ≡ after_what w (an_object (class_at i)) → Known i w.classes
              → class_first τ.book s rows (class_at i) ≡ i + 1
              → (after_row τ.book s rows w r).libraries ≡ all_entered (row_needs τ.book s rows i r) w.libraries
          new c e t f =
              let z : number_in (same_class (class_at i)) w.classes ≡ 0 = t.number (class_at i) ∙ number_later i (class_at i) (omega arith) in
              rw (c, eq-eqb (class_first τ.book s rows (class_at i)) (i + 1) f) (ap (λ (x : Progress). x.libraries) (e ∙ object_new w (class_at i) z))

          old : is_class r.kind ≡ true → eqb r.kind 7 ≡ false → after_row τ.book s rows w r ≡ after_what w (an_object (class_at i)) → Known i w.classes
              → (class_first τ.book s rows (class_at i) ≡ i + 1 → ⊥)
              → (after_row τ.book s rows w r).libraries ≡ all_entered (row_needs τ.book s rows i r) w.libraries
          old c a e t f =
              let b = first_before i h c in
              let b1 : class_first τ.book s rows (class_at i) ≤ suc i = b.1 in
              let k : class_first τ.book s rows (class_at i) ≤ i = omega arith in
              let n : number_in (same_class (class_at i)) w.classes ≡ order_of rows (class_first τ.book s rows (class_at i)) = t.number (class_at i) ∙ number_known i (class_at i) k in
              let o = first_order (class_at i) b.0 in
              let p : 0 < number_in (same_class (class_at i)) w.classes = omega arith in
              rw (c, ne_eqb (class_first τ.book s rows (class_at i)) (i + 1) f, a) (ap (λ (x : Progress). x.libraries) (e ∙ object_old w (class_at i) p))

          go : Known i w.classes → Adds τ.book s rows w r → (after_row τ.book s rows w r).libraries ≡ all_entered (row_needs τ.book s rows i r) w.libraries
          go t (of_class_row k e) =
              let d : Class = class_from τ.book s rows (get_or rows (r.link - 1) blank) in
              none (ap is_class k) (ap (λ (n : ℕ). eqb n 7) k) (counted w) (e ∙ object_old w d (id_known i r h (st.each i h) k w.classes t)) refl
          go t (of_own_class k e) =
              let f : ℕ = class_first τ.book s rows (class_at i) in
              either (eqb f (i + 1)) (λ q. new k e t (eqb-true f (i + 1) q))
              (λ q. old k (class_kind r.kind k (λ (n : ℕ). eqb n 7 ≡ false) refl refl) e t (eqb-false f (i + 1) q))
          go t (of_items k e) =
              rw (ap is_class k, ap (λ (n : ℕ). eqb n 7) k) (ap (λ (x : Progress). x.libraries) e)
          go t (of_no_class o c a e) = none c a (counted w) e refl
          go t (no_object o e) =
              none (either (is_class r.kind) (λ c. differ (sym (class_is_object r.kind c) ∙ o)) (λ c. c))
              (either (eqb r.kind 7) (λ c. differ (sym (ap is_object (eqb-true r.kind 7 c)) ∙ o)) (λ c. c)) w e refl
