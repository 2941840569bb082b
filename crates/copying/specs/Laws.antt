-- What is gathered and written before and after a row, the copy row by row, and the answers of the copying: one law for each way that a function ends.
use Rattle.std.specs.Prelude.{ℕ, ◌+◌, ◌-◌, ◌*◌, ◌≤◌, ◌<◌, ◌≡◌, Bool, false, length, eqb, Ok, Err}
use Rattle.format.specs.declared.Untidied.TheVariants as A
use Rattle.std.proofs.Math.Path.{refl, sym, ap, subst}
use Rattle.std.proofs.Common.{◌∙◌, add-one, drop_of_length-le, drop-cons}
use Rattle.std.proofs.Math.Bool.{true}
use mathlib.Core.List.{List, [], ◌∷◌, ◌++◌}
use native.Mathlib.Omega.{arith}
use Rattle.std.proofs.Math.ListN.{get_or, drop}
use borrow.Author.Tests.{eq-eqb, ne_eqb, eqb-true, le-leb, lt-leb}
use borrow.Rule.Slice.PartMut.{put_mid, mid_of}
use Rattle.format.specs.declared.Row.{Row}
use Rattle.format.specs.Bytes.{pick}
use Rattle.format.specs.Rows.{blank}
use Rattle.format.specs.Says.{is_nulls}
use Rattle.format.specs.Tidy.{answer_by, out_by}
use Rattle.fields.specs.Judged.{picked}
use Rattle.put.specs.Out.{run_out}
use Rattle.put.specs.Put.{most, capped, Filled, Least, Along, along_start, along_more, capped_below}
use Rattle.pieces.specs.declared.Gathered.{Gathered}
use Rattle.pieces.specs.Copy.{record_out, none_yet, is_passed, before_out, more_of, run_after, row_out, copy_from, copy_of}

-- ---- null runs
pub nulls_known : (kind n : ℕ) → kind ≡ n → is_nulls n ≡ is_nulls kind
nulls_known kind n h = ap (λ (k : ℕ). is_nulls k) (sym h)

pub nulls_none : (kind : ℕ) → (kind ≡ 10 → ⊥) → (kind ≡ 13 → ⊥) → (kind ≡ 14 → ⊥) → false ≡ is_nulls kind
nulls_none kind a b c = rw (ne_eqb _ _ a, ne_eqb _ _ b, ne_eqb _ _ c)

pub passed_12 : (r : Row) → r.kind ≡ 12 → true ≡ is_passed r
passed_12 r h = sym (ap (λ (t : Bool). pick t true (pick (is_nulls r.kind) (eqb r.count 0) false)) (eq-eqb _ _ h))

-- a row of this kind and owner is more of the nulls gathered so far
unfoldable pub is_more : Gathered → ℕ → ℕ → Bool
is_more w kind owner = pick (is_nulls kind) (eqb owner w.owner) false

module _ (r : Row) (other : r.kind ≡ 12 → ⊥) (t : Bool) (x : t ≡ is_nulls r.kind) where
  passed_of_lem : is_passed r ≡ pick t (eqb r.count 0) false
  passed_of_lem =
      ap (λ (z : Bool). pick z true (pick (is_nulls r.kind) (eqb r.count 0) false)) (ne_eqb _ _ other)
      ∙ ap (λ (z : Bool). pick z (eqb r.count 0) false) (sym x)

  pub passed_nulls : (q : Bool) → t ≡ true → q ≡ eqb r.count 0 → q ≡ is_passed r
  passed_nulls q h y = sym (passed_of_lem ∙ (ap (λ (z : Bool). pick z (eqb r.count 0) false) h ∙ sym y))

  pub passed_none : t ≡ false → false ≡ is_passed r
  passed_none h = sym (passed_of_lem ∙ ap (λ (z : Bool). pick z (eqb r.count 0) false) h)

module _ (w : Gathered) (r : Row) (p : Bool) (x : p ≡ is_passed r) where
  pub before_passed : p ≡ true → before_out w r ≡ []
  unfolding before_out
  before_passed h =
      ap (λ (a : Bool). pick a [] (pick (is_nulls r.kind) (pick (eqb r.owner w.owner) [] (run_out w.count)) (run_out w.count))) (sym x ∙ h)

  pub after_passed : p ≡ true → w ≡ run_after w r
  unfolding run_after
  after_passed h = sym (ap (λ (a : Bool). pick a w (pick (is_nulls r.kind) (more_of w r) none_yet)) (sym x ∙ h))

  -- of a row that is not passed, by whether it is more of them
  before_by : p ≡ false → (t : Bool) → t ≡ is_more w r.kind r.owner → before_out w r ≡ pick t [] (run_out w.count)
  unfolding before_out is_more
  before_by h t y =
      ap (λ (a : Bool). pick a [] (pick (is_nulls r.kind) (pick (eqb r.owner w.owner) [] (run_out w.count)) (run_out w.count))) (sym x ∙ h)
      ∙ (folded (is_nulls r.kind) (eqb r.owner w.owner) ∙ ap (λ (a : Bool). pick a [] (run_out w.count)) (sym y))
    where
      folded : (u v : Bool) → pick u (pick v [] (run_out w.count)) (run_out w.count) ≡ pick (pick u v false) [] (run_out w.count)
      folded true v = refl
      folded false v = refl

  pub before_added : p ≡ false → (t : Bool) → t ≡ is_more w r.kind r.owner → t ≡ true → before_out w r ≡ []
  before_added h t y k = before_by h t y ∙ rw k

  pub before_apart : p ≡ false → (t : Bool) → t ≡ is_more w r.kind r.owner → t ≡ false → before_out w r ≡ run_out w.count
  before_apart h t y k = before_by h t y ∙ rw k

  module _ (h : p ≡ false) (t : Bool) (y : t ≡ is_nulls r.kind) where
    before_of : before_out w r ≡ pick t (pick (eqb r.owner w.owner) [] (run_out w.count)) (run_out w.count)
    unfolding before_out
    before_of =
        ap (λ (a : Bool). pick a [] (pick (is_nulls r.kind) (pick (eqb r.owner w.owner) [] (run_out w.count)) (run_out w.count))) (sym x ∙ h)
        ∙ ap (λ (a : Bool). pick a (pick (eqb r.owner w.owner) [] (run_out w.count)) (run_out w.count)) (sym y)

    pub before_more : t ≡ true → r.owner ≡ w.owner → before_out w r ≡ []
    before_more k e = before_of ∙ rw (k, eq-eqb _ _ e)

    pub before_other : t ≡ true → (r.owner ≡ w.owner → ⊥) → before_out w r ≡ run_out w.count
    before_other k e = before_of ∙ rw (k, ne_eqb _ _ e)

    pub before_record : t ≡ false → before_out w r ≡ run_out w.count
    before_record k = before_of ∙ rw k

    after_of : run_after w r ≡ pick t (more_of w r) none_yet
    unfolding run_after
    after_of =
        ap (λ (a : Bool). pick a w (pick (is_nulls r.kind) (more_of w r) none_yet)) (sym x ∙ h)
        ∙ ap (λ (a : Bool). pick a (more_of w r) none_yet) (sym y)

    pub after_more : t ≡ true → r.owner ≡ w.owner → record { owner = r.owner; count = w.count + r.count } ≡ run_after w r
    after_more k e = sym (after_of ∙ rw (k, eq-eqb _ _ e))

    pub after_other : t ≡ true → (r.owner ≡ w.owner → ⊥) → record { owner = r.owner; count = r.count } ≡ run_after w r
    after_other k e = sym (after_of ∙ rw (k, ne_eqb _ _ e))

    pub after_record : t ≡ false → none_yet ≡ run_after w r
    after_record k = sym (after_of ∙ rw k)

-- a run grows by a row's count at most
pub count_within : (w : Gathered) (r : Row) → (run_after w r).count ≤ w.count + r.count
unfolding run_after
count_within w r =
    picked (λ (q : Gathered). q.count ≤ w.count + r.count) (is_passed r) (λ a. omega arith)
    (λ a. picked (λ (q : Gathered). q.count ≤ w.count + r.count) (is_nulls r.kind)
    (λ b. picked (λ (n : ℕ). n ≤ w.count + r.count) (eqb r.owner w.owner) (λ e. omega arith) (λ e. omega arith)) (λ b. omega arith))

-- after i rows a run is below i words
pub few_more : (w v : Gathered) (r : Row) (i : ℕ) → v ≡ run_after w r → w.count ≤ 4294967296 * i → r.count < 4294967296
    → v.count ≤ 4294967296 * (i + 1)
few_more w v r i e h k =
    let c = count_within w r in
    let q : v.count ≡ (run_after w r).count = ap (λ (g : Gathered). g.count) e in
    omega arith

-- ---- the copy
pub row_is : (δ : ℕ) (s : List ℕ) (rs : List Row) (r : Row) (i : ℕ) (w : Gathered) → row_out δ s rs i w r ≡ before_out w r ++ record_out δ s rs i r
unfolding row_out
row_is δ s rs r i w = refl

pub copy_start : (δ : ℕ) (s : List ℕ) (rs : List Row) (d : List ℕ) → Along (copy_of δ s rs) (copy_from δ s rs 0 none_yet (drop 0 rs)) d d 0
unfolding copy_of
copy_start δ s rs d = along_start (copy_of δ s rs) (copy_from δ s rs 0 none_yet rs) d refl

module _ (δ : ℕ) (s : List ℕ) (rs : List Row) (i : ℕ) (w : Gathered) where
  pub copy_more : (r : Row) (v : Gathered) → i < length rs → r ≡ get_or rs i blank → v ≡ run_after w r
      → copy_from δ s rs i w (drop i rs) ≡ row_out δ s rs i w r ++ copy_from δ s rs (i + 1) v (drop (i + 1) rs)
  unfolding copy_from
  copy_more r v h x y =
      let o : drop i rs ≡ r ∷ drop (i + 1) rs = rw (x, add-one) (drop-cons rs i blank h) in
      ap (λ (l : List Row). copy_from δ s rs i w l) o
      ∙ ap (λ (q : Gathered). row_out δ s rs i w r ++ copy_from δ s rs (i + 1) q (drop (i + 1) rs)) (sym y)

  pub copy_end : length rs ≤ i → copy_from δ s rs i w (drop i rs) ≡ run_out w.count
  unfolding copy_from
  copy_end h = rw (drop_of_length-le rs {i = i} h)

-- a part d of the output, which is e after i rows and a bytes: a row more is written at m, as y
module _ (δ : ℕ) (s d e y : List ℕ) (rs : List Row) (n i a b m t : ℕ) (w v : Gathered) (r : Row) where
  pub row_copied : length rs ≡ n → i < n → r ≡ get_or rs i blank → r.count < 4294967296 → v ≡ run_after w r → w.count ≤ 4294967296 * i
      → Along (copy_of δ s rs) (copy_from δ s rs i w (drop i rs)) d e a → Least a (length e) m → t ≡ capped (a + b)
      → length y ≡ length (mid_of m (length e - m) e) → Filled (row_out δ s rs i w r) (mid_of m (length e - m) e) y b
      → (i + 1 ≤ n) × (v.count ≤ 4294967296 * (i + 1)) × Along (copy_of δ s rs) (copy_from δ s rs (i + 1) v (drop (i + 1) rs)) d (put_mid m (length e - m) e y) t
  row_copied l h x k g j p q z o f = (
    omega arith,
    few_more w v r i g j k,
    along_more (copy_of δ s rs) (copy_from δ s rs i w (drop i rs)) d e y a b m t p q z
        (row_out δ s rs i w r) (copy_from δ s rs (i + 1) v (drop (i + 1) rs)) (copy_more δ s rs i w r v (omega arith) x g) o f,
  )

-- ---- more of the nulls before
pub more_known : (w : Gathered) (kind owner : ℕ) (t : Bool) → t ≡ is_nulls kind → t ≡ true → eqb owner w.owner ≡ is_more w kind owner
unfolding is_more
more_known w kind owner t x h = let n : is_nulls kind ≡ true = sym x ∙ h in rw n

pub more_none : (w : Gathered) (kind owner : ℕ) (t : Bool) → t ≡ is_nulls kind → t ≡ false → false ≡ is_more w kind owner
unfolding is_more
more_none w kind owner t x h = let n : is_nulls kind ≡ false = sym x ∙ h in rw n

either : {X : Type 0} (t u : Bool) → (t ≡ true → X) → (u ≡ true → X) → pick t true u ≡ true → X
either true u f g h = f refl
either false u f g h = g h

by_nulls : {X : Type 0} (k : ℕ) → (k ≡ 10 → X) → (k ≡ 13 → X) → (k ≡ 14 → X) → is_nulls k ≡ true → X
by_nulls k a b c = either _ _ (λ e. a (eqb-true k 10 e)) (either _ _ (λ e. b (eqb-true k 13 e)) (λ e. c (eqb-true k 14 e)))

both : (t u : Bool) → pick t u false ≡ true → (t ≡ true) × (u ≡ true)
both true u e = (refl, e)
both false u e = absurd (let z : ◌≡◌ {A = ℕ} 0 1 = ap (λ (b : Bool). pick b 1 0) e in omega arith)

module _ (δ : ℕ) (w : Gathered) (r : Row) (n : is_nulls r.kind ≡ true) (o : r.owner ≡ w.owner) where
  skip_before : before_out w r ≡ []
  unfolding before_out
  skip_before = picked (λ (l : List ℕ). l ≡ []) (is_passed r) (λ a. refl) (λ a. rw (n, eq-eqb _ _ o))

  skip_record : (s : List ℕ) (rs : List Row) (i : ℕ) → record_out δ s rs i r ≡ []
  unfolding record_out
  skip_record s rs i = by_nulls r.kind (λ e. rw e) (λ e. rw e) (λ e. rw e) n

  no_library : r.kind ≡ 12 → ⊥
  no_library f = by_nulls r.kind (λ e. omega arith) (λ e. omega arith) (λ e. omega arith) n

  skip_after : record { owner = r.owner; count = w.count + r.count } ≡ run_after w r
  unfolding run_after
  skip_after =
      picked (λ (g : Gathered). record { owner = r.owner; count = w.count + r.count } ≡ g) (is_passed r)
      (λ a.
      let z = eqb-true r.count 0 (passed_nulls r no_library true (sym n) (eqb r.count 0) refl refl ∙ a) in
      let c : w.count + r.count ≡ w.count = omega arith in
      rw (o, c))
      (λ a. rw (n, eq-eqb _ _ o))

module _ (δ : ℕ) (s d e : List ℕ) (rs : List Row) (n i a kind owner count : ℕ) (w v : Gathered) where
  pub row_skipped : length rs ≡ n → i < n → kind ≡ (get_or rs i blank).kind → owner ≡ (get_or rs i blank).owner → count ≡ (get_or rs i blank).count
      → count < 4294967296 → is_more w kind owner ≡ true → v ≡ record { owner = owner; count = w.count + count } → w.count ≤ 4294967296 * i
      → Along (copy_of δ s rs) (copy_from δ s rs i w (drop i rs)) d e a
      → (i + 1 ≤ n) × (v.count ≤ 4294967296 * (i + 1)) × Along (copy_of δ s rs) (copy_from δ s rs (i + 1) v (drop (i + 1) rs)) d e a
  unfolding is_more
  row_skipped l h x y z k m g j p =
      let r = get_or rs i blank in
      let q = both (is_nulls kind) (eqb owner w.owner) m in
      let f : is_nulls r.kind ≡ true = rw (← x) q.0 in
      let o : r.owner ≡ w.owner = sym y ∙ eqb-true owner w.owner q.1 in
      let b : v ≡ run_after w r = g ∙ (rw (y, z) (skip_after δ w r f o)) in
      let c : before_out w r ++ record_out δ s rs i r ≡ [] = rw (skip_before δ w r f o, skip_record δ w r f o s rs i) in
      let t : copy_from δ s rs i w (drop i rs) ≡ copy_from δ s rs (i + 1) v (drop (i + 1) rs) =
      copy_more δ s rs i w r v (omega arith) refl b ∙ ap (λ (u : List ℕ). u ++ copy_from δ s rs (i + 1) v (drop (i + 1) rs)) (row_is δ s rs r i w ∙ c) in
      (omega arith, few_more w v r i b j (rw (← z) k), subst (λ (u : List ℕ). Along (copy_of δ s rs) u d e a) t p)

-- ---- all or nothing
pub dry : (x y : List ℕ) → length y ≡ 0 → put_mid 0 0 x y ≡ x
dry x [] h = refl
dry x (b ∷ y) h = absurd (omega arith)

module _ (b d x : List ℕ) (t : ℕ) (l : length b ≤ most) (q : t ≡ capped (length b)) (z : x ≡ d) where
  total : t ≡ length b
  total = q ∙ capped_below (length b) l

  pub full_room : length d < t → (Err (A.OutFull t) ≡ answer_by b d) × (x ≡ out_by b d)
  full_room h = (rw (← total, lt-leb _ _ h), rw (← total, lt-leb _ _ h) z)

  pub full_limit : t ≤ length d → 16777216 < t → (Err (A.OutFull t) ≡ answer_by b d) × (x ≡ out_by b d)
  full_limit k h = (rw (← total, le-leb _ _ k, lt-leb _ _ h), rw (← total, le-leb _ _ k, lt-leb _ _ h) z)

  pub copied_all : (e : List ℕ) (r : ℕ) → t ≤ length d → t ≤ 16777216 → Filled b x e r → (Ok t ≡ answer_by b d) × (e ≡ out_by b d)
  copied_all e r k h f =
      let n = total in
      let w : length b ≤ length x = rw z (omega arith) in
      (rw (← total, le-leb _ _ k, le-leb _ _ h), rw (← total, le-leb _ _ k, le-leb _ _ h) (f.bytes w ∙ rw z))
