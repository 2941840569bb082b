-- Null runs that are gathered row by row are the longest runs of what is said: owners by row and by order are alike, nulls of one owner gather,
-- and any other record ends a run.
use Prim.Native.Nat.{ℕ, zero, suc, ◌+◌, ◌≤◌, ◌<◌}
use Rattle.std.specs.Prelude.{◌≡◌, Bool, ltb}
use Rattle.std.proofs.Math.Path.{refl, sym, ap}
use Rattle.std.proofs.Common.{subst, ◌∙◌, arith, eqb-true, eq-eqb, ne_eqb, ltb-true, ltb-false}
use Rattle.std.proofs.Math.Bool.{true, false}
use mathlib.Core.List.{List, [], ◌∷◌, ◌++◌}
use Rattle.std.proofs.Math.Dec.{eqb}
use Rattle.format.specs.declared.Row.{Row}
use Rattle.format.specs.Bytes.{pick}
use Rattle.format.specs.Contents.{Rec, null, encs}
use Rattle.format.specs.Says.{What, an_object, a_string, an_array, a_primitive, a_reference, a_null, a_primitive_array, an_object_array, a_string_array, a_value, Node, array_from, order_of, objects_in, what_from, spread, is_nulls, is_silent, nodes_of}
use Rattle.format.specs.Tidy.{Progress, records_of, after_what, Standing, pack, run_of, Run, no_run, written, waiting, squeeze}
use Rattle.fields.specs.Judged.{picked}
use Rattle.laws.specs.Tests.{differ, either}
use Rattle.laws.specs.Runs.{encs_append, Plain, Sort, a_null_rule, plain, sort_of, squeeze_records}
use Rattle.put.specs.Out.{run_out}
use Rattle.pieces.specs.declared.Gathered.{Gathered}
use Rattle.pieces.specs.Copy.{none_yet, is_passed, before_out, run_after}
use Rattle.meaning.specs.Stands.{Owner, no_owner, owned}
use Rattle.meaning.specs.Orders.{order_object, order_le, nodes_silent, nodes_nulls, nodes_one, said_other}

-- ---- owners

module _ (rows : List Row) where
  -- orders rise with the row of an object
  pub order_rise : (a b : ℕ) → a < b → Owner rows b → order_of rows a < order_of rows b
  order_rise a b h (no_owner e) = absurd (omega arith)
  order_rise a b h (owned t) =
      let i : ℕ = t.row in
      let e : b ≡ suc i = t.link_is in
      let f : order_of rows b ≡ suc (order_of rows i) = ap (order_of rows) e ∙ order_object rows i t.inside t.object in
      let g : order_of rows a ≤ order_of rows i = order_le rows a i (omega arith) in
      omega arith

  -- two owners are one exactly where their orders are
  pub same_owner : (a b : ℕ) → Owner rows a → Owner rows b → eqb (order_of rows a) (order_of rows b) ≡ eqb a b
  same_owner a b x y =
      either (ltb a b)
      (λ q.
      let l = ltb-true a b q in
      let h = order_rise a b l y in
      ne_eqb (order_of rows a) (order_of rows b) (λ z. omega arith) ∙ sym (ne_eqb a b (λ z. omega arith)))
      (λ q. either (ltb b a)
      (λ p.
      let l = ltb-true b a p in
      let h = order_rise b a l x in
      ne_eqb (order_of rows a) (order_of rows b) (λ z. omega arith) ∙ sym (ne_eqb a b (λ z. omega arith)))
      (λ p.
      let l = ltb-false a b q in
      let m = ltb-false b a p in
      let e : a ≡ b = omega arith in
      eq-eqb (order_of rows a) (order_of rows b) (ap (order_of rows) e) ∙ sym (eq-eqb a b e)))

-- ---- records of everything but a null

-- a null
abbrev pub is_nothing : What → Bool
is_nothing (an_object c) = false
is_nothing (a_string t) = false
is_nothing (an_array type lengths item items) = false
is_nothing (a_primitive code v) = false
is_nothing (a_reference target) = false
is_nothing a_null = true
is_nothing (a_primitive_array n code items) = false
is_nothing (an_object_array n) = false
is_nothing (a_string_array n) = false
is_nothing (a_value c v) = false

-- the records of everything but a null
pub records_plain : (w : Progress) (a : What) → is_nothing a ≡ false → Plain (records_of w a)
records_plain w a h = go a (sort_of w a) h
  where
    go : (x : What) → Sort w x → is_nothing x ≡ false → Plain (records_of w x)
    go x a_null_rule e = differ e
    go x (plain p) e = p

-- only a row of nulls says a null
pub what_some : (β s : List ℕ) (rows : List Row) (r : Row) → is_nothing (what_from β s rows r) ≡ false
unfolding what_from array_from
what_some β s rows r =
    let P : What → Type 0 = λ (a : What). is_nothing a ≡ false in
    let k = r.kind in
    picked P (eqb k 1) (λ e. refl)
    (λ e. picked P (eqb k 4) (λ e. refl)
    (λ e. picked P (eqb k 5) (λ e. refl)
    (λ e. picked P (eqb k 6) (λ e. refl)
    (λ e. picked P (eqb k 7) (λ e. refl)
    (λ e. picked P (eqb k 8) (λ e. refl)
    (λ e. picked P (eqb k 9) (λ e. refl)
    (λ e. picked P (eqb k 15) (λ e. refl)
    (λ e. picked P (eqb k 16) (λ e. refl)
    (λ e. picked P (eqb k 17) (λ e. refl)
    (λ e. refl))))))))))

-- ---- nulls are gathered

-- n nulls of one owner
abbrev pub nulls_of : ℕ → ℕ → List Standing
nulls_of zero o = []
nulls_of (suc n) o = record { owner = o; rec = null } ∷ nulls_of n o

abbrev pub run_by : ℕ → ℕ → Run
run_by o n = record { owner = o; count = n }

squeeze_more : (n k o : ℕ) (rest : List Standing) → squeeze (run_by o n) (nulls_of k o ++ rest) ≡ squeeze (run_by o (n + k)) rest
unfolding squeeze written waiting
squeeze_more n zero o rest = let e : n ≡ n + 0 = omega arith in ap (λ (m : ℕ). squeeze (run_by o m) rest) e
squeeze_more n (suc k) o rest =
    let e : suc n + k ≡ n + suc k = omega arith in
    rw (eq-eqb o o refl) (squeeze_more (suc n) k o rest ∙ ap (λ (m : ℕ). squeeze (run_by o m) rest) e)

-- a run that goes on, or the next one
pub squeeze_run : (w : Run) (k o : ℕ) (rest : List Standing)
    → squeeze w (nulls_of (suc k) o ++ rest)
    ≡ pick (eqb o w.owner) [] (run_of w.count) ++ squeeze (run_by o (pick (eqb o w.owner) (w.count + suc k) (suc k))) rest
unfolding squeeze written waiting
squeeze_run w k o rest = go (eqb o w.owner)
  where
    go : (b : Bool) → pick b [] (run_of w.count) ++ squeeze (run_by o (pick b (suc w.count) 1)) (nulls_of k o ++ rest)
        ≡ pick b [] (run_of w.count) ++ squeeze (run_by o (pick b (w.count + suc k) (suc k))) rest
    go true =
        let e : suc w.count + k ≡ w.count + suc k = omega arith in
        squeeze_more (suc w.count) k o rest ∙ ap (λ (m : ℕ). squeeze (run_by o m) rest) e
    go false =
        let e : 1 + k ≡ suc k = omega arith in
        ap (λ (x : List Rec). run_of w.count ++ x) (squeeze_more 1 k o rest ∙ ap (λ (m : ℕ). squeeze (run_by o m) rest) e)

pub pack_nulls : (w : Progress) (n o slot : ℕ) (ns : List Node) → pack w (spread n o slot ++ ns) ≡ nulls_of n o ++ pack w ns
unfolding pack spread records_of after_what
pack_nulls w zero o slot ns = refl
pack_nulls w (suc n) o slot ns = ap (λ (xs : List Standing). record { owner = o; rec = null } ∷ xs) (pack_nulls w n o (slot + 1) ns)

-- ---- row by row

-- nulls gathered by an owner's row, and by its order
pub record Match (rows : List Row) (g : Gathered) (w : Run) : Type 0 where
  pub count : w.count ≡ g.count
  pub owner : w.owner ≡ order_of rows g.owner
  pub owns : Owner rows g.owner

pub match_none : (rows : List Row) → Match rows none_yet no_run
unfolding order_of objects_in
match_none rows = record { count = refl; owner = refl; owns = no_owner refl }

-- kind 10, 13 or 14
pub nulls_kind : (k : ℕ) → is_nulls k ≡ true → (P : ℕ → Type 0) → P 10 → P 13 → P 14 → P k
nulls_kind k e P ten thirteen fourteen =
    either (eqb k 10) (λ a. subst P (sym (eqb-true k 10 a)) ten)
    (λ a. either (eqb k 13) (λ b. subst P (sym (eqb-true k 13 b)) thirteen)
    (λ b. either (eqb k 14) (λ c. subst P (sym (eqb-true k 14 c)) fourteen)
    (λ c. differ (sym e ∙ rw (a, b, c)))))

pub nulls_speak : (k : ℕ) → is_nulls k ≡ true → is_silent k ≡ false
nulls_speak k e = nulls_kind k e (λ (n : ℕ). is_silent n ≡ false) refl refl refl

nulls_other : (k : ℕ) → is_nulls k ≡ true → eqb k 12 ≡ false
nulls_other k e = nulls_kind k e (λ (n : ℕ). eqb n 12 ≡ false) refl refl refl

module _ (β s : List ℕ) (rows : List Row) (r : Row) where
  -- libraries and runs of 0 say nothing, and nothing is gathered or written at them
  pub nodes_passed : is_passed r ≡ true → nodes_of β s rows r ≡ []
  unfolding spread
  nodes_passed e =
      either (eqb r.kind 12) (λ a. nodes_silent β s rows r (ap is_silent (eqb-true r.kind 12 a)))
      (λ a. either (is_nulls r.kind)
      (λ b.
      let c : eqb r.count 0 ≡ true = sym (rw (a, b)) ∙ e in
      nodes_nulls β s rows r (nulls_speak r.kind b) b ∙ ap (λ (n : ℕ). spread n (order_of rows r.owner) r.slot) (eqb-true r.count 0 c))
      (λ b. let c : is_passed r ≡ false = rw (a, b) in differ (sym e ∙ c)))

pub passed_library : (r : Row) → r.kind ≡ 12 → is_passed r ≡ true
passed_library r e = rw (eq-eqb r.kind 12 e)

pub before_passed : (g : Gathered) (r : Row) → is_passed r ≡ true → before_out g r ≡ []
unfolding before_out
before_passed g r e = rw e

pub run_passed : (g : Gathered) (r : Row) → is_passed r ≡ true → run_after g r ≡ g
unfolding run_after
run_passed g r e = rw e

-- a row that is neither a null nor passed ends a run
module _ (g : Gathered) (r : Row) (a : is_nulls r.kind ≡ false) (b : eqb r.kind 12 ≡ false) where
  pub before_other : before_out g r ≡ run_out g.count
  unfolding before_out
  before_other = rw (b, a)

  pub run_other : run_after g r ≡ none_yet
  unfolding run_after
  run_other = rw (b, a)

-- the run after a row of nulls
abbrev pub nulls_after : List Row → Run → Row → Run
nulls_after rows w r =
    let o = order_of rows r.owner in
    run_by o (pick (eqb o w.owner) (w.count + r.count) r.count)

module _ (β s : List ℕ) (rows : List Row) (r : Row) (g : Gathered) (w : Run) (m : Match rows g w) where
  -- a row of nulls, at least one
  module _ (e : is_nulls r.kind ≡ true) (some : 0 < r.count) (owns : Owner rows r.owner) where
    nulls_stay : is_passed r ≡ false
    nulls_stay = rw (nulls_other r.kind e, e, ne_eqb r.count 0 (λ z. omega arith))

    same_run : eqb (order_of rows r.owner) w.owner ≡ eqb r.owner g.owner
    same_run = ap (eqb (order_of rows r.owner)) m.owner ∙ same_owner rows r.owner g.owner owns m.owns

    pub null_match : Match rows (run_after g r) (nulls_after rows w r)
    unfolding run_after
    null_match =
        rw (nulls_stay, e)
        record {
          count = ap (λ (t : Bool). pick t (w.count + r.count) r.count) same_run
              ∙ ap (λ (n : ℕ). pick (eqb r.owner g.owner) (n + r.count) r.count) m.count;
          owner = refl;
          owns = owns;
        }

    nulls_before : before_out g r ≡ encs (pick (eqb (order_of rows r.owner) w.owner) [] (run_of w.count))
    unfolding before_out run_out encs
    nulls_before = rw (nulls_stay, e, same_run, m.count) (go (eqb r.owner g.owner))
      where
        go : (t : Bool) → pick t [] (encs (run_of g.count)) ≡ encs (pick t [] (run_of g.count))
        go true = refl
        go false = refl

    pub null_row : (p : Progress) (ns : List Node)
        → encs (squeeze w (pack p (nodes_of β s rows r ++ ns))) ≡ before_out g r ++ encs (squeeze (nulls_after rows w r) (pack p ns))
    null_row p ns = go r.count refl
      where
        o : ℕ
        o = order_of rows r.owner

        t : Bool
        t = eqb o w.owner

        nodes : nodes_of β s rows r ≡ spread r.count o r.slot
        nodes = nodes_nulls β s rows r (nulls_speak r.kind e) e

        go : (n : ℕ) → r.count ≡ n → encs (squeeze w (pack p (nodes_of β s rows r ++ ns))) ≡ before_out g r ++ encs (squeeze (nulls_after rows w r) (pack p ns))
        go zero q = absurd (omega arith)
        go (suc k) q =
            ap (λ (xs : List Node). encs (squeeze w (pack p (xs ++ ns)))) (nodes ∙ ap (λ (n : ℕ). spread n o r.slot) q)
            ∙ (ap (λ (xs : List Standing). encs (squeeze w xs)) (pack_nulls p (suc k) o r.slot ns)
            ∙ (ap encs (squeeze_run w k o (pack p ns))
            ∙ (encs_append (pick t [] (run_of w.count)) (squeeze (run_by o (pick t (w.count + suc k) (suc k))) (pack p ns))
            ∙ (ap (λ (x : List ℕ). x ++ encs (squeeze (run_by o (pick t (w.count + suc k) (suc k))) (pack p ns))) (sym nulls_before)
            ∙ ap (λ (n : ℕ). before_out g r ++ encs (squeeze (run_by o (pick t (w.count + n) n)) (pack p ns))) (sym q)))))

  -- nulls that were gathered, before a row that ends them
  run_out_lem : run_out g.count ≡ encs (run_of w.count)
  unfolding run_out
  run_out_lem = ap (λ (n : ℕ). encs (run_of n)) (sym m.count)

  -- the end
  pub end_row : (x : Row) → is_nulls x.kind ≡ false → eqb x.kind 12 ≡ false → before_out g x ≡ encs (squeeze w [])
  unfolding squeeze
  end_row x a b = before_other g x a b ∙ run_out_lem

  -- any other row x that has row r's kind
  pub other_row : (x : Row) → x.kind ≡ r.kind → is_silent r.kind ≡ false → is_nulls r.kind ≡ false → (p : Progress) (ns : List Node)
      → encs (squeeze w (pack p (nodes_of β s rows r ++ ns)))
      ≡ before_out g x ++ (encs (records_of p (what_from β s rows r)) ++ encs (squeeze no_run (pack (after_what p (what_from β s rows r)) ns)))
  unfolding pack
  other_row x k a b p ns =
      let c : What = what_from β s rows r in
      let rest : List Standing = pack (after_what p c) ns in
      let o : ℕ = order_of rows r.owner in
      ap (λ (xs : List Node). encs (squeeze w (pack p (xs ++ ns)))) (nodes_one β s rows r a b)
      ∙ (ap encs (squeeze_records w o (records_plain p c (what_some β s rows r)) rest)
      ∙ (encs_append (run_of w.count) (records_of p c ++ squeeze no_run rest)
      ∙ (ap (λ (xs : List ℕ). encs (run_of w.count) ++ xs) (encs_append (records_of p c) (squeeze no_run rest))
      ∙ ap (λ (xs : List ℕ). xs ++ (encs (records_of p c) ++ encs (squeeze no_run rest))) (sym (before_other g x (ap is_nulls k ∙ b) (ap (λ (n : ℕ). eqb n 12) k ∙ said_other r.kind a) ∙ run_out_lem)))))
