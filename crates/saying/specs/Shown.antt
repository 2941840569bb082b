-- The records of the tidy copy, each with the place where it stands: the object whose slot it fills, by order, and the slot, the first one for a
-- run of nulls. A library fills no slot and has owner 0 and slot 0. Without the places they are the records of format's Tidy.
use Rattle.std.specs.Prelude.{ℕ, suc, ◌≡◌, refl, Bool, true, false, List, [], ◌∷◌, ◌++◌, map, eqb}
use Rattle.std.proofs.Common.{ap, ◌∙◌, append_assoc}
use Rattle.format.specs.Bytes.{pick}
use Rattle.format.specs.Contents.{Rec, null, Class}
use Rattle.format.specs.Says.{What, Node, node}
use Rattle.format.specs.Meant.{sense_of, nodes_by}
use Rattle.format.specs.Tidy.{Progress, records_of, after_what, Standing, owned_by, pack, run_of, is_null, Run, no_run, written, waiting, squeeze}
use Rattle.laws.specs.Runs.{Plain, just, more, Sort, a_null_rule, plain, sort_of, squeeze_records}
use Rattle.saying.specs.Said.{said_by}
use Rattle.saying.specs.There.{kind_of}

pub record Shown : Type 0 where
  pub rec : Rec
  pub owner : ℕ
  pub slot : ℕ

abbrev pub shown : Rec → ℕ → ℕ → Shown
shown r o n = record { rec = r; owner = o; slot = n }

-- ---- nulls still single

-- a record of what stands in this slot
abbrev pub shown_in : ℕ → ℕ → Rec → Shown
shown_in o n r = shown r (pick (eqb (kind_of r) 12) 0 o) (pick (eqb (kind_of r) 12) 0 n)

abbrev pub all_shown : ℕ → ℕ → List Rec → List Shown
all_shown o n [] = []
all_shown o n (r ∷ rs) = shown_in o n r ∷ all_shown o n rs

abbrev pub shown_of : Progress → Node → List Shown
shown_of w n = all_shown n.owner n.slot (records_of w n.what)

unfoldable pub packed : Progress → List Node → List Shown
packed w [] = []
packed w (n ∷ ns) = shown_of w n ++ packed (after_what w n.what) ns

-- ---- runs

-- nulls of one object that wait to be written, and the slot of the first
pub record Wait : Type 0 where
  pub owner : ℕ
  pub slot : ℕ
  pub count : ℕ

abbrev pub wait : ℕ → ℕ → ℕ → Wait
wait o n k = record { owner = o; slot = n; count = k }

abbrev pub no_wait : Wait
no_wait = wait 0 0 0

abbrev pub run_shown : Wait → List Shown
run_shown w = map (λ (r : Rec). shown r w.owner w.slot) (run_of w.count)

-- one null more: of the same object, or the first of another
abbrev pub one_more : Wait → ℕ → ℕ → Wait
one_more w o n = let same = eqb o w.owner in wait o (pick same w.slot n) (pick same (suc w.count) 1)

unfoldable pub written_at : Wait → Shown → List Shown
written_at w x = pick (is_null x.rec) (pick (eqb x.owner w.owner) [] (run_shown w)) (run_shown w ++ (x ∷ []))

unfoldable pub waiting_at : Wait → Shown → Wait
waiting_at w x = pick (is_null x.rec) (one_more w x.owner x.slot) no_wait

unfoldable pub squeezed : Wait → List Shown → List Shown
squeezed w [] = run_shown w
squeezed w (x ∷ xs) = written_at w x ++ squeezed (waiting_at w x) xs

-- ---- what shown records say

module _ (name : ℕ → List ℕ) (of : ℕ → Class) (order : ℕ → ℕ) where
  abbrev pub said_in : ℕ → ℕ → Rec → List Node
  said_in o n r = map (λ (x : What). node x o n) (said_by name of order r)

  -- nulls say one for each of their slots
  abbrev pub said_at : ℕ → ℕ → Rec → List Node
  said_at o n r = nodes_by (sense_of name of order r) o n

  abbrev pub said_nodes : Shown → List Node
  said_nodes x = said_at x.owner x.slot x.rec

  abbrev pub said_all : List Shown → List Node
  said_all [] = []
  said_all (x ∷ xs) = said_nodes x ++ said_all xs

-- ---- one null, and records that are none

pub squeezed_null : (w : Wait) (o n : ℕ) (rest : List Shown)
    → squeezed w (shown null o n ∷ rest) ≡ pick (eqb o w.owner) [] (run_shown w) ++ squeezed (one_more w o n) rest
unfolding squeezed written_at waiting_at
squeezed_null w o n rest = refl

-- these end a run
pub squeezed_records : (w : Wait) (o n : ℕ) {rs : List Rec} → Plain rs → (rest : List Shown)
    → squeezed w (all_shown o n rs ++ rest) ≡ run_shown w ++ (all_shown o n rs ++ squeezed no_wait rest)
unfolding squeezed written_at waiting_at run_of
squeezed_records w o n (just {r = r} e) rest = rw e (append_assoc (run_shown w) (shown_in o n r ∷ []) (squeezed no_wait rest))
squeezed_records w o n (more {r = r} {rs = rs} e p) rest =
    rw e (append_assoc (run_shown w) (shown_in o n r ∷ []) (squeezed no_wait (all_shown o n rs ++ rest))
    ∙ ap (λ (x : List Shown). run_shown w ++ shown_in o n r ∷ x) (squeezed_records no_wait o n p rest))

-- ---- the records of the tidy copy

abbrev pub recs_of : List Shown → List Rec
recs_of [] = []
recs_of (x ∷ xs) = x.rec ∷ recs_of xs

recs_append : (a b : List Shown) → recs_of (a ++ b) ≡ recs_of a ++ recs_of b
recs_append [] b = refl
recs_append (x ∷ a) b = ap (λ (rs : List Rec). x.rec ∷ rs) (recs_append a b)

recs_shown : (o n : ℕ) (rs : List Rec) → recs_of (all_shown o n rs) ≡ rs
recs_shown o n [] = refl
recs_shown o n (r ∷ rs) = ap (λ (x : List Rec). r ∷ x) (recs_shown o n rs)

recs_run : (o n : ℕ) (rs : List Rec) → recs_of (map (λ (r : Rec). shown r o n) rs) ≡ rs
recs_run o n [] = refl
recs_run o n (r ∷ rs) = ap (λ (x : List Rec). r ∷ x) (recs_run o n rs)

abbrev pub as_run : Wait → Run
as_run w = record { owner = w.owner; count = w.count }

recs_null : (w : Wait) (o n : ℕ) (xs : List Shown) (ys : List Standing) → ((v : Wait) → recs_of (squeezed v xs) ≡ squeeze (as_run v) ys)
    → recs_of (squeezed w (shown null o n ∷ xs)) ≡ squeeze (as_run w) (record { owner = o; rec = null } ∷ ys)
unfolding squeezed squeeze written_at waiting_at written waiting
recs_null w o n xs ys again = go (eqb o w.owner)
  where
    go : (b : Bool) → recs_of (pick b [] (run_shown w) ++ squeezed (wait o (pick b w.slot n) (pick b (suc w.count) 1)) xs)
        ≡ pick b [] (run_of w.count) ++ squeeze (record { owner = o; count = pick b (suc w.count) 1 }) ys
    go true = again (wait o w.slot (suc w.count))
    go false =
        let e = recs_append (run_shown w) (squeezed (wait o n 1) xs) in
        let f = recs_run w.owner w.slot (run_of w.count) in
        let g = again (wait o n 1) in
        cc

recs_plain : (w : Wait) (o n : ℕ) (rs : List Rec) (xs : List Shown) (ys : List Standing) → Plain rs → recs_of (squeezed no_wait xs) ≡ squeeze no_run ys
    → recs_of (squeezed w (all_shown o n rs ++ xs)) ≡ squeeze (as_run w) (owned_by o rs ++ ys)
recs_plain w o n rs xs ys p again =
    let a = ap recs_of (squeezed_records w o n p xs) in
    let b = squeeze_records (as_run w) o p ys in
    let c = recs_append (run_shown w) (all_shown o n rs ++ squeezed no_wait xs) in
    let d = recs_append (all_shown o n rs) (squeezed no_wait xs) in
    let e = recs_run w.owner w.slot (run_of w.count) in
    let f = recs_shown o n rs in
    cc

recs_node : (w : Wait) (p : Progress) (x : What) (o n : ℕ) (xs : List Shown) (ys : List Standing) → ((v : Wait) → recs_of (squeezed v xs) ≡ squeeze (as_run v) ys)
    → recs_of (squeezed w (all_shown o n (records_of p x) ++ xs)) ≡ squeeze (as_run w) (owned_by o (records_of p x) ++ ys)
unfolding records_of
recs_node w p x o n xs ys again = go x (sort_of p x)
  where
    go : (x : What) → Sort p x → recs_of (squeezed w (all_shown o n (records_of p x) ++ xs)) ≡ squeeze (as_run w) (owned_by o (records_of p x) ++ ys)
    go x a_null_rule = recs_null w o n xs ys again
    go x (plain h) = recs_plain w o n (records_of p x) xs ys h (again no_wait)

pub recs_squeezed : (w : Wait) (p : Progress) (ns : List Node) → recs_of (squeezed w (packed p ns)) ≡ squeeze (as_run w) (pack p ns)
unfolding packed pack squeezed squeeze
recs_squeezed w p [] = recs_run w.owner w.slot (run_of w.count)
recs_squeezed w p (n ∷ ns) = recs_node w p n.what n.owner n.slot (packed (after_what p n.what) ns) (pack (after_what p n.what) ns) (λ v. recs_squeezed v (after_what p n.what) ns)
