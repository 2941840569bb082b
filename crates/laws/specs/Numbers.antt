-- Numbers by first need (01, The tidy copy): tables that only grow, so what has a number keeps it, and what has none gets the next.
use Prim.Native.Nat.{ℕ, zero, suc, ◌<◌}
use Rattle.std.specs.Prelude.{◌≡◌, Bool, length, eqb}
use Rattle.std.proofs.Math.Path.{refl, ap}
use Rattle.std.proofs.Common.{◌∙◌, arith, eq-eqb, ne_eqb}
use Rattle.std.proofs.Math.Bool.{true, false}
use mathlib.Core.List.{List, [], ◌∷◌, ◌++◌}
use Rattle.format.specs.Bytes.{pick, same_bytes}
use Rattle.format.specs.Says.{Node}
use Rattle.format.specs.Tidy.{number_in, Progress, Libraries, entered, all_entered, after_what}
use Rattle.fields.specs.Judged.{picked}
use Rattle.same.specs.Laws.{same_refl}

-- ---- any table

-- no number is 0
abbrev pub Counted : {K : Type 0} → List (ℕ × K) → Type 0
Counted [] = Unit {0}
Counted (e ∷ es) = (0 < e.0) × Counted es

module _ {K : Type 0} where
  pub counted_more : (t : List (ℕ × K)) (n : ℕ) (k : K) → Counted t → Counted (t ++ ((suc n, k) ∷ []))
  counted_more [] n k c = (omega arith, tt)
  counted_more (e ∷ t) n k c = (c.0, counted_more t n k c.1)

  module _ (f : K → Bool) where
    pub number_more : (t u : List (ℕ × K)) (m : ℕ) → number_in f t ≡ suc m → number_in f (t ++ u) ≡ suc m
    unfolding number_in
    number_more [] u m h = absurd (omega arith)
    number_more (e ∷ t) u m h = go (number_more t u m) (f e.1) h
      where
        go : (number_in f t ≡ suc m → number_in f (t ++ u) ≡ suc m) → (b : Bool) → pick b e.0 (number_in f t) ≡ suc m → pick b e.0 (number_in f (t ++ u)) ≡ suc m
        go again true q = q
        go again false q = again q

    pub number_other : (t : List (ℕ × K)) (n : ℕ) (k : K) → f k ≡ false → number_in f (t ++ ((n, k) ∷ [])) ≡ number_in f t
    unfolding number_in
    number_other [] n k h = rw h
    number_other (e ∷ t) n k h = ap (pick (f e.1) e.0) (number_other t n k h)

    -- what had no number may have one in what follows
    pub number_none : (t u : List (ℕ × K)) → Counted t → number_in f t ≡ 0 → number_in f (t ++ u) ≡ number_in f u
    unfolding number_in
    number_none [] u c z = refl
    number_none (e ∷ t) u c z = go (number_none t u c.1) (f e.1) z
      where
        go : (number_in f t ≡ 0 → number_in f (t ++ u) ≡ number_in f u) → (b : Bool) → pick b e.0 (number_in f t) ≡ 0
            → pick b e.0 (number_in f (t ++ u)) ≡ number_in f u
        go again true q = let p = c.0 in absurd (omega arith)
        go again false q = again q

    pub number_new : (t : List (ℕ × K)) (n : ℕ) (k : K) → Counted t → f k ≡ true → number_in f t ≡ 0 → number_in f (t ++ ((suc n, k) ∷ [])) ≡ suc n
    unfolding number_in
    number_new t n k c h z = number_none t ((suc n, k) ∷ []) c z ∙ rw h

-- ---- libraries

module _ (name : List ℕ) (ls : Libraries) where
  pub entered_new : number_in (same_bytes name) ls ≡ 0 → entered name ls ≡ ls ++ ((suc (length ls), name) ∷ [])
  unfolding entered
  entered_new e = rw (eq-eqb (number_in (same_bytes name) ls) 0 e)

  pub entered_old : (m : ℕ) → number_in (same_bytes name) ls ≡ suc m → entered name ls ≡ ls
  unfolding entered
  entered_old m e = rw (ne_eqb (number_in (same_bytes name) ls) 0 (λ q. omega arith))

  -- what holds of the libraries with this one at the end, and of them as they are
  pub entered_so : (P : Libraries → Type 0) → P (ls ++ ((suc (length ls), name) ∷ [])) → P ls → P (entered name ls)
  unfolding entered
  entered_so P a b = picked P (eqb (number_in (same_bytes name) ls) 0) (λ e. a) (λ e. b)

  pub entered_counted : Counted ls → Counted (entered name ls)
  entered_counted c = entered_so Counted (counted_more ls (length ls) name c) c

  -- what is there stays
  pub entered_more : (f : List ℕ → Bool) (m : ℕ) → number_in f ls ≡ suc m → number_in f (entered name ls) ≡ suc m
  entered_more f m e = entered_so (λ (l : Libraries). number_in f l ≡ suc m) (number_more f ls ((suc (length ls), name) ∷ []) m e) e

  -- it is there afterwards
  pub entered_has : Counted ls → (m : ℕ) × (number_in (same_bytes name) (entered name ls) ≡ suc m)
  entered_has c = go (number_in (same_bytes name) ls) refl
    where
      go : (x : ℕ) → number_in (same_bytes name) ls ≡ x → (m : ℕ) × (number_in (same_bytes name) (entered name ls) ≡ suc m)
      go zero e = (length ls, rw (entered_new e) (number_new (same_bytes name) ls (length ls) name c (same_refl name) e))
      go (suc m) e = (m, entered_more (same_bytes name) m e)

-- what entering one keeps, entering all keeps
pub all_so : (P : Libraries → Type 0) → ((n : List ℕ) (l : Libraries) → P l → P (entered n l)) → (names : List (List ℕ)) (ls : Libraries) → P ls → P (all_entered names ls)
unfolding all_entered
all_so P step [] ls h = h
all_so P step (n ∷ names) ls h = all_so P step names (entered n ls) (step n ls h)

pub all_more : (names : List (List ℕ)) (ls : Libraries) (f : List ℕ → Bool) (m : ℕ) → number_in f ls ≡ suc m → number_in f (all_entered names ls) ≡ suc m
all_more names ls f m = all_so (λ (l : Libraries). number_in f l ≡ suc m) (λ n l. entered_more n l f m) names ls

pub all_counted : (names : List (List ℕ)) (ls : Libraries) → Counted ls → Counted (all_entered names ls)
all_counted = all_so Counted entered_counted

pub all_append : (names more : List (List ℕ)) (ls : Libraries) → all_entered (names ++ more) ls ≡ all_entered more (all_entered names ls)
unfolding all_entered
all_append [] more ls = refl
all_append (n ∷ names) more ls = all_append names more (entered n ls)

-- ---- what was written

-- once these nodes were
unfoldable pub after_nodes : Progress → List Node → Progress
after_nodes w [] = w
after_nodes w (n ∷ ns) = after_nodes (after_what w n.what) ns
