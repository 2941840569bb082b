-- Laws of the hash and of the pattern: what holds of each loop on its way, one more turn, and its end. They serve words and bytes alike.
use Rattle.std.specs.Prelude.{ℕ, ◌+◌, ◌≤◌, ◌<◌, ◌≡◌, refl, List, ◌++◌, length, get_or, drop, set, replicate}
use Rattle.std.proofs.Common.{sym, ◌∙◌, append-nil, add-one, arith, length-set, drop-cons}
use Rattle.std.proofs.lemmas.List.Edits.{fill_more}
use Rattle.std.proofs.Math.Seq.{drop-length}
use Rattle.traces.specs.declared.Lanes.{Lanes}
use Rattle.traces.specs.Traces.{stirred, lanes_from, lanes_of}

-- ---- the hash

-- both lanes are below their prime
abbrev pub Below : Lanes → Type 0
Below l = (l.a < 4294967291) × (l.b < 4294967291)

pub stirred_below : (l : Lanes) (w : ℕ) → Below (stirred l w)
unfolding stirred
stirred_below l w = (omega arith, omega arith)

-- l is the hash of the first i words of ws: with the words left it gives the whole
pub record Hashed (ws : List ℕ) (i : ℕ) (l : Lanes) : Type 0 where
  pub within : i ≤ length ws
  pub below : Below l
  pub whole : lanes_of ws ≡ lanes_from l (drop i ws)

pub hashed_none : (ws : List ℕ) → Hashed ws 0 (record { a = 0; b = 0 })
hashed_none ws = record { within = omega arith; below = (omega arith, omega arith); whole = refl }

pub hashed_more : (ws : List ℕ) (i : ℕ) (l r : Lanes) → Hashed ws i l → i < length ws → r ≡ stirred l (get_or ws i 0) → Hashed ws (i + 1) r
unfolding lanes_from
hashed_more ws i l r h g e =
    rw (e, add-one i)
    (record {
      within = omega arith;
      below = stirred_below l (get_or ws i 0);
      whole = h.whole ∙ rw (drop-cons ws i 0 g);
    })

pub hashed_all : (ws : List ℕ) (i : ℕ) (l : Lanes) → Hashed ws i l → length ws ≤ i → l ≡ lanes_of ws
unfolding lanes_from
hashed_all ws i l h g =
    let w = h.within in
    let e : i ≡ length ws = omega arith in
    sym (h.whole ∙ rw (e, drop-length))

-- ---- the pattern

-- of what was d the first i are v
pub record Littered (v : ℕ) (d : List ℕ) (i : ℕ) (t : List ℕ) : Type 0 where
  pub within : i ≤ length d
  pub long : length t ≡ length d
  pub filled : t ≡ replicate i v ++ drop i d

pub littered_none : (v : ℕ) (d : List ℕ) → Littered v d 0 d
littered_none v d = record { within = omega arith; long = refl; filled = refl }

pub littered_more : (v : ℕ) (d : List ℕ) (i : ℕ) (t : List ℕ) → Littered v d i t → i < length t → Littered v d (i + 1) (set t i v)
littered_more v d i t h g =
    let l = h.long in
    record { within = omega arith; long = simp length-set l; filled = rw h.filled (fill_more i v d (omega arith)) }

pub littered_all : (v : ℕ) (d : List ℕ) (i : ℕ) (t : List ℕ) → Littered v d i t → length t ≤ i → t ≡ replicate (length d) v
littered_all v d i t h g =
    let w = h.within in
    let l = h.long in
    let e : i ≡ length d = omega arith in
    h.filled ∙ rw (e, drop-length, append-nil)
