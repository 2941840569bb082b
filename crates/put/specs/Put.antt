-- Writers into a lent part, one after the other. A writer promises the length that its bytes need, whether they fit or not, and the bytes
-- where they do. Lengths past the greatest usize are told as that one, so that sums of them need no bound.
use Rattle.std.specs.Prelude.{ℕ, ◌+◌, ◌-◌, ◌≤◌, ◌<◌, ◌≡◌, refl, List, [], ◌++◌, length, drop, min, leb}
use Rattle.std.proofs.Common.{sym, ap, ap₂, ◌∙◌, append_assoc, append-nil, arith, length-append, length-drop, take_all, le-leb}
use Rattle.std.proofs.Math.Decide.{dec_lt}
use Rattle.std.proofs.lemmas.Bool.{lt-leb}
use borrow.Rule.Slice.PartMut.{put_mid, mid_of, same_len_mid}
use Rattle.format.specs.Bytes.{pick, laid, Written}
use Rattle.prefix.specs.Writing.{handed, written_room}

-- the greatest usize
abbrev pub most : ℕ
most = 18446744073709551615

-- a number, or the greatest usize where it is more
unfoldable pub capped : ℕ → ℕ
capped n = pick (leb n most) n most

-- a writer of b over a part that held d leaves e and answers r
pub record Filled (b d e : List ℕ) (r : ℕ) : Type 0 where
  pub total : r ≡ capped (length b)
  pub bytes : length b ≤ length d → e ≡ laid b d

-- where the rest of a part of length b begins, of which a bytes are written or would be
pub record Least (a b r : ℕ) : Type 0 where
  pub within : r ≤ b
  pub fits : a ≤ b → r ≡ a
  pub full : b ≤ a → r ≡ b
  pub room : b ≤ most

-- ---- totals
pub capped_below : (n : ℕ) → n ≤ most → capped n ≡ n
unfolding capped
capped_below n h = rw (le-leb _ _ h)

pub capped_above : (n : ℕ) → most < n → capped n ≡ most
unfolding capped
capped_above n h = rw (lt-leb _ _ h)

pub capped_min : (n : ℕ) → min n most ≡ capped n
capped_min n = go (dec_lt most n)
  where
    go : Dec (most < n) → min n most ≡ capped n
    go (yes h) = rw (capped_above n h) (omega arith)
    go (no h) = rw (capped_below n (omega arith)) (omega arith)

-- a total that is less than the greatest usize is the length
pub capped_within : (n d : ℕ) → n ≤ d → d ≤ most → capped n ≡ n
capped_within n d h k = capped_below n (omega arith)

pub capped_sum : (p q : ℕ) → capped (capped p + capped q) ≡ capped (p + q)
capped_sum p q = go (dec_lt most p) (dec_lt most q)
  where
    over : (a b : ℕ) → capped p ≡ a → capped q ≡ b → most ≤ a + b → most < p + q → capped (capped p + capped q) ≡ capped (p + q)
    over a b x y h k = rw (x, y, capped_above (p + q) k) (top (dec_lt most (a + b)))
      where
        top : Dec (most < a + b) → capped (a + b) ≡ most
        top (yes z) = capped_above (a + b) z
        top (no z) = capped_below (a + b) (omega arith) ∙ omega arith

    go : Dec (most < p) → Dec (most < q) → capped (capped p + capped q) ≡ capped (p + q)
    go (yes x) (yes y) = over most most (capped_above p x) (capped_above q y) (omega arith) (omega arith)
    go (yes x) (no y) = over most q (capped_above p x) (capped_below q (omega arith)) (omega arith) (omega arith)
    go (no x) (yes y) = over p most (capped_below p (omega arith)) (capped_above q y) (omega arith) (omega arith)
    go (no x) (no y) = rw (capped_below p (omega arith), capped_below q (omega arith))

-- ---- the ways that a writer ends
pub unfilled : (b d : List ℕ) (r : ℕ) → r ≡ length b → r ≤ most → length d < length b → Filled b d d r
unfilled b d r e l h = record { total = e ∙ sym (capped_below (length b) (omega arith)); bytes = λ w. absurd (omega arith) }

pub filled : (b d e : List ℕ) (r : ℕ) → r ≡ length b → r ≤ most → e ≡ laid b d → Filled b d e r
filled b d e r p l q = record { total = p ∙ sym (capped_below (length b) (omega arith)); bytes = λ w. q }

pub nothing : (b d : List ℕ) → b ≡ [] → Filled b d d 0
unfolding laid
nothing b d q = rw q (filled [] d d 0 refl (omega arith) refl)

pub became : (b c d e : List ℕ) (r : ℕ) → c ≡ b → Filled b d e r → Filled c d e r
became b c d e r q f = rw q f

pub written_filled : (b d e : List ℕ) (r : ℕ) → r ≤ most → Written b d e r → Filled b d e r
written_filled b d e r l w =
    let t = w.total in
    record { total = t ∙ sym (capped_below (length b) (omega arith)); bytes = λ h. written_room b d e r w h }

-- ---- two writers, one after the other; m is where the second one's part begins
mid_rest : (m : ℕ) (x : List ℕ) → m ≤ length x → length (mid_of m (length x - m) x) ≡ length x - m
mid_rest m x h =
    let l : length (drop m x) ≡ length x - m = length-drop m x in
    rw (take_all (length x - m) (drop m x) (omega arith)) l

pub joined : (h g d x y : List ℕ) (a b m r : ℕ) → length x ≡ length d → Least a (length x) m
    → Filled h d x a → Filled g (mid_of m (length x - m) x) y b → r ≡ capped (a + b) → Filled (h ++ g) d (put_mid m (length x - m) x y) r
joined h g d x y a b m r l k f u q =
    record {
      total = q ∙ (ap capped (ap₂ ◌+◌ f.total u.total) ∙ (capped_sum (length h) (length g) ∙ ap capped (sym (length-append h g))));
      bytes = λ (w : length (h ++ g) ≤ length d).
          let v : length h + length g ≤ length d = rw length-append at w in
          let t : a ≡ length h = f.total ∙ capped_within (length h) (length x) (omega arith) k.room in
          let e : m ≡ a = k.fits (omega arith) in
          let n : length (mid_of m (length x - m) x) ≡ length x - m = mid_rest m x (omega arith) in
          handed m h g d x y (omega arith) (f.bytes (omega arith)) (u.bytes (omega arith));
    }

-- the same, for bytes that are defined as the two
pub joined_as : (c h g d x y : List ℕ) (a b m r : ℕ) → c ≡ h ++ g → length x ≡ length d → Least a (length x) m
    → Filled h d x a → Filled g (mid_of m (length x - m) x) y b → r ≡ capped (a + b) → Filled c d (put_mid m (length x - m) x y) r
joined_as c h g d x y a b m r e l k f u q = became (h ++ g) c d (put_mid m (length x - m) x y) r e (joined h g d x y a b m r l k f u q)

-- ---- a loop of writers: d is the part at first, e now; a is the total so far, rest what is still to be written of the whole
pub record Along (whole rest d e : List ℕ) (a : ℕ) : Type 0 where
  pub done : List ℕ
  pub split : whole ≡ done ++ rest
  pub so_far : Filled done d e a
  pub sized : length e ≡ length d

pub along_start : (whole rest d : List ℕ) → whole ≡ rest → Along whole rest d d 0
along_start whole rest d e = record { done = []; split = e; so_far = nothing [] d refl; sized = refl }

module _ (whole rest d e y : List ℕ) (a b m r : ℕ) (v : Along whole rest d e a) (k : Least a (length e) m) (q : r ≡ capped (a + b)) where
  pub along_more : (item more : List ℕ) → rest ≡ item ++ more → length y ≡ length (mid_of m (length e - m) e)
      → Filled item (mid_of m (length e - m) e) y b → Along whole more d (put_mid m (length e - m) e y) r
  along_more item more z l f =
      record {
        done = v.done ++ item;
        split = v.split ∙ (ap (λ (t : List ℕ). v.done ++ t) z ∙ sym (append_assoc v.done item more));
        so_far = joined v.done item d e y a b m r v.sized k v.so_far f q;
        sized = same_len_mid m (length e - m) e y l ∙ v.sized;
      }

  -- the last writer, after the loop
  pub along_last : Filled rest (mid_of m (length e - m) e) y b → Filled whole d (put_mid m (length e - m) e y) r
  along_last f = rw v.split (joined v.done rest d e y a b m r v.sized k v.so_far f q)

pub along_end : (whole rest d e : List ℕ) (a : ℕ) → Along whole rest d e a → rest ≡ [] → Filled whole d e a
along_end whole rest d e a v z = rw (v.split, z, append-nil) v.so_far
