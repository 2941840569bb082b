-- Laws of rows and members: one for each way that the code ends, and one more turn of each loop.
use Rattle.std.specs.Prelude.{ℕ, zero, suc, ◌+◌, ◌-◌, ◌*◌, ◌≤◌, ◌<◌, ◌≡◌, refl, List, get_or}
use Rattle.std.proofs.Common.{arith}
use borrow.Author.Tests.{lt-ltb, le-ltb, le-leb, lt-leb, eq-eqb, ne_eqb}
use Rattle.format.specs.declared.Row.{Row}
use Rattle.format.specs.Rows.{room_of}
use Rattle.peeking.specs.Peeking.{onward, byte_at, four_at, after_string}
use Rattle.members.specs.Members.{word_of, row_in, depth_from, slots_filled, last_of, fields_row, after_strings, after_detail, detail_from, library_of}

-- ---- rows

module _ (t : List ℕ) (row k : ℕ) where
  pub word_out : room_of t ≤ row → 0 ≡ word_of t row k
  unfolding word_of
  word_out h = rw (le-ltb row (room_of t) h)

  pub word_none : row < room_of t → 8 ≤ k → 0 ≡ word_of t row k
  unfolding word_of
  word_none h g = rw (lt-ltb row (room_of t) h, le-ltb k 8 g)

  pub word_in : row < room_of t → k < 8 → get_or t (8 * row + k) 0 ≡ word_of t row k
  unfolding word_of
  word_in h g = rw (lt-ltb row (room_of t) h, lt-ltb k 8 g)

pub fields_named : (t : List ℕ) (r : Row) → r.kind ≡ 1 → row_in t (r.link - 1) ≡ fields_row t r
unfolding fields_row
fields_named t r e = rw (eq-eqb r.kind 1 e)

pub fields_own : (t : List ℕ) (r : Row) → (r.kind ≡ 1 → ⊥) → r ≡ fields_row t r
unfolding fields_row
fields_own t r e = rw (ne_eqb r.kind 1 e)

-- ---- depth

pub depth_top : (k : ℕ) (t : List ℕ) (w : ℕ) → w ≡ 0 → depth_from k t w ≡ 0
unfolding depth_from
depth_top zero t w e = refl
depth_top (suc k) t w e = rw (eq-eqb w 0 e)

pub depth_most : (k : ℕ) (t : List ℕ) (w : ℕ) → k ≤ 0 → depth_from k t w ≡ 0
unfolding depth_from
depth_most zero t w h = refl
depth_most (suc k) t w h = absurd (omega arith)

pub depth_on : (k j : ℕ) (t : List ℕ) (w v : ℕ) → 0 < k → j ≡ k - 1 → (w ≡ 0 → ⊥) → v ≡ word_of t (w - 1) 4
    → depth_from k t w ≡ 1 + depth_from j t v
unfolding depth_from
depth_on zero j t w v h d e f = absurd (omega arith)
depth_on (suc k) j t w v h d e f =
    let g : k ≡ j = omega arith in
    rw (ne_eqb w 0 e, ← f, g) (omega arith)

-- ---- the slots that a row fills

module _ (r : Row) where
  pub filled_run : r.kind ≡ 13 → r.count ≡ slots_filled r
  unfolding slots_filled
  filled_run e = rw (eq-eqb r.kind 13 e)

  pub filled_long : r.kind ≡ 14 → r.count ≡ slots_filled r
  unfolding slots_filled
  filled_long e = rw (ne_eqb r.kind 13 (λ f. omega arith), eq-eqb r.kind 14 e)

  pub filled_one_lem : (r.kind ≡ 13 → ⊥) → (r.kind ≡ 14 → ⊥) → 1 ≡ slots_filled r
  unfolding slots_filled
  filled_one_lem e f = rw (ne_eqb r.kind 13 e, ne_eqb r.kind 14 f)

module _ (first count : ℕ) where
  pub last_in : first + count ≤ 4294967295 → first + (count - 1) ≡ last_of first count
  unfolding last_of
  last_in h = rw (le-leb (first + count) 4294967295 h)

  pub last_past : 4294967295 < first + count → first ≡ last_of first count
  unfolding last_of
  last_past h = rw (lt-leb (first + count) 4294967295 h)

-- ---- strings and details in a row

pub strings_none : (n : ℕ) (s : List ℕ) (at : ℕ) → n ≤ 0 → after_strings n s at ≡ at
unfolding after_strings
strings_none zero s at h = refl
strings_none (suc n) s at h = absurd (omega arith)

pub strings_on : (n j : ℕ) (s : List ℕ) (at v : ℕ) → 0 < n → j ≡ n - 1 → v ≡ after_string s at → after_strings n s at ≡ after_strings j s v
unfolding after_strings
strings_on zero j s at v h d f = absurd (omega arith)
strings_on (suc n) j s at v h d f =
    let g : n ≡ j = omega arith in
    rw (← f, g)

pub details_none : (n : ℕ) (s : List ℕ) (types i at : ℕ) → n ≤ 0 → detail_from n s types i at ≡ at
unfolding detail_from
details_none zero s types i at h = refl
details_none (suc n) s types i at h = absurd (omega arith)

pub details_on : (n j : ℕ) (s : List ℕ) (types i at v : ℕ) → 0 < n → j ≡ n - 1 → v ≡ after_detail s at (byte_at s (onward s types i))
    → detail_from n s types i at ≡ detail_from j s types (i + 1) v
unfolding detail_from
details_on zero j s types i at v h d f = absurd (omega arith)
details_on (suc n) j s types i at v h d f =
    let g : n ≡ j = omega arith in
    rw (← f, g)

pub detail_other : (s : List ℕ) (at t : ℕ) → (t ≡ 0 → ⊥) → (t ≡ 7 → ⊥) → (t ≡ 3 → ⊥) → (t ≡ 4 → ⊥) → at ≡ after_detail s at t
unfolding after_detail
detail_other s at t a b c d = simp ne_eqb

-- ---- the LibraryId

pub library_none : (s : List ℕ) (r : Row) → r.end < 4 → 0 ≡ library_of s r
unfolding library_of
library_none s r h = rw (lt-ltb r.end 4 h)

pub library_last : (s : List ℕ) (r : Row) → 4 ≤ r.end → four_at s (r.end - 4) ≡ library_of s r
unfolding library_of
library_last s r h = rw (le-ltb r.end 4 h)
