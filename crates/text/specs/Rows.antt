-- The rows of Unicode 5.0, table 3-7, as `format`'s definitions have them: how many bytes follow a first byte, and from where to where the next lies.
use Rattle.std.specs.Prelude.{ℕ, suc, ◌+◌, ◌≤◌, ◌<◌, ◌≡◌, refl, List, length, get_or}
use Rattle.std.proofs.Common.{arith, add-one}
use borrow.Author.Tests.{lt-ltb, le-ltb, ne_eqb}
use Rattle.format.specs.declared.Utf8.{Utf8}
use Rattle.format.specs.Bytes.{part}
use Rattle.format.specs.Text.{need_of, lo_of, hi_of, broken, between, step_of, lead_of, after}
use Rattle.fields.specs.Parts.{part_cons}
use Rattle.text.specs.Steps.{waits, need_none, need_one_lem, need_two, need_three, lead, along, stays_broken}
use Rattle.text.specs.Scalars.{ends_at, width_of, width_at, ends_none}

-- a first byte that k bytes follow, the next from lo to hi
abbrev pub Row : ℕ → ℕ → ℕ → ℕ → Type 0
Row b k lo hi = (need_of b ≡ k) × ((lo_of b ≡ lo) × (hi_of b ≡ hi))

module _ (b : ℕ) where
  -- in all but four rows the second byte lies from 80 to BF
  usual : {k : ℕ} → need_of b ≡ k → (b ≡ 0xE0 → ⊥) × ((b ≡ 0xED → ⊥) × ((b ≡ 0xF0 → ⊥) × (b ≡ 0xF4 → ⊥))) → Row b k 0x80 0xBF
  unfolding lo_of hi_of
  usual e (e0, (ed, (f0, f4))) = (e, (rw (ne_eqb b 0xE0 e0, ne_eqb b 0xF0 f0), rw (ne_eqb b 0xED ed, ne_eqb b 0xF4 f4)))

  -- no byte follows, and the bounds are not looked at
  pub row_1 : b ≤ 0x7F → Row b 0 0x80 0xBF
  row_1 u = usual (need_none b (omega arith)) (omega arith)

  pub row_2 : 0xC2 ≤ b → b ≤ 0xDF → Row b 1 0x80 0xBF
  row_2 l u = usual (need_one_lem b (omega arith) (omega arith)) (omega arith)

  pub row_3 : b ≡ 0xE0 → Row b 2 0xA0 0xBF
  unfolding need_of lo_of hi_of
  row_3 e = rw e (refl, (refl, refl))

  pub row_4 : 0xE1 ≤ b → b ≤ 0xEC → Row b 2 0x80 0xBF
  row_4 l u = usual (need_two b (omega arith) (omega arith)) (omega arith)

  pub row_5 : b ≡ 0xED → Row b 2 0x80 0x9F
  unfolding need_of lo_of hi_of
  row_5 e = rw e (refl, (refl, refl))

  pub row_6 : 0xEE ≤ b → b ≤ 0xEF → Row b 2 0x80 0xBF
  row_6 l u = usual (need_two b (omega arith) (omega arith)) (omega arith)

  pub row_7 : b ≡ 0xF0 → Row b 3 0x90 0xBF
  unfolding need_of lo_of hi_of
  row_7 e = rw e (refl, (refl, refl))

  pub row_8 : 0xF1 ≤ b → b ≤ 0xF3 → Row b 3 0x80 0xBF
  row_8 l u = usual (need_three b (omega arith) (omega arith)) (omega arith)

  pub row_9 : b ≡ 0xF4 → Row b 3 0x80 0x8F
  unfolding need_of lo_of hi_of
  row_9 e = rw e (refl, (refl, refl))

  -- no row has them: 80 to C1, and F5 to FF
  pub before_row_2 : 0x80 ≤ b → b < 0xC2 → need_of b ≡ 4
  unfolding need_of
  before_row_2 l u = rw (le-ltb b 0x80 l, lt-ltb b 0xC2 u)

  pub after_row_9 : 0xF4 < b → need_of b ≡ 4
  unfolding need_of
  after_row_9 l =
      rw (le-ltb b 0x80 (omega arith), le-ltb b 0xC2 (omega arith), le-ltb b 0xE0 (omega arith), le-ltb b 0xF0 (omega arith), le-ltb b 0xF5 (omega arith))

-- ---- the scalar at a place by the row of its first byte

pub breaks_first : (b : ℕ) → need_of b ≡ 4 → step_of between b ≡ broken
unfolding step_of lead_of
breaks_first b e = rw e

module _ (s : List ℕ) (i : ℕ) (h : i < length s) where
  -- what the first byte leads to is where the bytes after it begin
  pub from_first : (k : ℕ) (st : Utf8) → step_of between (get_or s i 0) ≡ st → after between (part s i (k + 1)) ≡ after st (part s (i + 1) k)
  from_first k st e =
      let d : k + 1 ≡ suc k = add-one k in
      rw (d, part_cons s i k h) (along between st (get_or s i 0) (part s (i + 1) k) e)

  pub by_row_lem : {k lo hi : ℕ} → Row (get_or s i 0) k lo hi → k < 4 → width_of s i k lo hi ≡ width_at s i
  unfolding width_of width_at ends_at
  by_row_lem {k} {lo} {hi} (e, (l, u)) f =
      let st : step_of between (get_or s i 0) ≡ waits k lo hi = rw (← l, ← u) (lead (get_or s i 0) k e f) in
      rw (e, from_first k (waits k lo hi) st)

  pub by_row_1 : Row (get_or s i 0) 0 0x80 0xBF → 1 ≡ width_at s i
  unfolding width_of
  by_row_1 r = rw (ends_none s (i + 1) 0x80 0xBF) at (by_row_lem r (omega arith))

  pub by_none : need_of (get_or s i 0) ≡ 4 → 0 ≡ width_at s i
  unfolding width_at ends_at
  by_none e = rw (e, from_first 4 broken (breaks_first (get_or s i 0) e), stays_broken)
