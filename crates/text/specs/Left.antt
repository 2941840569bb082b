-- What is left to check after a scalar: the check begins anew, and without a scalar it fails.
use Rattle.std.specs.Prelude.{ℕ, zero, suc, ◌+◌, ◌≤◌, ◌<◌, ◌≡◌, refl, true, false, List, [], ◌∷◌, length, get_or, take, drop, eqb}
use Rattle.std.proofs.Common.{sym, ap, ◌∙◌, arith, add-one, drop_of_length-le, length-drop, drop-cons, drop-drop, eqb-true, ne_eqb}
use Rattle.std.proofs.Math.Decide.{dec_lt}
use Rattle.std.proofs.lemmas.Bool.{eqb-false}
use Rattle.format.specs.declared.Utf8.{Utf8}
use Rattle.format.specs.Bytes.{part}
use Rattle.format.specs.Text.{need_of, lo_of, hi_of, broken, between, step_of, after, well_formed}
use Rattle.fields.specs.Judged.{told, other}
use Rattle.text.specs.Laws.{need_bound}
use Rattle.text.specs.Steps.{waits, lead, begins, along, next, not_broken, has_next}
use Rattle.text.specs.Scalars.{ends_at, width_at}
use Rattle.text.specs.Rows.{row_1, breaks_first, from_first, by_row_1}
use Rattle.text.specs.Rests.{rest, rest_is, In, of_all}
use Rattle.std.proofs.lemmas.Nat.{le_or_l, le_or_r}
use lib.Bits.{bit_or}

-- of the bytes that are waited for, as many as the first byte says are enough
enough : (k lo hi : ℕ) (l : List ℕ) → (after (waits k lo hi) l).need ≡ 0 → (after (waits k lo hi) (take k l)).need ≡ 0
unfolding after
enough zero lo hi l e = refl
enough (suc k) lo hi l e =
    let w = has_next k lo hi l e in
    let n = next k lo hi w.byte w.low w.high in
    rw w.split (rw (along (waits (suc k) lo hi) (waits k 0x80 0xBF) w.byte (take k w.rest) n) (enough k 0x80 0xBF w.rest w.on))

-- and where those end well, all begins anew after them
anew : (k lo hi : ℕ) (l : List ℕ) → (after (waits k lo hi) (take k l)).need ≡ 0
    → (k ≤ length l) × ((after (waits k lo hi) l).need ≡ (after between (drop k l)).need)
unfolding after
anew zero lo hi l e = (omega arith, begins lo hi l)
anew (suc k) lo hi [] e = absurd (omega arith)
anew (suc k) lo hi (x ∷ l) e =
    let w = has_next k lo hi (x ∷ take k l) e in
    let p : x ≡ w.byte = ap (λ (m : List ℕ). get_or m 0 0) w.split in
    let q : take k l ≡ w.rest = ap (drop 1) w.split in
    let low = w.low in
    let high = w.high in
    let n = next k lo hi x (omega arith) (omega arith) in
    let v = anew k 0x80 0xBF l (rw q w.on) in
    (omega (arith, v.0), rw (along (waits (suc k) lo hi) (waits k 0x80 0xBF) x l n) v.1)

module _ (s : List ℕ) (i : ℕ) (h : i < length s) where
  abbrev b : ℕ
  b = get_or s i 0

  -- what is waited for after the first byte, and how many bytes there are with it
  abbrev st : Utf8
  st = waits (need_of b) (lo_of b) (hi_of b)

  abbrev w : ℕ
  w = need_of b + 1

  known : need_of b < 4 → step_of between b ≡ st
  known f = lead b (need_of b) refl f

  unknown : (need_of b < 4 → ⊥) → step_of between b ≡ broken
  unknown n = let m = need_bound b in breaks_first b (omega arith)

  from_here : (u : Utf8) → step_of between b ≡ u → after between (drop i s) ≡ after u (drop (i + 1) s)
  from_here u e =
      let d : i + 1 ≡ suc i = add-one i in
      rw (drop-cons s i 0 h, d) (along between u b (drop (suc i) s) e)

  goes_on : Dec (need_of b < 4) → (after between (part s i w)).need ≡ 0
      → (i + w ≤ length s) × ((after between (drop i s)).need ≡ (after between (drop (i + w) s)).need)
  goes_on (yes f) e =
      let v = anew (need_of b) (lo_of b) (hi_of b) (drop (i + 1) s) (rw (from_first s i h (need_of b) st (known f)) at e) in
      let r = simp length-drop at v.0 in
      let d : i + 1 + need_of b ≡ i + w = omega arith in
      (omega arith, ap (λ (x : Utf8). x.need) (from_here st (known f)) ∙ (v.1 ∙ rw (drop-drop (need_of b) (i + 1) s, d)))
  goes_on (no f) e = not_broken (part s (i + 1) (need_of b)) (rw (from_first s i h (need_of b) broken (unknown f)) at e)

  ends_well : Dec (need_of b < 4) → (after between (drop i s)).need ≡ 0 → (after between (part s i w)).need ≡ 0
  ends_well (yes f) e =
      rw (from_first s i h (need_of b) st (known f)) (enough (need_of b) (lo_of b) (hi_of b) (drop (i + 1) s) (rw (from_here st (known f)) at e))
  ends_well (no f) e = not_broken (drop (i + 1) s) (rw (from_here broken (unknown f)) at e)

-- after a scalar of n bytes
pub scalar_on : (s : List ℕ) (i n : ℕ) → n ≡ width_at s i → (n ≡ 0 → ⊥) → i < length s
    → (i + n ≤ length s) × (well_formed (drop i s) ≡ well_formed (drop (i + n) s))
unfolding width_at ends_at well_formed
scalar_on s i n e z h =
    let w : ℕ = need_of (get_or s i 0) + 1 in
    let t = told (eqb (after between (part s i w)).need 0) w 0 n (sym e) (λ q. z (sym q)) in
    let v = goes_on s i h (dec_lt (need_of (get_or s i 0)) 4) (eqb-true (after between (part s i w)).need 0 t.0) in
    rw (← t.1) (v.0, ap (λ (m : ℕ). eqb m 0) v.1)

-- after a byte of row 1, and after four
plain_on : (s : List ℕ) (i : ℕ) → i < length s → get_or s i 0 ≤ 0x7F → well_formed (drop i s) ≡ well_formed (drop (i + 1) s)
plain_on s i h u = (scalar_on s i 1 (by_row_1 s i h (row_1 (get_or s i 0) u)) (omega arith) h).1

pub plain_four : (s : List ℕ) (i : ℕ) → i + 4 ≤ length s → get_or s i 0 ≤ 0x7F → get_or s (i + 1) 0 ≤ 0x7F → get_or s (i + 2) 0 ≤ 0x7F → get_or s (i + 3) 0 ≤ 0x7F
    → well_formed (drop i s) ≡ well_formed (drop (i + 4) s)
plain_four s i h a b c d =
    let two : i + 1 + 1 ≡ i + 2 = omega arith in
    let three : i + 2 + 1 ≡ i + 3 = omega arith in
    let four : i + 3 + 1 ≡ i + 4 = omega arith in
    plain_on s i (omega arith) a
    ∙ (rw two at (plain_on s (i + 1) (omega arith) b) ∙ (rw three at (plain_on s (i + 2) (omega arith) c) ∙ rw four at (plain_on s (i + 3) (omega arith) d)))

-- the same, of what is left as code has it
pub plain_rest : (s : List ℕ) (i : ℕ) → In (rest s i) 0 0 0x7F → In (rest s i) 1 0 0x7F → In (rest s i) 2 0 0x7F → In (rest s i) 3 0 0x7F
    → (i + 4 ≤ length s) × (well_formed (drop i s) ≡ well_formed (drop (i + 4) s))
plain_rest s i a b c d =
    let p = of_all s i 0 i 0 0x7F (omega arith) a in
    let q = of_all s i 1 (i + 1) 0 0x7F (omega arith) b in
    let r = of_all s i 2 (i + 2) 0 0x7F (omega arith) c in
    let t = of_all s i 3 (i + 3) 0 0x7F (omega arith) d in
    let l : i + 4 ≤ length s = omega (arith, t.0) in
    (l, plain_four s i l p.1.1 q.1.1 r.1.1 t.1.1)

-- the same, by the bytes' or, which is at least as large as each of them
low_four : (a b c d : ℕ) → bit_or (bit_or (bit_or a b) c) d ≤ 0x7F → (a ≤ 0x7F) × (b ≤ 0x7F) × (c ≤ 0x7F) × (d ≤ 0x7F)
low_four a b c d h =
    let x = bit_or a b in
    let y = bit_or x c in
    let i : a ≤ x = le_or_l a b in
    let j : b ≤ x = le_or_r a b in
    let k : x ≤ y = le_or_l x c in
    let l : c ≤ y = le_or_r x c in
    let m : y ≤ bit_or y d = le_or_l y d in
    let n : d ≤ bit_or y d = le_or_r y d in
    (omega arith, omega arith, omega arith, omega arith)

pub plain_or : (s : List ℕ) (i : ℕ) → 4 ≤ length (rest s i)
    → bit_or (bit_or (bit_or (get_or (rest s i) 0 0) (get_or (rest s i) 1 0)) (get_or (rest s i) 2 0)) (get_or (rest s i) 3 0) ≤ 0x7F
    → (i + 4 ≤ length s) × (well_formed (drop i s) ≡ well_formed (drop (i + 4) s))
plain_or s i l h =
    let q = low_four (get_or (rest s i) 0 0) (get_or (rest s i) 1 0) (get_or (rest s i) 2 0) (get_or (rest s i) 3 0) h in
    plain_rest s i (omega arith, (omega arith, q.0)) (omega arith, (omega arith, q.1)) (omega arith, (omega arith, q.2)) (omega arith, (omega arith, q.3))

-- after m bytes of what is left
pub plain_behind : (s : List ℕ) (i m : ℕ) → i ≤ length s → (m ≤ length (rest s i)) × (well_formed (rest s i) ≡ well_formed (drop m (rest s i)))
    → (i + m ≤ length s) × (well_formed (drop i s) ≡ well_formed (drop (i + m) s))
plain_behind s i m h p =
    let q : (m ≤ length (drop i s)) × (well_formed (drop i s) ≡ well_formed (drop m (drop i s))) = rw (rest_is s i) at p in
    (omega (arith, q.0, length-drop i s), q.1 ∙ rw (drop-drop m i s) refl)

-- without a scalar
pub scalar_none : (s : List ℕ) (i n : ℕ) → n ≡ width_at s i → n ≡ 0 → i < length s → well_formed (drop i s) ≡ false
unfolding width_at ends_at well_formed
scalar_none s i n e z h =
    let w : ℕ = need_of (get_or s i 0) + 1 in
    let t = other (eqb (after between (part s i w)).need 0) w 0 0 (sym e ∙ z) (λ q. omega arith) in
    ne_eqb (after between (drop i s)).need 0
    (λ q. eqb-false (after between (part s i w)).need 0 t.0 (ends_well s i h (dec_lt (need_of (get_or s i 0)) 4) q))

-- at the end
pub nothing_left : (s : List ℕ) (i : ℕ) → length s ≤ i → well_formed (drop i s) ≡ true
unfolding well_formed after
nothing_left s i h = rw (drop_of_length-le s h)
