-- Laws of places: one for each way that the code ends, and where plain bytes end.
use Rattle.std.specs.Prelude.{ℕ, suc, ◌+◌, ◌*◌, ◌≤◌, ◌<◌, ◌≡◌, refl, Bool, true, false, List, [], ◌∷◌, length, get_or, drop, leb}
use Rattle.std.proofs.Common.{sym, ◌∙◌, arith, add-zero, add-one, length-drop, drop_of_length-le, drop-cons, rules}
use Rattle.std.proofs.Math.ListN.{get_or-eq_default}
use borrow.Author.Tests.{lt-ltb, le-ltb, le-leb, lt-leb, eq-eqb, ne_eqb, leb-true}
use Rattle.format.specs.Bytes.{pick}
use Rattle.format.specs.Text.{span_at}
use Rattle.peeking.specs.Peeking.{onward, byte_at, string_span, after_string, is_plain, hidden_by, hidden_at, plain_count, plain_end, char_size, fixed_size, after_value}

-- closes a return whose definition picks its case by tests
pub ruleset auto = (rules, lt-ltb, le-ltb, le-leb, lt-leb, eq-eqb, ne_eqb)

-- ---- places

pub onward_in : (s : List ℕ) (at n : ℕ) → at + n ≤ length s → at + n ≡ onward s at n
unfolding onward
onward_in s at n h = simp le-leb

-- at least one byte on, within the stream
pub onward_on : (s : List ℕ) (at n r : ℕ) → r ≡ onward s at n → at < length s → 0 < n → (at < r) × (r ≤ length s)
unfolding onward
onward_on s at n r e h g = go (leb (at + n) (length s)) refl
  where
    go : (t : Bool) → leb (at + n) (length s) ≡ t → (at < r) × (r ≤ length s)
    go true q = let w = leb-true (at + n) (length s) q in let z : r ≡ at + n = e ∙ rw q in (omega arith, omega arith)
    go false q = let z : r ≡ length s = e ∙ rw q in (omega arith, omega arith)

pub onward_end : (s : List ℕ) (at n : ℕ) → length s ≤ at → length s ≡ onward s at n
unfolding onward
onward_end s at n h = go (leb (at + n) (length s)) refl
  where
    go : (t : Bool) → leb (at + n) (length s) ≡ t → length s ≡ pick t (at + n) (length s)
    go true e = omega (arith, leb-true (at + n) (length s) e)
    go false e = refl

pub onward_past : (s : List ℕ) (at n : ℕ) → length s < at + n → length s ≡ onward s at n
unfolding onward
onward_past s at n h = simp lt-leb

pub byte_past : (s : List ℕ) (at : ℕ) → length s ≤ at → 0 ≡ byte_at s at
byte_past s at h = sym (get_or-eq_default s 0 {n = at} h)

-- ---- the texts of strings

-- at a place of the stream, what was judged before is found
pub span_in : (s : List ℕ) (at : ℕ) → at ≤ length s → span_at s at ≡ string_span s at
unfolding string_span
span_in s at h = rw (← onward_in s at 0 (omega arith), add-zero)

-- ---- plain bytes

-- the first three bytes of a character, each from its own place
pub hidden_told : (s : List ℕ) (at p q a b c r : ℕ) → p ≡ onward s at 1 → q ≡ onward s at 2 → a ≡ byte_at s at → b ≡ byte_at s p → c ≡ byte_at s q
    → r ≡ hidden_by (65536 * a + 256 * b + c) → r ≡ hidden_at s at
hidden_told s at p q a b c r e f g h i j = rw (← e, ← f, ← g, ← h, ← i) j

pub plain_past : (s : List ℕ) (at : ℕ) → length s ≤ at → plain_end s at ≡ at
unfolding plain_end plain_count
plain_past s at h = rw (drop_of_length-le s h) (omega arith)

pub plain_stop : (s : List ℕ) (at : ℕ) → at < length s → is_plain (get_or s at 0) ≡ false → plain_end s at ≡ at
unfolding plain_end plain_count
plain_stop s at h e = rw (drop-cons s at 0, e) (omega arith)

pub plain_on : (s : List ℕ) (at : ℕ) → at < length s → is_plain (get_or s at 0) ≡ true → plain_end s at ≡ plain_end s (at + 1)
unfolding plain_end plain_count
plain_on s at h e = rw (add-one, drop-cons s at 0, e) (omega arith)

count_within : (l : List ℕ) → plain_count l ≤ length l
unfolding plain_count
count_within [] = omega arith
count_within (b ∷ l) = go (is_plain b) (count_within l)
  where
    go : (t : Bool) → plain_count l ≤ length l → pick t (suc (plain_count l)) 0 ≤ suc (length l)
    go true h = omega arith
    go false h = omega arith

-- it lies between the place and the end
pub plain_within : (s : List ℕ) (at end : ℕ) → end ≡ plain_end s at → at ≤ length s → (at ≤ end) × (end ≤ length s)
unfolding plain_end
plain_within s at end e h = (omega arith, omega (arith, count_within (drop at s), length-drop at s))

-- ---- primitive values

module _ (s : List ℕ) (at code : ℕ) where
  pub value_char : code ≡ 3 → onward s at (char_size (byte_at s at)) ≡ after_value s at code
  unfolding after_value
  value_char e = rw e

  pub value_decimal : code ≡ 5 → after_string s at ≡ after_value s at code
  unfolding after_value
  value_decimal e = rw e

  pub value_fixed : (code ≡ 3 → ⊥) → (code ≡ 5 → ⊥) → onward s at (fixed_size code) ≡ after_value s at code
  unfolding after_value
  value_fixed a b = simp ne_eqb
