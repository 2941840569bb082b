-- What each writer puts out: one law for each way that it ends.
use Prim.Native.Nat.{ℕ, suc, ◌+◌, ◌-◌, ◌*◌, ◌/◌, ◌%◌, ◌≤◌, ◌<◌}
use Rattle.std.specs.Prelude.{◌≡◌, take, drop, set, leb, Result, Ok, Err}
use Rattle.format.specs.declared.Refusal.{Refusal}
use Rattle.std.specs.Int.{to_le_bytes}
use Rattle.std.proofs.Math.Path.{refl, ap}
use Rattle.std.proofs.Common.{sym, ◌∙◌, w32, length-drop, drop_of_length-le, take_all, length-take-le}
use mathlib.Core.List.{List, [], ◌∷◌, ◌++◌, append_assoc, append-nil}
use native.Mathlib.Omega.{arith}
use Rattle.std.proofs.Math.Decide.{dec_lt}
use Rattle.std.proofs.Math.ListN.{length}
use Rattle.std.proofs.Math.Seq.{take-nil, take-length}
use Rattle.std.proofs.lemmas.List.Edits.{sets-eq}
use borrow.Author.Tests.{ne_eqb, le-leb, lt-leb}
use Rattle.format.specs.declared.Setting.TheVariants as S
use Rattle.format.specs.declared.Span.{Span}
use Rattle.format.specs.Bytes.{laid}
use Rattle.format.specs.Numbers.{le_bytes}
use Rattle.format.specs.Prefix.{prefix_at, prefix_bytes}
use Rattle.format.specs.Text.{span_from, span_at}
use Rattle.format.specs.Types.{after_text}
use Rattle.format.specs.Contents.{enc, encs}
use Rattle.format.specs.Tidy.{run_of}
use Rattle.fields.specs.Judged.{picked}
use Rattle.prefix.specs.Laws.{bound}
use Rattle.put.specs.Out.{between, text_out, texts_out, head_out, by_id_out, header_out, run_out}
use Rattle.put.specs.Put.{Filled, Least, unfilled, filled, nothing, became}

-- ---- bytes and numbers
pub laid_two : (a b : ℕ) (d : List ℕ) → 2 ≤ length d → set (set d 0 a) 1 b ≡ laid (a ∷ b ∷ []) d
unfolding laid
laid_two a b d h = sets-eq (a ∷ b ∷ []) d 0 h

pub number_unfilled : (n : ℕ) (d : List ℕ) → length d < 4 → Filled (le_bytes 4 n) d d 4
unfolding le_bytes
number_unfilled n d h = unfilled (le_bytes 4 n) d 4 refl (omega arith) h

pub number_written : (n : ℕ) (d ys : List ℕ) → 4 ≤ length d → ys ≡ to_le_bytes w32 n → Filled (le_bytes 4 n) d (ys ++ drop 4 d) 4
unfolding le_bytes laid
number_written n d ys h e =
    let two : n / 65536 ≡ n / 256 / 256 = omega arith in
    let three : n / 16777216 ≡ n / 256 / 256 / 256 = omega arith in
    filled (le_bytes 4 n) d _ 4 refl (omega arith) (rw (e, two, three))

-- the same by four stores
pub number_filled : (n : ℕ) (d : List ℕ) → 4 ≤ length d
    → Filled (le_bytes 4 n) d (set (set (set (set d 0 (n % 256)) 1 (n / 256 % 256)) 2 (n / 256 / 256 % 256)) 3 (n / 256 / 256 / 256 % 256)) 4
unfolding le_bytes laid
number_filled n d h = filled (le_bytes 4 n) d _ 4 refl (omega arith) (sets-eq (le_bytes 4 n) d 0 h)

-- a number is written by its low 32 bits
low_byte : (n r q : ℕ) → n ≡ r + 256 * q → n % 256 ≡ r % 256
low_byte n r q e = omega arith

next_byte : (n r q : ℕ) → n ≡ r + 256 * q → n / 256 ≡ r / 256 + q
next_byte n r q e = omega arith

pub low_bits : (n : ℕ) → le_bytes 4 n ≡ le_bytes 4 (n % 4294967296)
unfolding le_bytes
low_bits n =
    let q = n / 4294967296 in
    let r : ℕ = n % 4294967296 in
    let z : n ≡ r + 256 * (16777216 * q) = omega arith in
    let y : n / 256 ≡ r / 256 + 256 * (65536 * q) = next_byte n r (16777216 * q) z ∙ omega arith in
    let x : n / 256 / 256 ≡ r / 256 / 256 + 256 * (256 * q) = next_byte (n / 256) (r / 256) (65536 * q) y ∙ omega arith in
    let w : n / 256 / 256 / 256 ≡ r / 256 / 256 / 256 + 256 * q = next_byte (n / 256 / 256) (r / 256 / 256) (256 * q) x in
    rw (low_byte _ _ _ z, low_byte _ _ _ y, low_byte _ _ _ x, low_byte _ _ _ w)

-- ---- a part of the stream, from a to b; m is b, or the stream's end where b is past it
module _ (s : List ℕ) (a b m : ℕ) (k : Least b (length s) m) where
  -- no bytes
  part_none : m ≤ a → between s a b ≡ []
  part_none h = go (dec_lt (length s) b)
    where
      go : Dec (length s < b) → between s a b ≡ []
      go (yes y) =
          let e = k.full (omega arith) in
          rw (drop_of_length-le s {i = a} (omega arith), take-nil)
      go (no y) =
          let e = k.fits (omega arith) in
          let z : b - a ≡ 0 = omega arith in
          rw z

  -- the bytes that the code hands on
  part_some : a ≤ m → between s a b ≡ between s a m
  part_some h = go (dec_lt (length s) b)
    where
      go : Dec (length s < b) → between s a b ≡ between s a m
      go (yes y) =
          let e = k.full (omega arith) in
          let l = length-drop a s in
          take_all (b - a) (drop a s) (omega arith) ∙ sym (take_all (m - a) (drop a s) (omega arith))
      go (no y) = let e = k.fits (omega arith) in rw e

  part_length : a ≤ m → length (between s a b) ≡ m - a
  part_length h =
      let l = length-drop a s in
      let w = k.within in
      rw (part_some h) (length-take-le (m - a) (drop a s) (omega arith))

  pub part_empty : (d : List ℕ) → m ≤ a → Filled (between s a b) d d 0
  part_empty d h = nothing (between s a b) d (part_none h)

  pub part_unfilled : (d : List ℕ) → a < m → length d < m - a → Filled (between s a b) d d (m - a)
  part_unfilled d h l =
      let q = part_length (omega arith) in
      let w = k.within in
      let z = k.room in
      unfilled (between s a b) d (m - a) (omega arith) (omega arith) (omega arith)

  pub part_filled : (d e : List ℕ) (r : ℕ) → a < m → r ≡ length (between s a m)
      → e ≡ take (length (between s a m)) (between s a m) ++ drop (length (between s a m)) d → Filled (between s a b) d e r
  unfolding laid
  part_filled d e r h p q =
      let l = part_length (omega arith) in
      let o = part_some (omega arith) in
      let w = k.within in
      let z = k.room in
      let n : length (between s a b) ≡ length (between s a m) = ap length o in
      became (between s a m) (between s a b) d e r o (filled (between s a m) d e r p (omega arith) (q ∙ rw take-length))

-- ---- two pieces, one after the other
pub head_is : (kind n : ℕ) → head_out kind n ≡ (kind ∷ []) ++ le_bytes 4 n
head_is kind n = refl

pub header_is : (root : ℕ) → header_out root ≡ (head_out 0 root ++ le_bytes 4 root) ++ (le_bytes 4 1 ++ le_bytes 4 0)
unfolding header_out
header_is root = sym (append_assoc (head_out 0 root) (le_bytes 4 root) (le_bytes 4 1 ++ le_bytes 4 0))

pub by_id_is : (id first : ℕ) → by_id_out id first ≡ head_out 1 id ++ le_bytes 4 first
unfolding by_id_out
by_id_is id first = refl

-- ---- texts
module _ (s : List ℕ) (p : ℕ) where
  -- the length of a text fits its prefix
  pub span_small : (span_at s p).to - (span_at s p).from < 2147483648
  unfolding span_at
  span_small = go (prefix_at S.Lenient s p) refl
    where
      go : (r : Result (ℕ × ℕ) Refusal) → prefix_at S.Lenient s p ≡ r → (span_from s p r).to - (span_from s p r).from < 2147483648
      go (Ok (n, next)) q =
          picked (λ (x : Span). x.to - x.from < 2147483648) (leb (next + n) (length s))
          (λ t. let b = bound S.Lenient s p n next q in omega arith)
          (λ t. omega arith)
      go (Err f) q = omega arith

  pub text_is : (x : Span) → x ≡ span_at s p → text_out s p ≡ prefix_bytes (x.to - x.from) ++ between s x.from x.to
  unfolding text_out
  text_is x e = rw e

-- n strings, of which all that are left stand from q on
module _ (s : List ℕ) where
  pub texts_more : (n q e : ℕ) → 0 < n → e ≡ after_text s q → texts_out s n q ≡ text_out s q ++ texts_out s (n - 1) e
  unfolding texts_out
  texts_more n q e h y =
      let o : n ≡ suc (n - 1) = omega arith in
      ap (λ (m : ℕ). texts_out s m q) o ∙ rw y

  pub texts_end : (n q : ℕ) → n ≤ 0 → texts_out s n q ≡ []
  unfolding texts_out
  texts_end n q h = let o : n ≡ 0 = omega arith in rw o

-- ---- null runs
pub run_none : (n : ℕ) → n ≡ 0 → run_out n ≡ []
unfolding run_out run_of encs
run_none n h = rw h

pub run_one : (n : ℕ) → n ≡ 1 → run_out n ≡ 10 ∷ []
unfolding run_out run_of encs enc
run_one n h = rw h

module _ (n : ℕ) (none : n ≡ 0 → ⊥) (one : n ≡ 1 → ⊥) where
  pub run_some : n ≤ 255 → run_out n ≡ 13 ∷ n ∷ []
  unfolding run_out run_of encs enc
  run_some h = rw (ne_eqb _ _ none, ne_eqb _ _ one, le-leb _ _ h)

  pub run_many : 255 < n → run_out n ≡ head_out 14 (n % 4294967296)
  unfolding run_out run_of encs enc
  run_many h = rw (ne_eqb _ _ none, ne_eqb _ _ one, lt-leb _ _ h, append-nil) (ap (λ (l : List ℕ). 14 ∷ l) (low_bits n))
