-- Where codes, type bytes, names, LibraryIds and details end, what an end says, and that they look only at their own bytes.
use Rattle.std.specs.Prelude.{ℕ, zero, suc, ◌+◌, ◌-◌, ◌≤◌, ◌<◌, ◌≡◌, refl, Bool, true, false, ◌||◌, List, get_or, ltb, leb, eqb, Option, Some, None, Result, Ok, Err}
use Rattle.format.specs.declared.Span.{Span}
use Rattle.std.proofs.Common.{sym, ap, ◌∙◌, arith}
use Rattle.std.proofs.Math.Decide.{dec_lt}
use Rattle.std.proofs.Math.ListN.{length}
use borrow.Author.Tests.{lt-ltb, le-ltb, le-leb, lt-leb, leb-true}
use Rattle.format.specs.declared.Setting.{Setting}
use Rattle.format.specs.declared.Refusal.{Refusal}
use Rattle.format.specs.declared.Refusal.TheVariants as R
use Rattle.format.specs.declared.PrimitiveCode.{PrimitiveCode}
use Rattle.format.specs.Bytes.{pick, part}
use Rattle.format.specs.Local.{Local}
use Rattle.format.specs.Numbers.{le, u32_at}
use Rattle.format.specs.Text.{string_at}
use Rattle.format.specs.Values.{on_end, times}
use Rattle.format.specs.Types.{primitive_of, code_end, code_at, type_byte_at, end_of, name_at, positive, positive_of, library_id_at, info_at}
use Rattle.fields.specs.Parts.{part_first}
use Rattle.fields.specs.Judged.{no_end, judged_at, judged_taken, judged_local}
use Rattle.fields.specs.Sequence.{Kept, local_kept, same_local, through, then_kept, times_kept}
use Rattle.strings.specs.Laws.{string_moves, string_only}
use Rattle.codes.specs.Ends.{name_end}

-- ---- one byte that a test judges

abbrev first : (ℕ → Bool) → List ℕ → Bool
first test l = test (get_or l 0 0)

abbrev byte_at : (ℕ → Bool) → Refusal → List ℕ → ℕ → Result ℕ Refusal
byte_at test refusal s p = pick (ltb p (length s)) (pick (test (get_or s p 0)) (Ok (p + 1)) (Err refusal)) (Err R.CutShort)

module _ (test : ℕ → Bool) (refusal : Refusal) (field : List ℕ → ℕ → Result ℕ Refusal) (same : (s : List ℕ) (p : ℕ) → field s p ≡ byte_at test refusal s p) where
  byte_judged : (s : List ℕ) (p : ℕ) → field s p ≡ judged_at (first test) refusal s p 1
  unfolding judged_at
  byte_judged s p = same s p ∙ go (dec_lt p (length s))
    where
      go : Dec (p < length s) → byte_at test refusal s p
          ≡ pick (leb (p + 1) (length s)) (pick (test (get_or (part s p 1) 0 0)) (Ok (p + 1)) (Err refusal)) (Err R.CutShort)
      go (yes h) = rw (lt-ltb p (length s) h, le-leb (p + 1) (length s) (omega arith), part_first s p 1 (omega arith))
      go (no h) = rw (le-ltb p (length s) (omega arith), lt-leb (p + 1) (length s) (omega arith))

  byte_local : Local field
  byte_local = same_local field (λ s p. judged_at (first test) refusal s p 1) byte_judged (judged_local (first test) refusal 1 (omega arith))

  byte_told : (s : List ℕ) (p e : ℕ) → field s p ≡ Ok e → (p < length s) × (e ≡ p + 1) × (test (get_or s p 0) ≡ true)
  byte_told s p e q =
      let w = judged_taken (first test) refusal s p 1 e (sym (byte_judged s p) ∙ q) in
      (omega (arith, w.room), w.ends, ap test (sym (part_first s p 1 (omega arith))) ∙ w.good)

-- ---- codes

abbrev is_code : Option PrimitiveCode → Bool
is_code (Some c) = true
is_code None = false

abbrev codes : ℕ → Bool
codes b = is_code (primitive_of b)

code_judged : (s : List ℕ) (p : ℕ) → code_at s p ≡ byte_at codes R.BadType s p
unfolding code_at
code_judged s p = ap (λ (r : Result ℕ Refusal). pick (ltb p (length s)) r (Err R.CutShort)) (go (primitive_of (get_or s p 0)))
  where
    go : (c : Option PrimitiveCode) → code_end c p ≡ pick (is_code c) (Ok (p + 1)) (Err R.BadType)
    go (Some c) = refl
    go None = refl

pub code_local : Local code_at
code_local = byte_local codes R.BadType code_at code_judged

module _ (s : List ℕ) (p e : ℕ) where
  pub code_told : code_at s p ≡ Ok e → (c : PrimitiveCode) × (primitive_of (get_or s p 0) ≡ Some c) × (p < length s) × (e ≡ p + 1)
  code_told q =
      let w = byte_told codes R.BadType code_at code_judged s p e q in
      let x = which (primitive_of (get_or s p 0)) w.2 in
      (x.0, x.1, w.0, w.1)
    where
      which : (r : Option PrimitiveCode) → is_code r ≡ true → (c : PrimitiveCode) × (r ≡ Some c)
      which (Some c) h = (c, refl)
      which None h = absurd (let z : ◌≡◌ {A = ℕ} 0 1 = cc in omega arith)

  pub code_moves : code_at s p ≡ Ok e → (p < e) × (e ≤ length s)
  code_moves q =
      let w = code_told q in
      (omega arith, omega arith)

-- ---- type bytes

abbrev types : ℕ → Bool
types b = leb b 7

type_judged : (s : List ℕ) (p : ℕ) → type_byte_at s p ≡ byte_at types R.BadType s p
unfolding type_byte_at
type_judged s p = refl

pub type_local : Local type_byte_at
type_local = byte_local types R.BadType type_byte_at type_judged

module _ (s : List ℕ) (p e : ℕ) where
  pub type_told : type_byte_at s p ≡ Ok e → (get_or s p 0 ≤ 7) × (p < length s) × (e ≡ p + 1)
  type_told q =
      let w = byte_told types R.BadType type_byte_at type_judged s p e q in
      (leb-true (get_or s p 0) 7 w.2, w.0, w.1)

  pub type_moves : type_byte_at s p ≡ Ok e → (p < e) × (e ≤ length s)
  type_moves q =
      let w = type_told q in
      (omega arith, omega arith)

-- ---- names

pub name_told : (σ : Setting) (s : List ℕ) (p e : ℕ) → name_at σ s p ≡ Ok e → (a : ℕ) × (string_at σ s p ≡ Ok (record { from = a; to = e }))
unfolding name_at
name_told σ s p e q = go (string_at σ s p) refl q
  where
    go : (r : Result Span Refusal) → string_at σ s p ≡ r → end_of r ≡ Ok e → (a : ℕ) × (string_at σ s p ≡ Ok (record { from = a; to = e }))
    go (Ok t) h q =
        let z : t.to ≡ e = cc in
        (t.from, h ∙ ap (λ (x : ℕ). Ok (record { from = t.from; to = x })) z)
    go (Err f) h q = absurd (no_end f e q)

pub name_moves : (σ : Setting) (s : List ℕ) (p e : ℕ) → name_at σ s p ≡ Ok e → (p < e) × (e ≤ length s)
name_moves σ s p e q =
    let w = name_told σ s p e q in
    let m = string_moves σ s p w.0 e w.1 in
    (omega arith, omega arith)

pub name_local : (σ : Setting) → Local (name_at σ)
name_local σ =
    record {
      moves = λ s p e q. let m = name_moves σ s p e q in (omega arith, m.1);
      only = λ s t rest p q e h d. let w = name_told σ s p e h in name_end σ t q (q + (w.0 - p)) (q + (e - p)) (string_only σ s t rest p q w.0 e w.1 d);
    }

-- ---- LibraryIds

abbrev ids : List ℕ → Bool
ids l = positive (le l)

library_judged : (s : List ℕ) (p : ℕ) → library_id_at s p ≡ judged_at ids R.BadId s p 4
unfolding library_id_at u32_at judged_at
library_judged s p = go (leb (p + 4) (length s))
  where
    go : (t : Bool) → positive_of (pick t (Some (le (part s p 4), p + 4)) None)
        ≡ pick t (pick (positive (le (part s p 4))) (Ok (p + 4)) (Err R.BadId)) (Err R.CutShort)
    go true = refl
    go false = refl

pub library_local : Local library_id_at
library_local = same_local library_id_at (λ s p. judged_at ids R.BadId s p 4) library_judged (judged_local ids R.BadId 4 (omega arith))

pub library_told : (s : List ℕ) (p e : ℕ) → library_id_at s p ≡ Ok e → (v : ℕ) × (u32_at s p ≡ Some (v, e)) × (positive v ≡ true)
unfolding u32_at
library_told s p e q =
    let w = judged_taken ids R.BadId s p 4 e (sym (library_judged s p) ∙ q) in
    (le (part s p 4), rw (le-leb (p + 4) (length s) w.room, w.ends), w.good)

pub library_moves : (s : List ℕ) (p e : ℕ) → library_id_at s p ≡ Ok e → (p < e) × (e ≤ length s)
library_moves s p e q =
    let w = judged_taken ids R.BadId s p 4 e (sym (library_judged s p) ∙ q) in
    (omega arith, omega arith)

-- ---- n names and n type bytes

-- n fields that each have a byte: they end within the stream, or, where n is 0, where they begin
pub times_within : (field : ℕ → Result ℕ Refusal) (size : ℕ) → ((p e : ℕ) → field p ≡ Ok e → (p < e) × (e ≤ size))
    → (n p e m : ℕ) → p ≤ m → size ≤ m → times field n p ≡ Ok e → (p + n ≤ e) × (e ≤ m)
unfolding times
times_within field size moves zero p e m h g q = let a : p ≡ e = cc in (omega arith, omega arith)
times_within field size moves (suc n) p e m h g q =
    let x = through (times field n) (field p) e q in
    let a = moves p x.0 x.1 in
    let b = times_within field size moves n x.0 e m (omega arith) g x.2 in
    (omega arith, b.1)

module _ (σ : Setting) (s : List ℕ) (n p e m : ℕ) (h : p ≤ m) (g : length s ≤ m) where
  pub names_within : times (name_at σ s) n p ≡ Ok e → (p + n ≤ e) × (e ≤ m)
  names_within q = times_within (name_at σ s) (length s) (name_moves σ s) n p e m h g q

pub types_end : (s : List ℕ) (n p e : ℕ) → times (type_byte_at s) n p ≡ Ok e → e ≡ p + n
unfolding times
types_end s zero p e q = let a : p ≡ e = cc in omega arith
types_end s (suc n) p e q =
    let x = through (times (type_byte_at s) n) (type_byte_at s p) e q in
    let a = type_told s p x.0 x.1 in
    let b = types_end s n x.0 e x.2 in
    omega arith

pub names_kept : (σ : Setting) (n : ℕ) → Kept (λ s p. times (name_at σ s) n p)
names_kept σ n = times_kept (name_at σ) (local_kept (name_at σ) (name_local σ)) n

pub types_kept : (n : ℕ) → Kept (λ s p. times (type_byte_at s) n p)
types_kept n = times_kept type_byte_at (local_kept type_byte_at type_local) n

-- ---- details

class_kept : (σ : Setting) → Kept (λ s p. on_end (library_id_at s) (name_at σ s p))
class_kept σ = then_kept (name_at σ) library_id_at (local_kept (name_at σ) (name_local σ)) (local_kept library_id_at library_local)

none_kept : Kept (λ s p. Ok p)
unfolding times
none_kept = times_kept code_at (local_kept code_at code_local) 0

pub info_kept : (σ : Setting) (b : ℕ) → Kept (λ s p. info_at σ s b p)
unfolding info_at
info_kept σ b = go (eqb b 0 || eqb b 7) (eqb b 3) (eqb b 4)
  where
    go : (x y z : Bool) → Kept (λ s p. pick x (code_at s p) (pick y (name_at σ s p) (pick z (on_end (library_id_at s) (name_at σ s p)) (Ok p))))
    go true y z = local_kept code_at code_local
    go false true z = local_kept (name_at σ) (name_local σ)
    go false false true = class_kept σ
    go false false false = none_kept

-- also where it begins past the end: a detail ends within the stream, or where it begins
pub info_within : (σ : Setting) (s : List ℕ) (b p e m : ℕ) → p ≤ m → length s ≤ m → info_at σ s b p ≡ Ok e → (p ≤ e) × (e ≤ m)
unfolding info_at
info_within σ s b p e m h g q = go (eqb b 0 || eqb b 7) (eqb b 3) (eqb b 4) q
  where
    class : on_end (library_id_at s) (name_at σ s p) ≡ Ok e → (p ≤ e) × (e ≤ length s)
    class q =
        let x = through (library_id_at s) (name_at σ s p) e q in
        let u = name_moves σ s p x.0 x.1 in
        let v = library_moves s x.0 e x.2 in
        (omega arith, omega arith)

    go : (x y z : Bool) → pick x (code_at s p) (pick y (name_at σ s p) (pick z (on_end (library_id_at s) (name_at σ s p)) (Ok p))) ≡ Ok e
        → (p ≤ e) × (e ≤ m)
    go true y z q = let w = code_moves s p e q in (omega arith, omega arith)
    go false true z q = let w = name_moves σ s p e q in (omega arith, omega arith)
    go false false true q = let w = class q in (omega arith, omega arith)
    go false false false q = let w : p ≡ e = cc in (omega arith, omega arith)
