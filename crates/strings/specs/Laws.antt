-- The prefixed string at a place: one law for each answer, where it stands, and that it looks at no other bytes.
use Rattle.std.specs.Prelude.{ℕ, ◌+◌, ◌-◌, ◌≤◌, ◌<◌, ◌≡◌, true, List, ◌++◌, length, drop, Result, Ok, Err}
use Rattle.std.proofs.Common.{ap, arith}
use Rattle.format.specs.declared.Setting.{Setting}
use Rattle.format.specs.declared.Refusal.{Refusal}
use Rattle.format.specs.declared.Span.{Span}
use Rattle.format.specs.declared.Refusal.TheVariants as R
use Rattle.format.specs.declared.Setting.TheVariants as S
use Rattle.format.specs.Bytes.{part}
use Rattle.format.specs.Prefix.{prefix_at}
use Rattle.format.specs.Text.{well_formed, text_at, text_from, after_prefix, string_at}
use Rattle.fields.specs.Judged.{judged_at}
use Rattle.fields.specs.Pairs.{ok_span}
use Rattle.text.specs.Laws.{text_taken}
use Rattle.strings.specs.Counted.{Counted, counted_moves, counted_only}

-- ---- the answers

module _ (σ : Setting) (s : List ℕ) (p : ℕ) where
  pub string_prefix : (f : Refusal) → prefix_at σ s p ≡ Err f → string_at σ s p ≡ Err f
  unfolding string_at
  string_prefix f h = rw h

  pub string_text : (n a : ℕ) (f : Refusal) → prefix_at σ s p ≡ Ok (n, a) → text_at s a n ≡ Err f → string_at σ s p ≡ Err f
  unfolding string_at
  string_text n a f h g = rw (h, g)

  pub string_part : (n a e : ℕ) → prefix_at σ s p ≡ Ok (n, a) → text_at s a n ≡ Ok e → string_at σ s p ≡ Ok (record { from = a; to = e })
  unfolding string_at
  string_part n a e h g = rw (h, g)

-- what a part says: how long the prefix says the text is, and that the text is there
no_part : {A : Type 0} (f : Refusal) (a e : ℕ) → ◌≡◌ {A = Result Span Refusal} (Err f) (Ok (record { from = a; to = e })) → A
no_part f a e q = absurd (let z : ◌≡◌ {A = ℕ} 0 1 = cc in omega arith)

text_told : (m a e : ℕ) (r : Result ℕ Refusal) → text_from m r ≡ Ok (record { from = a; to = e }) → (m ≡ a) × (r ≡ Ok e)
text_told m a e (Ok x) q = let w = ok_span q in (w.0, ap Ok w.1)
text_told m a e (Err f) q = no_part f a e q

prefix_told : (s : List ℕ) (a e : ℕ) (r : Result (ℕ × ℕ) Refusal) → after_prefix s r ≡ Ok (record { from = a; to = e }) → (n : ℕ) × (r ≡ Ok (n, a)) × (text_at s a n ≡ Ok e)
prefix_told s a e (Ok (n, m)) q =
    let w = text_told m a e (text_at s m n) q in
    (n, ap (λ (x : ℕ). Ok (n, x)) w.0, rw w.0 at w.1)
prefix_told s a e (Err f) q = no_part f a e q

-- at p stands a string of n bytes, its text from a to e
abbrev pub CountedText : Setting → List ℕ → ℕ → ℕ → ℕ → ℕ → Type 0
CountedText σ s p n a e = Counted σ well_formed R.BadText s p n a e

pub string_told : (σ : Setting) (s : List ℕ) (p a e : ℕ) → string_at σ s p ≡ Ok (record { from = a; to = e }) → (n : ℕ) × CountedText σ s p n a e
unfolding string_at text_at judged_at
string_told σ s p a e q =
    let w = prefix_told s a e (prefix_at σ s p) q in
    (w.0, record { says = w.1; ends = w.2 })

counted_part : (σ : Setting) (s : List ℕ) (p n a e : ℕ) → CountedText σ s p n a e → string_at σ s p ≡ Ok (record { from = a; to = e })
unfolding text_at judged_at
counted_part σ s p n a e c = string_part σ s p n a e c.says c.ends

-- ---- where it stands

pub string_moves : (σ : Setting) (s : List ℕ) (p a e : ℕ) → string_at σ s p ≡ Ok (record { from = a; to = e }) → (p < a) × (a ≤ e) × (e ≤ length s)
string_moves σ s p a e q =
    let w = string_told σ s p a e q in
    counted_moves σ well_formed R.BadText s p w.0 a e w.1

pub string_well : (σ : Setting) (s : List ℕ) (p a e : ℕ) → string_at σ s p ≡ Ok (record { from = a; to = e }) → well_formed (part s a (e - a)) ≡ true
unfolding text_at judged_at
string_well σ s p a e q =
    let w = string_told σ s p a e q in
    let t = text_taken s a w.0 e w.1.ends in
    let k : e - a ≡ w.0 = omega arith in
    rw k t.good

-- ---- no other bytes

pub string_only : (σ : Setting) (s t rest : List ℕ) (p q a e : ℕ) → string_at σ s p ≡ Ok (record { from = a; to = e }) → drop q t ≡ part s p (e - p) ++ rest
    → string_at σ t q ≡ Ok (record { from = (q + (a - p)); to = (q + (e - p)) })
string_only σ s t rest p q a e h d =
    let w = string_told σ s p a e h in
    counted_part σ t q w.0 (q + (a - p)) (q + (e - p)) (counted_only σ well_formed R.BadText s t rest p q w.0 a e w.1 d)
